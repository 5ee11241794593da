-- What the rules for any number of parents take from their values, one value at a time. Assumes nothing.
use Rattle.std.specs.Prelude.{◌+◌, ◌*◌, ◌<◌, ◌≤◌, true, false, cond, List, [], ◌∷◌, eqb, ℤ, pos, ◌+ℤ◌, nat_abs}
use Rattle.circuit.specs.Rules.{max_parents, lesser, greater}
use Rattle.circuit.specs.Value.{Value, null, out, num, limit, ranged}
use Rattle.tally.specs.declared.Tally.{Tally}

-- nothing taken yet
abbrev pub empty : Tally
empty = record { out = false; count = 0; total = pos 0; least = pos 0; greatest = pos 0 }

-- one more number
abbrev pub counted : Tally → ℤ → Tally
counted t z =
    cond (eqb t.count 0)
    (record { out = t.out; count = 1; total = z; least = z; greatest = z })
    (record { out = t.out; count = t.count + 1; total = t.total +ℤ z; least = lesser t.least z; greatest = greater t.greatest z })

-- one more value: NULL leaves everything, OUT is noted
abbrev pub taken : Tally → Value → Tally
taken t null = t
taken t out = record { out = true; count = t.count; total = t.total; least = t.least; greatest = t.greatest }
taken t (num z) = counted t z

-- the values of a list, in order
unfoldable pub taken_all : Tally → List Value → Tally
taken_all t [] = t
taken_all t (v ∷ vs) = taken_all (taken t v) vs

-- one more value fits: fewer numbers are counted than a figure has parents at most, each within the range
pub record Room (t : Tally) : Type 0 where
  pub count : t.count < max_parents
  pub total : nat_abs t.total + limit ≤ max_parents * limit

-- the result of a rule that makes z of the numbers
abbrev pub rule_result : Tally → ℤ → Value
rule_result t z = cond t.out out (cond (eqb t.count 0) null (ranged z))
