-- An operation applied to the parents' values. Assumes nothing.
use Prim.Native.Nat.{ℕ, ◌≤◌, ◌<◌}
use mathlib.Core.Bool.{true}
use mathlib.Core.List.{List, [], ◌∷◌}
use mathlib.Core.Path.{◌≡◌, refl, sym, ap, ◌∙◌}
use native.Mathlib.Omega.{arith}
use borrow.Author.Tests.{eqb-true, leb-true}
use lib.Dec.{leb, eqb}
use lib.ListN.{length, get_or}
use Rattle.std.proofs.lemmas.List.{length-map}
use Rattle.circuit.proofs.RuleLaws.{apply-well_formed, and_right}
use Rattle.circuit.specs.Rules as rules
use Rattle.circuit.specs.Value as circuit
use Rattle.circuit.specs.WellFormed.{all_well_formed}
use Rattle.value.specs.Meaning.{meaning, meanings}
use Rattle.value.specs.declared.Value.{Value}
use Rattle.value.proofs.Parents.{nothing, meaning_at, at-well_formed}
use Rattle.rules.specs.Operations.{operation_meaning, Applied}
use Rattle.rules.specs.declared.Operation.{Operation}

two : (vs : List circuit.Value) → length vs ≡ 2 → (rules.nth vs 0 ∷ rules.nth vs 1 ∷ []) ≡ vs
two [] e = absurd (omega arith)
two (a ∷ []) e = absurd (omega arith)
two (a ∷ b ∷ []) e = refl
two (a ∷ b ∷ c ∷ vs) e = absurd (omega arith)

three : (vs : List circuit.Value) → length vs ≡ 3 → (rules.nth vs 0 ∷ rules.nth vs 1 ∷ rules.nth vs 2 ∷ []) ≡ vs
three [] e = absurd (omega arith)
three (a ∷ []) e = absurd (omega arith)
three (a ∷ b ∷ []) e = absurd (omega arith)
three (a ∷ b ∷ c ∷ []) e = refl
three (a ∷ b ∷ c ∷ d ∷ vs) e = absurd (omega arith)

-- the operation is v and takes the values vs, which are well formed
module _ (op v : Operation) (is : op ≡ v) (vs : List Value) (takes : rules.count_allowed (operation_meaning op) (length vs) ≡ true)
    (formed : all_well_formed (meanings vs) ≡ true) where
  takes_count : rules.count_allowed (operation_meaning v) (length vs) ≡ true
  takes_count = rw is at takes

  pub few : rules.count_allowed (operation_meaning v) (length vs) ≡ rules.one_or_more (length vs) → length vs ≤ rules.max_parents
  unfolding rules.one_or_more
  few e = leb-true (length vs) rules.max_parents (and_right (leb 1 (length vs)) (leb (length vs) rules.max_parents) (sym e ∙ takes_count))

  pub applied_all : (r : Value) → meaning r ≡ rules.apply (operation_meaning v) (meanings vs) → Applied op (meanings vs) r
  applied_all r e =
      record {
        result = rw (is, e);
        formed = rw e (apply-well_formed (operation_meaning v) (meanings vs) formed);
      }

  -- the rules of two and three parents read the values by their places
  module _ (e : rules.count_allowed (operation_meaning v) (length vs) ≡ eqb (length vs) 2) where
    both : length vs ≡ 2
    both = eqb-true (length vs) 2 (sym e ∙ takes_count)

    pub formed_at : (k : ℕ) → k < 2 → circuit.well_formed (meaning (get_or vs k nothing)) ≡ true
    formed_at k h = rw (sym (meaning_at vs k)) (at-well_formed (meanings vs) k circuit.null (rw length-map (omega (arith, both))) formed)

    pub applied_two : (r : Value) → meaning r ≡ rules.apply (operation_meaning v) (meaning (get_or vs 0 nothing) ∷ meaning (get_or vs 1 nothing) ∷ []) → Applied op (meanings vs) r
    applied_two r q =
        applied_all r (q ∙ ap (rules.apply (operation_meaning v)) (rw (sym (meaning_at vs 0), sym (meaning_at vs 1)) (two (meanings vs) (rw length-map both))))

  pub applied_three : rules.count_allowed (operation_meaning v) (length vs) ≡ eqb (length vs) 3 → (r : Value)
      → meaning r ≡ rules.apply (operation_meaning v) (meaning (get_or vs 0 nothing) ∷ meaning (get_or vs 1 nothing) ∷ meaning (get_or vs 2 nothing) ∷ []) → Applied op (meanings vs) r
  applied_three e r q =
      applied_all r
      (q ∙ ap (rules.apply (operation_meaning v)) (rw (sym (meaning_at vs 0), sym (meaning_at vs 1), sym (meaning_at vs 2))
      (three (meanings vs) (rw length-map (eqb-true (length vs) 3 (sym e ∙ takes_count))))))

-- what `apply` hands its rules, and what the rules for any number of parents give
pub ruleset applied = (few, applied_all, formed_at)
