-- The values of the parents, kept in a row: each by its place, and one more stored. Assumes nothing.
use Prim.Native.Nat.{ℕ, zero, suc, ◌+◌, ◌<◌}
use mathlib.Core.Bool.{true}
use mathlib.Core.List.{List, [], ◌∷◌, ◌++◌}
use mathlib.Core.Path.{◌≡◌, refl, ap, ◌∙◌}
use native.Mathlib.Omega.{arith}
use lib.ListN.{length, set, take, get_or, get_or-map}
use Rattle.std.proofs.lemmas.List.{take_more, take_more_set, map-append}
use Rattle.circuit.proofs.RuleLaws.{and_left, and_right, and_true}
use Rattle.circuit.specs.Value as circuit
use Rattle.circuit.specs.WellFormed.{all_well_formed}
use Rattle.value.specs.Meaning.{meaning, meanings}
use Rattle.value.specs.declared.Amount.TheVariants.{Null}
use Rattle.value.specs.declared.Value.{Value}

abbrev pub nothing : Value
nothing = record { amount = Null }

-- the value at a place is that of the place
pub meaning_at : (vs : List Value) (k : ℕ) → get_or (meanings vs) k circuit.null ≡ meaning (get_or vs k nothing)
meaning_at vs k = get_or-map meaning vs k nothing

-- each of a well-formed row is well formed
pub at-well_formed : (vs : List circuit.Value) (k : ℕ) (d : circuit.Value) → k < length vs → all_well_formed vs ≡ true → circuit.well_formed (get_or vs k d) ≡ true
unfolding all_well_formed
at-well_formed [] k d h e = absurd (omega arith)
at-well_formed (v ∷ vs) zero d h e = and_left (circuit.well_formed v) (all_well_formed vs) e
at-well_formed (v ∷ vs) (suc k) d h e = at-well_formed vs k d (omega arith) (and_right (circuit.well_formed v) (all_well_formed vs) e)

-- so is its front
pub front-well_formed : (vs : List circuit.Value) (i : ℕ) → all_well_formed vs ≡ true → all_well_formed (take i vs) ≡ true
unfolding all_well_formed
front-well_formed vs zero e = refl
front-well_formed [] (suc i) e = e
front-well_formed (v ∷ vs) (suc i) e =
    and_true (circuit.well_formed v) (all_well_formed (take i vs)) (and_left (circuit.well_formed v) (all_well_formed vs) e)
    (front-well_formed vs i (and_right (circuit.well_formed v) (all_well_formed vs) e))

-- the first values and one more
pub meanings_more : (vs : List Value) (i : ℕ) → i < length vs → meanings (take (i + 1) vs) ≡ meanings (take i vs) ++ (meaning (get_or vs i nothing) ∷ [])
meanings_more vs i h = ap meanings (take_more vs i nothing h) ∙ map-append meaning (take i vs) (get_or vs i nothing ∷ [])

-- a value stored at n is the last of the first n + 1
pub meanings_store : (vs : List Value) (n : ℕ) (v : Value) → n < length vs → meanings (take (n + 1) (set vs n v)) ≡ meanings (take n vs) ++ (meaning v ∷ [])
meanings_store vs n v h = ap meanings (take_more_set vs n v h) ∙ map-append meaning (take n vs) (v ∷ [])
