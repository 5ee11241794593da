-- The parents' values, tested one after the other. Assumes nothing.
use Prim.Native.Nat.{ℕ, ◌+◌, ◌<◌}
use mathlib.Core.Bool.{true}
use mathlib.Core.List.{List, [], ◌∷◌, map}
use mathlib.Core.Path.{◌≡◌, refl, sym, ◌∙◌}
use lib.ListN.{length, set, take, get_or}
use Rattle.std.proofs.lemmas.List.{map-append}
use Rattle.circuit.proofs.RuleLaws.{ranged-well_formed, and_true}
use Rattle.circuit.specs.Value.{Value, null, out, num, well_formed}
use Rattle.circuit.specs.WellFormed.{all_well_formed}
use Rattle.value.specs.Meaning.{meaning, meanings}
use Rattle.value.specs.declared.Value as code
use Rattle.value.proofs.Parents.{nothing, meanings_more, meanings_store}
use Rattle.figures.specs.Figures.{tested}

tested_formed : (v : Value) → well_formed (tested v) ≡ true
tested_formed null = refl
tested_formed out = refl
tested_formed (num z) = ranged-well_formed z

pub all_tested : (vs : List Value) → all_well_formed (map tested vs) ≡ true
unfolding all_well_formed
all_tested [] = refl
all_tested (v ∷ vs) = and_true (well_formed (tested v)) (all_well_formed (map tested vs)) (tested_formed v) (all_tested vs)

-- one more value is tested and kept
pub tested_more : (ps vs : List code.Value) (i : ℕ) (v : code.Value) → i < length ps → i < length vs → meaning v ≡ tested (meaning (get_or ps i nothing))
    → meanings (take i vs) ≡ map tested (meanings (take i ps)) → meanings (take (i + 1) (set vs i v)) ≡ map tested (meanings (take (i + 1) ps))
tested_more ps vs i v h l e q =
    meanings_store vs i v l
    ∙ rw (q, e, meanings_more ps i h) (sym (map-append tested (meanings (take i ps)) (meaning (get_or ps i nothing) ∷ [])))
