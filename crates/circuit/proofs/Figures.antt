-- The figures to check (P), with those of 02's job 6, as one table and one theorem. Assumes nothing.
use Prim.Native.Nat.{ℕ}
use mathlib.Core.Path.{◌≡◌, refl}
use mathlib.Core.List.{List, [], ◌∷◌, map}
use mathlib.Core.Option.{Option, none, some}
use lib.IntN.{pos, negsuc}
use lib.ListN.{length}
use Rattle.circuit.specs.Value.{Value, null, out, num, limit, in_range}
use Rattle.circuit.specs.Rules.{Operation, operation_of, apply, coded, count_allowed, one_or_more, max_parents, numbers, total, least, greatest, whole, any_out}

-- a rule's code, its parents' values, and the result
pub record Figure : Type 0 where
  pub code : ℕ
  pub parents : List Value
  pub result : Value

abbrev figure : ℕ → List Value → Value → Figure
figure k vs r = record { code = k; parents = vs; result = r }

-- the table of figures: the highest number of the range stands for itself, and so moves with it
unfoldable pub figures : List Figure
figures =
    figure 1 (null ∷ null ∷ []) null
    ∷ figure 1 (num (pos 5) ∷ null ∷ []) (num (pos 5))
    ∷ figure 1 (num (pos limit) ∷ num (pos 1) ∷ []) out
    ∷ figure 1 (num (pos limit) ∷ num (pos 1) ∷ num (negsuc 0) ∷ []) (num (pos limit))
    ∷ figure 2 (null ∷ num (pos 3) ∷ []) (num (negsuc 2))
    ∷ figure 5 (num (negsuc 0) ∷ num (pos 5000) ∷ []) (num (negsuc 0))
    ∷ figure 5 (num (pos 7) ∷ num (pos 10_001) ∷ []) out
    ∷ figure 6 (num (pos 0) ∷ num (pos 7) ∷ num (pos 9) ∷ []) (num (pos 9))
    ∷ figure 6 (out ∷ num (pos 1) ∷ num (pos 2) ∷ []) out
    ∷ figure 6 (null ∷ out ∷ out ∷ []) null
    ∷ figure 6 (num (pos 1) ∷ num (pos 7) ∷ out ∷ []) (num (pos 7))
    ∷ figure 6 (num (pos 0) ∷ out ∷ num (pos 9) ∷ []) (num (pos 9))
    ∷ figure 6 (num (pos 1) ∷ out ∷ num (pos 9) ∷ []) out
    ∷ figure 6 (num (pos 2) ∷ null ∷ num (pos 9) ∷ []) null
    ∷ figure 6 (num (negsuc 0) ∷ num (pos 4) ∷ null ∷ []) null
    ∷ figure 7 (null ∷ num (pos 4) ∷ []) (num (pos 1))
    ∷ figure 8 (num (pos 3) ∷ num (pos 3) ∷ []) (num (pos 1))
    ∷ figure 3 (null ∷ num (negsuc 1) ∷ []) (num (negsuc 1))
    ∷ []

-- what the rules make of a row: the code and the count choose the operation, which is applied
abbrev worked : Option Operation → List Value → Option Value
worked none vs = none
worked (some op) vs = some (apply op vs)

pub figures_right : map (λ f. worked (operation_of f.code (length f.parents)) f.parents) figures ≡ map (λ f. some f.result) figures
unfolding figures apply operation_of coded count_allowed one_or_more max_parents numbers total least greatest whole any_out limit in_range
figures_right = refl
