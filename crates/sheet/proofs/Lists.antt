-- Laws of lists that the check uses: a test of each element, a list written over the front of another. Assumes nothing.
use mathlib.Core.Path.{◌≡◌, refl, ap, ◌∙◌}
use mathlib.Core.Bool.{Bool, ◌&&◌}
use mathlib.Core.List.{List, [], ◌∷◌, ◌++◌}
use Prim.Native.Nat.{ℕ, suc, ◌<◌}
use native.Mathlib.Omega.{arith}
use native.Mathlib.Numerals.{add-one}
use lib.ListN.{length, get_or, drop, set, length-append}
use lib.Seq.{drop-cons, set_at, append_snoc}
use Rattle.std.specs.List.{list_all}
use Rattle.layout.specs.Layout.{all}
use Rattle.field.specs.Bytes.{over}

-- a test of each element
module _ (f : ℕ → Bool) where
  pub all_listed : (xs : List ℕ) → list_all f xs ≡ all f xs
  unfolding all
  all_listed [] = refl
  all_listed (x ∷ xs) = ap (λ b. f x && b) (all_listed xs)

-- a list written over the front of another: one more element
pub over_more : (xs ys : List ℕ) (i y : ℕ) → length xs ≡ i → i < length ys → set (over xs ys) i y ≡ over (xs ++ (y ∷ [])) ys
over_more xs ys i y e h =
    let d : drop (length xs) ys ≡ get_or ys (length xs) 0 ∷ drop (suc (length xs)) ys = drop-cons ys (length xs) 0 (omega arith) in
    let n : length (xs ++ (y ∷ [])) ≡ suc (length xs) = length-append xs (y ∷ []) ∙ add-one (length xs) in
    rw (d, n, append_snoc xs y (drop (suc (length xs)) ys)) (set_at xs (get_or ys (length xs) 0) (drop (suc (length xs)) ys) y i e)
