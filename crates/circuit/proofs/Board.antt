-- The items of a board's list, by their places in its bytes, and that all are in the sheet. Assumes nothing.
use Prim.Native.Nat.{ℕ, zero, suc, ◌+◌, ◌*◌, ◌/◌, ◌<◌}
use native.Mathlib.Omega.{arith}
use mathlib.Core.Path.{◌≡◌, refl, ap, ap₂, ◌∙◌}
use mathlib.Core.Bool.{false}
use mathlib.Core.List.{List, [], ◌∷◌, ◌++◌, map}
use lib.ListN.{length, get_or}
use borrow.Author.Tests.{leb-false}
use Rattle.field.specs.Field.{le16, le16_at}
use Rattle.circuit.specs.Value.{Value}
use Rattle.circuit.specs.Sheet.{Sheet, size, beyond}
use Rattle.circuit.specs.Board.{listed_width, listed}
use Rattle.circuit.specs.Calls.{some_no_item}
use Rattle.circuit.proofs.RuleLaws.{or-false}

-- the first two bytes are an item
pub listed_pair : (ys zs : List ℕ) → length ys ≡ listed_width → listed (ys ++ zs) ≡ le16_at ys 0 ∷ listed zs
unfolding listed
listed_pair [] zs l = absurd (omega arith)
listed_pair (a ∷ []) zs l = absurd (omega arith)
listed_pair (a ∷ b ∷ []) zs l = refl
listed_pair (a ∷ b ∷ c ∷ ys) zs l = absurd (omega arith)

-- no pair, no item
pub listed_none : (xs : List ℕ) → length xs < listed_width → listed xs ≡ []
unfolding listed
listed_none [] l = refl
listed_none (a ∷ []) l = refl
listed_none (a ∷ b ∷ xs) l = absurd (omega arith)

-- as many as the length says
pub listed_count : (bs : List ℕ) → length (listed bs) ≡ length bs / listed_width
unfolding listed
listed_count [] = refl
listed_count (low ∷ []) = refl
listed_count (low ∷ high ∷ bs) = omega (arith, listed_count bs)

-- item k is in the two bytes from 2k on
pub listed_at : (bs : List ℕ) (k : ℕ) → k < length bs / listed_width → get_or (listed bs) k 0 ≡ le16_at bs (listed_width * k)
unfolding listed
listed_at [] k l = absurd (omega arith)
listed_at (low ∷ []) k l = absurd (omega arith)
listed_at (low ∷ high ∷ bs) zero l = refl
listed_at (low ∷ high ∷ bs) (suc k) l =
    listed_at bs k (omega arith)
    ∙ ap₂ le16 (later (listed_width * k) (listed_width * suc k) (omega arith)) (later (listed_width * k + 1) (listed_width * suc k + 1) (omega arith))
  where
    later : (j i : ℕ) → suc (suc j) ≡ i → get_or bs j 0 ≡ get_or (low ∷ high ∷ bs) i 0
    later j i e = ap (λ m. get_or (low ∷ high ∷ bs) m 0) e

-- what is equal of every item of the sheet is equal of a list of them
pub map_in_sheet : (S : Sheet) (f g : ℕ → Value) → ((i : ℕ) → i < size S → f i ≡ g i) → (is : List ℕ) → some_no_item S is ≡ false → map f is ≡ map g is
unfolding some_no_item
map_in_sheet S f g same [] e = refl
map_in_sheet S f g same (i ∷ is) e =
    let parts = or-false (beyond S i) (some_no_item S is) e in
    ap₂ ◌∷◌ (same i (leb-false (size S) i parts.0)) (map_in_sheet S f g same is parts.1)
