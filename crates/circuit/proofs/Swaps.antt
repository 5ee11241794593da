-- A swap, refused or not, keeps the sum of the entries (`swap_sum`); its number and postings follow from the values that the entries hold
-- (`swap_number`, `swap_made`). Assumes nothing.
use Prim.Native.Nat.{ℕ, zero, suc, ◌<◌, ◌≤◌}
use native.Mathlib.Omega.{arith}
use mathlib.Core.Path.{◌≡◌, refl, sym, ap, ◌∙◌}
use mathlib.Core.Bool.{Bool, true, false, cond, ◌||◌}
use mathlib.Core.List.{[], ◌∷◌}
use lib.Dec.{eqb}
use lib.IntN.{ℤ, pos, negsuc, neg_ℤ, ◌+ℤ◌, ◌-ℤ◌, +ℤ_assoc, +ℤ_comm, +ℤ_invr, +ℤ-neg_ℤ_cancel, -ℤ-+ℤ_cancel}
use lib.Signed.{lt_z}
use borrow.Author.Tests.{eqb-true, eqb-false, ne_eqb, leb-false}
use Rattle.circuit.specs.Value.{Value, num}
use Rattle.circuit.specs.Sheet.{Sheet, Entries, size, item_at, is_figure}
use Rattle.circuit.specs.Table.{Table, entries_of}
use Rattle.circuit.specs.Call.{swap}
use Rattle.circuit.specs.Swap.{counted, left_with, comes_to, no_swap, results_beyond, swap_postings, sum_below, sum_of}
use Rattle.circuit.specs.Calls.{no_item, not_entry, test, swap_tests, tests, first_cause, effect, effect_unless, perform, if_accepted, postings_made}
use Rattle.circuit.specs.Fresh.{set_entry}
use Rattle.circuit.specs.Words.{Holds}
use Rattle.circuit.proofs.RuleLaws.{or-false}
use Rattle.circuit.proofs.Fresh.{entered}
use Rattle.circuit.proofs.Accepted.{perform_number, SwapPassed, tests_passed, swap_passed}
use Rattle.circuit.proofs.Postings.{postings_entries}

-- a number and another of 1 or more come to another number
pub moved : (x d : ℤ) → lt_z d (pos 1) ≡ false → (x +ℤ d ≡ x) → ⊥
moved x d some-d e = positive d some-d (sym (+ℤ-neg_ℤ_cancel d x) ∙ ap (λ y. y -ℤ x) (+ℤ_comm d x ∙ e) ∙ +ℤ_invr x)
  where
    positive : (y : ℤ) → lt_z y (pos 1) ≡ false → y ≡ pos 0 → ⊥
    positive (pos zero) h q = let bad : ◌≡◌ {A = ℕ} 0 1 = cc in omega arith
    positive (pos (suc n)) h q = let bad : ◌≡◌ {A = ℕ} 0 1 = cc in omega arith
    positive (negsuc n) h q = let bad : ◌≡◌ {A = ℕ} 0 1 = cc in omega arith

-- ---- the sum

-- what is added to the sum for item j
abbrev addend : Sheet → Entries → ℕ → ℤ
addend S E j = cond (is_figure (item_at S j)) (pos 0) (counted (E j))

-- a sum that does not reach e
sum_beyond : (S : Sheet) (E : Entries) (e : ℕ) (v : Value) (k : ℕ) → k ≤ e → sum_below S (set_entry E e v) k ≡ sum_below S E k
unfolding sum_below
sum_beyond S E e v zero high = refl
sum_beyond S E e v (suc k) high =
    rw (sum_beyond S E e v k (omega arith), ne_eqb k e (λ q. omega arith))

-- an entry that changes by d changes the sum by d
sum_set : (S : Sheet) (E : Entries) (e : ℕ) (v : Value) (d : ℤ) → is_figure (item_at S e) ≡ false → counted v ≡ counted (E e) +ℤ d
    → (k : ℕ) → e < k → sum_below S (set_entry E e v) k ≡ sum_below S E k +ℤ d
unfolding sum_below
sum_set S E e v d entry by zero low = absurd (omega arith)
sum_set S E e v d entry by (suc k) low = go (sum_set S E e v d entry by k) (eqb k e) refl
  where
    go : (e < k → sum_below S (set_entry E e v) k ≡ sum_below S E k +ℤ d) → (b : Bool) → eqb k e ≡ b
        → sum_below S (set_entry E e v) k +ℤ addend S (set_entry E e v) k ≡ (sum_below S E k +ℤ addend S E k) +ℤ d
    go below true q =
        let here : k ≡ e = eqb-true k e q in
        let at : is_figure (item_at S k) ≡ false = ap (λ j. is_figure (item_at S j)) here ∙ entry in
        rw (sum_beyond S E e v k (omega arith), at, q, by)
        (ap (λ j. sum_below S E k +ℤ (counted (E j) +ℤ d)) (sym here) ∙ sym (+ℤ_assoc (sum_below S E k) (counted (E k)) d))
    go below false q =
        let other : k ≡ e → ⊥ = eqb-false k e q in
        let x : ℤ = addend S E k in
        rw (below (omega arith), q)
        (+ℤ_assoc (sum_below S E k) d x ∙ ap (λ y. sum_below S E k +ℤ y) (+ℤ_comm d x) ∙ sym (+ℤ_assoc (sum_below S E k) x d))

-- a swap that is one keeps the sum
swap_entered : (S : Sheet) (E : Entries) (giver taker : ℕ) (quantity : ℤ) → SwapPassed S E giver taker quantity
    → sum_of S (entered E (swap_postings E giver taker quantity)) ≡ sum_of S E
unfolding entered no_swap
swap_entered S E giver taker quantity passed =
    sum_set S D taker (num (comes_to E taker quantity)) quantity passed.taker_entry gains (size S) passed.taker_low
    ∙ ap (λ x. x +ℤ quantity) (sum_set S E giver (num (left_with E giver quantity)) (neg_ℤ quantity) passed.giver_entry refl (size S) passed.giver_low)
    ∙ -ℤ-+ℤ_cancel (sum_of S E) quantity
  where
    D : Entries
    D = set_entry E giver (num (left_with E giver quantity))

    two : taker ≡ giver → ⊥
    two q = eqb-false giver taker (or-false _ _ passed.a_swap).0 (sym q)

    gains : comes_to E taker quantity ≡ counted (D taker) +ℤ quantity
    gains = rw (ne_eqb taker giver two)

pub swap_sum : (S : Sheet) (T : Table) (giver taker : ℕ) (quantity : ℤ)
    → sum_of S (entries_of (perform S T (swap giver taker quantity)).table) ≡ sum_of S (entries_of T)
unfolding perform effect
swap_sum S T giver taker quantity = go (first_cause (tests S T (swap giver taker quantity))) refl
  where
    go : (k : ℕ) → first_cause (tests S T (swap giver taker quantity)) ≡ k
        → sum_of S (entries_of (effect_unless k S T (swap giver taker quantity)).table) ≡ sum_of S (entries_of T)
    go zero e =
        ap (sum_of S) (postings_entries (swap_postings (entries_of T) giver taker quantity) T)
        ∙ swap_entered S (entries_of T) giver taker quantity (swap_passed S T giver taker quantity e)
    go (suc k) e = refl

-- ---- by the values that the entries hold

module _ (S : Sheet) (T : Table) (E : Entries) (holds : Holds S T E) (giver taker : ℕ) (quantity : ℤ) where
  -- a swap's number is that of its tests by these values
  pub swap_number : (perform S T (swap giver taker quantity)).number ≡ first_cause (swap_tests S E giver taker quantity)
  unfolding tests first_cause results_beyond
  swap_number = perform_number S T (swap giver taker quantity) ∙ go (no_item S giver || no_item S taker) (not_entry S giver || not_entry S taker) refl refl
    where
      go : (a b : Bool) → (no_item S giver || no_item S taker) ≡ a → (not_entry S giver || not_entry S taker) ≡ b
          → first_cause (test 11 a ∷ test 12 b ∷ test 18 (no_swap giver taker quantity) ∷ test 13 (results_beyond (entries_of T) giver taker quantity) ∷ [])
          ≡ first_cause (test 11 a ∷ test 12 b ∷ test 18 (no_swap giver taker quantity) ∷ test 13 (results_beyond E giver taker quantity) ∷ [])
      go true b e f = refl
      go false true e f = refl
      go false false e f =
          let low = or-false _ _ e in
          let entries = or-false _ _ f in
          rw (holds giver (leb-false (size S) giver low.0) entries.0, holds taker (leb-false (size S) taker low.1) entries.1)

  -- and so are the postings that it makes
  pub swap_made : postings_made S T (swap giver taker quantity) ≡ if_accepted (first_cause (swap_tests S E giver taker quantity)) (swap_postings E giver taker quantity)
  unfolding postings_made
  swap_made = go (first_cause (swap_tests S E giver taker quantity)) refl
    where
      go : (k : ℕ) → first_cause (swap_tests S E giver taker quantity) ≡ k
          → if_accepted (perform S T (swap giver taker quantity)).number (swap_postings (entries_of T) giver taker quantity) ≡ if_accepted k (swap_postings E giver taker quantity)
      go (suc k) e = rw (swap_number ∙ e)
      go zero e =
          let passed = tests_passed S E giver taker quantity e in
          rw (swap_number ∙ e, holds giver passed.giver_low passed.giver_entry, holds taker passed.taker_low passed.taker_entry)
