-- What an accepted call has passed, and what it does. Assumes nothing.
use Prim.Native.Nat.{ℕ, zero, suc, ◌<◌}
use mathlib.Core.Path.{◌≡◌, refl, ap}
use mathlib.Core.Bool.{Bool, true, false, ◌&&◌}
use mathlib.Core.List.{List, [], ◌∷◌}
use native.Mathlib.Omega.{arith}
use lib.IntN.{ℤ}
use borrow.Author.Tests.{leb-false, not-false}
use Rattle.circuit.specs.Value.{in_range}
use Rattle.circuit.specs.Sheet.{Sheet, Entries, size, item_at, is_figure}
use Rattle.circuit.specs.Table.{Table, entries_of, is_marked}
use Rattle.circuit.specs.Call.{Call, post, keep, drop, step, ask, board, close, swap}
use Rattle.circuit.specs.Board.{listed}
use Rattle.circuit.specs.Swap.{left_with, comes_to, no_swap, results_beyond}
use Rattle.circuit.specs.Calls.{Test, test, tests, swap_tests, first_cause, some_no_item, show_items, effect, effect_unless, perform}
use Rattle.circuit.proofs.RuleLaws.{or-false, and_left, and_right}

-- no cause holds: the first does not, and none of the others
pub no_cause : (k : ℕ) (b : Bool) (ts : List Test) → first_cause (test (suc k) b ∷ ts) ≡ 0 → (b ≡ false) × (first_cause ts ≡ 0)
unfolding first_cause
no_cause k true ts e = absurd (omega arith)
no_cause k false ts e = (refl, e)

-- a call whose number is 0 met no cause
pub number_cause : (S : Sheet) (T : Table) (c : Call) → (perform S T c).number ≡ 0 → first_cause (tests S T c) ≡ 0
unfolding perform effect
number_cause S T c e = go (first_cause (tests S T c)) e
  where
    go : (k : ℕ) → (effect_unless k S T c).number ≡ 0 → k ≡ 0
    go zero e' = refl
    go (suc k) e' = e'

-- an accepted call gives number 0
pub effect_number : (S : Sheet) (T : Table) (c : Call) → (effect S T c).number ≡ 0
unfolding effect
effect_number S T (post i kind z) = refl
effect_number S T (keep i) = refl
effect_number S T (drop i) = refl
effect_number S T (step i) = refl
effect_number S T (ask i) = refl
effect_number S T (board items results) = go (listed items)
  where
    go : (is : List ℕ) → (show_items S T is).number ≡ 0
    go [] = refl
    go (i ∷ is) = refl
effect_number S T close = refl
effect_number S T (swap giver taker quantity) = refl

-- a call's number is its first cause
pub perform_number : (S : Sheet) (T : Table) (c : Call) → (perform S T c).number ≡ first_cause (tests S T c)
unfolding perform
perform_number S T c = go (first_cause (tests S T c))
  where
    go : (k : ℕ) → (effect_unless k S T c).number ≡ k
    go zero = effect_number S T c
    go (suc k) = refl

-- a call that met no cause has its effect
pub accepted_effect : (S : Sheet) (T : Table) (c : Call) → first_cause (tests S T c) ≡ 0 → perform S T c ≡ effect S T c
unfolding perform
accepted_effect S T c e = ap (λ k. effect_unless k S T c) e

-- a call that met a cause leaves the table
pub refused_table : (S : Sheet) (T : Table) (c : Call) (k : ℕ) → first_cause (tests S T c) ≡ suc k → (perform S T c).table ≡ T
unfolding perform
refused_table S T c k e = ap (λ n. (effect_unless n S T c).table) e

abbrev Passed : Sheet → Table → Call → Type 0
Passed S T c = first_cause (tests S T c) ≡ 0

pub post_passed : (S : Sheet) (T : Table) (i kind : ℕ) (z : ℤ) → Passed S T (post i kind z) → (i < size S) × (is_figure (item_at S i) ≡ false)
unfolding tests
post_passed S T i kind z e =
    let first = no_cause 10 _ _ e in
    (leb-false (size S) i first.0, (no_cause 11 _ _ first.1).0)

pub keep_passed : (S : Sheet) (T : Table) (i : ℕ) → Passed S T (keep i) → (i < size S) × (is_figure (item_at S i) ≡ true)
unfolding tests
keep_passed S T i e =
    let first = no_cause 10 _ _ e in
    (leb-false (size S) i first.0, not-false (is_figure (item_at S i)) (no_cause 11 _ _ first.1).0)

pub drop_passed : (S : Sheet) (T : Table) (i : ℕ) → Passed S T (drop i) → (i < size S) × (is_figure (item_at S i) ≡ true)
unfolding tests
drop_passed S T i e =
    let first = no_cause 10 _ _ e in
    (leb-false (size S) i first.0, not-false (is_figure (item_at S i)) (no_cause 11 _ _ first.1).0)

pub step_passed : (S : Sheet) (T : Table) (i : ℕ) → Passed S T (step i) → (i < size S) × (is_marked (T i) ≡ true)
unfolding tests
step_passed S T i e =
    let first = no_cause 10 _ _ e in
    (leb-false (size S) i first.0, not-false (is_marked (T i)) (no_cause 13 _ _ first.1).0)

pub ask_passed : (S : Sheet) (T : Table) (i : ℕ) → Passed S T (ask i) → i < size S
unfolding tests
ask_passed S T i e = leb-false (size S) i (no_cause 10 _ _ e).0

-- all the items of an accepted board are in the sheet
pub board_passed : (S : Sheet) (T : Table) (items results : List ℕ) → Passed S T (board items results) → some_no_item S (listed items) ≡ false
unfolding tests
board_passed S T items results e = (no_cause 10 _ _ (no_cause 16 _ _ e).1).0

-- what an accepted swap has passed, by the values that the entries hold
pub record SwapPassed (S : Sheet) (E : Entries) (giver taker : ℕ) (quantity : ℤ) : Type 0 where
  pub giver_low : giver < size S
  pub taker_low : taker < size S
  pub giver_entry : is_figure (item_at S giver) ≡ false
  pub taker_entry : is_figure (item_at S taker) ≡ false
  pub a_swap : no_swap giver taker quantity ≡ false
  pub left_in : in_range (left_with E giver quantity) ≡ true
  pub come_in : in_range (comes_to E taker quantity) ≡ true

pub tests_passed : (S : Sheet) (E : Entries) (giver taker : ℕ) (quantity : ℤ) → first_cause (swap_tests S E giver taker quantity) ≡ 0
    → SwapPassed S E giver taker quantity
unfolding results_beyond
tests_passed S E giver taker quantity e =
    let first = no_cause 10 _ _ e in
    let second = no_cause 11 _ _ first.1 in
    let third = no_cause 17 _ _ second.1 in
    let low = or-false _ _ first.0 in
    let entries = or-false _ _ second.0 in
    let both : (in_range (left_with E giver quantity) && in_range (comes_to E taker quantity)) ≡ true = not-false _ (no_cause 12 _ _ third.1).0 in
    record {
      giver_low = leb-false (size S) giver low.0;
      taker_low = leb-false (size S) taker low.1;
      giver_entry = entries.0;
      taker_entry = entries.1;
      a_swap = third.0;
      left_in = and_left (in_range (left_with E giver quantity)) (in_range (comes_to E taker quantity)) both;
      come_in = and_right (in_range (left_with E giver quantity)) (in_range (comes_to E taker quantity)) both;
    }

pub swap_passed : (S : Sheet) (T : Table) (giver taker : ℕ) (quantity : ℤ) → Passed S T (swap giver taker quantity) → SwapPassed S (entries_of T) giver taker quantity
unfolding tests
swap_passed S T giver taker quantity e = tests_passed S (entries_of T) giver taker quantity e
