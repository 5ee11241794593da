-- Steps end: on a sheet of n items any sequence of accepted steps is shorter than 3^n. Each item has a digit, the lowest
-- item the most significant; a step of i lowers the digit of i and raises none below it. With the lowest marked item each time there are at most
-- 2n (`lowest_first_ends`). Assumes that the sheet is ordered, where it says so.
use Prim.Native.Nat.{ℕ, zero, suc, ◌+◌, ◌*◌, ◌^◌, ◌<◌, ◌≤◌}
use mathlib.Core.Path.{◌≡◌, refl, sym, ap, ◌∙◌}
use mathlib.Core.Bool.{Bool, true, false, cond}
use mathlib.Core.List.{List, [], ◌∷◌, map}
use mathlib.Core.Logic.{◌⊎◌, inl, inr}
use mathlib.Core.Option.{some}
use native.Mathlib.Omega.{arith}
use native.Mathlib.Nat.{pow-zero, pow-succ'}
use native.Mathlib.Decide.{dec_lt}
use lib.ListN.{length}
use Rattle.circuit.specs.Value.{Value, same}
use Rattle.circuit.specs.Sheet.{Sheet, size, Ordered}
use Rattle.circuit.specs.Table.{Table, Cell, unmarked, refresh, notice, unk, held, upd, is_stored, is_marked, notice_if}
use Rattle.circuit.specs.Machine.{work_out, tell, clear_cell, clear_mark, step_item, step_cell, lowest_marked}
use Rattle.circuit.specs.Call.{step}
use Rattle.circuit.specs.Calls.{perform, effect}
use Rattle.circuit.specs.Words.{AllAccepted, Quiet}
use Rattle.circuit.proofs.View.{never, view}
use Rattle.circuit.proofs.Fill.{Filling, stays, fills, upd_same, upd_cases, work_right}
use Rattle.circuit.proofs.Closure.{Closed, tell_closed}
use Rattle.circuit.proofs.CatchUp.{QuietBelow, next_quiet, lowest_none, lowest_some, step_below, step_own, step_clears}
use Rattle.circuit.proofs.Accepted.{number_cause, accepted_effect, step_passed}

abbrev pub digit : Cell → ℕ
digit (unk false) = 1
digit (unk true) = 2
digit (held v unmarked) = 0
digit (held v refresh) = 2
digit (held v notice) = 1

digit_small : (c : Cell) → digit c < 3
digit_small (unk false) = omega arith
digit_small (unk true) = omega arith
digit_small (held v unmarked) = omega arith
digit_small (held v refresh) = omega arith
digit_small (held v notice) = omega arith

-- the number that the digits of the items below k make
unfoldable pub weight : Table → ℕ → ℕ
weight T zero = 0
weight T (suc k) = 3 * weight T k + digit (T k)

weight_bound : (T : Table) (k : ℕ) → weight T k < 3 ^ k
unfolding weight
weight_bound T zero = omega (arith, pow-zero 3)
weight_bound T (suc k) = omega (arith, weight_bound T k, digit_small (T k), pow-succ' 3 k)

weight_below : (T U : Table) (k : ℕ) → ((j : ℕ) → j < k → digit (U j) ≤ digit (T j)) → weight U k ≤ weight T k
unfolding weight
weight_below T U zero less = omega arith
weight_below T U (suc k) less = omega (arith, weight_below T U k (λ j h. less j (omega arith)), less k (omega arith))

-- a lower digit at i, with none raised below it, makes a lower number
weight_less : (T U : Table) (i : ℕ) → ((j : ℕ) → j < i → digit (U j) ≤ digit (T j)) → digit (U i) < digit (T i)
    → (k : ℕ) → i < k → weight U k < weight T k
unfolding weight
weight_less T U i below lower zero high = absurd (omega arith)
weight_less T U i below lower (suc k) high = go (dec_lt i k) (λ h. weight_less T U i below lower k h)
  where
    go : Dec (i < k) → (i < k → weight U k < weight T k) → 3 * weight U k + digit (U k) < 3 * weight T k + digit (T k)
    go (yes h) rest = omega (arith, rest h, digit_small (U k))
    go (no h) rest =
        let here : i ≡ k = omega arith in
        omega (arith, weight_below T U k (λ j l. below j (omega arith)), rw here at lower)

-- a cell after a fill, or after several: its digit is no higher, and what was stored is stored
record Under (a b : Cell) : Type 0 where
  lower : digit b ≤ digit a
  stored : is_stored a ≡ true → is_stored b ≡ true

under_refl : (c : Cell) → Under c c
under_refl c = record { lower = omega arith; stored = λ h. h }

under_trans : {a b c : Cell} → Under a b → Under b c → Under a c
under_trans p q = record { lower = omega (arith, p.lower, q.lower); stored = λ h. q.stored (p.stored h) }

under_filled : (b f : Bool) (v : Value) → Under (unk b) (held v (notice_if f))
under_filled true true v = record { lower = omega arith; stored = λ h. refl }
under_filled true false v = record { lower = omega arith; stored = λ h. refl }
under_filled false true v = record { lower = omega arith; stored = λ h. refl }
under_filled false false v = record { lower = omega arith; stored = λ h. refl }

under_fill : {S : Sheet} {T : Table} {j : ℕ} {c : Cell} → Filling S T j c → Under (T j) c
under_fill {c = c} (stays e) = rw (← e) (under_refl c)
under_fill {S} {T} {j} (fills f k e h) = rw (e, h) (under_filled f (view S T j).flag (view S T j).value)

-- the items at or below i
abbrev UnderTo : ℕ → Table → Table → Type 0
UnderTo i T U = (j : ℕ) → j ≤ i → Under (T j) (U j)

under_to_closed : (S : Sheet) → Ordered S → (i : ℕ) (T : Table) → Closed S (λ c. i < c) (UnderTo i T)
under_to_closed S ordered i T =
    record {
      works = λ U c low under j h. under_trans (under j h) (under_fill ((work_right S ordered U c).fill j));
      stores = λ U c x here under. upd_cases (λ j y. j ≤ i → Under (T j) y) U c x (λ h. absurd (omega arith)) (λ j n h. under j h);
    }

-- the digits after a step of i, against those before
pub record Lowered (i : ℕ) (T U : Table) : Type 0 where
  pub below : (j : ℕ) → j < i → digit (U j) ≤ digit (T j)
  pub here : digit (U i) < digit (T i)

lowered_store : (T U : Table) (i : ℕ) (c : Cell) → UnderTo i T U → digit c < digit (T i) → Lowered i T (upd U i c)
lowered_store T U i c under lower =
    record {
      below = upd_cases (λ j y. j < i → digit y ≤ digit (T j)) U i c (λ h. absurd (omega arith)) (λ j n h. (under j (omega arith)).lower);
      here = rw (upd_same U i c) lower;
    }

-- a cleared mark lowers the digit of a cell with notice
cleared_unk : (c : Cell) → digit (clear_cell c) < 2
cleared_unk (unk f) = omega arith
cleared_unk (held v m) = omega arith

cleared_held : (c : Cell) → is_stored c ≡ true → digit (clear_cell c) < 1
cleared_held (unk f) e = let bad : ◌≡◌ {A = ℕ} 0 1 = cc in absurd (omega arith)
cleared_held (held v m) e = omega arith

renewed_digit : (b : Bool) (v w : Value) → digit (cond b (held v unmarked) (held w notice)) < 2
renewed_digit true v w = omega arith
renewed_digit false v w = omega arith

-- A step of a marked item lowers its digit, and raises none below it.
pub step_lowers : (S : Sheet) → Ordered S → (T : Table) (i : ℕ) → is_marked (T i) ≡ true → Lowered i T (step_item S T i)
unfolding step_item clear_mark
step_lowers S ordered T i marked = go (T i) refl
  where
    told : UnderTo i T (tell S T i)
    told =
        tell_closed S (λ c. i < c) (UnderTo i T) (under_to_closed S ordered i T) i (λ c l. ordered c i l) T
        (λ j h. under_refl (T j))

    tells : digit (clear_cell (tell S T i i)) < digit (T i) → Lowered i T (clear_mark (tell S T i) i)
    tells lower = lowered_store T (tell S T i) i _ told lower

    go : (c : Cell) → T i ≡ c → Lowered i T (step_cell S T i c)
    go (unk true) e = tells (rw e (cleared_unk (tell S T i i)))
    go (unk false) e = let bad : ◌≡◌ {A = ℕ} 0 1 = cc (rw e at marked) in absurd (omega arith)
    go (held v unmarked) e = let bad : ◌≡◌ {A = ℕ} 0 1 = cc (rw e at marked) in absurd (omega arith)
    go (held v refresh) e =
        lowered_store T (work_out S T i).table i _ (λ j h. under_fill ((work_right S ordered T i).fill j))
        (rw e (renewed_digit (same v (work_out S T i).value) v (work_out S T i).value))
    go (held v notice) e = tells (rw e (cleared_held (tell S T i i) ((told i (omega arith)).stored (rw e))))

-- an accepted step lowers the number
accepted_less : (S : Sheet) → Ordered S → (T : Table) (i : ℕ) → (perform S T (step i)).number ≡ 0
    → weight (perform S T (step i)).table (size S) < weight T (size S)
unfolding effect
accepted_less S ordered T i accepted =
    let passed = number_cause S T (step i) accepted in
    let place = step_passed S T i passed in
    let lowered = step_lowers S ordered T i place.1 in
    rw (ap (λ r. r.table) (accepted_effect S T (step i) passed))
    (weight_less T (step_item S T i) i lowered.below lowered.here (size S) place.0)

steps_weight : (S : Sheet) → Ordered S → (is : List ℕ) (T : Table) → AllAccepted S T (map step is) → length is ≤ weight T (size S)
steps_weight S ordered [] T accepted = omega arith
steps_weight S ordered (i ∷ is) T accepted =
    omega (arith, accepted_less S ordered T i accepted.0, steps_weight S ordered is (perform S T (step i)).table accepted.1)

-- Steps end: a sequence of accepted steps is shorter than 3^n, whichever marked items are picked, from any table.
pub steps_end : (S : Sheet) → Ordered S → (T : Table) (is : List ℕ) → AllAccepted S T (map step is) → length is < 3 ^ size S
steps_end S ordered T is accepted =
    omega (arith, steps_weight S ordered is T accepted, weight_bound T (size S))

-- Lowest first, two steps an item are enough: each step of the sequence is of the lowest marked item.
abbrev pub EachLowest : Sheet → Table → List ℕ → Type 0
EachLowest S T [] = Unit {0}
EachLowest S T (i ∷ is) = (lowest_marked T (size S) ≡ some i) × EachLowest S (step_item S T i) is

module _ (S : Sheet) (ordered : Ordered S) where
  -- item k has two steps at most, and the items above it as many as `rest` says
  two_at : (k m : ℕ) → k < size S → ((U : Table) → QuietBelow U (suc k) → (js : List ℕ) → EachLowest S U js → length js ≤ m)
      → (T : Table) → QuietBelow T k → (is : List ℕ) → EachLowest S T is → length is ≤ 2 + m
  two_at k m low rest T quiet [] steps = omega arith
  two_at k m low rest T quiet (i ∷ is) steps = go (is_marked (T k)) refl
    where
      -- the second step of k, if there is one
      again : (U : Table) → QuietBelow U k → (v : Value) → U k ≡ held v notice → (js : List ℕ) → EachLowest S U js → length js ≤ 1 + m
      again U q v h [] l = omega arith
      again U q v h (j ∷ js) l =
          let same : k ≡ j = cc (sym (lowest_some U k q (rw h) (size S) low) ∙ l.0) in
          let W : Table = step_item S U k in
          let told = next_quiet W k (step_below S ordered U k low q) (step_clears S ordered U k (rw h)) in
          omega (arith, rest W told js (rw (← same) at l.1))

      go : (b : Bool) → is_marked (T k) ≡ b → length (i ∷ is) ≤ 2 + m
      go false u = omega (arith, rest T (next_quiet T k quiet u) (i ∷ is) steps)
      go true u = second (step_own S ordered T k u)
        where
          same : k ≡ i
          same = cc (sym (lowest_some T k quiet u (size S) low) ∙ steps.0)

          below : QuietBelow (step_item S T k) k
          below = step_below S ordered T k low quiet

          later : EachLowest S (step_item S T k) is
          later = rw (← same) at steps.1

          second : (is_marked (step_item S T k k) ≡ false) ⊎ ((v : Value) × (step_item S T k k ≡ held v notice)) → length (i ∷ is) ≤ 2 + m
          second (inl h) = omega (arith, rest (step_item S T k) (next_quiet (step_item S T k) k below h) is later)
          second (inr (v, h)) = omega (arith, again (step_item S T k) below v h is later)

  -- where no item is marked there is no step
  none_left : (T : Table) → Quiet S T → (is : List ℕ) → EachLowest S T is → length is ≤ 0
  none_left T quiet [] steps = omega arith
  none_left T quiet (i ∷ is) steps = never (cc (sym (lowest_none T (size S) quiet) ∙ steps.0))

  -- the d items from k on have two steps each, at most
  two_each : (d k : ℕ) → k + d ≡ size S → (T : Table) → QuietBelow T k → (is : List ℕ) → EachLowest S T is → length is ≤ 2 * d
  two_each zero k e T quiet is steps = none_left T (λ j l. quiet j (omega arith)) is steps
  two_each (suc d) k e T quiet is steps =
      omega (arith, two_at k (2 * d) (omega arith) (λ U q js l. two_each d (suc k) (omega arith) U q js l) T quiet is steps)

  pub lowest_first_ends : (T : Table) (is : List ℕ) → EachLowest S T is → length is ≤ 2 * size S
  lowest_first_ends T is steps = two_each (size S) 0 (omega arith) T (λ j l. absurd (omega arith)) is steps
