-- Catching up ends, on every table (`catch_up-ends`): stepping the lowest marked item until none is marked is one
-- ascending pass (`catch_up_ascends`), no mark stands afterwards (`catch_up-quiet`), and more steps than the bound change
-- nothing (`catch_up_enough`). The step of a notice leaves its item without a mark (`step_clears`). On a table without
-- marks catching up does nothing, and a look-up sets no mark there, so asking again steps nothing (`asked_still`).
-- Assumes that the sheet is ordered, where it says so, and nothing about the table.
use Prim.Native.Nat.{ℕ, zero, suc, ◌<◌, ◌≤◌, ◌+◌, ◌*◌}
use native.Mathlib.Omega.{arith}
use mathlib.Core.Path.{◌≡◌, refl, sym, ap, ◌∙◌}
use mathlib.Core.Logic.{◌⊎◌, inl, inr, ◌≢◌}
use mathlib.Core.Bool.{Bool, true, false, cond}
use mathlib.Core.Option.{Option, none, some}
use lib.Dec.{eqb}
use borrow.Author.Tests.{eqb-true, eqb-false}
use Rattle.circuit.specs.Value.{Value, same}
use Rattle.circuit.specs.Sheet.{Sheet, size, parents, Ordered}
use Rattle.circuit.specs.Table.{Table, Cell, Mark, unmarked, refresh, notice, unk, held, is_notice, notice_if, is_mark, is_marked, mark_of}
use Rattle.circuit.specs.Machine.{work_out, look_up, tell, clear_cell, clear_mark, step_cell, step_item, or_next, lowest_marked, step_lowest, catch_up_in, catch_up}
use Rattle.circuit.specs.Ascending.{step_if, step_marked, ascend_below, ascend}
use Rattle.circuit.specs.Call.{ask}
use Rattle.circuit.specs.Calls.{perform, effect}
use Rattle.circuit.specs.Words.{Quiet, CaughtUp, still, stepped}
use Rattle.circuit.proofs.View.{never, view, result, strong, any_none, view_at}
use Rattle.circuit.proofs.Fill.{upd_same, upd_other, Filling, stays, fills, Fill, look_right, work_right}
use Rattle.circuit.proofs.Closure.{step_closed}
use Rattle.circuit.proofs.Accepted.{number_cause, accepted_effect}

-- catching up leads to one table only
pub caught_unique : {S : Sheet} {T U W : Table} → CaughtUp S T U → CaughtUp S T W → U ≡ W
caught_unique (still e) (still h) = refl
caught_unique (still e) (stepped j h q) = never (cc)
caught_unique (stepped i e r) (still h) = never (cc)
caught_unique (stepped i e r) (stepped j h q) =
    let same : i ≡ j = cc in
    caught_unique r (rw same q)

-- no item below k is marked
abbrev pub QuietBelow : Table → ℕ → Type 0
QuietBelow T k = (j : ℕ) → j < k → is_marked (T j) ≡ false

pub mark_notice : (m : Mark) → is_mark m ≡ false → is_notice m ≡ false
mark_notice unmarked e = refl
mark_notice refresh e = refl
mark_notice notice e = e

pub mark_flag : (f : Bool) → is_mark (notice_if f) ≡ false → f ≡ false
mark_flag true e = e
mark_flag false e = refl

cleared : (c : Cell) → is_marked (clear_cell c) ≡ false
cleared (unk f) = refl
cleared (held v m) = refl

-- the lowest marked item, where the items below k are not marked
pub lowest_none : (T : Table) (k : ℕ) → QuietBelow T k → lowest_marked T k ≡ none
unfolding lowest_marked
lowest_none T zero quiet = refl
lowest_none T (suc k) quiet = rw (lowest_none T k (λ j l. quiet j (omega arith)), quiet k (omega arith))

pub lowest_some : (T : Table) (k : ℕ) → QuietBelow T k → is_marked (T k) ≡ true → (n : ℕ) → k < n → lowest_marked T n ≡ some k
unfolding lowest_marked
lowest_some T k quiet marked zero l = absurd (omega arith)
lowest_some T k quiet marked (suc n) l = go (eqb k n) refl (λ h. lowest_some T k quiet marked n h)
  where
    go : (b : Bool) → eqb k n ≡ b → (k < n → lowest_marked T n ≡ some k)
        → or_next (lowest_marked T n) (is_marked (T n)) n ≡ some k
    go true e rest =
        let same : k ≡ n = eqb-true k n e in
        rw (← same, lowest_none T k quiet, marked)
    go false e rest =
        let other : k ≢ n = eqb-false k n e in
        rw (rest (omega arith))

-- and none up to k, if k is not marked either
pub next_quiet : (T : Table) (k : ℕ) → QuietBelow T k → is_marked (T k) ≡ false → QuietBelow T (suc k)
next_quiet T k quiet here j l = go (eqb j k) refl
  where
    go : (b : Bool) → eqb j k ≡ b → is_marked (T j) ≡ false
    go true e = rw (eqb-true j k e) here
    go false e =
        let other : j ≢ k = eqb-false j k e in
        quiet j (omega arith)

-- where none is found, none is marked; below the item that is found, none is
pub none_quiet : (T : Table) (k : ℕ) → lowest_marked T k ≡ none → QuietBelow T k
unfolding lowest_marked
none_quiet T zero e = λ j l. absurd (omega arith)
none_quiet T (suc k) e = go (lowest_marked T k) (is_marked (T k)) refl refl e (λ h. none_quiet T k h)
  where
    go : (o : Option ℕ) (b : Bool) → lowest_marked T k ≡ o → is_marked (T k) ≡ b → or_next o b k ≡ none
        → (lowest_marked T k ≡ none → QuietBelow T k) → QuietBelow T (suc k)
    go (some i) b h m q rest = never (cc)
    go none true h m q rest = never (cc)
    go none false h m q rest = next_quiet T k (rest h) m

pub some_quiet : (T : Table) (k i : ℕ) → lowest_marked T k ≡ some i → QuietBelow T i
unfolding lowest_marked
some_quiet T zero i e = never (cc e)
some_quiet T (suc k) i e = go (lowest_marked T k) (is_marked (T k)) refl e (λ h. some_quiet T k i h)
  where
    go : (o : Option ℕ) (b : Bool) → lowest_marked T k ≡ o → or_next o b k ≡ some i
        → (lowest_marked T k ≡ some i → QuietBelow T i) → QuietBelow T i
    go (some j) b h q rest = rest (h ∙ q)
    go none true h q rest =
        let here : k ≡ i = cc in
        rw (← here) (none_quiet T k h)
    go none false h q rest = never (cc)

module _ (S : Sheet) (ordered : Ordered S) where
  -- below the lowest mark nothing is flagged
  pub quiet_flag : (T : Table) (k : ℕ) → QuietBelow T k → (i : ℕ) → i < k → (view S T i).flag ≡ false
  quiet_flag T k quiet = strong (λ i. i < k → (view S T i).flag ≡ false) rise
    where
      rise : (i : ℕ) → ((p : ℕ) → p < i → p < k → (view S T p).flag ≡ false) → i < k → (view S T i).flag ≡ false
      rise i lower l = go (T i) refl
        where
          go : (c : Cell) → T i ≡ c → (view S T i).flag ≡ false
          go (held v m) e =
              ap (λ s. s.flag) (view_at S ordered T i e) ∙ mark_notice m (rw e at (quiet i l))
          go (unk f) e =
              let own : f ≡ false = mark_flag f (rw e at (quiet i l)) in
              let none : (result S T i).flag ≡ false
              = any_none (view S T) (parents S i) (λ p m. let o : p < i = ordered i p m in lower p o (omega arith)) in
              ap (λ s. s.flag) (view_at S ordered T i e) ∙ (rw (none, own))

  -- so a fill sets no mark there
  pub fill_quiet : (T U : Table) (k : ℕ) → Fill S T U → QuietBelow T k → QuietBelow U k
  fill_quiet T U k fill quiet j l = go (fill j)
    where
      go : Filling S T j (U j) → is_marked (U j) ≡ false
      go (stays e) = rw e (quiet j l)
      go (fills f fig e h) = rw (h, quiet_flag T k quiet j l)

  -- a look-up on a quiet table leaves it quiet
  pub look_quiet : (T : Table) (i : ℕ) → Quiet S T → Quiet S (look_up S T i).table
  look_quiet T i quiet = fill_quiet T (look_up S T i).table (size S) (look_right S ordered T i).fill quiet

  -- a step sets no mark below its item
  pub step_below : (T : Table) (i : ℕ) → i < size S → QuietBelow T i → QuietBelow (step_item S T i) i
  step_below T i low quiet =
      step_closed S (λ c. i ≤ c) (λ U. QuietBelow U i)
      (record {
        works = λ U c l h. fill_quiet U (work_out S U c).table i (work_right S ordered U c).fill h;
        stores = λ U c x l h j m. rw (upd_other U c x j (λ e. omega arith)) (h j m);
      })
      i low (omega arith) (λ c l. omega (arith, ordered c i l)) T quiet

  pub step_marked-below : (T : Table) (i : ℕ) → i < size S → QuietBelow T i → QuietBelow (step_marked S T i) i
  unfolding step_marked
  step_marked-below T i low quiet = go (is_marked (T i))
    where
      go : (b : Bool) → QuietBelow (step_if b S T i) i
      go true = step_below T i low quiet
      go false = quiet

  -- a notice is cleared by its step, and a refresh becomes a notice or is cleared
  tell_clears : (T : Table) (i : ℕ) → is_marked (clear_mark (tell S T i) i i) ≡ false
  unfolding clear_mark
  tell_clears T i = rw (upd_same (tell S T i) i (clear_cell (tell S T i i))) (cleared (tell S T i i))

  marked_step : (T : Table) (i : ℕ) → is_marked (T i) ≡ true → step_marked S T i ≡ step_item S T i
  unfolding step_marked
  marked_step T i e = rw e

  unmarked_step : (T : Table) (i : ℕ) → is_marked (T i) ≡ false → step_marked S T i ≡ T
  unfolding step_marked
  unmarked_step T i e = rw e

  -- the step of a notice leaves no mark on its item, whatever its telling stored there
  pub step_clears : (T : Table) (i : ℕ) → is_notice (mark_of (T i)) ≡ true → is_marked (step_item S T i i) ≡ false
  unfolding step_item
  step_clears T i own = go (T i) refl
    where
      go : (c : Cell) → T i ≡ c → is_marked (step_cell S T i c i) ≡ false
      go (unk true) e = tell_clears T i
      go (unk false) e = let m : is_notice (mark_of (unk false)) ≡ true = rw e at own in never (cc)
      go (held v unmarked) e = rw e
      go (held v notice) e = tell_clears T i
      go (held v refresh) e = let m : is_notice (mark_of (held v refresh)) ≡ true = rw e at own in never (cc)

  -- what one step leaves at its item: no mark, or a stored value with notice
  pub step_own : (T : Table) (i : ℕ) → is_marked (T i) ≡ true
      → (is_marked (step_item S T i i) ≡ false) ⊎ ((v : Value) × (step_item S T i i ≡ held v notice))
  unfolding step_item
  step_own T i marked = go (T i) refl
    where
      go : (c : Cell) → T i ≡ c
          → (is_marked (step_cell S T i c i) ≡ false) ⊎ ((v : Value) × (step_cell S T i c i ≡ held v notice))
      go (unk true) e = inl (tell_clears T i)
      go (unk false) e = let m : is_marked (unk false) ≡ true = rw e at marked in never (cc)
      go (held v unmarked) e = let m : is_marked (held v unmarked) ≡ true = rw e at marked in never (cc)
      go (held v notice) e = inl (tell_clears T i)
      go (held v refresh) e =
          rw (upd_same (work_out S T i).table i (cond (same v (work_out S T i).value) (held v unmarked) (held (work_out S T i).value notice)))
          (which (same v (work_out S T i).value))
        where
          which : (b : Bool)
              → (is_marked (cond b (held v unmarked) (held (work_out S T i).value notice)) ≡ false) ⊎
              ((w : Value) × (cond b (held v unmarked) (held (work_out S T i).value notice) ≡ held w notice))
          which true = inl refl
          which false = inr ((work_out S T i).value, refl)

  -- two steps of a marked item, while it is marked, leave it unmarked; they are what catching up does
  record Advance (k fuel : ℕ) (T : Table) : Type 0 where
    rest : ℕ
    enough : fuel ≤ rest
    caught : catch_up_in (suc (suc fuel)) S T ≡ catch_up_in rest S (step_marked S (step_marked S T k) k)
    clear : is_marked (step_marked S (step_marked S T k) k k) ≡ false

  catch_step : (T : Table) (k fuel : ℕ) → k < size S → QuietBelow T k → is_marked (T k) ≡ true
      → catch_up_in (suc fuel) S T ≡ catch_up_in fuel S (step_item S T k)
  unfolding catch_up_in
  catch_step T k fuel low quiet marked = rw (lowest_some T k quiet marked (size S) low)

  advance : (T : Table) (k fuel : ℕ) → k < size S → QuietBelow T k → Advance k fuel T
  advance T k fuel low quiet = first (is_marked (T k)) refl
    where
      U : Table
      U = step_item S T k

      second : is_marked (T k) ≡ true → (is_marked (U k) ≡ false) ⊎ ((v : Value) × (U k ≡ held v notice)) → Advance k fuel T
      second m (inl e) =
          let both : step_marked S (step_marked S T k) k ≡ U = rw (marked_step T k m) (unmarked_step U k e) in
          record {
            rest = suc fuel;
            enough = omega arith;
            caught = catch_step T k (suc fuel) low quiet m ∙ ap (catch_up_in (suc fuel) S) (sym both);
            clear = rw both e;
          }
      second m (inr (v, e)) =
          let marked : is_marked (U k) ≡ true = rw e in
          let both : step_marked S (step_marked S T k) k ≡ step_item S U k = rw (marked_step T k m) (marked_step U k marked) in
          record {
            rest = fuel;
            enough = omega arith;
            caught =
                catch_step T k (suc fuel) low quiet m
                ∙ catch_step U k fuel low (step_below T k low quiet) marked
                ∙ ap (catch_up_in fuel S) (sym both);
            clear = rw both (step_clears U k (rw e));
          }

      first : (b : Bool) → is_marked (T k) ≡ b → Advance k fuel T
      first true m = second m (step_own T k m)
      first false m =
          let both : step_marked S (step_marked S T k) k ≡ T = rw (unmarked_step T k m) (unmarked_step T k m) in
          record { rest = suc (suc fuel); enough = omega arith; caught = ap (catch_up_in (suc (suc fuel)) S) (sym both); clear = rw both m }

  -- the pass leaves no mark behind
  pub ascended_quiet : (T : Table) (k : ℕ) → k ≤ size S → QuietBelow (ascend_below S T k) k
  unfolding ascend_below
  ascended_quiet T zero l = λ j h. absurd (omega arith)
  ascended_quiet T (suc k) l = go (ascended_quiet T k (omega arith))
    where
      U : Table
      U = ascend_below S T k

      go : QuietBelow U k → QuietBelow (step_marked S (step_marked S U k) k) (suc k)
      go quiet = next_quiet (step_marked S (step_marked S U k) k) k (step_marked-below (step_marked S U k) k l (step_marked-below U k l quiet)) (advance U k 0 l quiet).clear

  -- catching up on a quiet table does nothing
  catch_quiet : (fuel : ℕ) (T : Table) → Quiet S T → catch_up_in fuel S T ≡ T
  unfolding catch_up_in
  catch_quiet zero T quiet = refl
  catch_quiet (suc fuel) T quiet = rw (lowest_none T (size S) quiet)

  -- from a table whose pass has reached k, with fuel for what is left
  catch_ascends : (T : Table) (d k fuel : ℕ) → k + d ≡ size S → 2 * d ≤ fuel → catch_up_in fuel S (ascend_below S T k) ≡ ascend S T
  unfolding ascend ascend_below
  catch_ascends T zero k fuel e l =
      let all : k ≡ size S = omega arith in
      catch_quiet fuel (ascend_below S T k) (λ j h. ascended_quiet T k (omega arith) j (omega arith)) ∙ ap (ascend_below S T) all
  catch_ascends T (suc d) k zero e l = absurd (omega arith)
  catch_ascends T (suc d) k (suc zero) e l = absurd (omega arith)
  catch_ascends T (suc d) k (suc (suc fuel)) e l =
      let U : Table = ascend_below S T k in
      let a : Advance k fuel U = advance U k fuel (omega arith) (ascended_quiet T k (omega arith)) in
      a.caught ∙ catch_ascends T d (suc k) a.rest (omega arith) (omega (arith, a.enough))

  -- any number of steps from the bound on gives what the pass gives
  pub catch_up_enough : (T : Table) (fuel : ℕ) → 2 * size S ≤ fuel → catch_up_in fuel S T ≡ ascend S T
  unfolding ascend_below
  catch_up_enough T fuel l = catch_ascends T (size S) 0 fuel (omega arith) l

  pub catch_up_ascends : (T : Table) → catch_up S T ≡ ascend S T
  unfolding catch_up
  catch_up_ascends T = catch_up_enough T (2 * size S) (omega arith)

  -- no mark stands after catching up
  pub catch_up-quiet : (T : Table) → Quiet S (catch_up S T)
  unfolding ascend
  catch_up-quiet T = rw (catch_up_ascends T) (ascended_quiet T (size S) (omega arith))

  -- catching up on a quiet table does nothing
  pub catch_up-still : (T : Table) → Quiet S T → catch_up S T ≡ T
  unfolding catch_up
  catch_up-still T quiet = catch_quiet (2 * size S) T quiet

  -- it is what the words say, and so it ends
  pub catch_up-ends : (T : Table) → CaughtUp S T (catch_up S T)
  unfolding catch_up catch_up_in
  catch_up-ends T = within (2 * size S) T (catch_up-quiet T)
    where
      by_lowest : (fuel : ℕ) (U : Table) (o : Option ℕ)
          → ((X : Table) → Quiet S (catch_up_in fuel S X) → CaughtUp S X (catch_up_in fuel S X)) → lowest_marked U (size S) ≡ o
          → Quiet S (step_lowest (catch_up_in fuel S) S U o) → CaughtUp S U (step_lowest (catch_up_in fuel S) S U o)
      by_lowest fuel U none rest e quiet = still e
      by_lowest fuel U (some i) rest e quiet = stepped i e (rest (step_item S U i) quiet)

      within : (fuel : ℕ) (U : Table) → Quiet S (catch_up_in fuel S U) → CaughtUp S U (catch_up_in fuel S U)
      within zero U quiet = still (lowest_none U (size S) quiet)
      within (suc fuel) U quiet = by_lowest fuel U (lowest_marked U (size S)) (λ X h. within fuel X h) refl quiet

  -- an accepted ask leaves no mark, so that asking again steps nothing
  pub asked_quiet : (T : Table) (i : ℕ) → (perform S T (ask i)).number ≡ 0 → Quiet S (perform S T (ask i)).table
  unfolding effect
  asked_quiet T i e =
      rw (accepted_effect S T (ask i) (number_cause S T (ask i) e)) (look_quiet (catch_up S T) i (catch_up-quiet T))

  pub asked_still : (T : Table) (i : ℕ) → (perform S T (ask i)).number ≡ 0
      → catch_up S (perform S T (ask i)).table ≡ (perform S T (ask i)).table
  asked_still T i e = catch_up-still (perform S T (ask i)).table (asked_quiet T i e)
