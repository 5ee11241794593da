-- Keeping every figure, lowest first, on a sound table without marks leaves in every item of the sheet the fresh office's value, without
-- a mark (`keeps_at`): what the season-close run leaves. Some accepted steps lead from any table to one without marks (`steps_quiet`). Assumes
-- that the sheet is ordered.
use Prim.Native.Nat.{ℕ, zero, suc, ◌<◌, ◌≤◌}
use native.Mathlib.Omega.{arith}
use mathlib.Core.Path.{◌≡◌, refl, sym, ap, subst, ◌∙◌}
use mathlib.Core.Bool.{Bool, true, false}
use mathlib.Core.List.{List, [], ◌∷◌, ◌++◌, map}
use lib.Dec.{eqb}
use borrow.Author.Tests.{eqb-true, eqb-false, lt-leb}
use Rattle.circuit.specs.Value.{Value}
use Rattle.circuit.specs.Sheet.{Sheet, Item, entry, figure, size, item_at, is_figure, Ordered, Entries}
use Rattle.circuit.specs.Table.{Table, Cell, unmarked, refresh, notice, unk, held, is_stored, is_marked}
use Rattle.circuit.specs.Machine.{look_up, keep_cell, keep_figure, step_item}
use Rattle.circuit.specs.Call.{Call, keep, step}
use Rattle.circuit.specs.Calls.{tests, first_cause, effect, perform, run}
use Rattle.circuit.specs.Closing.{keep_if, keeps_below, keep_every}
use Rattle.circuit.specs.Fresh.{give}
use Rattle.circuit.specs.Words.{Quiet, AllAccepted, CaughtUp, still, stepped}
use Rattle.circuit.proofs.Solution.{give_solves}
use Rattle.circuit.proofs.View.{never, view, view_at}
use Rattle.circuit.proofs.Fill.{upd_same, Filling, stays, fills, Fill, fill_refl, fill_trans, keep_fill}
use Rattle.circuit.proofs.Accepted.{accepted_effect}
use Rattle.circuit.proofs.Closure.{lowest_marked_lem}
use Rattle.circuit.proofs.CatchUp.{quiet_flag, catch_up-quiet, catch_up-ends}
use Rattle.circuit.proofs.Reading.{quiet_exact, exact_solution}
use Rattle.circuit.proofs.Sound.{Sound}
use Rattle.circuit.proofs.Retention.{stored_entry}

-- a list of calls after another
pub run_append : (S : Sheet) (cs ds : List Call) (T : Table) → run S T (cs ++ ds) ≡ run S (run S T cs) ds
unfolding run
run_append S [] ds T = refl
run_append S (c ∷ cs) ds T = run_append S cs ds (perform S T c).table

-- a keep of a figure is accepted
keep_performs : (S : Sheet) (T : Table) (i : ℕ) → i < size S → is_figure (item_at S i) ≡ true → (perform S T (keep i)).table ≡ keep_figure S T i
unfolding tests first_cause effect
keep_performs S T i low fig = ap (λ o. o.table) (accepted_effect S T (keep i) (rw (lt-leb (size S) i low, fig)))

-- what is kept is stored
pub keep_stored : (S : Sheet) (T : Table) (i : ℕ) → is_stored (keep_figure S T i i) ≡ true
unfolding keep_figure
keep_stored S T i = go (T i) refl
  where
    go : (c : Cell) → T i ≡ c → is_stored (keep_cell S T i c i) ≡ true
    go (unk f) e = ap is_stored (upd_same (look_up S T i).table i _)
    go (held v m) e = ap is_stored e

-- a fill leaves stored what is stored
fill_stored : (S : Sheet) (T U : Table) → Fill S T U → (j : ℕ) → is_stored (T j) ≡ true → is_stored (U j) ≡ true
fill_stored S T U fill j stored = go (fill j)
  where
    go : Filling S T j (U j) → is_stored (U j) ≡ true
    go (stays e) = ap is_stored e ∙ stored
    go (fills f k e h) = ap is_stored h

-- a table T after keeps of the figures below k
record Kept (S : Sheet) (T : Table) (k : ℕ) (U : Table) : Type 0 where
  fill : Fill S T U
  stored : (j : ℕ) → j < k → is_figure (item_at S j) ≡ true → is_stored (U j) ≡ true

-- the keep of item k, if it is a figure
keep_next : (S : Sheet) → Ordered S → (T : Table) (k : ℕ) → k < size S → (U : Table) → Kept S T k U
    → (b : Bool) → is_figure (item_at S k) ≡ b → Kept S T (suc k) (run S U (keep_if b k))
unfolding run
keep_next S ordered T k bound U before = go
  where
    next : (X : Table) → Fill S U X → (is_figure (item_at S k) ≡ true → is_stored (X k) ≡ true) → Kept S T (suc k) X
    next X fill here = record { fill = fill_trans S ordered T U X before.fill fill; stored = λ j low fig. at j low fig (eqb j k) refl }
      where
        at : (j : ℕ) → j < suc k → is_figure (item_at S j) ≡ true → (b : Bool) → eqb j k ≡ b → is_stored (X j) ≡ true
        at j low fig true e = let same : j ≡ k = eqb-true j k e in rw same (here (rw same at fig))
        at j low fig false e =
            let other : j ≡ k → ⊥ = eqb-false j k e in
            fill_stored S U X fill j (before.stored j (omega arith) fig)

    go : (b : Bool) → is_figure (item_at S k) ≡ b → Kept S T (suc k) (run S U (keep_if b k))
    go true fig =
        subst (Kept S T (suc k)) (sym (keep_performs S U k (omega arith) fig))
        (next (keep_figure S U k) (keep_fill S ordered U k fig) (λ f. keep_stored S U k))
    go false other = next U (fill_refl S U) (λ fig. never (cc))

keeps_below_lem : (S : Sheet) → Ordered S → (T : Table) (k : ℕ) → k ≤ size S → Kept S T k (run S T (keeps_below S k))
unfolding keeps_below run
keeps_below_lem S ordered T zero bound = record { fill = fill_refl S T; stored = λ j low fig. absurd (omega arith) }
keeps_below_lem S ordered T (suc k) bound =
    rw (run_append S (keeps_below S k) (keep_if (is_figure (item_at S k)) k) T)
    (keep_next S ordered T k bound (run S T (keeps_below S k)) (keeps_below_lem S ordered T k (omega arith)) (is_figure (item_at S k)) refl)

-- a stored cell without a mark
quiet_cell : (c : Cell) (v : Value) → is_stored c ≡ true → is_marked c ≡ false → ((w : Value) → c ≡ held w unmarked → w ≡ v) → c ≡ held v unmarked
quiet_cell (unk f) v s m h = never (cc)
quiet_cell (held w unmarked) v s m h = ap (λ x. held x unmarked) (h w refl)
quiet_cell (held w refresh) v s m h = never (cc)
quiet_cell (held w notice) v s m h = never (cc)

module _ (S : Sheet) (ordered : Ordered S) (E : Entries) (T : Table) (sound : Sound S E T) (quiet : Quiet S T) where
  -- the view of a sound table without marks
  right : (j : ℕ) → j < size S → (view S T j).value ≡ give S E j
  right =
      exact_solution S ordered E (give S E) (give_solves S ordered E) T sound.formed sound.holds
      (quiet_exact S ordered T sound.invariant quiet)

  -- a fill of it holds the fresh office's value wherever it stores one
  fill_right : (U : Table) → Fill S T U → (j : ℕ) → j < size S → is_stored (U j) ≡ true → U j ≡ held (give S E j) unmarked
  fill_right U fill j low stored = go (fill j)
    where
      go : Filling S T j (U j) → U j ≡ held (give S E j) unmarked
      go (stays e) =
          e ∙ quiet_cell (T j) (give S E j) (ap is_stored (sym e) ∙ stored) (quiet j low)
          (λ w q. ap (λ s. s.value) (sym (view_at S ordered T j q)) ∙ right j low)
      go (fills f k e h) =
          let flag : (view S T j).flag ≡ false = quiet_flag S ordered T (size S) quiet j low in
          rw (right j low, flag) at h

  -- keeping every figure, lowest first
  pub keeps_at : (j : ℕ) → j < size S → run S T (keep_every S) j ≡ held (give S E j) unmarked
  unfolding keep_every
  keeps_at j low = fill_right U kept.fill j low (stored (item_at S j) refl)
    where
      U : Table
      U = run S T (keeps_below S (size S))

      kept : Kept S T (size S) U
      kept = keeps_below_lem S ordered T (size S) (omega arith)

      stored : (it : Item) → item_at S j ≡ it → is_stored (U j) ≡ true
      stored entry e = fill_stored S T U kept.fill j (stored_entry (item_at S j) (T j) (sound.formed j low) (ap is_figure e))
      stored (figure op k spread ps) e = kept.stored j low (ap is_figure e)

-- the steps of catching up, as calls
steps_run : (S : Sheet) {T U : Table} → CaughtUp S T U → (is : List ℕ) × AllAccepted S T (map step is) × (run S T (map step is) ≡ U)
unfolding run tests first_cause effect
steps_run S (still e) = ([], tt, refl)
steps_run S {T} {U} (stepped i e rest) =
    let later = steps_run S rest in
    let marked = lowest_marked_lem T (size S) i e in
    let one = accepted_effect S T (step i) (rw (lt-leb (size S) i marked.0, marked.1)) in
    let first : (perform S T (step i)).table ≡ step_item S T i = ap (λ o. o.table) one in (
      i ∷ later.0,
      (ap (λ o. o.number) one, subst (λ X. AllAccepted S X (map step later.0)) (sym first) later.1),
      ap (λ X. run S X (map step later.0)) first ∙ later.2,
    )

-- from any table some accepted steps lead to one without marks
pub steps_quiet : (S : Sheet) → Ordered S → (T : Table) → (is : List ℕ) × AllAccepted S T (map step is) × Quiet S (run S T (map step is))
steps_quiet S ordered T =
    let steps = steps_run S (catch_up-ends S ordered T) in
    (steps.0, steps.1, rw steps.2 (catch_up-quiet S ordered T))
