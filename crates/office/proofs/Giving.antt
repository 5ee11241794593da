-- On an accepted table from which every look-up gives the solution, asks give it, keeps store it and boards show it, and what is stored on the
-- way holds it (`gives_right`). Assumes that the table is sound.
use Prim.Native.Nat.{ℕ, ◌<◌}
use native.Mathlib.Omega.{arith}
use mathlib.Core.Path.{◌≡◌, refl, sym, ap, ◌∙◌, subst}
use mathlib.Core.Bool.{true, false, not}
use mathlib.Core.List.{List, [], ◌∷◌, map}
use lib.Dec.{eqb}
use Rattle.circuit.specs.Value.{Value}
use Rattle.circuit.specs.Circuit.{IsSolution}
use Rattle.circuit.specs.Sheet.{Ordered, item_at, size, is_figure, circuit_of}
use Rattle.circuit.specs.Table.{Table, Mark, held, value_in}
use Rattle.circuit.specs.Machine.{look_up, catch_up, keep_figure}
use Rattle.circuit.specs.Call.{Call, keep, ask, board}
use Rattle.circuit.specs.Board.{listed}
use Rattle.circuit.specs.Calls.{some_no_item, effect}
use Rattle.circuit.proofs.View.{never, view, view_at}
use Rattle.circuit.proofs.Fill.{Fill, Filling, stays, fills, fill_refl, look_right, looks_right, keep_fill}
use Rattle.circuit.proofs.Accepted.{board_passed}
use Rattle.circuit.proofs.Sound.{Sound}
use Rattle.circuit.proofs.KeepEvery.{keep_stored}
use Rattle.circuit.proofs.Offices.{caught_value, show_values}
use Rattle.layout.specs.Opened.{sheet_of}
use Rattle.table.specs.Rows.{row}
use Rattle.table.specs.Record.{width, kind_in}
use Rattle.table.specs.Bytes.{decode_table}
use Rattle.table.proofs.Tables.{encoded_kind}
use Rattle.office.specs.Office.{Office, results_of, effect_on, call_on}
use Rattle.office.specs.Demand1Words.{calling, NoneHolds, own_causes, AcceptedLent}
use Rattle.office.specs.Demand2Words.{answer_of, entries_in, reading, Stores, StoredRight, Gives}
use Rattle.office.proofs.Cells.{kind_cell}
use Rattle.office.proofs.Lent.{ordered}
use Rattle.office.proofs.Leaves.{stored_record}
use Rattle.office.proofs.Refusals.{turned_back, call_accepted, own_passed}

-- an accepted table, and a call that no cause of its own turns back
module _ (s : List ℕ) (kept : Office) (lent : AcceptedLent s kept) where
  abbrev t : List ℕ
  t = kept.table

  performed : (c : Call) → NoneHolds (own_causes (sheet_of s) t c) → call_on s kept c ≡ effect_on (sheet_of s) kept (effect (sheet_of s) (decode_table t) c)
  performed c own = call_accepted s kept c (record { sheet = lent.sheet; lent = (lent.lent.0, (lent.lent.1.0, (lent.lent.1.1.0, own))) })

  pub ask_performed : (i : ℕ) → i < size (sheet_of s) → call_on s kept (ask i) ≡ effect_on (sheet_of s) kept (effect (sheet_of s) (decode_table t) (ask i))
  ask_performed i low = performed (ask i) ((λ h. omega arith), tt)

  pub keep_performed : (i : ℕ) → i < size (sheet_of s) → is_figure (item_at (sheet_of s) i) ≡ true
      → call_on s kept (keep i) ≡ effect_on (sheet_of s) kept (effect (sheet_of s) (decode_table t) (keep i))
  keep_performed i low fig = performed (keep i) ((λ h. omega arith), ((λ h. never (cc)), tt))

-- The table is sound, and what is looked up on it is the solution.
module _ (s : List ℕ) (kept : Office) (lent : AcceptedLent s kept) (values : ℕ → Value)
    (solves : IsSolution (circuit_of (sheet_of s)) (entries_in kept.table) values)
    (sound : Sound (sheet_of s) (entries_in kept.table) (decode_table kept.table))
    (looks : (k : ℕ) → k < size (sheet_of s) → (look_up (sheet_of s) (decode_table kept.table) k).value ≡ values k) where
  sheet_ordered : Ordered (sheet_of s)
  sheet_ordered = ordered s kept lent

  caught_gives : (k : ℕ) → k < size (sheet_of s) → (look_up (sheet_of s) (catch_up (sheet_of s) (decode_table kept.table)) k).value ≡ values k
  caught_gives = caught_value (sheet_of s) sheet_ordered (entries_in kept.table) values solves (decode_table kept.table) sound

  ask_gives : (i : ℕ) → i < size (sheet_of s) → answer_of (call_on s kept (ask i)) ≡ reading (values i)
  unfolding effect
  ask_gives i low = ap answer_of (ask_performed s kept lent i low) ∙ ap reading (caught_gives i low)

  -- on a table whose look-ups give the solution, a fill holds the solution's values
  fill_right : (C U : Table) → Fill (sheet_of s) C U → ((k : ℕ) → k < size (sheet_of s) → (look_up (sheet_of s) C k).value ≡ values k)
      → (k : ℕ) → k < size (sheet_of s) → (v : Value) (m : Mark) → U k ≡ held v m → v ≡ values k
  fill_right C U fill right k low v m e = go (fill k)
    where
      seen : (view (sheet_of s) C k).value ≡ values k
      seen = sym (look_right (sheet_of s) sheet_ordered C k).value ∙ right k low

      go : Filling (sheet_of s) C k (U k) → v ≡ values k
      go (stays q) = sym (ap (λ r. r.value) (view_at (sheet_of s) sheet_ordered C k (sym q ∙ e))) ∙ seen
      go (fills b fig q x) = ap value_in (sym e ∙ x) ∙ seen

  stores_right : (c : Call) → (call_on s kept c).number ≡ 0 → (C : Table) → Fill (sheet_of s) C (effect (sheet_of s) (decode_table kept.table) c).table
      → ((k : ℕ) → k < size (sheet_of s) → (look_up (sheet_of s) C k).value ≡ values k) → StoredRight s (call_on s kept c).after.table values
  stores_right c z C fill right k low fig n =
      let r = stored_record s kept lent c z k low n in
      subst (Stores (call_on s kept c).after.table k) (fill_right C _ fill right k low r.0 r.1 r.2) r.3

  ask_stores : (i : ℕ) → i < size (sheet_of s) → StoredRight s (call_on s kept (ask i)).after.table values
  unfolding effect
  ask_stores i low =
      stores_right (ask i) (ap (λ g. g.number) (ask_performed s kept lent i low)) (catch_up (sheet_of s) (decode_table kept.table))
      (look_right (sheet_of s) sheet_ordered (catch_up (sheet_of s) (decode_table kept.table)) i).fill caught_gives

  keep_stores : (i : ℕ) → i < size (sheet_of s) → is_figure (item_at (sheet_of s) i) ≡ true → StoredRight s (call_on s kept (keep i)).after.table values
  unfolding effect
  keep_stores i low fig =
      stores_right (keep i) (ap (λ g. g.number) (keep_performed s kept lent i low fig)) (decode_table kept.table)
      (keep_fill (sheet_of s) sheet_ordered (decode_table kept.table) i fig) looks

  -- what is kept is stored
  keep_kind : (i : ℕ) → i < size (sheet_of s) → is_figure (item_at (sheet_of s) i) ≡ true → ¬ (kind_in (row width (call_on s kept (keep i)).after.table i) ≡ 0)
  unfolding effect
  keep_kind i low fig z = never (cc (ap (λ k. not (eqb k 0)) (sym z) ∙ stored))
    where
      stored : not (eqb (kind_in (row width (call_on s kept (keep i)).after.table i)) 0) ≡ true
      stored =
          ap (λ g. not (eqb (kind_in (row width g.after.table i)) 0)) (keep_performed s kept lent i low fig)
          ∙ ap (λ k. not (eqb k 0)) (encoded_kind (sheet_of s) (keep_figure (sheet_of s) (decode_table kept.table) i) i low)
          ∙ kind_cell (keep_figure (sheet_of s) (decode_table kept.table) i i) ∙ keep_stored (sheet_of s) (decode_table kept.table) i

  board_own : (items results : List ℕ) → (call_on s kept (board items results)).number ≡ 0 → NoneHolds (own_causes (sheet_of s) kept.table (board items results))
  board_own items results z = ((turned_back (calling (board items results)) s kept).accepted.0 z).lent.1.1.1

  board_shows : (items results : List ℕ) → (call_on s kept (board items results)).number ≡ 0
      → (call_on s kept (board items results)).results ≡ results_of (map values (listed items))
  unfolding effect
  board_shows items results z =
      ap (λ g. g.results) (performed s kept lent (board items results) (board_own items results z))
      ∙ ap results_of (show_values (sheet_of s) sheet_ordered (entries_in kept.table) values solves (decode_table kept.table) sound (listed items) in_sheet)
    where
      in_sheet : some_no_item (sheet_of s) (listed items) ≡ false
      in_sheet =
          board_passed (sheet_of s) (decode_table kept.table) items results
          (own_passed (sheet_of s) kept.table (board items results) lent.lent.1.1.0 (board_own items results z))

  board_stores : (items results : List ℕ) → (call_on s kept (board items results)).number ≡ 0
      → StoredRight s (call_on s kept (board items results)).after.table values
  unfolding effect
  board_stores items results z = go (listed items) refl
    where
      go : (is : List ℕ) → listed items ≡ is → StoredRight s (call_on s kept (board items results)).after.table values
      go [] e = stores_right (board items results) z (decode_table kept.table) (rw e (fill_refl (sheet_of s) (decode_table kept.table))) looks
      go (i ∷ is) e = stores_right (board items results) z (catch_up (sheet_of s) (decode_table kept.table))
          (rw e (looks_right (sheet_of s) sheet_ordered (catch_up (sheet_of s) (decode_table kept.table)) (i ∷ is)).fill) caught_gives

  pub gives_right : Gives s kept values
  gives_right =
      record {
        asked = ask_gives;
        asked_stored = ask_stores;
        kept = λ i low fig.
            (ap (λ g. g.number) (keep_performed s kept lent i low fig), keep_stores i low fig i low fig (keep_kind i low fig));
        kept_stored = keep_stores;
        shown = board_shows;
        shown_stored = board_stores;
      }
