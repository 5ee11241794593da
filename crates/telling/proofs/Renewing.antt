-- Working a figure out anew and storing the result: the memo stays right, as nothing at or above the figure is remembered.
-- Assumes nothing.
use Prim.Native.Nat.{ℕ, ◌*◌, ◌/◌, ◌<◌, ◌≤◌}
use native.Mathlib.Omega.{arith}
use mathlib.Core.Path.{◌≡◌, refl, sym, ap, subst, ◌∙◌}
use mathlib.Core.Bool.{Bool, true, false, cond}
use mathlib.Core.List.{List}
use mathlib.Core.Option.{none, some}
use lib.Dec.{ltb}
use lib.ListN.{length}
use borrow.Author.Tests.{ltb-true, ltb-false, ne_eqb}
use Rattle.circuit.specs.Value.{Value, same, well_formed}
use Rattle.circuit.specs.Sheet.{Sheet, item_at, Ordered}
use Rattle.circuit.specs.Table.{Table, Cell, Mark, held, notice, upd, value_in}
use Rattle.circuit.specs.Machine.{work_out, renewed}
use Rattle.circuit.proofs.Memo.{remember_store}
use Rattle.layout.specs.Opened.{sheet_of}
use Rattle.item.proofs.Located.{sheet_ordered}
use Rattle.table.specs.Rows.{set_row}
use Rattle.table.specs.Record.{width, encode_cell}
use Rattle.table.specs.Bytes.{decode_table}
use Rattle.table.proofs.Tables.{figure_may, decode_set_row, set_row_form, set_row-owed, owed_kept_then, holdable_well_formed}
use Rattle.memo.specs.Memo.{Found, Pass, note_at, remembered, Right, NoneFrom}
use Rattle.looking.specs.Pass.{Lent, Leaves}
use Rattle.telling.specs.Telling.{Moves, Renewable}
use Rattle.looking.proofs.Looking.{lent_holdable, lent_fits}

-- an item whose note is of another generation is not remembered
forgotten : (m : Pass) (j : ℕ) → ((note_at m j).tag / 8 ≡ m.generation → ⊥) → remembered m j ≡ none
unfolding remembered
forgotten m j h = rw (ne_eqb ((note_at m j).tag / 8) m.generation h)

-- what is remembered is below b where nothing is remembered from b on
pub remembered_below : (m : Pass) (b j : ℕ) (f : Found) → NoneFrom b m → remembered m j ≡ some f → j < b
remembered_below m b j f none_from e = go (ltb j b) refl
  where
    go : (x : Bool) → ltb j b ≡ x → j < b
    go true q = ltb-true j b q
    go false q =
        let old : (note_at m j).tag < 8 * m.generation = none_from j (ltb-false j b q) in
        let gone : remembered m j ≡ none = forgotten m j (λ h. omega arith) in
        let bad : ◌≡◌ {A = ℕ} 0 1 = cc in absurd (omega arith)

-- a store at c keeps a memo that remembers nothing from c on
pub memo_store : (S : Sheet) → Ordered S → (T : Table) (c : ℕ) (x : Cell) (m : Pass) → NoneFrom c m → Right S T m → Right S (upd T c x) m
memo_store S ordered T c x m none_from memo =
    record {
      room = memo.room;
      young = memo.young;
      right = λ j f e. remember_store S ordered T c x j f.value f.flag (remembered_below m c j f none_from e) (memo.right j f e);
    }

module _ {s t : List ℕ} {memo : Pass} {i : ℕ} {v : Value} (lent : Lent s t) (figured : Renewable s t i v)
    (none_from : NoneFrom i memo) (m : Mark) (w : Found) (t₁ : List ℕ) (memo₁ : Pass) (len : length t₁ ≡ length t)
    (worked : (b : ℕ) → i ≤ b → Leaves s t memo b (work_out (sheet_of s) (decode_table t) i) w t₁ memo₁) where
  here : Leaves s t memo i (work_out (sheet_of s) (decode_table t) i) w t₁ memo₁
  here = worked i (omega arith)

  value_formed : well_formed v ≡ true
  value_formed =
      subst (λ c. well_formed (value_in c) ≡ true) figured.holds
      (holdable_well_formed (sheet_of s) (decode_table t) (lent_holdable lent) i figured.low)

  -- a well-formed value is stored
  stores : (u : Value) (k : Mark) → well_formed u ≡ true → (t₂ : List ℕ) → t₂ ≡ set_row width t₁ i (encode_cell (held u k))
      → Moves s t memo.generation i (upd (work_out (sheet_of s) (decode_table t) i).table i (held u k)) t₂ memo₁
  stores u k formed t₂ e =
      record {
        table_is = ap decode_table e ∙ decode_set_row t₁ i (held u k) (omega (arith, lent_fits lent i figured.low)) formed ∙ ap (λ X. upd X i (held u k)) here.table_is;
        owed_kept = owed_kept_then t t₁ t₂ here.owed_kept (rw e (set_row-owed t₁ i (held u k)));
        formed = rw e (set_row_form (sheet_of s) t₁ i (held u k) (len ∙ lent.length_is) here.formed figured.low (figure_may (item_at (sheet_of s) i) (held u k) figured.figured formed));
        generation_is = here.generation_is;
        right = memo_store (sheet_of s) (sheet_ordered s) (work_out (sheet_of s) (decode_table t) i).table i (held u k) memo₁ (here.fresh none_from) here.right;
        fresh = here.fresh none_from;
      }

  pub renew_equal : (b : Bool) → b ≡ same v w.value → b ≡ true → (t₂ : List ℕ) → t₂ ≡ set_row width t₁ i (encode_cell (held v m))
      → Moves s t memo.generation i (renewed i v m (work_out (sheet_of s) (decode_table t) i)) t₂ memo₁
  renew_equal b is agrees t₂ e =
      subst (λ x. Moves s t memo.generation i (upd (work_out (sheet_of s) (decode_table t) i).table i (cond x (held v m) (held (work_out (sheet_of s) (decode_table t) i).value notice))) t₂ memo₁)
      (sym agrees ∙ is ∙ ap (same v) here.value_is) (stores v m value_formed t₂ e)

  pub renew_other : (b : Bool) → b ≡ same v w.value → b ≡ false → (t₂ : List ℕ) → t₂ ≡ set_row width t₁ i (encode_cell (held w.value notice))
      → Moves s t memo.generation i (renewed i v m (work_out (sheet_of s) (decode_table t) i)) t₂ memo₁
  renew_other b is not_same t₂ e =
      subst (λ x. Moves s t memo.generation i (upd (work_out (sheet_of s) (decode_table t) i).table i (cond x (held v m) (held (work_out (sheet_of s) (decode_table t) i).value notice))) t₂ memo₁)
      (sym not_same ∙ is ∙ ap (same v) here.value_is)
      (subst (λ u. Moves s t memo.generation i (upd (work_out (sheet_of s) (decode_table t) i).table i (held u notice)) t₂ memo₁) here.value_is
      (stores w.value notice here.value_formed t₂ e))
