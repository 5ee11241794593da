-- Telling a child, from what the code's calls ensure. Assumes nothing.
use Prim.Native.Nat.{ℕ, ◌<◌}
use native.Mathlib.Omega.{arith}
use mathlib.Core.Path.{◌≡◌, refl, sym, ap, subst, ◌∙◌}
use mathlib.Core.Bool.{Bool, true, false}
use mathlib.Core.List.{List}
use Rattle.circuit.specs.Value.{Value, well_formed}
use Rattle.circuit.specs.Sheet.{Sheet, Spread, defer, renew, size, item_at, is_figure, spread_of}
use Rattle.circuit.specs.Table.{Table, Cell, Mark, unmarked, refresh, notice, unk, held, upd, value_in}
use Rattle.circuit.specs.Machine.{work_out, renewed, refresh_cleared, tell_stored, tell_cell}
use Rattle.circuit.specs.Ascending.{tell_child_by}
use Rattle.layout.specs.Opened.{sheet_of}
use Rattle.item.specs.Item.{spread_meaning}
use Rattle.item.proofs.Located.{sheet_ordered}
use Rattle.table.specs.Rows.{set_row}
use Rattle.table.specs.Record.{width, encode_cell}
use Rattle.table.specs.Bytes.{decode_table}
use Rattle.table.specs.Meaning.{mark_meaning, cell_meaning}
use Rattle.table.specs.declared.Cell.TheVariants.{Unk, Held}
use Rattle.table.proofs.Tables.{figure_may, decode_set_row, set_row_form, set_row-owed, owed_kept_refl, holdable_well_formed}
use Rattle.value.specs.Meaning.{meaning}
use Rattle.memo.specs.Memo.{Pass, Right, NoneFrom}
use Rattle.looking.specs.Pass.{Lent}
use Rattle.telling.specs.Telling.{Moves, told_by}
use Rattle.telling.specs.declared.Told.{Told}
use Rattle.telling.specs.declared.Told.TheVariants.{Refreshes, Renews}
use Rattle.looking.proofs.Looking.{lent_holdable, lent_fits}
use Rattle.telling.proofs.Renewing.{memo_store}

-- what each answer of `told_by` means for the machine's telling
tell_refreshes : (sp : Spread) (m : Mark) (S : Sheet) (T : Table) (c : ℕ) (v : Value) → told_by sp m ≡ Refreshes → tell_stored sp S T c v m ≡ upd T c (held v refresh)
tell_refreshes defer unmarked S T c v e = refl
tell_refreshes defer refresh S T c v e = refl
tell_refreshes defer notice S T c v e = let bad : ◌≡◌ {A = ℕ} 0 1 = cc in absurd (omega arith)
tell_refreshes renew m S T c v e = let bad : ◌≡◌ {A = ℕ} 0 1 = cc in absurd (omega arith)

tell_renews : (sp : Spread) (m : Mark) (S : Sheet) (T : Table) (c : ℕ) (v : Value) → told_by sp m ≡ Renews → tell_stored sp S T c v m ≡ renewed c v (refresh_cleared m) (work_out S T c)
tell_renews defer unmarked S T c v e = let bad : ◌≡◌ {A = ℕ} 0 1 = cc in absurd (omega arith)
tell_renews defer refresh S T c v e = let bad : ◌≡◌ {A = ℕ} 0 1 = cc in absurd (omega arith)
tell_renews defer notice S T c v e = refl
tell_renews renew m S T c v e = refl

module _ {s t : List ℕ} {memo : Pass} {c : ℕ} (lent : Lent s t) (right : Right (sheet_of s) (decode_table t) memo) (none_from : NoneFrom c memo)
    (low : c < size (sheet_of s)) (figured : is_figure (item_at (sheet_of s) c) ≡ true) (called : Bool) where
  -- a cell that the figure may hold is stored
  cell_moves : (x : Cell) → well_formed (value_in x) ≡ true → (t₂ : List ℕ) → t₂ ≡ set_row width t c (encode_cell x)
      → Moves s t memo.generation c (upd (decode_table t) c x) t₂ memo
  cell_moves x formed t₂ e =
      record {
        table_is = ap decode_table e ∙ decode_set_row t c x (lent_fits lent c low) formed;
        owed_kept = rw e (set_row-owed t c x);
        formed = rw e (set_row_form (sheet_of s) t c x lent.length_is lent.formed low (figure_may (item_at (sheet_of s) c) x figured formed));
        generation_is = refl;
        right = memo_store (sheet_of s) (sheet_ordered s) (decode_table t) c x memo none_from right;
        fresh = none_from;
      }

  module _ (cell : Rattle.table.specs.declared.Cell.Cell) (reads : cell_meaning cell ≡ decode_table t c) where
    unk_told : (noticed : Bool) → cell ≡ Unk noticed → (b : Bool) → called ≡ b
        → tell_cell b (sheet_of s) (decode_table t) c (unk noticed) ≡ tell_child_by called (sheet_of s) (decode_table t) c
    unfolding tell_child_by
    unk_told noticed e b called_is =
        ap (λ x. tell_cell x (sheet_of s) (decode_table t) c (unk noticed)) (sym called_is)
        ∙ ap (tell_cell called (sheet_of s) (decode_table t) c) (sym (sym reads ∙ ap cell_meaning e))

    -- an UNK child that is called on, and one that is passed over
    pub told_unk : (noticed : Bool) → cell ≡ Unk noticed → called ≡ true → (t₂ : List ℕ) → t₂ ≡ set_row width t c (encode_cell (unk true))
        → Moves s t memo.generation c (tell_child_by called (sheet_of s) (decode_table t) c) t₂ memo
    told_unk noticed e called_is t₂ stored =
        subst (λ U. Moves s t memo.generation c U t₂ memo) (unk_told noticed e true called_is) (cell_moves (unk true) refl t₂ stored)

    pub told_passed : (noticed : Bool) → cell ≡ Unk noticed → called ≡ false
        → Moves s t memo.generation c (tell_child_by called (sheet_of s) (decode_table t) c) t memo
    told_passed noticed e called_is =
        subst (λ U. Moves s t memo.generation c U t memo) (unk_told noticed e false called_is)
        (record { table_is = refl; owed_kept = owed_kept_refl t; formed = lent.formed; generation_is = refl; right = right; fresh = none_from })

    module _ (v : Rattle.value.specs.declared.Value.Value) (m : Rattle.table.specs.declared.Mark.Mark) (is : cell ≡ Held v m) where
      holds_v : decode_table t c ≡ held (meaning v) (mark_meaning m)
      holds_v = sym reads ∙ ap cell_meaning is

      v_formed : well_formed (meaning v) ≡ true
      v_formed = subst (λ x. well_formed (value_in x) ≡ true) holds_v (holdable_well_formed (sheet_of s) (decode_table t) (lent_holdable lent) c low)

      module _ (sp : Rattle.item.specs.declared.Spread.Spread) (spreads : spread_meaning sp ≡ spread_of (item_at (sheet_of s) c))
          (told : Told) (tells : told ≡ told_by (spread_meaning sp) (mark_meaning m)) where
        child_told : tell_child_by called (sheet_of s) (decode_table t) c ≡ tell_stored (spread_meaning sp) (sheet_of s) (decode_table t) c (meaning v) (mark_meaning m)
        unfolding tell_child_by
        child_told =
            ap (tell_cell called (sheet_of s) (decode_table t) c) holds_v
            ∙ ap (λ x. tell_stored x (sheet_of s) (decode_table t) c (meaning v) (mark_meaning m)) (sym spreads)

        pub told_refreshes : told ≡ Refreshes → (t₂ : List ℕ) → t₂ ≡ set_row width t c (encode_cell (held (meaning v) refresh))
            → Moves s t memo.generation c (tell_child_by called (sheet_of s) (decode_table t) c) t₂ memo
        told_refreshes e t₂ stored =
            subst (λ U. Moves s t memo.generation c U t₂ memo)
            (sym (child_told ∙ tell_refreshes (spread_meaning sp) (mark_meaning m) (sheet_of s) (decode_table t) c (meaning v) (sym tells ∙ e)))
            (cell_moves (held (meaning v) refresh) v_formed t₂ stored)

        pub told_renews : told ≡ Renews → (k : Mark) → k ≡ refresh_cleared (mark_meaning m) → (t₂ : List ℕ) (memo₂ : Pass)
            → Moves s t memo.generation c (renewed c (meaning v) k (work_out (sheet_of s) (decode_table t) c)) t₂ memo₂
            → Moves s t memo.generation c (tell_child_by called (sheet_of s) (decode_table t) c) t₂ memo₂
        told_renews e k cleared t₂ memo₂ moves =
            subst (λ U. Moves s t memo.generation c U t₂ memo₂)
            (ap (λ x. renewed c (meaning v) x (work_out (sheet_of s) (decode_table t) c)) cleared
            ∙ sym (child_told ∙ tell_renews (spread_meaning sp) (mark_meaning m) (sheet_of s) (decode_table t) c (meaning v) (sym tells ∙ e)))
            moves
