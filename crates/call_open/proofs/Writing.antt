-- Opening: the table is written record by record. Assumes nothing.
use Prim.Native.Nat.{ℕ, ◌+◌, ◌*◌, ◌≤◌, ◌<◌}
use native.Mathlib.Omega.{arith}
use mathlib.Core.Path.{◌≡◌, refl, sym, ap, ap₂, ◌∙◌}
use mathlib.Core.Bool.{Bool, true, false}
use mathlib.Core.List.{List}
use lib.Dec.{eqb}
use lib.ListN.{length, take}
use borrow.Author.Tests.{eqb-true, eqb-false}
use Rattle.std.specs.Prelude.{Result, Ok, IsErrAnd}
use Rattle.cause.specs.Cause.{number_of}
use Rattle.cause.specs.declared.Fault.{Fault}
use Rattle.cause.proofs.Exits.{exit}
use Rattle.circuit.specs.Sheet.{Sheet, Item, entry, figure, size, item_at, is_figure}
use Rattle.circuit.specs.Call.{Opening, bare, full}
use Rattle.circuit.specs.Table.{Cell, bare_cell, opened}
use Rattle.layout.specs.Layout.{index_width}
use Rattle.layout.specs.Opened.{sheet_of, Located}
use Rattle.layout.specs.Room.{Room}
use Rattle.item.specs.Offsets.{offset_bytes}
use Rattle.item.proofs.Located.{size_room}
use Rattle.item.proofs.Offsets.{located_index}
use Rattle.table.specs.Rows.{row, set_row}
use Rattle.table.specs.Record.{width, owed_place, encode_cell}
use Rattle.table.specs.Bytes.{encode_table, decode_table, table_form}
use Rattle.table.proofs.Rows.{row-set_row-other}
use Rattle.table.proofs.Records.{length-encode_cell}
use Rattle.table.proofs.Tables.{encode_table_ext, set_row_cell, cells_form, cells_decoded}
use Rattle.office.specs.Office.{open_on, keeping}
use Rattle.office.proofs.Agreeing.{opened_holdable}
use Rattle.admission.specs.Admission.{items, refused, measured_of}
use Rattle.admission.proofs.Admission.{measured, placed, refused_open}
use Rattle.call_open.specs.Opening.{Opens, first_cell}

first_opened : (how : Opening) (S : Sheet) (k : ℕ) → first_cell how (is_figure (item_at S k)) ≡ opened how S k
first_opened full S k = refl
first_opened bare S k = go (item_at S k)
  where
    go : (it : Item) → first_cell bare (is_figure it) ≡ bare_cell it
    go entry = refl
    go (figure op kept spread ps) = refl

-- The loop's invariant: the table is as long as it was, and its first k records hold the cells of the opened table.
pub record Written (how : Opening) (s t₀ : List ℕ) (k : ℕ) (t : List ℕ) : Type 0 where
  pub length_is : length t ≡ length t₀
  pub cells : (i : ℕ) → i < k → take owed_place (row width t i) ≡ encode_cell (opened how (sheet_of s) i)

pub written_start : (how : Opening) (s t : List ℕ) → Written how s t 0 t
written_start how s t = record { length_is = refl; cells = λ i h. absurd (omega arith) }

module _ {how : Opening} {s t₀ : List ℕ} {k : ℕ} {t : List ℕ} (inv : Written how s t₀ k t) where
  pub written_next : (b : Bool) (c : Cell) → b ≡ is_figure (item_at (sheet_of s) k) → c ≡ first_cell how b
      → (t' : List ℕ) → t' ≡ set_row width t k (encode_cell c) → length t' ≡ length t → width * k + width ≤ length t → Written how s t₀ (k + 1) t'
  written_next b c figure_is cell-is t' table_is len fits = record { length_is = len ∙ inv.length_is; cells = λ i h. go i h (eqb i k) refl }
    where
      here : c ≡ opened how (sheet_of s) k
      here = cell-is ∙ ap (first_cell how) figure_is ∙ first_opened how (sheet_of s) k

      go : (i : ℕ) → i < k + 1 → (w : Bool) → eqb i k ≡ w → take owed_place (row width t' i) ≡ encode_cell (opened how (sheet_of s) i)
      go i h true e =
          let q : i ≡ k = eqb-true i k e in
          ap₂ (λ l j. take owed_place (row width l j)) table_is q ∙ set_row_cell t k c fits
          ∙ ap encode_cell here ∙ ap (λ j. encode_cell (opened how (sheet_of s) j)) (sym q)
      go i h false e =
          let q = eqb-false i k e in
          ap (λ l. take owed_place (row width l i)) table_is
          ∙ ap (take owed_place) (row-set_row-other width t k i (encode_cell c) (omega (arith, length-encode_cell c)) q) ∙ inv.cells i (omega arith)

  module _ (all : k ≡ size (sheet_of s)) where
    pub written_form : table_form (sheet_of s) t ≡ true
    written_form = cells_form (sheet_of s) t (opened how (sheet_of s)) (opened_holdable how (sheet_of s)) (λ i low. inv.cells i (omega arith))

    -- the owed bytes are settled last
    pub written_done : (t' : List ℕ) → t' ≡ encode_table (sheet_of s) (decode_table t) → t' ≡ encode_table (sheet_of s) (opened how (sheet_of s))
    written_done t' e =
        e
        ∙ encode_table_ext (sheet_of s) (decode_table t) (opened how (sheet_of s))
        (λ i low. cells_decoded (sheet_of s) t (opened how (sheet_of s)) (opened_holdable how (sheet_of s)) i low (inv.cells i (omega arith)))

-- what an opening has to write on, once the sheet and the lengths are tested
pub record Measured (s x t offsets levels : List ℕ) (n : ℕ) : Type 0 where
  pub within : n ≤ length offsets
  pub exact : n ≡ length (take n offsets)
  pub located : Located s (take n offsets)
  pub counted : length (take n offsets) ≡ size (sheet_of s)
  pub index_length : length x ≡ index_width * length (take n offsets)
  pub table_length : length t ≡ width * size (sheet_of s)
  pub owed_room : size (sheet_of s) ≤ length levels

pub measures : {s x t offsets levels : List ℕ} {n : ℕ} (offsets₀ levels₀ : List ℕ) → items n ≡ measured_of s (length x) (length t) → Room s offsets₀ levels₀
    → length offsets ≡ length offsets₀ → length levels ≡ length levels₀ → Located s offsets → Measured s x t offsets levels n
measures {s} {x} {t} {offsets} {levels} {n} offsets₀ levels₀ e room o l located =
    let g = measured s x t n e in
    let p = placed s offsets n g.count_is (omega (arith, room.0)) located in
    record {
      within = p.within;
      exact = g.count_is ∙ sym p.counted;
      located = p.located;
      counted = p.counted;
      index_length = g.index_length ∙ ap (λ k. index_width * k) (g.count_is ∙ sym p.counted);
      table_length = g.table_length_lem ∙ ap (λ k. width * k) g.count_is;
      owed_room = omega (arith, size_room s, room.1);
    }

module _ (how : Opening) (s x t : List ℕ) where
  pub opened_refused : {A : Type 0} {r : Result A Fault} (f : Fault) → IsErrAnd r (λ y. y ≡ f) → refused (number_of f.cause) f.offset ≡ measured_of s (length x) (length t)
      → Opens (open_on how s (keeping x t)) r x t
  opened_refused f is e =
      rw (exit is, refused_open how s x t (number_of f.cause) f.offset e) (record { number_is = refl; offset_is = refl; index_is = refl; table_is = refl })

  pub opened_written : {A : Type 0} (a : A) (x' t' offsets : List ℕ) (n : ℕ) → items n ≡ measured_of s (length x) (length t) → Located s offsets
      → x' ≡ offset_bytes (take n offsets) → t' ≡ encode_table (sheet_of s) (opened how (sheet_of s)) → Opens (open_on how s (keeping x t)) (Ok a) x' t'
  opened_written a x' t' offsets n e located xi ti =
      let g = measured s x t n e in
      rw (g.opening how) (record {
        number_is = refl;
        offset_is = refl;
        index_is = xi ∙ ap (λ k. offset_bytes (take k offsets)) g.items_count ∙ located_index s offsets located;
        table_is = ti;
      })
