-- The work table in bytes: encoding and decoding are inverse on the tables in form with true owed bytes, and storing a record is storing a
-- cell. Assumes nothing.
use Prim.Native.Nat.{ℕ, ◌+◌, ◌*◌, ◌≤◌, ◌<◌}
use mathlib.Core.Path.{◌≡◌, refl, sym, ap, ◌∙◌, fun_ext}
use mathlib.Core.Bool.{Bool, true, false, cond, not, ◌&&◌}
use mathlib.Core.List.{List, [], ◌∷◌, ◌++◌}
use native.Mathlib.Omega.{arith}
use lib.Dec.{eqb, ltb}
use borrow.Author.Tests.{eqb-true, eqb-false, eq-eqb, ltb-true, ltb-false, not-true}
use lib.ListN.{length, get_or, take, drop, length-append}
use lib.Seq.{take_at, take-suc, take_all, get_or_at}
use Rattle.field.specs.Bytes.{Bytes}
use Rattle.field.proofs.Bytes.{Bytes-nil, Bytes-cons, Bytes-append}
use Rattle.word.proofs.Bytes.{bytes_take, bytes_drop}
use Rattle.circuit.proofs.RuleLaws.{and_left, and_right}
use Rattle.circuit.specs.Value.{null, well_formed, is_out}
use Rattle.circuit.specs.Sheet.{Sheet, Item, entry, figure, size, item_at, is_figure, Ordered}
use Rattle.circuit.specs.Table.{Table, Cell, held, unmarked, upd, is_stored, value_in, entry_form, cell_form, open_bare, open_full, bare_cell}
use Rattle.circuit.specs.Owed.{owed}
use Rattle.circuit.specs.Words.{Formed}
use Rattle.circuit.proofs.Fill.{upd_cases}
use Rattle.circuit.proofs.Owed.{owed_ext, owed_stored}
use Rattle.table.specs.Rows.{row, set_row}
use Rattle.table.specs.Record.{width, owed_place, kind_in, mark_in, number_in, owed_in, owed_code, encode_cell, decode_cell, record_form, may_hold}
use Rattle.table.specs.Bytes.{table_length, encode_record, encode_table, decode_table, record_in_form, table_form, owed_true_at, owed_true, OwedKept, Holdable}
use Rattle.table.proofs.Rows.{row_before, length_row, get_d_row, rows_ext, length_rows, row_rows, rows_row, bytes_rows, length-set_row, row_front, row-set_row-other}
use Rattle.table.proofs.Rows.{get_d_sets_below, get_d_sets_above, below_true, true_below}
use Rattle.table.proofs.Records.{decode_encode, encode_decode, kind_by, mark_by, number_by, decode_front, form_front, length-encode_cell, bytes-encode_cell}
use Rattle.table.proofs.Records.{decoded_holds, encoded_form, holds-well_formed}

-- ---- lengths and bytes

length-encode_record : (S : Sheet) (T : Table) (i : ℕ) → length (encode_record S T i) ≡ width
length-encode_record S T i = length-append (encode_cell (T i)) (owed_code (owed S T i) ∷ []) ∙ ap (λ n. n + 1) (length-encode_cell (T i))

pub length-encode_table : (S : Sheet) (T : Table) → length (encode_table S T) ≡ table_length S
unfolding encode_table
length-encode_table S T = length_rows width (encode_record S T) (size S) (λ i h. length-encode_record S T i)

pub bytes-encode_table : (S : Sheet) (T : Table) → Bytes (encode_table S T)
unfolding encode_table
bytes-encode_table S T =
    bytes_rows (encode_record S T) (size S) (λ i. Bytes-append (encode_cell (T i)) (owed_code (owed S T i) ∷ []) (bytes-encode_cell (T i)) (owed_byte (owed S T i)))
  where
    owed_byte : (b : Bool) → Bytes (owed_code b ∷ [])
    owed_byte false = Bytes-cons 0 [] (omega arith) Bytes-nil
    owed_byte true = Bytes-cons 1 [] (omega arith) Bytes-nil

-- item i has its record in a table of the right length
pub record_fits : (S : Sheet) (bs : List ℕ) (i : ℕ) → length bs ≡ table_length S → i < size S → width * i + width ≤ length bs
record_fits S bs i e h = rw e (row_before width h)

bytes_row : (bs : List ℕ) (i : ℕ) → Bytes bs → Bytes (row width bs i)
bytes_row bs i bytes = bytes_take width (drop (width * i) bs) (bytes_drop (width * i) bs bytes)

-- ---- encoding and decoding

encoded_record : (S : Sheet) (T : Table) (i : ℕ) → i < size S → row width (encode_table S T) i ≡ encode_record S T i
unfolding encode_table
encoded_record S T i h = row_rows width (encode_record S T) (size S) (λ j hj. length-encode_record S T j) i h

-- the cell in it, and the owed byte
pub encoded_cell : (S : Sheet) (T : Table) (i : ℕ) → i < size S → take owed_place (row width (encode_table S T) i) ≡ encode_cell (T i)
encoded_cell S T i h =
    ap (take owed_place) (encoded_record S T i h) ∙ take_at (encode_cell (T i)) (owed_code (owed S T i) ∷ []) owed_place (length-encode_cell (T i))

pub encoded_kind : (S : Sheet) (T : Table) (i : ℕ) → i < size S → kind_in (row width (encode_table S T) i) ≡ kind_in (encode_cell (T i))
encoded_kind S T i h = kind_by (row width (encode_table S T) i) (encoded_cell S T i h)

pub encoded_mark : (S : Sheet) (T : Table) (i : ℕ) → i < size S → mark_in (row width (encode_table S T) i) ≡ mark_in (encode_cell (T i))
encoded_mark S T i h = mark_by (row width (encode_table S T) i) (encoded_cell S T i h)

pub encoded_number : (S : Sheet) (T : Table) (i : ℕ) → i < size S → number_in (row width (encode_table S T) i) ≡ number_in (encode_cell (T i))
encoded_number S T i h = number_by (row width (encode_table S T) i) (encoded_cell S T i h)

pub encoded_owed : (S : Sheet) (T : Table) (i : ℕ) → i < size S → owed_in (row width (encode_table S T) i) ≡ owed_code (owed S T i)
encoded_owed S T i h =
    ap owed_in (encoded_record S T i h) ∙ get_or_at (encode_cell (T i)) (owed_code (owed S T i)) [] 0 owed_place (length-encode_cell (T i))

pub decode_encode_table : (S : Sheet) (T : Table) (i : ℕ) → i < size S → well_formed (value_in (T i)) ≡ true → decode_table (encode_table S T) i ≡ T i
decode_encode_table S T i h w =
    sym (decode_front (row width (encode_table S T) i)) ∙ ap decode_cell (encoded_cell S T i h) ∙ decode_encode (T i) w

-- the bytes of a table in form, whose owed bytes are those of T, which it decodes to
pub encoded_as : (S : Sheet) (bs : List ℕ) → Bytes bs → length bs ≡ table_length S → table_form S bs ≡ true
    → ((i : ℕ) → i < size S → owed_in (row width bs i) ≡ owed_code (owed S (decode_table bs) i)) → encode_table S (decode_table bs) ≡ bs
unfolding encode_table table_form
encoded_as S bs bytes e t owes = rows_ext (size S) same ∙ rows_row width bs (size S) e
  where
    same : (i : ℕ) → i < size S → encode_record S (decode_table bs) i ≡ row width bs i
    same i h =
        let r : List ℕ = row width bs i in
        let long : length r ≡ width = length_row width bs i (record_fits S bs i e h) in
        rw (encode_decode (is_figure (item_at S i)) r (bytes_row bs i bytes) long (below_true (record_in_form S bs) (size S) t i h), ← owes i h)
        (sym (take-suc r owed_place 0 (omega arith)) ∙ take_all width r (omega arith))

pub encode_decode_table : (S : Sheet) (bs : List ℕ) → Bytes bs → length bs ≡ table_length S → table_form S bs ≡ true → owed_true S bs ≡ true
    → encode_table S (decode_table bs) ≡ bs
unfolding owed_true
encode_decode_table S bs bytes e t o =
    encoded_as S bs bytes e t (λ i h. eqb-true _ _ (below_true (owed_true_at S bs) (size S) o i h))

-- the same where the owed bytes were true, and neither they nor what is owed have changed
pub encoded_kept : (S : Sheet) (t bs : List ℕ) → owed_true S t ≡ true → OwedKept t bs → ((i : ℕ) → owed S (decode_table bs) i ≡ owed S (decode_table t) i)
    → Bytes bs → length bs ≡ table_length S → table_form S bs ≡ true → encode_table S (decode_table bs) ≡ bs
unfolding owed_true
encoded_kept S t bs o kept same bytes e f =
    encoded_as S bs bytes e f (λ i h. kept i ∙ eqb-true _ _ (below_true (owed_true_at S t) (size S) o i h) ∙ ap owed_code (sym (same i)))

-- two tables that agree on the sheet's items are the same bytes
pub encode_table_ext : (S : Sheet) (T U : Table) → ((i : ℕ) → i < size S → T i ≡ U i) → encode_table S T ≡ encode_table S U
unfolding encode_table
encode_table_ext S T U e = rows_ext (size S) (λ i h. rw (e i h, owed_ext S T U e i))

-- ---- the form

-- a table in form holds what its items may hold
pub decoded_holdable : (S : Sheet) (bs : List ℕ) → table_form S bs ≡ true → Holdable S (decode_table bs)
unfolding table_form
decoded_holdable S bs t i h =
    decoded_holds (is_figure (item_at S i)) (row width bs i) (below_true (record_in_form S bs) (size S) t i h)

-- records whose first bytes are those of cells that may be held are in form, and decode to them
pub cells_form : (S : Sheet) (bs : List ℕ) (T : Table) → Holdable S T → ((i : ℕ) → i < size S → take owed_place (row width bs i) ≡ encode_cell (T i)) → table_form S bs ≡ true
unfolding table_form
cells_form S bs T holds cells = true_below (record_in_form S bs) (size S) each
  where
    each : (i : ℕ) → i < size S → record_in_form S bs i ≡ true
    each i h =
        sym (form_front (row width bs i) (is_figure (item_at S i))) ∙ ap (record_form (is_figure (item_at S i))) (cells i h)
        ∙ encoded_form (is_figure (item_at S i)) (T i) (holds i h)

pub cells_decoded : (S : Sheet) (bs : List ℕ) (T : Table) → Holdable S T → (i : ℕ) → i < size S → take owed_place (row width bs i) ≡ encode_cell (T i) → decode_table bs i ≡ T i
cells_decoded S bs T holds i h e =
    sym (decode_front (row width bs i)) ∙ ap decode_cell e ∙ decode_encode (T i) (holds-well_formed (is_figure (item_at S i)) (T i) (holds i h))

-- and such a table is in form
pub encoded_table_form : (S : Sheet) (T : Table) → Holdable S T → table_form S (encode_table S T) ≡ true
encoded_table_form S T holds = cells_form S (encode_table S T) T holds (encoded_cell S T)

-- with true owed bytes
pub encoded_owed_true : (S : Sheet) (T : Table) → Holdable S T → owed_true S (encode_table S T) ≡ true
unfolding owed_true
encoded_owed_true S T holds = true_below (owed_true_at S (encode_table S T)) (size S) each
  where
    each : (i : ℕ) → i < size S → owed_true_at S (encode_table S T) i ≡ true
    each i h =
        eq-eqb _ _
        (encoded_owed S T i h
        ∙ ap owed_code (sym (owed_ext S (decode_table (encode_table S T)) T (λ j l. decode_encode_table S T j l (holds-well_formed (is_figure (item_at S j)) (T j) (holds j l))) i)))

entry_formed : (it : Item) (c : Cell) → may_hold (is_figure it) c ≡ true → cell_form it c ≡ true
entry_formed entry c t =
    and_left (entry_form c) (not (is_out (value_in c))) (and_left (entry_form c && not (is_out (value_in c))) (well_formed (value_in c)) t)
entry_formed (figure op keep spread ps) c t = refl

pub holdable_formed : (S : Sheet) (T : Table) → Holdable S T → Formed S T
holdable_formed S T holds i h = entry_formed (item_at S i) (T i) (holds i h)

pub holdable_well_formed : (S : Sheet) (T : Table) → Holdable S T → (i : ℕ) → i < size S → well_formed (value_in (T i)) ≡ true
holdable_well_formed S T holds i h = holds-well_formed (is_figure (item_at S i)) (T i) (holds i h)

not_out : (it : Item) (c : Cell) → may_hold (is_figure it) c ≡ true → is_figure it ≡ false → is_out (value_in c) ≡ false
not_out entry c t f =
    not-true (is_out (value_in c)) (and_right (entry_form c) (not (is_out (value_in c))) (and_left (entry_form c && not (is_out (value_in c))) (well_formed (value_in c)) t))
not_out (figure op keep spread ps) c t f = let z : ◌≡◌ {A = ℕ} 0 1 = cc in absurd (omega arith)

-- the cells that an item may hold, in the machine's words
pub may : (it : Item) (c : Cell) → cell_form it c ≡ true → well_formed (value_in c) ≡ true → (is_figure it ≡ false → is_out (value_in c) ≡ false) → may_hold (is_figure it) c ≡ true
may entry c f w o = rw (f, o refl, w)
may (figure op keep spread ps) c f w o = w

-- a figure may hold every cell whose number is within the range
pub figure_may : (it : Item) (c : Cell) → is_figure it ≡ true → well_formed (value_in c) ≡ true → may_hold (is_figure it) c ≡ true
figure_may it c f w = rw f w

-- ---- storing

-- a cell stored in its record, which keeps its owed byte
pub set_row_cell : (bs : List ℕ) (i : ℕ) (c : Cell) → width * i + width ≤ length bs → take owed_place (row width (set_row width bs i (encode_cell c)) i) ≡ encode_cell c
set_row_cell bs i c fits =
    ap (λ n. take n (row width (set_row width bs i (encode_cell c)) i)) (sym (length-encode_cell c))
    ∙ row_front width bs i (encode_cell c) fits (omega (arith, length-encode_cell c))

pub set_row-owed : (bs : List ℕ) (i : ℕ) (c : Cell) → OwedKept bs (set_row width bs i (encode_cell c))
set_row-owed bs i c j =
    get_d_row width (set_row width bs i (encode_cell c)) j owed_place (omega arith) ∙ go (ltb i j) refl ∙ sym (get_d_row width bs j owed_place (omega arith))
  where
    go : (b : Bool) → ltb i j ≡ b → get_or (set_row width bs i (encode_cell c)) (width * j + owed_place) 0 ≡ get_or bs (width * j + owed_place) 0
    go true t = get_d_sets_above (encode_cell c) bs (width * i) (width * j + owed_place) (omega (arith, length-encode_cell c, ltb-true i j t))
    go false t = which (eqb j i) refl
      where
        le : j ≤ i
        le = ltb-false i j t

        which : (b : Bool) → eqb j i ≡ b → get_or (set_row width bs i (encode_cell c)) (width * j + owed_place) 0 ≡ get_or bs (width * j + owed_place) 0
        which true e = get_d_sets_above (encode_cell c) bs (width * i) (width * j + owed_place) (omega (arith, length-encode_cell c, eqb-true j i e))
        which false e =
            let other : j ≡ i → ⊥ = eqb-false j i e in
            get_d_sets_below (encode_cell c) bs (width * i) (width * j + owed_place) (omega (arith, le, other))

pub owed_kept_refl : (t : List ℕ) → OwedKept t t
owed_kept_refl t k = refl

pub owed_kept_then : (t t₁ t₂ : List ℕ) → OwedKept t t₁ → OwedKept t₁ t₂ → OwedKept t t₂
owed_kept_then t t₁ t₂ first second k = second k ∙ first k

set_row-record : (bs : List ℕ) (i : ℕ) (c : Cell) → width * i + width ≤ length bs
    → row width (set_row width bs i (encode_cell c)) i ≡ encode_cell c ++ owed_in (row width bs i) ∷ []
set_row-record bs i c fits =
    let r : List ℕ = row width (set_row width bs i (encode_cell c)) i in
    let long : length r ≡ width = length_row width (set_row width bs i (encode_cell c)) i (rw (length-set_row width bs i (encode_cell c)) fits) in
    sym (take_all width r (omega arith)) ∙ take-suc r owed_place 0 (omega arith) ∙ rw (set_row_cell bs i c fits, set_row-owed bs i c i)

-- A store that leaves stored what was, and UNK what was, changes no owed byte.
pub encode_upd : (S : Sheet) → Ordered S → (T : Table) (i : ℕ) (c : Cell) → i < size S → is_stored c ≡ is_stored (T i)
    → encode_table S (upd T i c) ≡ set_row width (encode_table S T) i (encode_cell c)
unfolding encode_table
encode_upd S ordered T i c h stored =
    rows_ext (size S) same ∙ rows_row width (set_row width (encode_table S T) i (encode_cell c)) (size S) (length-set_row width (encode_table S T) i (encode_cell c) ∙ length-encode_table S T)
  where
    owes : (j : ℕ) → owed S (upd T i c) j ≡ owed S T j
    owes = owed_stored S ordered (upd T i c) T (upd_cases (λ j x. is_stored x ≡ is_stored (T j)) T i c stored (λ j n. refl))

    same : (j : ℕ) → j < size S → encode_record S (upd T i c) j ≡ row width (set_row width (encode_table S T) i (encode_cell c)) j
    same j hj = rw (owes j) (go (eqb j i) refl)
      where
        bs : List ℕ
        bs = encode_table S T

        go : (b : Bool) → eqb j i ≡ b → encode_cell (cond b c (T j)) ++ owed_code (owed S T j) ∷ [] ≡ row width (set_row width bs i (encode_cell c)) j
        go true t =
            let here : j ≡ i = eqb-true j i t in
            rw here (sym (set_row-record bs i c (record_fits S bs i (length-encode_table S T) h) ∙ ap (λ o. encode_cell c ++ o ∷ []) (encoded_owed S T i h)))
        go false t =
            sym (row-set_row-other width bs i j (encode_cell c) (omega (arith, length-encode_cell c)) (eqb-false j i t) ∙ encoded_record S T j hj)

pub decode_set_row : (bs : List ℕ) (i : ℕ) (c : Cell) → width * i + width ≤ length bs → well_formed (value_in c) ≡ true
    → decode_table (set_row width bs i (encode_cell c)) ≡ upd (decode_table bs) i c
decode_set_row bs i c fits w = fun_ext each
  where
    each : (j : ℕ) → decode_table (set_row width bs i (encode_cell c)) j ≡ upd (decode_table bs) i c j
    each j = go (eqb j i) refl
      where
        go : (b : Bool) → eqb j i ≡ b → decode_table (set_row width bs i (encode_cell c)) j ≡ cond b c (decode_table bs j)
        go true t =
            rw (eqb-true j i t)
            (sym (decode_front (row width (set_row width bs i (encode_cell c)) i)) ∙ ap decode_cell (set_row_cell bs i c fits) ∙ decode_encode c w)
        go false t = rw (row-set_row-other width bs i j (encode_cell c) (omega (arith, length-encode_cell c)) (eqb-false j i t))

-- a stored cell that the item may hold keeps the form
pub set_row_form : (S : Sheet) (bs : List ℕ) (i : ℕ) (c : Cell) → length bs ≡ table_length S → table_form S bs ≡ true → i < size S
    → may_hold (is_figure (item_at S i)) c ≡ true → table_form S (set_row width bs i (encode_cell c)) ≡ true
unfolding table_form
set_row_form S bs i c e t h holds = true_below (record_in_form S (set_row width bs i (encode_cell c))) (size S) each
  where
    each : (j : ℕ) → j < size S → record_in_form S (set_row width bs i (encode_cell c)) j ≡ true
    each j hj = go (eqb j i) refl
      where
        go : (b : Bool) → eqb j i ≡ b → record_in_form S (set_row width bs i (encode_cell c)) j ≡ true
        go true u =
            rw (eqb-true j i u)
            (sym (form_front (row width (set_row width bs i (encode_cell c)) i) (is_figure (item_at S i)))
            ∙ ap (record_form (is_figure (item_at S i))) (set_row_cell bs i c (record_fits S bs i e h)) ∙ encoded_form (is_figure (item_at S i)) c holds)
        go false u =
            rw (row-set_row-other width bs i j (encode_cell c) (omega (arith, length-encode_cell c)) (eqb-false j i u)) (below_true (record_in_form S bs) (size S) t j hj)

-- ---- the openings

bare_may : (it : Item) → may_hold (is_figure it) (bare_cell it) ≡ true
bare_may entry = refl
bare_may (figure op keep spread ps) = refl

pub bare_holdable : (S : Sheet) → Holdable S (open_bare S)
bare_holdable S i h = bare_may (item_at S i)

full_may : (b : Bool) → may_hold b (held null unmarked) ≡ true
full_may true = refl
full_may false = refl

pub full_holdable : (S : Sheet) → Holdable S (open_full S)
full_holdable S i h = full_may (is_figure (item_at S i))
