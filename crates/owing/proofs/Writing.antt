-- Owed bytes of a table tested, copied, and written from an array. Where the array says which items are owed, the bytes that are written
-- are those of the table's encoding. Assumes nothing.
use Prim.Native.Nat.{ℕ, zero, suc, ◌+◌, ◌*◌, ◌<◌, ◌≤◌}
use native.Mathlib.Omega.{arith}
use mathlib.Core.Path.{◌≡◌, refl, sym, ap, subst, ◌∙◌, fun_ext}
use mathlib.Core.Bool.{Bool, true, false}
use mathlib.Core.List.{List}
use lib.Dec.{eqb}
use lib.ListN.{length, get_or, set, take, length-set, length-take, length-drop}
use lib.Seq.{get_or-set_same, get_or-set_other, get_or-take, ext_get_or}
use borrow.Author.Tests.{eqb-true, eqb-false}
use Rattle.field.specs.Bytes.{Bytes}
use Rattle.circuit.specs.Sheet.{Sheet, size, item_at, is_figure}
use Rattle.circuit.specs.Owed.{owed}
use Rattle.table.specs.Rows.{row, all_below}
use Rattle.table.specs.Record.{width, owed_place, owed_in, owed_code, decode_cell, record_form}
use Rattle.table.specs.Bytes.{encode_table, decode_table, record_in_form, table_form, owed_true_at, owed_true}
use Rattle.table.proofs.Rows.{get_d_row, below_same, below_true, true_below}
use Rattle.table.proofs.Records.{decode_front, form_front}
use Rattle.table.proofs.Tables.{encoded_as}
use Rattle.owing.specs.Owing.{OwedIs, owe_rows}
use Rattle.std.specs.Bool.{MatchBool}
use Rattle.std.specs.List.{AllWithin, HoldsAt, range_with_len}
use Rattle.std.proofs.lemmas.List.FromFn.{length-range_with_len, get_or-range_with_len}

-- ---- reading owed bytes

-- the owed byte of item i is that of the array
abbrev pub matches : List ℕ → List ℕ → ℕ → Bool
matches t bytes i = eqb (owed_in (row width t i)) (get_or bytes i 0)

place : (n i : ℕ) → i < n → get_or (range_with_len 0 n) i 0 ≡ i
place n i h = get_or-range_with_len 0 n i 0 h ∙ omega arith

-- a search over the items for one that fails a test finds whether all pass
pub all_found : (p : ℕ → Bool) (n : ℕ) (r : Bool) → MatchBool r (AllWithin (λ i. p i ≡ true) (range_with_len 0 n) 0 (length (range_with_len 0 n)))
    ((k : ℕ) × (k < length (range_with_len 0 n)) × HoldsAt (λ i. p i ≡ false) (range_with_len 0 n) k) → r ≡ all_below p n
all_found p n true m =
    sym (true_below p n (λ i h. rw (place n i h) at (m i 0 (omega arith) (omega (arith, length-range_with_len 0 n)))))
all_found p n false m = go (all_below p n) refl
  where
    go : (b : Bool) → all_below p n ≡ b → false ≡ b
    go false e = refl
    go true e =
        let low : m.0 < n = omega (arith, m.1, length-range_with_len 0 n) in
        let fails : p m.0 ≡ false = rw (place n m.0 low) at (m.2 0) in
        sym fails ∙ below_true p n e m.0 low

pub matches_true : (S : Sheet) (t bytes : List ℕ) (n : ℕ) → n ≡ size S → OwedIs S (decode_table t) bytes → all_below (matches t bytes) n ≡ owed_true S t
unfolding owed_true
matches_true S t bytes n n_is o =
    ap (all_below (matches t bytes)) n_is ∙ below_same (matches t bytes) (owed_true_at S t) (size S) (λ i h. ap (eqb (owed_in (row width t i))) (o.byte_is i h))

-- the first i bytes of an array are the owed bytes of a table
pub record Copied (t : List ℕ) (room i : ℕ) (bytes : List ℕ) : Type 0 where
  pub kept : length bytes ≡ room
  pub copies : (j : ℕ) → j < i → get_or bytes j 0 ≡ owed_in (row width t j)

pub copied_next : (t : List ℕ) (room i : ℕ) (bytes : List ℕ) (b : ℕ) → i < room → b ≡ owed_in (row width t i) → Copied t room i bytes → Copied t room (i + 1) (set bytes i b)
copied_next t room i bytes b low is c =
    record { kept = length-set bytes i _ ∙ c.kept; copies = λ j h. go j h (eqb j i) refl }
  where
    go : (j : ℕ) → j < i + 1 → (q : Bool) → eqb j i ≡ q → get_or (set bytes i b) j 0 ≡ owed_in (row width t j)
    go j h true q = rw (eqb-true j i q) (get_or-set_same bytes i _ 0 (omega (arith, c.kept)) ∙ is)
    go j h false q =
        let other : (j ≡ i → ⊥) = eqb-false j i q in
        get_or-set_other bytes i j _ 0 other ∙ c.copies j (omega arith)

-- ---- writing them

pub rows_length : (t bytes : List ℕ) (n : ℕ) → length (owe_rows t bytes n) ≡ length t
unfolding owe_rows
rows_length t bytes zero = refl
rows_length t bytes (suc n) = length-set (owe_rows t bytes n) (width * n + owed_place) _ ∙ rows_length t bytes n

-- a byte of a cell stays
rows_keep : (t bytes : List ℕ) (n i k : ℕ) → k < owed_place → get_or (owe_rows t bytes n) (width * i + k) 0 ≡ get_or t (width * i + k) 0
unfolding owe_rows
rows_keep t bytes zero i k h = refl
rows_keep t bytes (suc n) i k h =
    get_or-set_other (owe_rows t bytes n) (width * n + owed_place) (width * i + k) _ 0 (λ e. omega arith) ∙ rows_keep t bytes n i k h

-- an owed byte is the array's
rows_put : (t bytes : List ℕ) (n i : ℕ) → width * n ≤ length t → i < n → get_or (owe_rows t bytes n) (width * i + owed_place) 0 ≡ get_or bytes i 0
unfolding owe_rows
rows_put t bytes zero i fits h = absurd (omega arith)
rows_put t bytes (suc n) i fits h = go (eqb i n) refl (λ low. rows_put t bytes n i (omega arith) low)
  where
    before : List ℕ
    before = owe_rows t bytes n

    go : (b : Bool) → eqb i n ≡ b → (i < n → get_or before (width * i + owed_place) 0 ≡ get_or bytes i 0)
        → get_or (set before (width * n + owed_place) (get_or bytes n 0)) (width * i + owed_place) 0 ≡ get_or bytes i 0
    go true q rest = rw (eqb-true i n q) (get_or-set_same before (width * n + owed_place) (get_or bytes n 0) 0 (omega (arith, rows_length t bytes n)))
    go false q rest =
        let other : (i ≡ n → ⊥) = eqb-false i n q in
        get_or-set_other before (width * n + owed_place) (width * i + owed_place) _ 0 (λ e. other (omega arith)) ∙ rest (omega arith)

-- the cells of each record stay
rows_front : (t bytes : List ℕ) (n i : ℕ) → take owed_place (row width (owe_rows t bytes n) i) ≡ take owed_place (row width t i)
rows_front t bytes n i =
    ext_get_or 0 (take owed_place (row width (owe_rows t bytes n) i)) (take owed_place (row width t i)) (simp (length-take, length-drop, rows_length)) at
  where
    at : (k : ℕ) → k < length (take owed_place (row width (owe_rows t bytes n) i))
        → get_or (take owed_place (row width (owe_rows t bytes n) i)) k 0 ≡ get_or (take owed_place (row width t i)) k 0
    at k h =
        let less : k < owed_place = omega (arith, length-take owed_place (row width (owe_rows t bytes n) i)) in
        let read : (u : List ℕ) → get_or (take owed_place (row width u i)) k 0 ≡ get_or u (width * i + k) 0
        = λ u. get_or-take owed_place (row width u i) k 0 less ∙ get_d_row width u i k (omega arith) in
        read (owe_rows t bytes n) ∙ rows_keep t bytes n i k less ∙ sym (read t)

rows_cells : (t bytes : List ℕ) (n : ℕ) → decode_table (owe_rows t bytes n) ≡ decode_table t
rows_cells t bytes n =
    fun_ext (λ i. sym (decode_front (row width (owe_rows t bytes n) i)) ∙ ap decode_cell (rows_front t bytes n i) ∙ decode_front (row width t i))

rows_form : (S : Sheet) (t bytes : List ℕ) (n : ℕ) → table_form S t ≡ true → table_form S (owe_rows t bytes n) ≡ true
unfolding table_form
rows_form S t bytes n form = true_below (record_in_form S (owe_rows t bytes n)) (size S) each
  where
    each : (i : ℕ) → i < size S → record_in_form S (owe_rows t bytes n) i ≡ true
    each i h =
        sym (form_front (row width (owe_rows t bytes n) i) (is_figure (item_at S i))) ∙ ap (record_form (is_figure (item_at S i))) (rows_front t bytes n i)
        ∙ form_front (row width t i) (is_figure (item_at S i)) ∙ below_true (record_in_form S t) (size S) form i h

-- The encoding of a table in form: the table with the owed bytes of an array that says which items are owed.
pub settled : (S : Sheet) (t bytes : List ℕ) (n : ℕ) → n ≡ size S → length t ≡ width * n → table_form S t ≡ true → OwedIs S (decode_table t) bytes
    → (t₂ : List ℕ) → Bytes t₂ → t₂ ≡ owe_rows t bytes n → t₂ ≡ encode_table S (decode_table t)
settled S t bytes n n_is long form o t₂ small written =
    written
    ∙ sym (encoded_as S (owe_rows t bytes n) (subst Bytes written small) (rows_length t bytes n ∙ long ∙ ap (λ m. width * m) n_is) (rows_form S t bytes n form) owes)
    ∙ ap (encode_table S) (rows_cells t bytes n)
  where
    owes : (i : ℕ) → i < size S → owed_in (row width (owe_rows t bytes n) i) ≡ owed_code (owed S (decode_table (owe_rows t bytes n)) i)
    owes i h =
        get_d_row width (owe_rows t bytes n) i owed_place (omega arith) ∙ rows_put t bytes n i (omega arith) (omega arith)
        ∙ o.byte_is i h ∙ ap (λ T. owed_code (owed S T i)) (sym (rows_cells t bytes n))
