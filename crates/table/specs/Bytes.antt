-- The work table in bytes: a record for each item of the sheet, in order, with its owed byte. Decoding does not read the owed bytes: they
-- follow from the cells. Assumes nothing.
use Rattle.std.specs.Prelude.{ℕ, ◌*◌, ◌<◌, ◌≤◌, ◌≡◌, Bool, true, false, List, [], ◌∷◌, ◌++◌, eqb, Option, Some, None}
use Rattle.circuit.specs.Sheet.{Sheet, size, item_at, is_figure}
use Rattle.circuit.specs.Table.{Table, is_marked}
use Rattle.circuit.specs.Owed.{owed}
use Rattle.table.specs.Rows.{row, rows_below, all_below}
use Rattle.table.specs.Record.{width, owed_in, owed_code, encode_cell, decode_cell, record_form, may_hold}

abbrev pub table_length : Sheet → ℕ
table_length S = width * size S

abbrev pub encode_record : Sheet → Table → ℕ → List ℕ
encode_record S T i = encode_cell (T i) ++ owed_code (owed S T i) ∷ []

unfoldable pub encode_table : Sheet → Table → List ℕ
encode_table S T = rows_below (encode_record S T) (size S)

abbrev pub decode_table : List ℕ → Table
decode_table bs = λ i. decode_cell (row width bs i)

-- the record of item i is in form
abbrev pub record_in_form : Sheet → List ℕ → ℕ → Bool
record_in_form S bs i = record_form (is_figure (item_at S i)) (row width bs i)

-- each record is in form
unfoldable pub table_form : Sheet → List ℕ → Bool
table_form S bs = all_below (record_in_form S bs) (size S)

-- the tables that such records are
abbrev pub Holdable : Sheet → Table → Type 0
Holdable S T = (i : ℕ) → i < size S → may_hold (is_figure (item_at S i)) (T i) ≡ true

-- the owed byte of item i is the true one
abbrev pub owed_true_at : Sheet → List ℕ → ℕ → Bool
owed_true_at S bs i = eqb (owed_in (row width bs i)) (owed_code (owed S (decode_table bs) i))

-- each owed byte is the true one
unfoldable pub owed_true : Sheet → List ℕ → Bool
owed_true S bs = all_below (owed_true_at S bs) (size S)

-- the owed bytes of the table t' are those of t
abbrev pub OwedKept : List ℕ → List ℕ → Type 0
OwedKept t t' = (k : ℕ) → owed_in (row width t' k) ≡ owed_in (row width t k)

-- k is the lowest marked item below n, or n where none is
pub record LowestMarked (T : Table) (n k : ℕ) : Type 0 where
  pub within : k ≤ n
  pub none_below : (i : ℕ) → i < k → is_marked (T i) ≡ false
  pub marked : k < n → is_marked (T k) ≡ true

-- what a search finds: that item, or none where none is marked
abbrev pub LowestFound : Table → ℕ → Option ℕ → Type 0
LowestFound T n None = LowestMarked T n n
LowestFound T n (Some k) = (k < n) × LowestMarked T n k
