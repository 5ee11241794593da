-- A record of the work table: the bytes of one item's cell with their form, and 02's owed byte. Assumes nothing.
use Rattle.std.specs.Prelude.{ℕ, Bool, true, false, cond, not, ◌&&◌, List, ◌∷◌, leb, eqb, ℤ, pos, get_or}
use Rattle.word.specs.Word.{le64_at, bytes64}
use Rattle.circuit.specs.Value.{in_range, same_number, kind_of, number_of, of_parts, is_out, well_formed}
use Rattle.circuit.specs.Table.{Mark, unmarked, refresh, notice, Cell, unk, held, notice_if, value_in, entry_form}

-- how many bytes an item has
abbrev pub width : ℕ
width = 11

-- where the owed byte stands, after those of the cell
abbrev pub owed_place : ℕ
owed_place = 10

-- the parts of a record: kind, mark, number, owed
abbrev pub kind_in : List ℕ → ℕ
kind_in r = get_or r 0 0

abbrev pub mark_in : List ℕ → ℕ
mark_in r = get_or r 1 0

abbrev pub number_in : List ℕ → ℤ
number_in r = le64_at r 2

abbrev pub owed_in : List ℕ → ℕ
owed_in r = get_or r owed_place 0

-- the bytes of a cell
abbrev pub record_of : ℕ → ℕ → ℤ → List ℕ
record_of kind mark number = kind ∷ mark ∷ bytes64 number

-- mark: 0 none, 1 refresh, 2 notice
abbrev pub mark_code : Mark → ℕ
mark_code unmarked = 0
mark_code refresh = 1
mark_code notice = 2

abbrev pub mark_coded : ℕ → Mark
mark_coded m = cond (eqb m 1) refresh (cond (eqb m 2) notice unmarked)

-- owed: 1 or 0
abbrev pub owed_code : Bool → ℕ
owed_code false = 0
owed_code true = 1

-- kind: 0 UNK, else a value's
abbrev pub cell_coded : ℕ → ℕ → ℤ → Cell
cell_coded k m z = cond (eqb k 0) (unk (eqb m 2)) (held (of_parts k z) (mark_coded m))

unfoldable pub encode_cell : Cell → List ℕ
encode_cell (unk b) = record_of 0 (mark_code (notice_if b)) (pos 0)
encode_cell (held v m) = record_of (kind_of v) (mark_code m) (number_of v)

unfoldable pub decode_cell : List ℕ → Cell
decode_cell r = cell_coded (kind_in r) (mark_in r) (number_in r)

-- The kinds and marks that a record may have: an entry is neither UNK nor OUT nor to be refreshed, and an UNK figure not to
-- be refreshed. The first argument says whether the item is a figure.
abbrev pub allowed : Bool → ℕ → ℕ → Bool
allowed false k m = not (eqb k 0) && not (eqb k 2) && not (eqb m 1)
allowed true k m = not (eqb k 0 && eqb m 1)

unfoldable pub codes_form : Bool → ℕ → ℕ → Bool
codes_form figure k m = leb k 3 && leb m 2 && allowed figure k m

-- the number is 0 unless the kind is 3, and then within the range
unfoldable pub number_form : ℕ → ℤ → Bool
number_form k z = cond (eqb k 3) (in_range z) (same_number z (pos 0))

-- 01's "form" of one record; the owed byte is a matter of the whole table
unfoldable pub record_form : Bool → List ℕ → Bool
record_form figure r = codes_form figure (kind_in r) (mark_in r) && number_form (kind_in r) (number_in r)

-- The cells that such records are: an entry holds NULL or a number, with no mark or notice, and a figure any cell, all
-- with numbers within the range.
abbrev pub may_hold : Bool → Cell → Bool
may_hold false c = entry_form c && not (is_out (value_in c)) && well_formed (value_in c)
may_hold true c = well_formed (value_in c)
