-- 01's "work table" as the machine sees it, one cell an item, and as the openings write it. Assumes nothing.
use Rattle.std.specs.Prelude.{ℕ, Bool, true, false, cond, eqb}
use Rattle.circuit.specs.Value.{Value, null}
use Rattle.circuit.specs.Sheet.{Sheet, Item, entry, figure, item_at, Entries}
use Rattle.circuit.specs.Call.{Opening, bare, full}

pub data Mark : Type 0 where
  unmarked refresh notice : Mark

pub data Cell : Type 0 where
  -- UNK: nothing stored; true if its mark is notice (an UNK figure never has refresh)
  unk : Bool → Cell
  -- a stored value with its mark
  held : Value → Mark → Cell

abbrev pub Table : Type 0
Table = ℕ → Cell

-- the table with the cell c at i
abbrev pub upd : Table → ℕ → Cell → Table
upd T i c = λ j. cond (eqb j i) c (T j)

-- 01's "stored": the kind is not 0
abbrev pub is_stored : Cell → Bool
is_stored (unk b) = false
is_stored (held v m) = true

-- the value of a stored cell
abbrev pub value_in : Cell → Value
value_in (unk b) = null
value_in (held v m) = v

-- the values that its entries hold
abbrev pub entries_of : Table → Entries
entries_of T = λ i. value_in (T i)

abbrev pub is_notice : Mark → Bool
is_notice unmarked = false
is_notice refresh = false
is_notice notice = true

-- the mark of a look-up's result
abbrev pub notice_if : Bool → Mark
notice_if true = notice
notice_if false = unmarked

abbrev pub mark_of : Cell → Mark
mark_of (unk b) = notice_if b
mark_of (held v m) = m

abbrev pub is_mark : Mark → Bool
is_mark unmarked = false
is_mark refresh = true
is_mark notice = true

-- the mark byte is not 0
abbrev pub is_marked : Cell → Bool
is_marked c = is_mark (mark_of c)

-- the form of an entry's cell: stored, and never refreshed
abbrev pub entry_form : Cell → Bool
entry_form (unk b) = false
entry_form (held v unmarked) = true
entry_form (held v refresh) = false
entry_form (held v notice) = true

abbrev pub cell_form : Item → Cell → Bool
cell_form entry c = entry_form c
cell_form (figure op keep spread ps) c = true

-- the openings: entries NULL, no marks, figures UNK (bare) or NULL (full)
abbrev pub bare_cell : Item → Cell
bare_cell entry = held null unmarked
bare_cell (figure op keep spread ps) = unk false

abbrev pub open_bare : Sheet → Table
open_bare S = λ i. bare_cell (item_at S i)

abbrev pub open_full : Sheet → Table
open_full S = λ i. held null unmarked

abbrev pub opened : Opening → Sheet → Table
opened bare S = open_bare S
opened full S = open_full S
