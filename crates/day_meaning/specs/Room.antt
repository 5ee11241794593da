-- The bytes that the day program lends, and what is in them after a day. Assumes nothing.
use Rattle.std.specs.Prelude.{ℕ, ◌+◌, ◌*◌, ◌≤◌, ◌≡◌, List, ◌++◌, length, drop}
use Rattle.layout.specs.Index.{index_width}
use Rattle.layout.specs.Layout.{most_items}
use Rattle.table.specs.Record.{width}
use Rattle.day_meaning.specs.Day.{Day, file_limit}

-- the most output of a day whose sheet opens: so many bytes for each byte of its log, and so many more
abbrev pub text_per_byte : ℕ
text_per_byte = 6

abbrev pub text_besides : ℕ
text_besides = 13

abbrev pub output_room : ℕ
output_room = text_per_byte * file_limit + text_besides

-- index and table of the largest sheet
abbrev pub index_room : ℕ
index_room = index_width * most_items

abbrev pub table_room : ℕ
table_room = width * most_items

-- what is taken of the sheet's file: a byte more than the limit, to know that it is over it
abbrev pub sheet_room : ℕ
sheet_room = file_limit + 1

-- what the program lends: a sheet, a day log, an index, a table and output bytes
pub record DayLent (s d x t out : List ℕ) : Type 0 where
  pub sheet_fits : length s ≤ sheet_room
  pub log_fits : length d ≤ file_limit
  pub index_room_is : length x ≡ index_room
  pub table_room_is : length t ≡ table_room
  pub output_room_is : length out ≡ output_room

-- A day with nothing left out: the output bytes begin with its whole text, and the bytes after it are those that were there.
pub record Shown (e : Day) (out x t out' : List ℕ) : Type 0 where
  pub output_is : out' ≡ e.text ++ drop (length e.text) out
  pub index_is : x ≡ e.index
  pub table_is : t ≡ e.table
