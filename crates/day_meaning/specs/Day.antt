-- The day program on bytes: a sheet and a day log, with an index, a table and output bytes that are lent. What it prints, and
-- what the lent bytes are afterwards. It cites the definitions of the openings and the calls. Assumes nothing.
use Rattle.std.specs.Prelude.{ℕ, zero, suc, ◌*◌, ◌≡◌, Bool, cond, List, [], ◌++◌, ltb, length, take}
use Rattle.std.proofs.Math.Option.{Option, none, some}
use Rattle.std.proofs.Math.ListN
use Rattle.circuit.specs.Call.{Call, post, keep, drop, step, ask, board, close, swap, bare}
use Rattle.field.specs.Field.{Cut, absent, short, field, cut_at}
use Rattle.layout.specs.Content.{content_at}
use Rattle.layout.specs.Room.{count_said}
use Rattle.layout.specs.Index.{index_width}
use Rattle.table.specs.Record.{width}
use Rattle.office.specs.Office.{Given, open_on, call_on, keeping}
use Rattle.printer.specs.Printing.{text_of}
use Rattle.value.specs.Meaning.{parts_of}
use Rattle.day_meaning.specs.Lines.{ok_line, no_line, ask_line, last_line, sheet_word, day_word, written, written_count, Appended}
use Rattle.day_meaning.specs.Orders.{order_of}

-- The line of a call that gives no value: `OK`, or `NO number` if it was refused.
abbrev pub answer_line : ℕ → List ℕ
answer_line zero = ok_line
answer_line (suc k) = no_line (suc k)

-- the line of an ask: `ASK item value`, or `NO number`
abbrev pub reading_line : ℕ → ℕ → List ℕ → List ℕ
reading_line item zero text = ask_line item text
reading_line item (suc k) text = no_line (suc k)

-- the line of a call, by what the call gave (no field of a day log orders a board, a season-close run or a swap)
abbrev pub line_of : Call → Given → List ℕ
line_of (post i kind z) g = answer_line g.number
line_of (keep i) g = answer_line g.number
line_of (drop i) g = answer_line g.number
line_of (step i) g = answer_line g.number
line_of (board items results) g = answer_line g.number
line_of close g = answer_line g.number
line_of (swap giver taker quantity) g = answer_line g.number
line_of (ask i) g = reading_line i g.number (text_of (parts_of g.kind g.value))

-- the number of a fault of the day log
abbrev pub fault_number : ℕ
fault_number = 16

-- `DAY 16 offset`
abbrev pub fault_line : ℕ → List ℕ
fault_line at = last_line day_word fault_number at

-- `SHEET number offset`
abbrev pub sheet_line : ℕ → ℕ → List ℕ
sheet_line number at = last_line sheet_word number at

-- what was printed, and the table afterwards
pub record Played : Type 0 where
  pub text : List ℕ
  pub table : List ℕ

abbrev pub played : List ℕ → List ℕ → Played
played text t = record { text = text; table = t }

-- a line, and then what follows it
abbrev pub after : List ℕ → Played → Played
after line p = played (line ++ p.text) p.table

-- a call's line, and then the fields from the next on, with the table that the call left
abbrev pub play_call : (ℕ → List ℕ → Played) → ℕ → Call → Given → Played
play_call rest next c g = after (line_of c g) (rest next g.after.table)

-- a field that orders a call, or one at fault, after which the rest is unread
abbrev pub play_order : (ℕ → List ℕ → Played) → List ℕ → List ℕ → ℕ → List ℕ → ℕ → Option Call → Played
play_order rest s x at t next none = played (fault_line at) t
play_order rest s x at t next (some c) = play_call rest next c (call_on s (keeping x t) c)

-- what stands at an offset: a field, a field that runs past the end, or the end of the day
abbrev pub play_cut : (ℕ → List ℕ → Played) → List ℕ → List ℕ → List ℕ → ℕ → List ℕ → Cut → Played
play_cut rest s x d at t absent = played [] t
play_cut rest s x d at t short = played (fault_line at) t
play_cut rest s x d at t (field tag start len next) = play_order rest s x at t next (order_of tag (content_at d start len))

-- The day log d from an offset on, with the sheet s, the index x and the table t. The first argument bounds the number of
-- fields; one more than the length of the log is enough, since a field has at least 3 bytes.
unfoldable pub play_from : ℕ → List ℕ → List ℕ → List ℕ → ℕ → List ℕ → Played
play_from zero s x d at t = played [] t
play_from (suc k) s x d at t = play_cut (play_from k s x d) s x d at t (cut_at d at)

-- The parts of the lent index and table that are lent on to the calls: the fronts that so many items take, or all of them
-- where they are shorter, which the opening then turns back (8).
abbrev pub index_size : List ℕ → ℕ
index_size s = index_width * count_said s

abbrev pub table_size : List ℕ → ℕ
table_size s = width * count_said s

-- what is printed, and index and table afterwards
pub record Day : Type 0 where
  pub text : List ℕ
  pub index : List ℕ
  pub table : List ℕ

abbrev pub ended : List ℕ → List ℕ → List ℕ → Day
ended text x t = record { text = text; index = x; table = t }

-- the day after the opening: its calls if the opening was accepted, else the one line `SHEET number offset`
abbrev pub day_by : ℕ → List ℕ → List ℕ → Given → Day
day_by zero s d g =
    let p : Played = play_from (suc (length d)) s g.after.index d 0 g.after.table in
    ended p.text g.after.index p.table
day_by (suc k) s d g = ended (sheet_line (suc k) g.offset) g.after.index g.after.table

-- the day with an index and a table of which all is lent on
unfoldable pub day_on : List ℕ → List ℕ → List ℕ → List ℕ → Day
day_on s d x t = day_by (open_on bare s (keeping x t)).number s d (open_on bare s (keeping x t))

-- the bytes after those that were lent on stay
abbrev pub with_rests : ℕ → ℕ → List ℕ → List ℕ → Day → Day
with_rests m n x t e = ended e.text (e.index ++ ListN.drop m x) (e.table ++ ListN.drop n t)

-- the day of a sheet that is read
unfoldable pub read_day : List ℕ → List ℕ → List ℕ → List ℕ → Day
read_day s d x t =
    with_rests (index_size s) (table_size s) x t (day_on s d (take (index_size s) x) (take (table_size s) t))

-- the most bytes of a sheet, and of a day log, which is cut there
abbrev pub file_limit : ℕ
file_limit = 65_536

-- 19: the sheet is over 65,536 bytes
abbrev pub long_number : ℕ
long_number = 19

abbrev pub too_long : List ℕ → Bool
too_long s = ltb file_limit (length s)

-- The day program. 19 is tested before anything in the sheet is read: by its length alone.
unfoldable pub run_day : List ℕ → List ℕ → List ℕ → List ℕ → Day
run_day s d x t = cond (too_long s) (ended (sheet_line long_number 0) x t) (read_day s d x t)

-- A call with its line appended to the output.
pub record CarriedOut (c : Call) (g : Given) (out : List ℕ) (at next : ℕ) (t out' : List ℕ) : Type 0 where
  pub line : Appended (line_of c g) out at next out'
  pub table_is : t ≡ g.after.table

-- The calls of a day with their lines in the output from its front on.
pub record PlayedOn (p : Played) (out : List ℕ) (count : ℕ) (t out' : List ℕ) : Type 0 where
  pub lines : Appended p.text out 0 count out'
  pub table_is : t ≡ p.table

-- A run of the day program with the output bytes: it returns how many bytes it has printed.
pub record Ran (e : Day) (out : List ℕ) (count : ℕ) (x t out' : List ℕ) : Type 0 where
  pub count_is : count ≡ written_count out e.text
  pub output_is : out' ≡ written out e.text
  pub index_is : x ≡ e.index
  pub table_is : t ≡ e.table
