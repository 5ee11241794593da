-- The day program's own numbers: its row of "Turned back" (16), in 01's words, and 02's 19. Assumes nothing.
use Rattle.std.specs.Prelude.{ℕ, ◌<◌, ◌≡◌, List, ◌++◌, ◌↔◌, pos, length}
use Rattle.std.proofs.Math.Option.{some}
use Rattle.circuit.specs.Call.{Call}
use Rattle.field.specs.Field.{absent, short, field, cut_at}
use Rattle.layout.specs.Content.{content_at}
use Rattle.day_meaning.specs.Orders.{post_tag, ask_tag, keep_tag, drop_tag, step_tag, post_length, call_length, kind_in, number_in, order_of}
use Rattle.day_meaning.specs.Day.{ended, sheet_line, file_limit, long_number, read_day, run_day}

-- tag unknown, length or posted kind wrong, or kind 1 with a number not 0
pub data FieldWrong (tag : ℕ) (content : List ℕ) : Type 0 where
  tag_unknown : ¬ (tag ≡ post_tag) → ¬ (tag ≡ ask_tag) → ¬ (tag ≡ keep_tag) → ¬ (tag ≡ drop_tag) → ¬ (tag ≡ step_tag) → FieldWrong tag content
  post_length_other : tag ≡ post_tag → ¬ (length content ≡ post_length) → FieldWrong tag content
  call_length_other : ¬ (tag ≡ post_tag) → ¬ (length content ≡ call_length) → FieldWrong tag content
  kind_other : tag ≡ post_tag → ¬ (kind_in content ≡ 1) → ¬ (kind_in content ≡ 3) → FieldWrong tag content
  null_not_zero : tag ≡ post_tag → kind_in content ≡ 1 → ¬ (number_in content ≡ pos 0) → FieldWrong tag content

-- the field of the log d at an offset is short, or wrong
pub data DayFault (d : List ℕ) (at : ℕ) : Type 0 where
  runs_past : cut_at d at ≡ short → DayFault d at
  wrong : (tag start len next : ℕ) → cut_at d at ≡ field tag start len next → FieldWrong tag (content_at d start len) → DayFault d at

-- no fault: the log ends there, or the field orders a call
pub data DaySound (d : List ℕ) (at : ℕ) : Type 0 where
  ends : cut_at d at ≡ absent → DaySound d at
  orders : (tag start len next : ℕ) (c : Call) → cut_at d at ≡ field tag start len next → order_of tag (content_at d start len) ≡ some c → DaySound d at

-- 19: the sheet is over 65,536 bytes
abbrev pub SheetLong : List ℕ → Type 0
SheetLong s = file_limit < length s

-- a line is in a text, with anything before and after it
pub record IsIn (line text : List ℕ) : Type 0 where
  pub before : List ℕ
  pub after : List ℕ
  pub whole : text ≡ before ++ (line ++ after)

-- `SHEET 19 0` is printed exactly if the sheet is over the limit, whatever its bytes are. It is then the only line, and index and table stay.
-- Every other sheet is read.
pub record LongRefused (s d x t : List ℕ) : Type 0 where
  pub exactly : IsIn (sheet_line long_number 0) (run_day s d x t).text ↔ SheetLong s
  pub only : SheetLong s → run_day s d x t ≡ ended (sheet_line long_number 0) x t
  pub otherwise : ¬ SheetLong s → run_day s d x t ≡ read_day s d x t
