-- What the check of a sheet answers, and what it leaves in its two scratch arrays. Assumes nothing.
use Rattle.std.specs.Prelude.{ℕ, zero, suc, ◌+◌, ◌≤◌, ◌≡◌, cond, List, [], map, ltb, length, get_or, Option, Some, None, Result, Ok, Err}
use Rattle.cause.specs.Cause.{number_of}
use Rattle.cause.specs.declared.Cause.{Cause}
use Rattle.cause.specs.declared.Fault.{Fault}
use Rattle.field.specs.Field.{cut_at, field}
use Rattle.field.specs.declared.Field.{Field}
use Rattle.circuit.specs.Calls.{Test, first_cause}
use Rattle.layout.specs.Layout.{all, highest}
use Rattle.layout.specs.Read as read
use Rattle.layout.specs.Read.{Placed, Scan, going, stopped, scan, SheetRead, judge, head_tests, item_tests, item_level, head_content}
use Rattle.layout.specs.Content.{item_in, edition_in, count_in}
use Rattle.sheet.specs.declared.Opened.{Opened}

-- what the check of a sheet gives: its edition and its item count, or the number and the offset of its first fault
pub data Checked : Type 0 where
  opens : (edition count : ℕ) → Checked
  refused : (number offset : ℕ) → Checked

-- the check's answer: the case holds 01's number and offset itself
abbrev pub checked_of : SheetRead → Checked
checked_of (read.opens edition ps) = opens edition (length ps)
checked_of (read.refused k at) = refused k at

-- what the code gives for it
abbrev pub checked_meaning : Result Opened Fault → Checked
checked_meaning (Ok o) = opens o.edition o.count
checked_meaning (Err f) = refused (number_of f.cause) f.offset

-- what the check of an item's field gives: the item's level, or the number of its lowest cause
pub data Judged : Type 0 where
  sound : (level : ℕ) → Judged
  at_fault : (number : ℕ) → Judged

-- a field's answer: its level, or the number of its lowest cause
abbrev pub judged_of : ℕ → ℕ → Judged
judged_of zero level = sound level
judged_of (suc k) level = at_fault (suc k)

-- what the code gives for it
abbrev pub judged_meaning : Result ℕ Cause → Judged
judged_meaning (Ok level) = sound level
judged_meaning (Err c) = at_fault (number_of c)

-- a field that is there whole, with its content in the bytes
pub record Whole (s : List ℕ) (at : ℕ) (f : Field) : Type 0 where
  pub cut_is : cut_at s at ≡ field f.tag f.start f.len f.next
  pub next_is : f.start + f.len ≡ f.next
  pub next_in : f.next ≤ length s

-- one that is absent or runs past the end, which has cause 1 whatever its tests are
pub record NotWhole (s : List ℕ) (at : ℕ) (f : Fault) : Type 0 where
  pub number_is : number_of f.cause ≡ 1
  pub offset_is : f.offset ≡ at
  pub judged : (tests : ℕ → List ℕ → List Test) → judge tests s (cut_at s at) ≡ 1

abbrev pub WholeField : List ℕ → ℕ → Result Field Fault → Type 0
WholeField s at (Ok f) = Whole s at f
WholeField s at (Err e) = NotWhole s at e

-- a cause at the offset of its field
abbrev pub cause_at : {A : Type 0} → ℕ → Result A Cause → Result A Fault
cause_at at (Ok a) = Ok a
cause_at at (Err c) = Err (record { cause = c; offset = at })

-- the answer for the field of item number `length ps`, after the items ps
abbrev pub judged_item : ℕ → List Placed → ℕ → List ℕ → Judged
judged_item edition ps tag content =
    judged_of (first_cause (item_tests edition ps tag content)) (item_level ps (item_in tag content))

-- the items read before the first fault
abbrev pub latest : Scan → List Placed → List Placed
latest (going at ps) before = ps
latest (stopped k at) before = before

unfoldable pub sound_items : List ℕ → ℕ → ℕ → List Placed
sound_items s edition zero = []
sound_items s edition (suc k) = latest (scan s edition (suc k)) (sound_items s edition k)

abbrev pub after_head : ℕ → List Placed → List Placed
after_head zero ps = ps
after_head (suc k) ps = []

unfoldable pub read_so_far : List ℕ → List Placed
read_so_far s =
    after_head (judge head_tests s (cut_at s 0)) (sound_items s (edition_in (head_content s)) (count_in (head_content s)))

-- The level over parents, by the levels of the earlier items: one more than the highest of the parents', or none where a parent is no
-- earlier item.
unfoldable pub level_over : List ℕ → List ℕ → Option ℕ
level_over levels parents =
    cond (all (λ p. ltb p (length levels)) parents) (Some (suc (highest (map (λ p. get_or levels p 0) parents)))) None
