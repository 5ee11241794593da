-- The cases of standard input, and what the check of their sheets leaves in the two lent arrays. Assumes nothing.
use Rattle.std.specs.Prelude.{ℕ, ◌≡◌, List, Option, None, Some}
use Rattle.field.specs.Field.{Cut, absent, short, field, cut_at}
use Rattle.layout.specs.Content.{content_at}
use Rattle.layout.specs.Opened.{offsets_of, levels_of}
use Rattle.field.specs.Bytes.{over}
use Rattle.sheet.specs.Check.{read_so_far}

-- a case: its sheet, and the offset after it
pub record Case : Type 0 where
  pub sheet : List ℕ
  pub next : ℕ

-- the sheet is the content of the second field
abbrev pub second_in : List ℕ → Cut → Option Case
second_in cases absent = None
second_in cases short = None
second_in cases (field tag start len next) = Some (record { sheet = content_at cases start len; next = next })

abbrev pub case_in : List ℕ → Cut → Option Case
case_in cases absent = None
case_in cases short = None
case_in cases (field tag start len next) = second_in cases (cut_at cases next)

-- the case at an offset: two fields, a label and a sheet
abbrev pub case_at : List ℕ → ℕ → Option Case
case_at cases at = case_in cases (cut_at cases at)

-- what the check of a sheet leaves in the arrays: the offset and the level of each item read before the first fault
pub record Checks (s offsets levels offsets' levels' : List ℕ) : Type 0 where
  pub offsets_are : offsets' ≡ over (offsets_of (read_so_far s)) offsets
  pub levels_are : levels' ≡ over (levels_of (read_so_far s)) levels

-- What is given and left for a case: the offset after it, with its sheet checked; where there is no whole case, none, with nothing done.
pub data Runs (offsets levels : List ℕ) (r : Option ℕ) (offsets' levels' : List ℕ) : Option Case → Type 0 where
  no_case : r ≡ None → offsets' ≡ offsets → levels' ≡ levels → Runs offsets levels r offsets' levels' None
  a_case : {c : Case} → r ≡ Some c.next → Checks c.sheet offsets levels offsets' levels' → Runs offsets levels r offsets' levels' (Some c)
