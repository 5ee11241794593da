-- Reading a sheet: its layout, or the number and the offset of its first fault. The fields are judged in order, each by a
-- list of tests in the order of their numbers. Assumes nothing.
use Rattle.std.specs.Prelude.{ℕ, zero, suc, Bool, false, cond, not, ◌&&◌, ◌||◌, List, [], ◌∷◌, ◌++◌, map, eqb, ltb, length, get_or}
use Rattle.field.specs.Field.{Cut, absent, short, field, header_length, cut_at}
use Rattle.circuit.specs.Calls.{Test, test, first_cause}
use Rattle.layout.specs.Layout.{LayoutItem, entry_field, figure_field, Layout, head_tag, entry_tag, figure_tag, last_tag, head_length, head_next, parents_at, edition_known, count_allowed}
use Rattle.layout.specs.Layout.{level_limit, keep_allowed, spread_allowed, rule_allowed, name_allowed, all, highest}
pub use Rattle.layout.specs.Layout.{head_next}
use Rattle.layout.specs.Content.{content_at, edition_in, count_in, name_in, item_in}

-- an item that was read, with the offset of its field and its level
pub record Placed : Type 0 where
  pub offset : ℕ
  pub item : LayoutItem
  pub level : ℕ

abbrev pub placed : ℕ → LayoutItem → ℕ → Placed
placed at it level = record { offset = at; item = it; level = level }

-- the level of an earlier item, by its number
abbrev pub level_of : List Placed → ℕ → ℕ
level_of ps p = (get_or ps p (placed 0 (entry_field []) 0)).level

abbrev pub item_level : List Placed → LayoutItem → ℕ
item_level ps (entry_field name) = 0
item_level ps (figure_field rule keep spread parents name) = suc (highest (map (level_of ps) parents))

-- The causes of a fault in a field that is there whole, by their numbers.
-- 3: length or name wrong: an entry's content is its name, a figure's has room for the bytes before its parents, and its name after them
unfoldable pub length_or_name : ℕ → List ℕ → Bool
length_or_name tag content =
    cond (eqb tag figure_tag) (ltb (length content) parents_at || not (name_allowed (name_in content))) (not (name_allowed content))

-- 5: rule, keep, spread, or the parent count wrong for the rule
abbrev pub rule_wrong : ℕ → LayoutItem → Bool
rule_wrong edition (entry_field name) = false
rule_wrong edition (figure_field rule keep spread parents name) =
    not (rule_allowed rule (length parents) && keep_allowed keep && spread_allowed edition spread)

-- 6: a parent not below the item
abbrev pub parent_wrong : ℕ → LayoutItem → Bool
parent_wrong i (entry_field name) = false
parent_wrong i (figure_field rule keep spread parents name) = not (all (λ p. ltb p i) parents)

-- 7: level above the highest
abbrev pub level_wrong : List Placed → LayoutItem → Bool
level_wrong ps it = ltb level_limit (item_level ps it)

-- the tests of the first field
unfoldable pub head_tests : ℕ → List ℕ → List Test
head_tests tag content =
    test 2 (not (eqb tag head_tag))
    ∷ test 3 (not (eqb (length content) head_length))
    ∷ test 4 (not (edition_known (edition_in content) && count_allowed (edition_in content) (count_in content)))
    ∷ []

-- the tests of the field of item number `length ps`, after the items ps
unfoldable pub item_tests : ℕ → List Placed → ℕ → List ℕ → List Test
item_tests edition ps tag content =
    test 2 (not (eqb tag entry_tag || eqb tag figure_tag))
    ∷ test 3 (length_or_name tag content)
    ∷ test 5 (rule_wrong edition (item_in tag content))
    ∷ test 6 (parent_wrong (length ps) (item_in tag content))
    ∷ test 7 (level_wrong ps (item_in tag content))
    ∷ []

-- the tests of the last field
unfoldable pub last_tests : ℕ → List ℕ → List Test
last_tests tag content = test 2 (not (eqb tag last_tag)) ∷ test 3 (not (eqb (length content) 0)) ∷ []

-- A field judged: the number of its lowest cause, or 0. A field that is absent or runs past the end has
-- cause 1, and nothing else of it is looked at.
abbrev pub judge : (ℕ → List ℕ → List Test) → List ℕ → Cut → ℕ
judge tests s absent = 1
judge tests s short = 1
judge tests s (field tag start len next) = first_cause (tests tag (content_at s start len))

-- the reading so far: the offset of the next field and the items read, or the number and offset of the first fault
pub data Scan : Type 0 where
  going : (at : ℕ) (read : List Placed) → Scan
  stopped : (number offset : ℕ) → Scan

abbrev pub place_item : ℕ → List Placed → LayoutItem → List Placed
place_item at ps it = ps ++ (placed at it (item_level ps it) ∷ [])

abbrev pub place_field : List ℕ → ℕ → List Placed → Cut → Scan
place_field s at ps absent = stopped 1 at
place_field s at ps short = stopped 1 at
place_field s at ps (field tag start len next) =
    going next (place_item at ps (item_in tag (content_at s start len)))

-- on without a fault, else stopped by it at the field's offset
abbrev pub go_on : ℕ → ℕ → Scan → Scan
go_on zero at next = next
go_on (suc k) at next = stopped (suc k) at

abbrev pub scan_item : List ℕ → ℕ → Scan → Scan
scan_item s edition (stopped k at) = stopped k at
scan_item s edition (going at ps) =
    go_on (judge (item_tests edition ps) s (cut_at s at)) at (place_field s at ps (cut_at s at))

-- the first k items
unfoldable pub scan : List ℕ → ℕ → ℕ → Scan
scan s edition zero = going head_next []
scan s edition (suc k) = scan_item s edition (scan s edition k)

abbrev pub after_last : List ℕ → Cut → ℕ
after_last s absent = length s
after_last s short = length s
after_last s (field tag start len next) = next

-- bytes after the last field have cause 2, at the offset where they begin
abbrev pub scan_end : List ℕ → ℕ → List Placed → Scan
scan_end s at ps = cond (ltb at (length s)) (stopped 2 at) (going at ps)

abbrev pub scan_last : List ℕ → Scan → Scan
scan_last s (stopped k at) = stopped k at
scan_last s (going at ps) =
    go_on (judge last_tests s (cut_at s at)) at (scan_end s (after_last s (cut_at s at)) ps)

-- the head's content, where the first field has no fault
abbrev pub head_content : List ℕ → List ℕ
head_content s = content_at s header_length head_length

-- the whole sheet
unfoldable pub scan_sheet : List ℕ → Scan
scan_sheet s =
    go_on (judge head_tests s (cut_at s 0)) 0
    (scan_last s (scan s (edition_in (head_content s)) (count_in (head_content s))))

-- What opening a sheet finds: its layout with the places of its items, or the number and offset of its fault.
pub data SheetRead : Type 0 where
  opens : (edition : ℕ) (read : List Placed) → SheetRead
  refused : (number offset : ℕ) → SheetRead

abbrev pub conclude : ℕ → Scan → SheetRead
conclude edition (going at ps) = opens edition ps
conclude edition (stopped k at) = refused k at

unfoldable pub read_sheet : List ℕ → SheetRead
read_sheet s = conclude (edition_in (head_content s)) (scan_sheet s)

abbrev pub layout_of : ℕ → List Placed → Layout
layout_of edition ps = record { edition = edition; items = map (λ p. p.item) ps }
