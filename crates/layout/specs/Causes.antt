-- The causes 1 to 7 for which a sheet is turned back, row by row, as statements about the field at a place of the sheet. They
-- speak of bytes and offsets, and of the parts of a content by their places in the layout (Content); a figure's level is the
-- writer's (`level_after`, Write). Nothing here scans the sheet or tests it. Assumes nothing.
use Rattle.std.specs.Prelude.{ℕ, zero, suc, ◌+◌, ◌≤◌, ◌<◌, ◌≡◌, List, [], ◌∷◌, ◌++◌, ◌⊎◌, length, get_or, take, drop}
use Rattle.field.specs.Field.{header_length, le16_at, len_at}
use Rattle.circuit.specs.Circuit.{Listed}
use Rattle.circuit.specs.Rules.{max_parents}
use Rattle.layout.specs.Layout.{head_tag, entry_tag, figure_tag, last_tag, edition_at, count_at, head_length, parents_at, parent_at, item_limit, level_limit, name_limit}
use Rattle.layout.specs.Content.{rule_in, keep_in, spread_in, parent_count_in, parent_in, name_in, item_in}
use Rattle.layout.specs.Write.{level_after}

-- A place: the first field, the field of item i, the last field, and what stands after it.
pub data Place : Type 0 where
  first : Place
  item : ℕ → Place
  last after : Place

-- the offset of the k-th field, counted from 0: a field is a tag, a length in two bytes and that many content bytes
unfoldable pub field_offset : List ℕ → ℕ → ℕ
field_offset s zero = 0
field_offset s (suc k) = field_offset s k + header_length + len_at s (field_offset s k)

-- edition and item count, the content of the first field
abbrev pub edition_of : List ℕ → ℕ
edition_of s = le16_at s (header_length + edition_at)

abbrev pub item_count : List ℕ → ℕ
item_count s = le16_at s (header_length + count_at)

-- the number of the field at a place, where a sheet has n items
abbrev pub field_number : ℕ → Place → ℕ
field_number n first = 0
field_number n (item i) = suc i
field_number n last = suc n
field_number n after = suc (suc n)

abbrev pub InSheet : List ℕ → Place → Type 0
InSheet s first = Unit {0}
InSheet s (item i) = i < item_count s
InSheet s last = Unit {0}
InSheet s after = Unit {0}

-- p comes before q
abbrev pub Before : List ℕ → Place → Place → Type 0
Before s p q = field_number (item_count s) p < field_number (item_count s) q

-- The field at a place: its offset, tag, length and content.
abbrev pub offset_of : List ℕ → Place → ℕ
offset_of s p = field_offset s (field_number (item_count s) p)

abbrev pub tag_of : List ℕ → Place → ℕ
tag_of s p = get_or s (offset_of s p) 0

abbrev pub length_of : List ℕ → Place → ℕ
length_of s p = len_at s (offset_of s p)

abbrev pub content_of : List ℕ → Place → List ℕ
content_of s p = take (length_of s p) (drop (offset_of s p + header_length) s)

-- The levels of the first k items, in order: 0 for an entry, for a figure one more than the highest of its parents.
unfoldable pub levels_before : List ℕ → ℕ → List ℕ
levels_before s zero = []
levels_before s (suc k) =
    levels_before s k ++ (level_after (levels_before s k) (item_in (tag_of s (item k)) (content_of s (item k))) ∷ [])

abbrev pub item_level_of : List ℕ → ℕ → ℕ
item_level_of s i = level_after (levels_before s i) (item_in (tag_of s (item i)) (content_of s (item i)))

-- 1: field runs past the end (its header, or its content), or is absent
abbrev pub NotWhole : List ℕ → ℕ → Type 0
NotWhole s at = (length s < at + header_length) ⊎ (length s < at + header_length + len_at s at) ⊎ (length s ≤ at)

abbrev pub RunsPastOrAbsent : List ℕ → Place → Type 0
RunsPastOrAbsent s first = NotWhole s (offset_of s first)
RunsPastOrAbsent s (item i) = NotWhole s (offset_of s (item i))
RunsPastOrAbsent s last = NotWhole s (offset_of s last)
RunsPastOrAbsent s after = ⊥

-- 2: tag wrong for its place, or bytes after the last field
abbrev pub WrongTagOrTrailing : List ℕ → Place → Type 0
WrongTagOrTrailing s first = ¬ (tag_of s first ≡ head_tag)
WrongTagOrTrailing s (item i) = (¬ (tag_of s (item i) ≡ entry_tag)) × (¬ (tag_of s (item i) ≡ figure_tag))
WrongTagOrTrailing s last = ¬ (tag_of s last ≡ last_tag)
WrongTagOrTrailing s after = offset_of s after < length s

-- 3: length or name wrong. A name has 1 to 16 bytes, and each is 33 to 126.
abbrev pub BadByte : List ℕ → Type 0
BadByte name = (b : ℕ) × Listed b name × ((b < 33) ⊎ (126 < b))

abbrev pub NotAName : List ℕ → Type 0
NotAName name = (length name < 1) ⊎ (name_limit < length name) ⊎ BadByte name

-- an entry is its name; a figure has four bytes, p parents in two bytes each, and its name
pub data WrongItemLength (tag len : ℕ) (content : List ℕ) : Type 0 where
  entry_name : tag ≡ entry_tag → NotAName content → WrongItemLength tag len content
  figure_under : tag ≡ figure_tag → len < parents_at → WrongItemLength tag len content
  figure_rest : tag ≡ figure_tag → (len < parent_at (parent_count_in content) + 1) ⊎ (parent_at (parent_count_in content) + name_limit < len)
      → WrongItemLength tag len content
  figure_name : tag ≡ figure_tag → BadByte (name_in content) → WrongItemLength tag len content

abbrev pub WrongLengthOrName : List ℕ → Place → Type 0
WrongLengthOrName s first = ¬ (length_of s first ≡ head_length)
WrongLengthOrName s (item i) = WrongItemLength (tag_of s (item i)) (length_of s (item i)) (content_of s (item i))
WrongLengthOrName s last = ¬ (length_of s last ≡ 0)
WrongLengthOrName s after = ⊥

-- 4: edition or item count: an edition that is not 1 or 2, no items, or more than the edition has
abbrev pub WrongEditionOrCount : List ℕ → Place → Type 0
WrongEditionOrCount s first =
    ((¬ (edition_of s ≡ 1)) × (¬ (edition_of s ≡ 2))) ⊎ (item_count s < 1) ⊎ (item_limit (edition_of s) < item_count s)
WrongEditionOrCount s (item i) = ⊥
WrongEditionOrCount s last = ⊥
WrongEditionOrCount s after = ⊥

-- the columns "Code" and "Parents" of the rules
pub data RuleTakes (code p : ℕ) : Type 0 where
  sum_takes : code ≡ 1 → 1 ≤ p → p ≤ max_parents → RuleTakes code p
  difference_takes : code ≡ 2 → p ≡ 2 → RuleTakes code p
  smallest_takes : code ≡ 3 → 1 ≤ p → p ≤ max_parents → RuleTakes code p
  largest_takes : code ≡ 4 → 1 ≤ p → p ≤ max_parents → RuleTakes code p
  share_takes : code ≡ 5 → p ≡ 2 → RuleTakes code p
  choice_takes : code ≡ 6 → p ≡ 3 → RuleTakes code p
  count_takes : code ≡ 7 → 1 ≤ p → p ≤ max_parents → RuleTakes code p
  at_least_takes : code ≡ 8 → p ≡ 2 → RuleTakes code p

-- a spread that is none of 0, 1 and 2, or is 2 in edition 2
abbrev pub WrongSpread : ℕ → ℕ → Type 0
WrongSpread edition spread = (2 < spread) ⊎ ((edition ≡ 2) × (spread ≡ 2))

-- 5: rule, keep, spread, or p wrong for the rule
abbrev pub WrongFigure : ℕ → List ℕ → Type 0
WrongFigure edition content =
    (¬ RuleTakes (rule_in content) (parent_count_in content)) ⊎ (1 < keep_in content) ⊎ WrongSpread edition (spread_in content)

abbrev pub WrongRuleKeepSpreadOrCount : List ℕ → Place → Type 0
WrongRuleKeepSpreadOrCount s first = ⊥
WrongRuleKeepSpreadOrCount s (item i) = (tag_of s (item i) ≡ figure_tag) × WrongFigure (edition_of s) (content_of s (item i))
WrongRuleKeepSpreadOrCount s last = ⊥
WrongRuleKeepSpreadOrCount s after = ⊥

-- 6: parent not below the item: the k-th parent of a figure is item i itself or a higher one
abbrev pub HighParent : ℕ → List ℕ → Type 0
HighParent i content = (k : ℕ) × (k < parent_count_in content) × (i ≤ parent_in content k)

abbrev pub ParentNotBelow : List ℕ → Place → Type 0
ParentNotBelow s first = ⊥
ParentNotBelow s (item i) =
    (tag_of s (item i) ≡ figure_tag) × HighParent i (content_of s (item i))
ParentNotBelow s last = ⊥
ParentNotBelow s after = ⊥

-- 7: level above the highest, 64
abbrev pub LevelAbove : List ℕ → Place → Type 0
LevelAbove s first = ⊥
LevelAbove s (item i) = level_limit < item_level_of s i
LevelAbove s last = ⊥
LevelAbove s after = ⊥

-- The table: `CauseAt s p k` when the cause with number k holds at the place p.
pub data CauseAt (s : List ℕ) (p : Place) : ℕ → Type 0 where
  cause1 : RunsPastOrAbsent s p → CauseAt s p 1
  cause2 : WrongTagOrTrailing s p → CauseAt s p 2
  cause3 : WrongLengthOrName s p → CauseAt s p 3
  cause4 : WrongEditionOrCount s p → CauseAt s p 4
  cause5 : WrongRuleKeepSpreadOrCount s p → CauseAt s p 5
  cause6 : ParentNotBelow s p → CauseAt s p 6
  cause7 : LevelAbove s p → CauseAt s p 7

-- no cause holds at a place
abbrev pub Sound : List ℕ → Place → Type 0
Sound s p = (k : ℕ) → ¬ CauseAt s p k

-- no cause holds anywhere
abbrev pub Faultless : List ℕ → Type 0
Faultless s = (p : Place) → InSheet s p → Sound s p

-- The first place with a cause, the lowest number of its causes, and the place's offset. For bytes after the last field that
-- is where they begin, and for an absent field the sheet's length, since the fields before it are whole.
pub record FirstFault (s : List ℕ) (k offset : ℕ) : Type 0 where
  pub place : Place
  pub in_sheet : InSheet s place
  pub cause : CauseAt s place k
  pub lowest : (j : ℕ) → j < k → ¬ CauseAt s place j
  pub first_at_fault : (p : Place) → InSheet s p → Before s p place → Sound s p
  pub offset_is : offset ≡ offset_of s place
