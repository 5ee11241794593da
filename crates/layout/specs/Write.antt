-- Writing a sheet, which says the layout without a reader: the bytes of a layout, and the limits within which 01 has it.
-- Assumes nothing.
use Rattle.std.specs.Prelude.{ℕ, suc, ◌/◌, ◌%◌, Bool, true, ◌&&◌, List, [], ◌∷◌, ◌++◌, map, leb, ltb, length, get_or}
use Rattle.field.specs.Field.{field_bytes}
use Rattle.layout.specs.Layout.{LayoutItem, entry_field, figure_field, Layout, head_tag, entry_tag, figure_tag, last_tag, edition_known, count_allowed, level_limit, keep_allowed, spread_allowed}
use Rattle.layout.specs.Layout.{rule_allowed, name_allowed, all, highest}

-- a number in two bytes, the low one first
abbrev pub bytes16 : ℕ → List ℕ
bytes16 n = n % 256 ∷ n / 256 ∷ []

unfoldable pub concat : List (List ℕ) → List ℕ
concat [] = []
concat (bs ∷ rest) = bs ++ concat rest

-- the field of an item
unfoldable pub item_bytes : LayoutItem → List ℕ
item_bytes (entry_field name) = field_bytes entry_tag name
item_bytes (figure_field rule keep spread parents name) =
    field_bytes figure_tag (rule ∷ keep ∷ spread ∷ length parents ∷ concat (map bytes16 parents) ++ name)

-- the bytes of a sheet: the head with edition and item count, the items, the last field
unfoldable pub write_sheet : Layout → List ℕ
write_sheet l =
    field_bytes head_tag (bytes16 l.edition ++ bytes16 (length l.items))
    ++ concat (map item_bytes l.items)
    ++ field_bytes last_tag []

-- an item's level after the items with these levels
abbrev pub level_after : List ℕ → LayoutItem → ℕ
level_after levels (entry_field name) = 0
level_after levels (figure_field rule keep spread parents name) = suc (highest (map (λ p. get_or levels p 0) parents))

-- an item within 01's limits, after the items with these levels
abbrev pub item_within : ℕ → List ℕ → LayoutItem → Bool
item_within edition levels (entry_field name) = name_allowed name
item_within edition levels (figure_field rule keep spread parents name) =
    name_allowed name
    && (rule_allowed rule (length parents) && keep_allowed keep && spread_allowed edition spread)
    && all (λ p. ltb p (length levels)) parents
    && leb (level_after levels (figure_field rule keep spread parents name)) level_limit

unfoldable pub items_within : ℕ → List ℕ → List LayoutItem → Bool
items_within edition levels [] = true
items_within edition levels (it ∷ its) =
    item_within edition levels it && items_within edition (levels ++ (level_after levels it ∷ [])) its

-- a layout within 01's limits
unfoldable pub within : Layout → Bool
within l =
    edition_known l.edition && count_allowed l.edition (length l.items) && items_within l.edition [] l.items
