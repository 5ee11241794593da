-- The layout of a sheet: the constants of its form, its items as they are written, and the limits of each part. The most parents of a
-- figure stand with the rules, and a field's header with the fields. Assumes nothing.
use Rattle.std.specs.Prelude.{ℕ, ◌+◌, ◌*◌, max, Bool, true, false, cond, ◌&&◌, ◌||◌, List, [], ◌∷◌, map, eqb, leb, length}
use Rattle.std.proofs.Math.Option.{Option, none, some}
use Rattle.field.specs.Field.{header_length}
use Rattle.circuit.specs.Rules.{Operation, sum, operation_of}
use Rattle.circuit.specs.Sheet.{Item, entry, figure, Sheet, Spread, defer, renew}

-- an item as it is written: the bytes of its name, and of a figure its rule, keep and spread bytes and its parents
pub data LayoutItem : Type 0 where
  entry_field : (name : List ℕ) → LayoutItem
  figure_field : (rule keep spread : ℕ) (parents name : List ℕ) → LayoutItem

pub record Layout : Type 0 where
  pub edition : ℕ
  pub items : List LayoutItem

-- the tags of the fields
abbrev pub head_tag : ℕ
head_tag = 1

abbrev pub entry_tag : ℕ
entry_tag = 2

abbrev pub figure_tag : ℕ
figure_tag = 3

abbrev pub last_tag : ℕ
last_tag = 4

-- the first field's content: where the edition and the item count stand, and its length; and the offset after the field
abbrev pub edition_at : ℕ
edition_at = 0

abbrev pub count_at : ℕ
count_at = 2

abbrev pub head_length : ℕ
head_length = 4

abbrev pub head_next : ℕ
head_next = header_length + head_length

-- a figure's content: where rule, keep, spread and the parent count stand, then its parents; the name stands after the last of them
abbrev pub rule_at : ℕ
rule_at = 0

abbrev pub keep_at : ℕ
keep_at = 1

abbrev pub spread_at : ℕ
spread_at = 2

abbrev pub parent_count_at : ℕ
parent_count_at = 3

abbrev pub parents_at : ℕ
parents_at = 4

abbrev pub parent_width : ℕ
parent_width = 2

abbrev pub parent_at : ℕ → ℕ
parent_at k = parents_at + parent_width * k

-- the bytes of an index entry
abbrev pub index_width : ℕ
index_width = 4

-- the editions that are known
unfoldable pub edition_known : ℕ → Bool
edition_known edition = eqb edition 1 || eqb edition 2

-- The most items of a sheet, by its edition: the limit stands here and nowhere else. And the most of any edition.
unfoldable pub item_limit : ℕ → ℕ
item_limit edition = cond (eqb edition 1) 1024 4096

unfoldable pub most_items : ℕ
most_items = item_limit 2

unfoldable pub count_allowed : ℕ → ℕ → Bool
count_allowed edition n = leb 1 n && leb n (item_limit edition)

-- the highest level
unfoldable pub level_limit : ℕ
level_limit = 64

unfoldable pub keep_allowed : ℕ → Bool
keep_allowed keep = leb keep 1

-- The spread bytes of an edition, up to this one: 0 defer, 1 renew, and outside edition 2 also 2, forget, which 02's job 10 retires.
unfoldable pub spread_limit : ℕ → ℕ
spread_limit edition = cond (eqb edition 2) 1 2

unfoldable pub spread_allowed : ℕ → ℕ → Bool
spread_allowed edition spread = leb spread (spread_limit edition)

abbrev pub is_some : {A : Type 0} → Option A → Bool
is_some none = false
is_some (some a) = true

-- a rule code that allows this many parents
abbrev pub rule_allowed : ℕ → ℕ → Bool
rule_allowed rule p = is_some (operation_of rule p)

-- the longest name
unfoldable pub name_limit : ℕ
name_limit = 16

abbrev pub name_byte : ℕ → Bool
name_byte b = leb 33 b && leb b 126

unfoldable pub all : (ℕ → Bool) → List ℕ → Bool
all p [] = true
all p (b ∷ bs) = p b && all p bs

-- a name: not empty, not too long, and of such bytes
unfoldable pub name_allowed : List ℕ → Bool
name_allowed name = leb 1 (length name) && leb (length name) name_limit && all name_byte name

-- the highest of some levels
unfoldable pub highest : List ℕ → ℕ
highest [] = 0
highest (level ∷ levels) = max level (highest levels)

-- The machine's item. (An opened sheet has no rule without an operation.)
abbrev pub operation_or : Option Operation → Operation
operation_or none = sum
operation_or (some op) = op

-- 1 is renew, 0 defer; 2, where a sheet may hold it, is treated as 0 (02's job 10)
unfoldable pub spread_meant : ℕ → Spread
spread_meant spread = cond (eqb spread 1) renew defer

unfoldable pub machine_item : LayoutItem → Item
machine_item (entry_field name) = entry
machine_item (figure_field rule keep spread ps name) =
    figure (operation_or (operation_of rule (length ps))) (eqb keep 1) (spread_meant spread) ps

abbrev pub machine_sheet : Layout → Sheet
machine_sheet l = map machine_item l.items
