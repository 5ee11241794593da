-- The parts of a field's content, by their places in the layout: what the reader and the causes of refusal mean by a figure's rule,
-- parents and name, and by an item. That the writer puts them there is `item_back`, proofs/Items.antt. Assumes nothing.
use Rattle.std.specs.Prelude.{ℕ, zero, suc, cond, List, [], ◌∷◌, ◌++◌, eqb, get_or, take, drop}
use Rattle.field.specs.Field.{le16_at}
use Rattle.layout.specs.Layout.{LayoutItem, entry_field, figure_field, figure_tag, edition_at, count_at, rule_at, keep_at, spread_at, parent_count_at, parent_at}

-- the content bytes of a field
abbrev pub content_at : List ℕ → ℕ → ℕ → List ℕ
content_at s start len = take len (drop start s)

-- The parts of the first field's content: the edition and the item count.
abbrev pub edition_in : List ℕ → ℕ
edition_in content = le16_at content edition_at

abbrev pub count_in : List ℕ → ℕ
count_in content = le16_at content count_at

-- The parts of a figure's content: four bytes, the parents in two bytes each, the name.
abbrev pub rule_in : List ℕ → ℕ
rule_in content = get_or content rule_at 0

abbrev pub keep_in : List ℕ → ℕ
keep_in content = get_or content keep_at 0

abbrev pub spread_in : List ℕ → ℕ
spread_in content = get_or content spread_at 0

abbrev pub parent_count_in : List ℕ → ℕ
parent_count_in content = get_or content parent_count_at 0

abbrev pub parent_in : List ℕ → ℕ → ℕ
parent_in content k = le16_at content (parent_at k)

-- the first p parents
unfoldable pub parents_in : List ℕ → ℕ → List ℕ
parents_in content zero = []
parents_in content (suc p) = parents_in content p ++ (parent_in content p ∷ [])

abbrev pub name_in : List ℕ → List ℕ
name_in content = drop (parent_at (parent_count_in content)) content

-- an item field's layout, by its tag and content
unfoldable pub item_in : ℕ → List ℕ → LayoutItem
item_in tag content =
    cond (eqb tag figure_tag)
    (figure_field (rule_in content) (keep_in content) (spread_in content) (parents_in content (parent_count_in content)) (name_in content))
    (entry_field content)
