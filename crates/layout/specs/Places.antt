-- Where the writer puts the items: the offset of each field and the level of each item. Assumes nothing.
use Rattle.std.specs.Prelude.{ℕ, ◌+◌, List, [], ◌∷◌, ◌++◌, map, length, take}
use Rattle.layout.specs.Layout.{LayoutItem, Layout, head_next}
use Rattle.layout.specs.Read.{Placed, placed}
use Rattle.layout.specs.Write.{concat, item_bytes, level_after}

-- the items from an offset on, after the items with these levels
unfoldable pub places_from : ℕ → List ℕ → List LayoutItem → List Placed
places_from at levels [] = []
places_from at levels (it ∷ its) =
    placed at it (level_after levels it) ∷ places_from (at + length (item_bytes it)) (levels ++ (level_after levels it ∷ [])) its

-- the items of a layout, from the end of the first field on
abbrev pub places : Layout → List Placed
places l = places_from head_next [] l.items

-- the offset of item j: the length of what is written before it
abbrev pub offset_written : Layout → ℕ → ℕ
offset_written l j = head_next + length (concat (map item_bytes (take j l.items)))
