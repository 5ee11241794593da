-- How many items a sheet says that it has, and so the room that a call's arrays need. Assumes nothing.
use Rattle.std.specs.Prelude.{ℕ, min, ◌≤◌, cond, List, ltb, length}
use Rattle.layout.specs.Layout.{head_next, most_items}
use Rattle.layout.specs.Content.{count_in}
use Rattle.layout.specs.Read.{head_content}

-- the item count that the first field says, 0 where the sheet ends before it
unfoldable pub count_said : List ℕ → ℕ
count_said s = cond (ltb (length s) head_next) 0 (count_in (head_content s))

-- the room that the sheet's items need in an array: for as many as it says, and for no more than the most of any edition
unfoldable pub room_for : List ℕ → ℕ
room_for s = min (count_said s) most_items

-- an array of offsets and one of bytes with that room
abbrev pub Room : List ℕ → List ℕ → List ℕ → Type 0
Room s offsets bytes = (room_for s ≤ length offsets) × (room_for s ≤ length bytes)
