-- The room for a sheet's items: it is enough for all that are read, and never more than the most of any edition. Assumes nothing.
use Prim.Native.Nat.{ℕ, ◌≤◌}
use native.Mathlib.Omega.{arith}
use mathlib.Core.Path.{◌≡◌}
use mathlib.Core.List.{List}
use lib.ListN.{length}
use borrow.Author.Tests.{le-ltb}
use Rattle.field.specs.Field.{cut_at, header_length}
use Rattle.field.proofs.Cutting.{field_iff}
use Rattle.layout.specs.Layout.{head_tag, head_length, head_next, most_items}
use Rattle.layout.specs.Content.{edition_in, count_in}
use Rattle.layout.specs.Read.{Placed, opens, read_sheet, head_content, head_tests, judge}
use Rattle.layout.specs.Room.{count_said, room_for}
use Rattle.layout.proofs.Scan.{head_read, allowed_limit, limit_most, opened, opened_length, opened_count}

-- a sheet with a whole first field says the count that stands there
said : (s : List ℕ) → head_next ≤ length s → count_said s ≡ count_in (head_content s)
unfolding count_said
said s h = rw (le-ltb (length s) head_next h)

pub room_most : (s : List ℕ) → room_for s ≤ most_items
unfolding room_for
room_most s = omega arith

-- the items that are read after a first field without a fault
pub head_room : (s : List ℕ) → judge head_tests s (cut_at s 0) ≡ 0 → count_in (head_content s) ≤ room_for s
unfolding room_for
head_room s e =
    let h = head_read s e in
    let f = (field_iff s 0 head_tag header_length head_length head_next).0 h.head in
    let edition : ℕ = edition_in (head_content s) in
    let n : ℕ = count_in (head_content s) in
    omega (arith, said s (omega arith), allowed_limit edition n h.count_fits, limit_most edition)

module _ (s : List ℕ) (edition : ℕ) (ps : List Placed) (e : read_sheet s ≡ opens edition ps) where
  -- the item count of a sheet that opens
  pub item_count : count_said s ≡ length ps
  item_count =
      let o = opened s edition ps e in
      let f = (field_iff s 0 head_tag header_length head_length head_next).0 o.head in
      omega (arith, said s (omega arith), opened_length s edition ps e)

  -- and the room is for just these
  pub opened_room : room_for s ≡ length ps
  unfolding room_for
  opened_room = omega (arith, item_count, opened_count s edition ps e)
