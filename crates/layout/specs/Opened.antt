-- A sheet that opens, as the calls see it: its items with their places, the machine's sheet, and an array of the offsets of
-- its fields. Assumes nothing.
use Rattle.std.specs.Prelude.{ℕ, ◌≡◌, List, [], map, length, take}
use Rattle.circuit.specs.Sheet.{Sheet}
use Rattle.layout.specs.Layout.{machine_sheet}
use Rattle.layout.specs.Read.{Placed, SheetRead, opens, refused, read_sheet, layout_of}

-- the items of a sheet that opens, none of one that is refused
abbrev pub placed_from : SheetRead → List Placed
placed_from (opens edition ps) = ps
placed_from (refused k at) = []

unfoldable pub items_of : List ℕ → List Placed
items_of s = placed_from (read_sheet s)

-- the machine's sheet of what was read
abbrev pub sheet_read : ℕ → List Placed → Sheet
sheet_read edition ps = machine_sheet (layout_of edition ps)

abbrev pub sheet_from : SheetRead → Sheet
sheet_from (opens edition ps) = sheet_read edition ps
sheet_from (refused k at) = []

unfoldable pub sheet_of : List ℕ → Sheet
sheet_of s = sheet_from (read_sheet s)

abbrev pub offsets_of : List Placed → List ℕ
offsets_of ps = map (λ p. p.offset) ps

abbrev pub levels_of : List Placed → List ℕ
levels_of ps = map (λ p. p.level) ps

-- the array begins with the offsets of the sheet's items
unfoldable pub Located : List ℕ → List ℕ → Type 0
Located s offsets = take (length (items_of s)) offsets ≡ offsets_of (items_of s)
