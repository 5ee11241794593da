-- The example sheet, read and written; and for each number from 1 to 7 a sheet that is turned back with it. All by computation.
-- Assumes nothing.
use mathlib.Core.Path.{◌≡◌, refl}
use mathlib.Core.Bool.{Bool, true, false}
use mathlib.Core.List.{List, [], ◌∷◌, ◌++◌}
use Prim.Native.Nat.{ℕ, zero, suc}
use lib.ListN.{drop}
use Rattle.field.specs.Field.{cut_at}
use Rattle.circuit.specs.Calls.{first_cause}
use Rattle.circuit.specs.Rules.{sum, operation_of, coded, one_or_more, max_parents, count_allowed as parents_allowed}
use Rattle.circuit.specs.Sheet.{figure, defer, renew}
use Rattle.circuit.proofs.Examples.{day_sheet}
use Rattle.layout.specs.Layout.{LayoutItem, entry_field, figure_field, Layout, edition_known, item_limit, count_allowed}
use Rattle.layout.specs.Layout.{level_limit, keep_allowed, spread_limit, spread_allowed, name_limit, name_allowed, all}
use Rattle.layout.specs.Layout.{highest, spread_meant, machine_item, machine_sheet}
use Rattle.layout.specs.Content.{parents_in, item_in}
use Rattle.layout.specs.Read.{placed, length_or_name, head_tests, item_tests, last_tests, scan, scan_sheet, SheetRead, opens, refused, read_sheet}
use Rattle.layout.specs.Write.{concat, item_bytes, items_within, within, write_sheet}
use Rattle.layout.specs.Places.{places_from, places}
use Rattle.layout.specs.Index.{index_bytes}
use Rattle.layout.specs.Causes.{field_offset}
use Rattle.layout.specs.Edition.{with_edition}
use Rattle.layout.specs.Spreads.{zeroed_below, without_forget}

-- to unfold these is to unfold all that the limits, reading and writing compute with
unfoldable pub limiting : ℕ → ℕ → Bool
unfolding edition_known count_allowed item_limit level_limit keep_allowed spread_allowed spread_limit name_allowed name_limit operation_of coded one_or_more max_parents parents_allowed
limiting edition n = count_allowed edition n

unfoldable pub reading : List ℕ → SheetRead
unfolding limiting read_sheet scan_sheet scan head_tests item_tests last_tests first_cause cut_at all highest parents_in item_in length_or_name
reading s = read_sheet s

unfoldable pub writing : Layout → List ℕ
unfolding write_sheet concat item_bytes within items_within places_from highest
writing l = write_sheet l

-- the bytes of the example
unfoldable pub example_bytes : List ℕ
example_bytes =
    0x01 ∷ 0x04 ∷ 0x00 ∷ 0x01 ∷ 0x00 ∷ 0x05 ∷ 0x00
    ∷ 0x02 ∷ 0x01 ∷ 0x00 ∷ 0x41
    ∷ 0x02 ∷ 0x01 ∷ 0x00 ∷ 0x4_c
    ∷ 0x02 ∷ 0x01 ∷ 0x00 ∷ 0x53
    ∷ 0x03 ∷ 0x09 ∷ 0x00 ∷ 0x01 ∷ 0x01 ∷ 0x00 ∷ 0x02 ∷ 0x00 ∷ 0x00 ∷ 0x02 ∷ 0x00 ∷ 0x54
    ∷ 0x03 ∷ 0x09 ∷ 0x00 ∷ 0x02 ∷ 0x00 ∷ 0x00 ∷ 0x02 ∷ 0x03 ∷ 0x00 ∷ 0x01 ∷ 0x00 ∷ 0x42
    ∷ 0x04 ∷ 0x00 ∷ 0x00 ∷ []

-- its items
unfoldable pub example : Layout
example =
    record {
      edition = 1;
      items = entry_field (0x41 ∷ [])
          ∷ entry_field (0x4_c ∷ [])
          ∷ entry_field (0x53 ∷ [])
          ∷ figure_field 1 1 0 (0 ∷ 2 ∷ []) (0x54 ∷ [])
          ∷ figure_field 2 0 0 (3 ∷ 1 ∷ []) (0x42 ∷ [])
          ∷ [];
    }

pub example_written : write_sheet example ≡ example_bytes
unfolding example example_bytes writing
example_written = refl

pub example_reads : read_sheet example_bytes ≡ opens 1 (places example)
unfolding example example_bytes reading writing
example_reads = refl

-- its edition number changed to 2, which is byte 3: it opens with the same items; and so is that of a sheet that ends there
pub example_edition_2 : (with_edition 2 example_bytes ≡ 0x01 ∷ 0x04 ∷ 0x00 ∷ 0x02 ∷ drop 4 example_bytes)
    × (read_sheet (with_edition 2 example_bytes) ≡ opens 2 (places example))
    × (with_edition 2 (0x01 ∷ 0x04 ∷ 0x00 ∷ 0x01 ∷ []) ≡ 0x01 ∷ 0x04 ∷ 0x00 ∷ 0x02 ∷ [])
unfolding example example_bytes with_edition reading writing
example_edition_2 = (refl, refl, refl)

-- the index 7, 11, 15, 19, 31
pub example_index_lem : index_bytes (places example) ≡ 7 ∷ 0 ∷ 0 ∷ 0 ∷ 11 ∷ 0 ∷ 0 ∷ 0 ∷ 15 ∷ 0 ∷ 0 ∷ 0 ∷ 19 ∷ 0 ∷ 0 ∷ 0 ∷ 31 ∷ 0 ∷ 0 ∷ 0 ∷ []
unfolding example index_bytes writing
example_index_lem = refl

-- the sheet of the example day
pub example_machine : machine_sheet example ≡ day_sheet
unfolding example day_sheet machine_item operation_of coded one_or_more max_parents parents_allowed spread_meant
example_machine = refl

-- A sheet that is given a number.

abbrev pub head : ℕ → List ℕ
head n = 1 ∷ 4 ∷ 0 ∷ 1 ∷ 0 ∷ n ∷ 0 ∷ []

abbrev pub entry_a : List ℕ
entry_a = 2 ∷ 1 ∷ 0 ∷ 65 ∷ []

abbrev pub end : List ℕ
end = 4 ∷ 0 ∷ 0 ∷ []

abbrev pub figure_of : ℕ → ℕ → ℕ → ℕ → List ℕ
figure_of rule keep spread parent = 3 ∷ 7 ∷ 0 ∷ rule ∷ keep ∷ spread ∷ 1 ∷ parent ∷ 0 ∷ 66 ∷ []

-- `Gives s k offset`: the sheet s is turned back with number k and this offset
abbrev Gives : List ℕ → ℕ → ℕ → Type 0
Gives s k offset = read_sheet s ≡ refused k offset

pub gives_1 : Gives [] 1 0 × Gives (head 1) 1 7 × Gives (head 1 ++ (2 ∷ 2 ∷ 0 ∷ 65 ∷ [])) 1 7 × Gives (head 1 ++ entry_a) 1 11
unfolding reading
gives_1 = (refl, refl, refl, refl)

pub gives_2 : Gives entry_a 2 0 × Gives (head 2 ++ entry_a ++ end) 2 11 × Gives (head 1 ++ entry_a ++ entry_a) 2 11 × Gives (head 1 ++ entry_a ++ end ++ (0 ∷ [])) 2 14
unfolding reading
gives_2 = (refl, refl, refl, refl)

pub gives_3 : Gives (1 ∷ 2 ∷ 0 ∷ 1 ∷ 0 ∷ []) 3 0 × Gives (head 1 ++ (2 ∷ 1 ∷ 0 ∷ 32 ∷ [])) 3 7 × Gives (head 1 ++ (3 ∷ 3 ∷ 0 ∷ 1 ∷ 0 ∷ 0 ∷ [])) 3 7
    × Gives (head 1 ++ (3 ∷ 6 ∷ 0 ∷ 1 ∷ 0 ∷ 0 ∷ 1 ∷ 0 ∷ 0 ∷ [])) 3 7 × Gives (head 1 ++ entry_a ++ (4 ∷ 1 ∷ 0 ∷ 0 ∷ [])) 3 11
unfolding reading
gives_3 = (refl, refl, refl, refl, refl)

pub gives_4 : Gives (1 ∷ 4 ∷ 0 ∷ 3 ∷ 0 ∷ 1 ∷ 0 ∷ []) 4 0 × Gives (head 0 ++ end) 4 0
unfolding reading
gives_4 = (refl, refl)

pub gives_5 : Gives (head 2 ++ entry_a ++ figure_of 0 0 0 0) 5 11 × Gives (head 2 ++ entry_a ++ figure_of 2 0 0 0) 5 11
    × Gives (head 2 ++ entry_a ++ figure_of 1 2 0 0) 5 11 × Gives (head 2 ++ entry_a ++ figure_of 1 0 3 0) 5 11
unfolding reading
gives_5 = (refl, refl, refl, refl)

-- Spread 2 in edition 2, also before a parent that is wrong; edition 1 takes it, and not 3.
abbrev pub head_of2 : ℕ → List ℕ
head_of2 n = 1 ∷ 4 ∷ 0 ∷ 2 ∷ 0 ∷ n ∷ 0 ∷ []

pub gives_5_in_2 : Gives (head_of2 2 ++ entry_a ++ figure_of 1 0 2 0 ++ end) 5 11 × Gives (head_of2 2 ++ entry_a ++ figure_of 1 0 2 5 ++ end) 5 11
    × Gives (head_of2 3 ++ entry_a ++ figure_of 1 0 1 0 ++ figure_of 1 0 2 0 ++ end) 5 21
unfolding reading
gives_5_in_2 = (refl, refl, refl)

pub taken_in_1 : read_sheet (head 2 ++ entry_a ++ figure_of 1 0 2 0 ++ end)
    ≡ opens 1 (placed 7 (entry_field (65 ∷ [])) 0 ∷ placed 11 (figure_field 1 0 2 (0 ∷ []) (66 ∷ [])) 1 ∷ [])
unfolding reading
taken_in_1 = refl

-- the sheet with 0 in place of each 2, an entry's bytes and other spreads left
pub zeroed_twos : without_forget (head 4 ++ entry_a ++ figure_of 1 0 2 0 ++ figure_of 1 2 1 0 ++ figure_of 1 0 2 2 ++ end)
    ≡ head 4 ++ entry_a ++ figure_of 1 0 0 0 ++ figure_of 1 2 1 0 ++ figure_of 1 0 0 2 ++ end
unfolding zeroed_below field_offset
zeroed_twos = refl

pub gives_6 : Gives (head 2 ++ entry_a ++ figure_of 1 0 0 1 ++ end) 6 11
unfolding reading
gives_6 = refl

-- an entry and n figures, each the sum of the item before it: figure i has level i
abbrev pub links : ℕ → List LayoutItem
links zero = entry_field (65 ∷ []) ∷ []
links (suc n) = links n ++ (figure_field 1 0 0 (n ∷ []) (66 ∷ []) ∷ [])

abbrev pub chain : ℕ → Layout
chain n = record { edition = 1; items = links n }

pub gives_7 : Gives (write_sheet (chain 65)) 7 651
unfolding reading writing
gives_7 = refl

-- In a field the lowest number counts: a name and a rule wrong, a rule and a parent, a parent and what follows from it; and a
-- fault of an earlier field comes before any of a later one.
pub lowest_counts : Gives (head 2 ++ entry_a ++ (3 ∷ 7 ∷ 0 ∷ 9 ∷ 0 ∷ 0 ∷ 1 ∷ 5 ∷ 0 ∷ 32 ∷ [])) 3 11
    × Gives (head 2 ++ entry_a ++ figure_of 9 0 0 5) 5 11 × Gives (head 2 ++ entry_a ++ figure_of 1 0 0 5) 6 11
    × Gives (1 ∷ 3 ∷ 0 ∷ 2 ∷ 0 ∷ 0 ∷ []) 3 0 × Gives (9 ∷ 3 ∷ 0 ∷ 2 ∷ 0 ∷ 0 ∷ []) 2 0 × Gives (9 ∷ 3 ∷ 0 ∷ 2 ∷ 0 ∷ []) 1 0
    × Gives (head 2 ++ figure_of 9 0 0 5 ++ (9 ∷ [])) 5 7
unfolding reading
lowest_counts = (refl, refl, refl, refl, refl, refl, refl)

-- the level of a figure with several parents is one more than their highest, wherever that one stands
pub highest_anywhere : (highest [] ≡ 0) × (highest (0 ∷ 3 ∷ 1 ∷ []) ≡ 3) × (highest (3 ∷ 0 ∷ 1 ∷ []) ≡ 3) × (highest (1 ∷ 0 ∷ 3 ∷ []) ≡ 3)
unfolding highest
highest_anywhere = (refl, refl, refl, refl)

-- Spread is 0 defer, 1 renew, and 2 is treated as 0; keep 1 keeps.
pub machine_bytes : (spread_meant 0 ≡ defer) × (spread_meant 1 ≡ renew) × (spread_meant 2 ≡ defer)
    × (machine_item (figure_field 1 0 0 (0 ∷ []) (65 ∷ [])) ≡ figure sum false defer (0 ∷ []))
    × (machine_item (figure_field 1 1 0 (0 ∷ []) (65 ∷ [])) ≡ figure sum true defer (0 ∷ []))
unfolding spread_meant machine_item operation_of coded one_or_more max_parents parents_allowed
machine_bytes = (refl, refl, refl, refl, refl)
