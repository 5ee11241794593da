-- A sheet with its edition number changed, and what reading it finds where the change means nothing. Assumes nothing.
use Rattle.std.specs.Prelude.{ℕ, ◌+◌, ◌/◌, ◌%◌, List, set}
use Rattle.field.specs.Field.{header_length}
use Rattle.layout.specs.Layout.{edition_at}
use Rattle.layout.specs.Read.{SheetRead, opens, refused}

-- The sheet with this number in the two bytes of its edition, the low one first. Every other byte stays, and where the sheet ends before
-- them nothing is added.
unfoldable pub with_edition : ℕ → List ℕ → List ℕ
with_edition edition s = set (set s (header_length + edition_at) (edition % 256)) (header_length + edition_at + 1) (edition / 256)

-- the same items under this edition, the same refusal
abbrev pub reissued : ℕ → SheetRead → SheetRead
reissued edition (opens other ps) = opens edition ps
reissued edition (refused k at) = refused k at
