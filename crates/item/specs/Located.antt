-- What an array of offsets is good for: each is the offset of its item's field. Assumes nothing.
use Rattle.std.specs.Prelude.{ℕ, ◌≡◌, List, length}
use Rattle.circuit.specs.Sheet.{size}
use Rattle.layout.specs.Opened.{sheet_of, Located}

-- the array has the offsets of the sheet's items and no more
pub record FieldsAt (s offsets : List ℕ) : Type 0 where
  pub located : Located s offsets
  pub counted : length offsets ≡ size (sheet_of s)
