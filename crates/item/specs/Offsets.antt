-- The index over the list of offsets, and the equality of lists of bytes. Assumes nothing.
use Rattle.std.specs.Prelude.{ℕ, ◌+◌, Bool, true, false, ◌&&◌, List, [], ◌∷◌, ◌++◌, eqb, get_or}
use Rattle.std.proofs.lemmas.List.Edits.{sets}
use Rattle.layout.specs.Index.{bytes32}

-- each offset in four bytes, in order
unfoldable pub offset_bytes : List ℕ → List ℕ
offset_bytes [] = []
offset_bytes (o ∷ os) = bytes32 o ++ offset_bytes os

unfoldable pub same_bytes : List ℕ → List ℕ → Bool
same_bytes [] [] = true
same_bytes [] (b ∷ bs) = false
same_bytes (a ∷ rest) [] = false
same_bytes (a ∷ rest) (b ∷ bs) = eqb a b && same_bytes rest bs

-- the four bytes at an offset of the index
abbrev pub four_at : List ℕ → ℕ → List ℕ
four_at index at = get_or index at 0 ∷ get_or index (at + 1) 0 ∷ get_or index (at + 2) 0 ∷ get_or index (at + 3) 0 ∷ []

-- the index after an offset is stored in those
abbrev pub put_offset : List ℕ → ℕ → ℕ → List ℕ
put_offset index at o = sets index at (bytes32 o)
