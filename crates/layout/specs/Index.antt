-- The index: for each item the offset of its field, in four bytes. Assumes nothing.
use Rattle.std.specs.Prelude.{ℕ, ◌+◌, ◌*◌, ◌/◌, ◌%◌, List, [], ◌∷◌, map, get_or}
use Rattle.layout.specs.Read.{Placed}
use Rattle.layout.specs.Write.{concat}
pub use Rattle.layout.specs.Layout.{index_width}

abbrev pub bytes32 : ℕ → List ℕ
bytes32 n = n % 256 ∷ n / 256 % 256 ∷ n / 65_536 % 256 ∷ n / 16_777_216 % 256 ∷ []

-- what opening writes
unfoldable pub index_bytes : List Placed → List ℕ
index_bytes ps = concat (map (λ p. bytes32 p.offset) ps)

-- the number in the four bytes at an offset, the low one first
abbrev pub le32_at : List ℕ → ℕ → ℕ
le32_at s at = get_or s at 0 + 256 * get_or s (at + 1) 0 + 65_536 * get_or s (at + 2) 0 + 16_777_216 * get_or s (at + 3) 0
