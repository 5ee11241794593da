-- Numbers of several bytes, the low byte first. Assumes nothing.
use Rattle.std.specs.Prelude.{ℕ, zero, suc, ◌+◌, ◌*◌, ◌/◌, ◌%◌, List, [], ◌∷◌, ℤ, get_or}
use Rattle.std.specs.Int.{w64}
use Rattle.std.proofs.Common.{to_z, of_z}
pub use Rattle.field.specs.Bytes.{Bytes}

-- the number in the n bytes at an offset
unfoldable pub le_at : ℕ → List ℕ → ℕ → ℕ
le_at zero s at = 0
le_at (suc n) s at = get_or s at 0 + 256 * le_at n s (at + 1)

-- the lowest n bytes of a number
unfoldable pub le_bytes : ℕ → ℕ → List ℕ
le_bytes zero x = []
le_bytes (suc n) x = x % 256 ∷ le_bytes n (x / 256)

-- how many bytes a signed number has
abbrev pub size64 : ℕ
size64 = 8

-- the signed number in the 8 bytes at an offset, in two's complement
abbrev pub le64_at : List ℕ → ℕ → ℤ
le64_at s at = to_z w64 (le_at size64 s at)

-- the 8 bytes of a signed number
abbrev pub bytes64 : ℤ → List ℕ
bytes64 z = le_bytes size64 (of_z w64 z)
