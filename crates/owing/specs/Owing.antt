-- Arrays of owed bytes, a byte for each item: what they say, and how the pass over the items makes one. Assumes nothing.
use Rattle.std.specs.Prelude.{ℕ, zero, suc, ◌+◌, ◌*◌, ◌<◌, ◌≤◌, ◌≡◌, Bool, not, List, eqb, length, get_or, set}
use Rattle.circuit.specs.Sheet.{Sheet, size}
use Rattle.circuit.specs.Table.{Table}
use Rattle.circuit.specs.Owed.{owed}
use Rattle.table.specs.Record.{width, owed_place, owed_code}

-- the array says that item i is owed
abbrev pub says_owed : List ℕ → ℕ → Bool
says_owed bytes i = not (eqb (get_or bytes i 0) 0)

-- the array says which items are owed on the table T
pub record OwedIs (S : Sheet) (T : Table) (bytes : List ℕ) : Type 0 where
  pub room : size S ≤ length bytes
  pub byte_is : (i : ℕ) → i < size S → get_or bytes i 0 ≡ owed_code (owed S T i)

-- the array after a 1 for each of the first k of the parents ps
unfoldable pub owe_each : List ℕ → List ℕ → ℕ → List ℕ
owe_each bytes ps zero = bytes
owe_each bytes ps (suc k) = set (owe_each bytes ps k) (get_or ps k 0) 1

-- the table after the owed bytes of its first n records were set to those of the array
unfoldable pub owe_rows : List ℕ → List ℕ → ℕ → List ℕ
owe_rows t bytes zero = t
owe_rows t bytes (suc n) = set (owe_rows t bytes n) (width * n + owed_place) (get_or bytes n 0)
