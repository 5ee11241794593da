-- 02's "owed". The recursion over children, which have higher numbers, has a bound; Equations has it without. Assumes nothing.
use Rattle.std.specs.Prelude.{ℕ, zero, suc, Bool, true, false, ◌||◌, ◌&&◌}
use Rattle.circuit.specs.Sheet.{Sheet, size, is_child}
use Rattle.circuit.specs.Table.{Table, Cell, unk, held}

-- some number below n passes the test
unfoldable pub any_below : (ℕ → Bool) → ℕ → Bool
any_below p zero = false
any_below p (suc n) = any_below p n || p n

-- A child leans on its parents: it "is stored, or is UNK and itself owed".
abbrev pub leaning : Cell → Bool → Bool
leaning (held v m) owed = true
leaning (unk f) owed = owed

-- some child of i leans on it; the first argument bounds how far the children are followed, and n is enough
unfoldable pub owed_for : ℕ → Sheet → Table → ℕ → Bool
owed_for zero S T i = false
owed_for (suc fuel) S T i = any_below (λ c. is_child S i c && leaning (T c) (owed_for fuel S T c)) (size S)

-- 02's "owed: 1 if some child is stored, or is UNK and itself owed; else 0", of entries and of figures
unfoldable pub owed : Sheet → Table → ℕ → Bool
owed S T i = owed_for (size S) S T i

-- item c leans on its parents
abbrev pub leans : Sheet → Table → ℕ → Bool
leans S T c = leaning (T c) (owed S T c)
