-- A list made of rows of one length. Assumes nothing.
use Rattle.std.specs.Prelude.{ℕ, zero, suc, ◌*◌, Bool, true, ◌&&◌, List, [], ◌++◌, take, drop}
use Rattle.std.proofs.lemmas.List.Edits.{sets}

-- row i, of w elements
abbrev pub row : ℕ → List ℕ → ℕ → List ℕ
row w bs i = take w (drop (w * i) bs)

-- the list with r for row i
abbrev pub set_row : ℕ → List ℕ → ℕ → List ℕ → List ℕ
set_row w bs i r = sets bs (w * i) r

-- the first n rows, one after the other
unfoldable pub rows_below : (ℕ → List ℕ) → ℕ → List ℕ
rows_below f zero = []
rows_below f (suc n) = rows_below f n ++ f n

-- each number below n passes the test
unfoldable pub all_below : (ℕ → Bool) → ℕ → Bool
all_below p zero = true
all_below p (suc n) = all_below p n && p n
