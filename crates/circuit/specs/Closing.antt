-- 02's season-close run: "A run goes over the items once, lowest first, and fills the lent work table in place: entry values as they
-- were, every figure worked out anew from its parents and stored, no marks." Nothing is looked up: the parents have lower numbers, so
-- the run has already written their cells. Assumes nothing.
use Rattle.std.specs.Prelude.{ℕ, zero, suc, Bool, true, false, List, [], ◌∷◌, ◌++◌, map}
use Rattle.circuit.specs.Value.{Value}
use Rattle.circuit.specs.Sheet.{Sheet, size, item_at, is_figure, parents, evaluate}
use Rattle.circuit.specs.Table.{Table, unmarked, held, upd, value_in}
use Rattle.circuit.specs.Call.{Call, keep}

-- an entry's value as it was, a figure's by its rule on the values in its parents' cells, in their listed order
unfoldable pub closed_value : Sheet → Table → ℕ → Value
closed_value S T i = evaluate (item_at S i) (value_in (T i)) (map (λ p. value_in (T p)) (parents S i))

-- item i, whatever its cell is: stored, without a mark
unfoldable pub close_item : Sheet → Table → ℕ → Table
close_item S T i = upd T i (held (closed_value S T i) unmarked)

-- the items below k, lowest first, once each
unfoldable pub close_below : Sheet → Table → ℕ → Table
close_below S T zero = T
close_below S T (suc k) = close_item S (close_below S T k) k

unfoldable pub close_all : Sheet → Table → Table
close_all S T = close_below S T (size S)

-- the calls that keep every figure, lowest first, to which the run is held
abbrev pub keep_if : Bool → ℕ → List Call
keep_if true i = keep i ∷ []
keep_if false i = []

unfoldable pub keeps_below : Sheet → ℕ → List Call
keeps_below S zero = []
keeps_below S (suc k) = keeps_below S k ++ keep_if (is_figure (item_at S k)) k

unfoldable pub keep_every : Sheet → List Call
keep_every S = keeps_below S (size S)
