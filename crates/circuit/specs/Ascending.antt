-- What the code runs to catch up: one ascending pass, in which each item is stepped while it is marked, and in which w, fixed at the
-- start, says what counts as owed. That it is 01's "step the lowest marked item until none is marked" is
-- `catch_up_ascends` (proofs/CatchUp); that w may have more than is owed is `catch_up_by` (proofs/CalledMore). Assumes nothing.
use Rattle.std.specs.Prelude.{ℕ, zero, suc, Bool, true, false}
use Rattle.circuit.specs.Sheet.{Sheet, size, is_child}
use Rattle.circuit.specs.Table.{Table, Cell, unmarked, refresh, notice, unk, held, is_marked}
use Rattle.circuit.specs.Machine.{work_out, renewed, tell_cell, clear_mark, step_item}

abbrev pub step_if : Bool → Sheet → Table → ℕ → Table
step_if true S T i = step_item S T i
step_if false S T i = T

-- item i is stepped if it is marked
unfoldable pub step_marked : Sheet → Table → ℕ → Table
step_marked S T i = step_if (is_marked (T i)) S T i

-- the items below k, each stepped while it is marked, which is twice at most: a refresh may become a notice
unfoldable pub ascend_below : Sheet → Table → ℕ → Table
ascend_below S T zero = T
ascend_below S T (suc k) = step_marked S (step_marked S (ascend_below S T k) k) k

unfoldable pub ascend : Sheet → Table → Table
ascend S T = ascend_below S T (size S)

-- the same, where w says what counts as owed

unfoldable pub tell_child_by : Bool → Sheet → Table → ℕ → Table
tell_child_by called S T c = tell_cell called S T c (T c)

abbrev pub tell_if_by : Bool → Bool → Sheet → Table → ℕ → Table
tell_if_by true called S T c = tell_child_by called S T c
tell_if_by false called S T c = T

unfoldable pub tell_below_by : (ℕ → Bool) → Sheet → ℕ → Table → ℕ → Table
tell_below_by w S i T zero = T
tell_below_by w S i T (suc k) = tell_if_by (is_child S i k) (w k) S (tell_below_by w S i T k) k

-- where i does not count as owed, no child is told
abbrev pub tell_where : Bool → (ℕ → Bool) → Sheet → Table → ℕ → Table
tell_where true w S T i = tell_below_by w S i T (size S)
tell_where false w S T i = T

unfoldable pub tell_by : (ℕ → Bool) → Sheet → Table → ℕ → Table
tell_by w S T i = tell_where (w i) w S T i

abbrev pub step_cell_by : (ℕ → Bool) → Sheet → Table → ℕ → Cell → Table
step_cell_by w S T i (unk true) = clear_mark (tell_by w S T i) i
step_cell_by w S T i (unk false) = T
step_cell_by w S T i (held v unmarked) = T
step_cell_by w S T i (held v refresh) = renewed i v unmarked (work_out S T i)
step_cell_by w S T i (held v notice) = clear_mark (tell_by w S T i) i

unfoldable pub step_by : (ℕ → Bool) → Sheet → Table → ℕ → Table
step_by w S T i = step_cell_by w S T i (T i)

abbrev pub step_if_by : Bool → (ℕ → Bool) → Sheet → Table → ℕ → Table
step_if_by true w S T i = step_by w S T i
step_if_by false w S T i = T

unfoldable pub step_marked_by : (ℕ → Bool) → Sheet → Table → ℕ → Table
step_marked_by w S T i = step_if_by (is_marked (T i)) w S T i

unfoldable pub ascend_below_by : (ℕ → Bool) → Sheet → Table → ℕ → Table
ascend_below_by w S T zero = T
ascend_below_by w S T (suc k) = step_marked_by w S (step_marked_by w S (ascend_below_by w S T k) k) k

unfoldable pub ascend_by : (ℕ → Bool) → Sheet → Table → Table
ascend_by w S T = ascend_below_by w S T (size S)
