-- `sheet_cases::run` meets its contract. The loop's invariant: the arrays are as long as they were. Assumes nothing.
use Rattle.std.proofs.Common.{length, ◌-◌, ◌≡◌}
use Rattle.layout.specs.Layout.{most_items}
use Rattle.sheet_cases.proofs.run.Given as goal

abbrev pub invariant-loop-next : goal.invariant-loop-next
invariant-loop-next l = (most_items ≡ length l.offsets) × (most_items ≡ length l.levels)

abbrev pub decreases-loop-next : goal.decreases-loop-next
decreases-loop-next l = length l.cases - l.at
