-- `sheet::level_over` meets its contract. The loop's invariant: what is left to it, and that the highest level so far is a byte.
-- Assumes nothing.
use Prim.Native.Nat.{◌≤◌}
use Rattle.sheet.proofs.Levels.{Left}
use Rattle.sheet.proofs.level_over.Given as goal

abbrev pub invariant-loop-pair : goal.invariant-loop-pair
invariant-loop-pair l = record {
  left : Left l.levels l.pair-iterator l.parents l.highest;
  small : l.highest ≤ 255;
}
