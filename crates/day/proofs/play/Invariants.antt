-- The whole day is the lines so far and what follows from the offset on. The measure is what is left of the log.
use Prim.Native.Nat.{◌-◌}
use lib.ListN.{length}
use Rattle.day_meaning.proofs.Playing.{Playing}
use Rattle.day.proofs.play.Given as goal

abbrev pub invariant-loop-placed : goal.invariant-loop-placed
invariant-loop-placed l = Playing l.sheet l.index l.log l.initial.table l.initial.out l.table l.out l.at l.count

abbrev pub decreases-loop-placed : goal.decreases-loop-placed
decreases-loop-placed l = length l.log - l.at
