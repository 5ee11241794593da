-- Each look-up that working out makes is of a lower item.
use Rattle.std.proofs.Common.{◌+◌, ◌*◌}
use Rattle.looking.proofs.Gathering.{Going}
use Rattle.looking.proofs.+look_unstored_look_up_work_out.Given as goal

abbrev pub decreases-look_unstored : goal.decreases-look_unstored
decreases-look_unstored l = 3 * l.i + 1

abbrev pub decreases-look_up : goal.decreases-look_up
decreases-look_up l = 3 * l.i + 2

abbrev pub decreases-work_out : goal.decreases-work_out
decreases-work_out l = 3 * l.i

abbrev pub invariant-work_out-loop-k : goal.invariant-work_out-loop-k
invariant-work_out-loop-k l = Going l.sheet l.fn.table l.fn.memo l.i l.item l.count l.k l.table l.memo l.values l.flag
