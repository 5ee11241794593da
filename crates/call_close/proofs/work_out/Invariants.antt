-- The loop over the parents of a figure: the values of the first k are gathered.
use Rattle.call_close.proofs.Gathering.{Gathering}
use Rattle.call_close.proofs.work_out.Given as goal

abbrev pub invariant-loop-k : goal.invariant-loop-k
invariant-loop-k l = Gathering l.sheet l.table l.i l.item l.count l.k l.values
