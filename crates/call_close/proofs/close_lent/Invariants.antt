-- The pass over the items: those below i are closed.
use Rattle.call_close.proofs.Closing.{Closing}
use Rattle.call_close.proofs.close_lent.Given as goal

abbrev pub invariant-loop-i : goal.invariant-loop-i
invariant-loop-i l = Closing l.sheet l.initial.table l.i l.table
