-- `printer::put_mark` meets its contract. The invariant: the first k bytes are the mark's, and the others are as they
-- were. Assumes nothing.
use Rattle.printer.proofs.Copying.{Copying}
use Rattle.printer.proofs.put_mark.Given as goal

abbrev pub invariant-loop-k : goal.invariant-loop-k
invariant-loop-k l = Copying l.mark l.fn.scratch l.scratch l.k
