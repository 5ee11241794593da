-- `owing::copy_owed` meets its contract. The loop's invariant: the owed bytes of the first i items are copied. Assumes nothing.
use lib.ListN.{length}
use Rattle.owing.proofs.Writing.{Copied}
use Rattle.owing.proofs.copy_owed.Given as goal

abbrev pub invariant-loop-i : goal.invariant-loop-i
invariant-loop-i l = Copied l.table (length l.initial.owed) l.i l.owed
