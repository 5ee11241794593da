-- The first k records hold the cells of the opened table.
use Rattle.call_open.specs.Opening.{opening_by}
use Rattle.call_open.proofs.Writing.{Written}
use Rattle.call_open.proofs.write_table.Given as goal

abbrev pub invariant-loop-k : goal.invariant-loop-k
invariant-loop-k l = Written (opening_by l.opening) l.sheet l.initial.table l.k l.table
