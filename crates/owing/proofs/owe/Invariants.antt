-- `owing::owe` meets its contract. The loop's invariant: each item's byte says whether some child from c on leans. Assumes nothing.
use lib.ListN.{length}
use Rattle.layout.specs.Opened.{sheet_of}
use Rattle.table.specs.Bytes.{decode_table}
use Rattle.owing.proofs.Passing.{Passed}
use Rattle.owing.proofs.owe.Given as goal

abbrev pub invariant-loop-c : goal.invariant-loop-c
invariant-loop-c l = Passed (sheet_of l.sheet) (decode_table l.table) (length l.initial.owed) l.c l.owed
