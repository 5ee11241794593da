-- The loop looks the items up in list order.
use Rattle.std.specs.Iterator.Adapters.{enumerate_count}
use Rattle.call_board.proofs.Chunks.{Passed}
use Rattle.call_board.proofs.Showing.{Showing}
use Rattle.call_board.proofs.show_each.Given as goal

abbrev pub invariant-loop-k : goal.invariant-loop-k
invariant-loop-k l = record {
  passed : Passed l.k-iterator l.items;
  showing : Showing l.sheet l.items l.initial.table l.initial.results (enumerate_count l.k-iterator) l.table l.memo l.results;
}
