-- The children below some item are told, and the edge leads to the next.
use Rattle.owing.specs.Owing.{says_owed}
use Rattle.children.specs.Children.{edge_number}
use Rattle.children.proofs.Linking.{left}
use Rattle.telling.proofs.Children.{ToldBelow}
use Rattle.telling.proofs.tell_children.Given as goal

abbrev pub invariant-loop-told : goal.invariant-loop-told
invariant-loop-told l = ToldBelow (says_owed l.owed) l.sheet l.fn.table l.fn.memo.generation l.i l.told l.table l.memo

abbrev pub decreases-loop-told : goal.decreases-loop-told
decreases-loop-told l = left l.children.lists.links (edge_number l.told)
