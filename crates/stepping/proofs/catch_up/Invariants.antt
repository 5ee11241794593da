-- The pass has reached i, and the child lists are built or blank.
use Rattle.layout.specs.Opened.{sheet_of}
use Rattle.owing.specs.Owing.{says_owed}
use Rattle.children.specs.Children.{Kept}
use Rattle.stepping.proofs.Ascending.{Ascending}
use Rattle.stepping.proofs.catch_up.Given as goal

abbrev pub invariant-loop-i : goal.invariant-loop-i
invariant-loop-i l = record {
  pass : Ascending (says_owed l.owed) l.sheet l.fn.table l.i l.table l.memo;
  kept : Kept (sheet_of l.sheet) l.children;
}
