-- `link` meets its contract. The loop's invariant: the lists are those of the items from c on. Assumes nothing.
use Rattle.children.specs.Children.{lists_of}
use Rattle.children.proofs.Building.{Built}
use Rattle.children.proofs.link.Given as goal

abbrev pub invariant-loop-c : goal.invariant-loop-c
invariant-loop-c l = Built l.sheet (lists_of l.initial.kin) l.c (lists_of l.kin)
