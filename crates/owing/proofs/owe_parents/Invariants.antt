-- `owing::owe_parents` meets its contract. The loop's invariant: the first k parents are owed. Assumes nothing.
use mathlib.Core.Path.{◌≡◌}
use Rattle.circuit.specs.Sheet.{parents_of}
use Rattle.owing.specs.Owing.{owe_each}
use Rattle.owing.proofs.owe_parents.Given as goal

abbrev pub invariant-loop-k : goal.invariant-loop-k
invariant-loop-k l = l.owed ≡ owe_each l.initial.owed (parents_of l.item) l.k
