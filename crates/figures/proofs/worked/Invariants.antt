-- `figures::worked` meets its contract. Assumes nothing.
use Rattle.std.proofs.Common.{◌≡◌, map, take, length}
use Rattle.value.specs.Meaning.{meanings}
use Rattle.figures.specs.Figures.{tested}
use Rattle.figures.proofs.worked.Given as goal

abbrev pub invariant-loop-i : goal.invariant-loop-i
invariant-loop-i l = (length l.values ≡ 16) × (meanings (take l.i l.values) ≡ map tested (meanings (take l.i l.parents)))
