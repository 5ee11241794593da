-- `tally::tally_of` meets its contract. Assumes nothing.
use mathlib.Core.Path.{◌≡◌}
use lib.ListN.{take}
use Rattle.value.specs.Meaning.{meanings}
use Rattle.tally.specs.Tally.{empty, taken_all}
use Rattle.tally.proofs.tally_of.Given as goal

abbrev pub invariant-loop-v : goal.invariant-loop-v
invariant-loop-v l = l.t ≡ taken_all empty (meanings (take l.v-index l.values))
