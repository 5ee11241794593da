-- `owing::write_owed` meets its contract. The loop's invariant: the owed bytes of the first i items are written. Assumes nothing.
use mathlib.Core.Path.{◌≡◌}
use Rattle.owing.specs.Owing.{owe_rows}
use Rattle.owing.proofs.write_owed.Given as goal

abbrev pub invariant-loop-i : goal.invariant-loop-i
invariant-loop-i l = l.table ≡ owe_rows l.initial.table l.owed l.i
