-- `owing::write_owed` meets its contract. The loop's invariant: the owed bytes of the first i items are written. Assumes nothing.
use native.Mathlib.Omega.{arith}
use native.Mathlib.Numerals.{add-one}
use native.Mathlib.Nat.{mul_comm}
use mathlib.Core.Path.{◌≡◌, refl, ap, ◌∙◌}
use lib.ListN.{length}
use Rattle.table.specs.Record.{width}
use Rattle.owing.specs.Owing.{owe_rows}
use Rattle.owing.proofs.write_owed.Goals as goal

pub loop-i-init : goal.loop-i-init
unfolding owe_rows
loop-i-init c = refl

pub loop-i-preserved : goal.loop-i-preserved
unfolding owe_rows
loop-i-preserved c = rw (add-one c.loop-i.i, c.loop-i.invariant, mul_comm c.loop-i.i width) refl

pub returns : goal.returns
returns c =
    let all : c.loop-i.i ≡ length c.args.owed.now = omega (arith, c.loop-i-test.false, c.loop-i.auto.i-end) in
    c.loop-i.invariant ∙ ap (owe_rows c.args.table.now c.args.owed.now) all
