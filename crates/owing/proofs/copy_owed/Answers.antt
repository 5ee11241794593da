-- `owing::copy_owed` meets its contract. The loop's invariant: the owed bytes of the first i items are copied. Assumes nothing.
use native.Mathlib.Omega.{arith}
use mathlib.Core.Path.{refl}
use Rattle.owing.proofs.Writing.{copied_next}
use Rattle.owing.proofs.copy_owed.Goals as goal

pub loop-i-init : goal.loop-i-init
loop-i-init c = record { kept = refl; copies = λ j h. absurd (omega arith) }

pub loop-i-preserved : goal.loop-i-preserved
loop-i-preserved c =
    copied_next c.args.table.now _ c.loop-i.i c.loop-i.owed _ (let m = c.min-n.ensures in omega (arith, m, c.loop-i-test.true)) c.owed_byte.ensures c.loop-i.invariant

pub returns : goal.returns
returns c = λ i low h. c.loop-i.invariant.copies i (let m = c.min-n.ensures in omega (arith, m, h, low, c.loop-i.invariant.kept, c.loop-i-test.false))
