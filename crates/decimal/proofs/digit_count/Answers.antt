-- `decimal::digit_count` meets its contract. The invariant: the digits of what is left, and one less than the count, are as
-- many as those of m. Assumes nothing.
use mathlib.Core.Path.{ap}
use native.Mathlib.Omega.{arith}
use lib.ListN.{length}
use Rattle.decimal.proofs.Digits.{digits_small, length_more, length_pos, length_word}
use Rattle.decimal.proofs.digit_count.Goals as goal

pub overflow_add-count : goal.overflow_add-count
overflow_add-count c = omega (arith, c.loop-left.invariant, length_pos c.loop-left.left, length_word c.args.m c.ranges.m.fits)

pub loop-left-preserved : goal.loop-left-preserved
loop-left-preserved c = omega (arith, c.loop-left.invariant, length_more c.loop-left.left (omega (arith, c.loop-left-test.true)))

pub returns : goal.returns
returns c =
    omega (arith, c.loop-left.invariant, ap length (digits_small c.loop-left.left (omega (arith, c.loop-left-test.false))))
