-- `decimal::put_digits` meets its contract. Assumes nothing.
use Rattle.std.proofs.Common.{◌+◌, ap, arith}
use Rattle.decimal.proofs.Writing.{start, turn, written}
use Rattle.decimal.proofs.put_digits.Goals as goal

pub loop-place-init : goal.loop-place-init
loop-place-init c =
    start c.args.m c.args.at _ c.args.bytes.now (ap (λ k. c.args.at + k) c.digit_count.ensures) (omega (arith, c.digit_count.ensures, c.requires))

pub loop-place-preserved : goal.loop-place-preserved
loop-place-preserved c = turn c.loop-place.invariant c.loop-place-test.true (ap (λ k. c.args.at + k) c.digit_count.ensures)

pub returns : goal.returns
returns c = written c.loop-place.invariant c.loop-place-test.false
