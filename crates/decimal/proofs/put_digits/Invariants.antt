-- `decimal::put_digits` meets its contract. Assumes nothing.
use Rattle.decimal.proofs.Writing.{Written}
use Rattle.decimal.proofs.put_digits.Given as goal

abbrev pub invariant-loop-place : goal.invariant-loop-place
invariant-loop-place l = Written l.m l.at l.next l.fn.bytes l.bytes l.rest l.place
