-- `call_close::close_lent` meets its contract. Assumes nothing.
use native.Mathlib.Omega.{arith}
use Rattle.call_close.proofs.Closing.{closing_start, closing_lent, closing_next, closing_done}
use Rattle.call_close.proofs.close_lent.Goals as goal

pub loop-i-init : goal.loop-i-init
loop-i-init c = closing_start c.requires.lent

pub close_item-requires-clause-lent : goal.close_item-requires-clause-lent
close_item-requires-clause-lent c = closing_lent c.loop-i.invariant

pub loop-i-preserved : goal.loop-i-preserved
loop-i-preserved c = closing_next c.loop-i.invariant _ c.close_item.auto.table c.close_item.ensures

pub returns : goal.returns
returns c = closing_done c.loop-i.invariant (omega arith) _ c.settle.ensures
