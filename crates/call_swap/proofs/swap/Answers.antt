-- `call_swap::swap` meets its contract. Assumes nothing.
use Rattle.value.proofs.Signed.{back}
use Rattle.circuit.specs.Call.{swap}
use Rattle.admission.proofs.Calls.{admits, refuses, fails, does}
use Rattle.call_swap.proofs.swap.Goals as goal

pub returns-in_err-sheet : goal.returns-in_err-sheet
returns-in_err-sheet c =
    let a = c.args in
    refuses a.sheet.now a.index.now a.table.now (swap a.giver a.taker a.quantity) _ c.from_residual.ensures.1 c.in_err-sheet.ensures

pub swap_lent-requires : goal.swap_lent-requires
swap_lent-requires c = let g = admits c.in_ok-sheet.ensures c.requires.room.1 c.admitted.auto.levels in record { lent = g.lent; owes = g.owes }

pub returns-in_err-swap_lent : goal.returns-in_err-swap_lent
returns-in_err-swap_lent c =
    let a = c.args in
    fails c.in_ok-sheet.ensures (swap a.giver a.taker a.quantity) c.from_residual-in_err-swap_lent.ensures.1
    (rw (back a.quantity c.ranges.quantity) at (c.in_err-swap_lent.ensures a.index.now))

pub returns : goal.returns
returns c =
    let a = c.args in
    does c.in_ok-sheet.ensures (swap a.giver a.taker a.quantity) (rw (back a.quantity c.ranges.quantity) at (c.in_ok-swap_lent.ensures a.index.now))
