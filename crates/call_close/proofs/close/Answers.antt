-- `call_close::close` meets its contract. Assumes nothing.
use Rattle.circuit.specs.Call.{close}
use Rattle.admission.proofs.Calls.{admits, refuses, does}
use Rattle.call_close.proofs.Closing.{close_did}
use Rattle.call_close.proofs.close.Goals as goal

pub returns-in_err-sheet : goal.returns-in_err-sheet
returns-in_err-sheet c =
    let a = c.args in
    refuses a.sheet.now a.index.now a.table.now close _ c.from_residual.ensures.1 c.in_err-sheet.ensures

pub close_lent-requires : goal.close_lent-requires
close_lent-requires c =
    let g = admits c.in_ok-sheet.ensures c.requires.room.1 c.admitted.auto.levels in
    record { lent = g.lent; owed_room = g.owed_room }

pub returns : goal.returns
returns c = does c.in_ok-sheet.ensures close (close_did _ c.args.index.now c.args.table.now _ c.close_lent.ensures)
