-- `call_keep::drop_figure` meets its contract. Assumes nothing.
use Rattle.circuit.specs.Call.{drop}
use Rattle.admission.proofs.Calls.{admits, refuses, fails, does}
use Rattle.call_keep.proofs.drop_figure.Goals as goal

pub returns-in_err-sheet : goal.returns-in_err-sheet
returns-in_err-sheet c =
    let a = c.args in
    refuses a.sheet.now a.index.now a.table.now (drop a.item) _ c.from_residual.ensures.1 c.in_err-sheet.ensures

pub drop_lent-requires-clause-lent : goal.drop_lent-requires-clause-lent
drop_lent-requires-clause-lent c = (admits c.in_ok-sheet.ensures c.requires.room.1 c.admitted.auto.levels).lent

pub drop_lent-requires-clause-owed_room : goal.drop_lent-requires-clause-owed_room
drop_lent-requires-clause-owed_room c = (admits c.in_ok-sheet.ensures c.requires.room.1 c.admitted.auto.levels).owed_room

pub returns-in_err-drop_lent : goal.returns-in_err-drop_lent
returns-in_err-drop_lent c =
    fails c.in_ok-sheet.ensures (drop c.args.item) c.from_residual-in_err-drop_lent.ensures.1 (c.in_err-drop_lent.ensures c.args.index.now)

pub returns : goal.returns
returns c = does c.in_ok-sheet.ensures (drop c.args.item) (c.in_ok-drop_lent.ensures c.args.index.now)
