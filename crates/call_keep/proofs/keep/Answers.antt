-- `call_keep::keep` meets its contract. Assumes nothing.
use Rattle.circuit.specs.Call.{keep}
use Rattle.admission.proofs.Calls.{admits, refuses, fails, does}
use Rattle.call_keep.proofs.keep.Goals as goal

pub returns-in_err-sheet : goal.returns-in_err-sheet
returns-in_err-sheet c =
    let a = c.args in
    refuses a.sheet.now a.index.now a.table.now (keep a.item) _ c.from_residual.ensures.1 c.in_err-sheet.ensures

pub keep_lent-requires-clause-lent : goal.keep_lent-requires-clause-lent
keep_lent-requires-clause-lent c = (admits c.in_ok-sheet.ensures c.requires.room.1 c.admitted.auto.levels).lent

pub keep_lent-requires-clause-owed_room : goal.keep_lent-requires-clause-owed_room
keep_lent-requires-clause-owed_room c = (admits c.in_ok-sheet.ensures c.requires.room.1 c.admitted.auto.levels).owed_room

pub returns-in_err-keep_lent : goal.returns-in_err-keep_lent
returns-in_err-keep_lent c =
    fails c.in_ok-sheet.ensures (keep c.args.item) c.from_residual-in_err-keep_lent.ensures.1 (c.in_err-keep_lent.ensures c.args.index.now)

pub returns : goal.returns
returns c = does c.in_ok-sheet.ensures (keep c.args.item) (c.in_ok-keep_lent.ensures c.args.index.now)
