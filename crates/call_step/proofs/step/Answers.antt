-- `call_step::step` meets its contract. Assumes nothing.
use Rattle.circuit.specs.Call.{step}
use Rattle.admission.proofs.Calls.{admits, refuses, fails, does}
use Rattle.call_step.proofs.step.Goals as goal

pub returns-in_err-sheet : goal.returns-in_err-sheet
returns-in_err-sheet c =
    let a = c.args in
    refuses a.sheet.now a.index.now a.table.now (step a.item) _ c.from_residual.ensures.1 c.in_err-sheet.ensures

pub step_lent-requires : goal.step_lent-requires
step_lent-requires c =
    let g = admits c.in_ok-sheet.ensures c.requires.room.1 c.admitted.auto.levels in
    let same = c.in_ok-sheet.ensures.sheet_is in
    record {
      prepared = record {
        lent = g.lent;
        owes = g.owes;
        owed_room = g.owed_room;
        ready = rw same c.requires.ready;
        kept = rw same c.requires.kept;
      };
    }

pub returns-in_err-step_lent : goal.returns-in_err-step_lent
returns-in_err-step_lent c =
    let a = c.args in
    fails c.in_ok-sheet.ensures (step a.item) c.from_residual-in_err-step_lent.ensures.1 (c.in_err-step_lent.ensures a.index.now)

pub returns : goal.returns
returns c =
    let a = c.args in
    does c.in_ok-sheet.ensures (step a.item) (c.in_ok-step_lent.ensures a.index.now)
