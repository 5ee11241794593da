-- `call_ask::ask` meets its contract. Assumes nothing.
use Rattle.circuit.specs.Call.{ask}
use Rattle.admission.proofs.Calls.{admits}
use Rattle.call_ask.proofs.Asking.{ask_refuses, ask_fails, ask_does}
use Rattle.call_ask.proofs.ask.Goals as goal

pub returns-in_err-sheet : goal.returns-in_err-sheet
returns-in_err-sheet c =
    let a = c.args in
    ask_refuses a.sheet.now a.index.now a.table.now (ask a.item) _ c.from_residual.ensures.1 c.in_err-sheet.ensures

pub ask_lent-requires : goal.ask_lent-requires
ask_lent-requires c =
    let g = admits c.in_ok-sheet.ensures c.requires.room.1 c.admitted.auto.levels in
    let same = c.in_ok-sheet.ensures.sheet_is in
    record {
      prepared = record {
        lent = g.lent;
        owes = g.owes;
        owed_room = g.owed_room;
        ready = rw same c.requires.ready;
        kept = rw same c.requires.kept;
      };
    }

pub returns-in_err-value : goal.returns-in_err-value
returns-in_err-value c =
    let a = c.args in
    ask_fails c.in_ok-sheet.ensures (ask a.item) c.from_residual-in_err-value.ensures.1 (c.in_err-value.ensures a.index.now)

pub returns : goal.returns
returns c =
    let a = c.args in
    ask_does c.in_ok-sheet.ensures (ask a.item) (c.in_ok-value.ensures a.index.now)
