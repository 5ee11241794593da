-- `call_ask::ask_lent` meets its contract. Assumes nothing.
use Rattle.cause.proofs.Exits.{exit}
use Rattle.layout.specs.Opened.{sheet_of}
use Rattle.call_ask.proofs.Asking.{ask_refused, ask_done}
use Rattle.call_ask.proofs.ask_lent.Goals as goal

pub returns-in_err-i : goal.returns-in_err-i
returns-in_err-i c =
    λ x.
    let a = c.args in
    rw (exit c.from_residual.ensures.1) (ask_refused (sheet_of a.sheet.now) x a.table.now a.item c.in_err-i.field-0.0 c.in_err-i.ensures.number)

pub returns : goal.returns
returns c =
    λ x.
    let a = c.args in
    let m = c.in_ok-i.ensures in
    ask_done a.sheet.now x a.table.now m.found.0 m.number _ c.caught_up-value.ensures _ c.settle.ensures
