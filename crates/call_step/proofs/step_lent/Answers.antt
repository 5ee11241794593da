-- `call_step::step_lent` meets its contract. Assumes nothing.
use Rattle.cause.proofs.Exits.{exit}
use Rattle.layout.specs.Opened.{sheet_of}
use Rattle.field.proofs.Cutting.{slice_bytes}
use Rattle.call_step.proofs.StepCall.{step_refused, step_done}
use Rattle.call_step.proofs.step_lent.Goals as goal

pub returns-in_err-i : goal.returns-in_err-i
returns-in_err-i c =
    λ x.
    let a = c.args in
    rw (exit c.from_residual.ensures.1) (step_refused (sheet_of a.sheet.now) x a.table.now a.item c.in_err-i.field-0.0 c.in_err-i.ensures.number)

pub returns : goal.returns
returns c =
    λ x.
    let p = c.requires.prepared in
    let m = c.in_ok-i.ensures in
    let d = c.step_once in
    step_done p.lent p.owes x m.found.0 m.number d.new.table d.ensures.left d.ensures.owed_kept (slice_bytes _ c.type_inv.table) d.auto.table
