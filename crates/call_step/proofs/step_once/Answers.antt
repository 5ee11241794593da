-- `call_step::step_once` meets its contract. Assumes nothing.
use native.Mathlib.Omega.{arith}
use mathlib.Core.Path.{sym, ◌∙◌}
use Rattle.call_step.proofs.StepCall.{left_noticed}
use Rattle.call_step.proofs.step_once.Goals as goal

pub returns-then-is_noticed-clause-left : goal.returns-then-is_noticed-clause-left
returns-then-is_noticed-clause-left c =
    let a = c.args in
    let p = c.requires.prepared in
    let o = c.copy_owed in
    left_noticed a.sheet.now a.table.now o.new.owed a.i p.lent p.owes (omega (arith, p.owed_room, o.auto.owed)) o.ensures c.requires.within
    (sym c.is_noticed.ensures ∙ c.if-is_noticed.true) c.tell_and_clear.ensures
