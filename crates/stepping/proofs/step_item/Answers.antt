use Rattle.stepping.proofs.Stepping.{steps_noticed, steps_unnoticed}
use Rattle.owing.specs.Owing.{says_owed}
use Rattle.stepping.proofs.step_item.Goals as goal

pub returns-then-is_noticed : goal.returns-then-is_noticed
returns-then-is_noticed c =
    let a = c.args in
    steps_noticed (says_owed a.owed.now) a.sheet.now a.table.now a.i _ c.is_noticed.ensures c.if-is_noticed.true c.tell_and_clear.ensures

pub returns-else-is_noticed : goal.returns-else-is_noticed
returns-else-is_noticed c =
    let a = c.args in
    steps_unnoticed (says_owed a.owed.now) a.sheet.now a.table.now a.i _ c.is_noticed.ensures c.if-is_noticed.false c.step_refresh.ensures
