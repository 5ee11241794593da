use Rattle.std.proofs.Common.{◌∙◌}
use Rattle.stepping.proofs.Stepping.{ready_memo, clear_steps}
use Rattle.stepping.proofs.tell_and_clear.Goals as goal

pub tell_children-requires-clause-right : goal.tell_children-requires-clause-right
tell_children-requires-clause-right c = ready_memo c.requires.ready _

pub returns : goal.returns
returns c =
    let q = c.requires in
    let l = c.tell_children in
    clear_steps _ q.telling.low (l.auto.table ∙ q.lent.length_is) l.ensures _ c.clear_mark.ensures
