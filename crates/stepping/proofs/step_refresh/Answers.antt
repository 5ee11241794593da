use Rattle.std.proofs.Common.{sym}
use Rattle.stepping.proofs.Stepping.{ready_memo, step_unnoticed, step_unmarked, refresh_renewable, step_refresh}
use Rattle.stepping.proofs.step_refresh.Goals as goal

pub renew-requires-clause-right : goal.renew-requires-clause-right
renew-requires-clause-right c = ready_memo c.requires.ready _

pub renew-requires-clause-renewable : goal.renew-requires-clause-renewable
renew-requires-clause-renewable c =
    let q = c.requires in
    refresh_renewable q.lent q.ready q.within _ c.in-Held.mark c.in-Held.ensures (sym c.if-eq.ensures)

pub returns-then-eq : goal.returns-then-eq
returns-then-eq c =
    let q = c.requires in
    step_refresh q.lent q.ready q.within _ c.in-Held.mark c.in-Held.ensures (sym c.if-eq.ensures) c.renew.ensures

pub returns-else-eq : goal.returns-else-eq
returns-else-eq c =
    let q = c.requires in
    step_unmarked q.lent q.ready q.within _ c.in-Held.mark c.in-Held.ensures (sym c.if-eq.ensures) q.unnoticed

pub returns-in_default : goal.returns-in_default
returns-in_default c =
    let q = c.requires in
    step_unnoticed q.lent q.ready q.within _ c.in_default.ensures q.unnoticed
