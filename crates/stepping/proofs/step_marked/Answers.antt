use Rattle.stepping.proofs.Ascending.{marked_steps, unmarked_stays}
use Rattle.owing.specs.Owing.{says_owed}
use Rattle.stepping.proofs.step_marked.Goals as goal

pub returns-then-is_marked : goal.returns-then-is_marked
returns-then-is_marked c =
    marked_steps (says_owed c.args.owed.now) c.requires.lent c.args.i _ c.is_marked.ensures c.if-is_marked.true c.step_item.ensures

pub returns-else-is_marked : goal.returns-else-is_marked
returns-else-is_marked c =
    let q = c.requires in
    unmarked_stays (says_owed c.args.owed.now) q.lent c.args.i _ c.is_marked.ensures c.if-is_marked.false c.args.memo.now q.ready
