use Rattle.stepping.proofs.Ascending.{unmarked_twice}
use Rattle.owing.specs.Owing.{says_owed}
use Rattle.stepping.proofs.advance.Goals as goal

pub returns-else-is_marked-clause-stepped : goal.returns-else-is_marked-clause-stepped
returns-else-is_marked-clause-stepped c =
    let q = c.requires in
    unmarked_twice (says_owed c.args.owed.now) q.lent c.args.i _ c.is_marked.ensures c.if-is_marked.false c.args.memo.now q.ready
