use Rattle.std.proofs.Common.{arith}
use Rattle.owing.specs.Owing.{says_owed}
use Rattle.stepping.proofs.Ascending.{ascending_start, ascending_next, ascending_done}
use Rattle.stepping.proofs.catch_up.Goals as goal

pub loop-i-init : goal.loop-i-init
loop-i-init c =
    let q = c.requires in
    record { pass = ascending_start (says_owed c.args.owed.now) q.lent q.ready q.lowest; kept = q.kept }

pub loop-i-preserved : goal.loop-i-preserved
loop-i-preserved c =
    let l = c.advance in
    record { pass = ascending_next c.loop-i.invariant.pass _ _ l.auto.table l.ensures.stepped; kept = l.ensures.kept }

pub returns : goal.returns
returns c =
    let last = c.loop-i.auto.i-end (omega (arith, c.requires.lowest.within, c.len-i-end.ensures)) in
    ascending_done c.requires.owed c.loop-i.invariant.pass (omega (arith, last, c.loop-i-test.false, c.len-i-end.ensures))
