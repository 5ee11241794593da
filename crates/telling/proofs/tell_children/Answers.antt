use Rattle.owing.specs.Owing.{says_owed}
use Rattle.telling.proofs.Children.{telling_start, child_figure, child_fresh, edge_low, telling_less, telling_next, telling_done}
use Rattle.telling.proofs.Children.{telling_none, byte_owed, byte_unowed}
use Rattle.telling.proofs.tell_children.Goals as goal

pub returns-then-owed-i-eq0 : goal.returns-then-owed-i-eq0
returns-then-owed-i-eq0 c =
    let q = c.requires in
    telling_none (says_owed c.args.owed.now) q.lent q.right q.fresh (byte_unowed c.args.owed.now c.args.i c.if-owed-i-eq0.true)

pub loop-told-init : goal.loop-told-init
loop-told-init c =
    let q = c.requires in
    let linked = q.telling.linked (byte_owed c.args.owed.now c.args.i c.if-owed-i-eq0.false) in
    telling_start (says_owed c.args.owed.now) q.lent q.right q.fresh linked q.telling.low _ c.first-told.ensures

pub tell_child-requires-clause-fresh : goal.tell_child-requires-clause-fresh
tell_child-requires-clause-fresh c = child_fresh c.loop-told.invariant _ c.in-Some.is _ c.child-c.ensures

pub tell_child-requires-clause-figured : goal.tell_child-requires-clause-figured
tell_child-requires-clause-figured c = child_figure c.loop-told.invariant _ c.in-Some.is _ c.child-c.ensures

pub next-told-requires : goal.next-told-requires
next-told-requires c =
    let linked = c.requires.telling.linked (byte_owed c.args.owed.now c.args.i c.if-owed-i-eq0.false) in
    record { within = edge_low c.loop-told.invariant _ c.in-Some.is linked }

pub loop-told-smaller : goal.loop-told-smaller
loop-told-smaller c =
    let linked = c.requires.telling.linked (byte_owed c.args.owed.now c.args.i c.if-owed-i-eq0.false) in
    telling_less c.loop-told.invariant _ c.in-Some.is linked _ c.next-told.ensures

pub loop-told-preserved : goal.loop-told-preserved
loop-told-preserved c =
    let linked = c.requires.telling.linked (byte_owed c.args.owed.now c.args.i c.if-owed-i-eq0.false) in
    telling_next c.loop-told.invariant _ c.in-Some.is linked _ c.child-c.ensures _ _ c.tell_child.auto.table c.tell_child.ensures _ c.next-told.ensures

pub returns : goal.returns
returns c = telling_done c.loop-told.invariant (byte_owed c.args.owed.now c.args.i c.if-owed-i-eq0.false) c.in_default.is
