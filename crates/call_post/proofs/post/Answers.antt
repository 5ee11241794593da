-- `call_post::post` meets its contract. Assumes nothing.
use Rattle.value.proofs.Signed.{back}
use Rattle.circuit.specs.Call.{post}
use Rattle.admission.proofs.Calls.{admits, refuses, fails, does}
use Rattle.call_post.proofs.post.Goals as goal

pub returns-in_err-sheet : goal.returns-in_err-sheet
returns-in_err-sheet c =
    let a = c.args in
    refuses a.sheet.now a.index.now a.table.now (post a.item a.kind a.number) _ c.from_residual.ensures.1 c.in_err-sheet.ensures

pub post_lent-requires : goal.post_lent-requires
post_lent-requires c = let g = admits c.in_ok-sheet.ensures c.requires.room.1 c.admitted.auto.levels in record { lent = g.lent; owes = g.owes }

pub returns-in_err-post_lent : goal.returns-in_err-post_lent
returns-in_err-post_lent c =
    let a = c.args in
    fails c.in_ok-sheet.ensures (post a.item a.kind a.number) c.from_residual-in_err-post_lent.ensures.1 (rw (back a.number c.ranges.number) at (c.in_err-post_lent.ensures a.index.now))

pub returns : goal.returns
returns c =
    let a = c.args in
    does c.in_ok-sheet.ensures (post a.item a.kind a.number) (rw (back a.number c.ranges.number) at (c.in_ok-post_lent.ensures a.index.now))
