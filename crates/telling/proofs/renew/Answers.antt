use Rattle.telling.proofs.Renewing.{renew_equal, renew_other}
use Rattle.memo.specs.Memo.{seen_meaning}
use Rattle.table.specs.Meaning.{mark_meaning}
use Rattle.telling.proofs.renew.Goals as goal

pub returns-then-same : goal.returns-then-same
returns-then-same c =
    let q = c.requires in
    let l = c.work_out in
    renew_equal q.lent q.renewable q.fresh (mark_meaning c.args.mark) (seen_meaning l.result) _ _ l.auto.table l.ensures _
    c.same.ensures c.if-same.true _ c.store_cell.ensures

pub returns-else-same : goal.returns-else-same
returns-else-same c =
    let q = c.requires in
    let l = c.work_out in
    renew_other q.lent q.renewable q.fresh (mark_meaning c.args.mark) (seen_meaning l.result) _ _ l.auto.table l.ensures _
    c.same.ensures c.if-same.false _ c.store_cell-else-same.ensures
