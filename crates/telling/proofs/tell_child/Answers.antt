use Rattle.std.proofs.Common.{ap, ◌∙◌}
use Rattle.circuit.specs.Sheet.{spread_of}
use Rattle.telling.proofs.Telling.{told_unk, told_passed, told_refreshes, told_renews}
use Rattle.telling.proofs.tell_child.Goals as goal

pub returns-then-called : goal.returns-then-called
returns-then-called c =
    let q = c.requires in
    told_unk q.lent q.right q.fresh q.within q.figured c.args.called c.read_cell.result c.read_cell.ensures _
    c.in-Unk.is c.if-called.true _ c.store_cell.ensures

pub returns-else-called : goal.returns-else-called
returns-else-called c =
    let q = c.requires in
    told_passed q.lent q.right q.fresh q.within q.figured c.args.called c.read_cell.result c.read_cell.ensures _
    c.in-Unk.is c.if-called.false

pub returns-in-Refreshes : goal.returns-in-Refreshes
returns-in-Refreshes c =
    let q = c.requires in
    told_refreshes q.lent q.right q.fresh q.within q.figured c.args.called c.read_cell.result c.read_cell.ensures _ _
    c.in-Held.is c.spread.result (c.spread.ensures ∙ ap spread_of c.item.ensures) _ c.told_by.ensures c.in-Refreshes.is _
    c.store_cell-in-Refreshes.ensures

pub returns-in-Renews : goal.returns-in-Renews
returns-in-Renews c =
    let q = c.requires in
    told_renews q.lent q.right q.fresh q.within q.figured c.args.called c.read_cell.result c.read_cell.ensures _ _
    c.in-Held.is c.spread.result (c.spread.ensures ∙ ap spread_of c.item.ensures) _ c.told_by.ensures c.in-Renews.is _
    c.refresh_cleared.ensures _ _ c.renew.ensures
