-- `look_up`, `look_unstored` and `work_out` meet their contracts, together.
use Rattle.std.proofs.Common.{arith, refl, sym, ◌∙◌}
use Rattle.circuit.specs.Rules.{max_parents}
use Rattle.memo.specs.Memo.{seen_meaning}
use Rattle.looking.proofs.Looking.{known_returns, worked_figure, kept_returns, remembered_returns}
use Rattle.looking.proofs.FigureAt.{parent_below}
use Rattle.looking.proofs.Gathering.{going_start, going_lent, going_right, going_next, going_done}
use Rattle.looking.proofs.+look_unstored_look_up_work_out.Goals as goal

pub look_unstored-work_out-worked-requires : goal.look_unstored-work_out-worked-requires
look_unstored-work_out-worked-requires t c =
    let q = c.requires in
    let figured = worked_figure q.lent q.within q.unstored _ c.is_noticed-noticed.ensures in
    (omega (arith, c.decreases), (q.lent, (q.right, (q.within, figured))))

pub look_unstored-returns-then-is_kept : goal.look_unstored-returns-then-is_kept
look_unstored-returns-then-is_kept t c =
    let q = c.requires in
    let w = c.work_out-worked in
    kept_returns q.lent q.within q.unstored _ c.is_noticed-noticed.ensures (seen_meaning w.result) _ _ w.auto.table w.ensures
    _ c.item.ensures (sym c.if-is_kept.true ∙ c.is_kept.ensures) _ c.notice_if.ensures _ c.store_cell.ensures

pub look_unstored-returns-else-is_kept : goal.look_unstored-returns-else-is_kept
look_unstored-returns-else-is_kept t c =
    let q = c.requires in
    let w = c.work_out-worked in
    remembered_returns q.lent q.within q.unstored _ c.is_noticed-noticed.ensures (seen_meaning w.result) _ _ w.auto.table w.ensures
    _ c.item.ensures (sym c.if-is_kept.false ∙ c.is_kept.ensures) _ c.remember.ensures

pub look_up-returns-in-Some : goal.look_up-returns-in-Some
look_up-returns-in-Some t c =
    let q = c.requires in
    known_returns q.lent q.within q.right _ c.known.ensures _ c.in-Some.is

pub work_out-loop-k-init : goal.work_out-loop-k-init
unfolding max_parents
work_out-loop-k-init t c =
    let q = c.requires in
    going_start q.lent q.right q.within q.figure _ c.item-item.ensures _ c.parent_count-count.ensures _ refl

pub work_out-look_up-seen-requires : goal.work_out-look_up-seen-requires
work_out-look_up-seen-requires t c =
    let inv = c.loop-k.invariant in
    let low = parent_below inv.figure _ c.parent.result c.parent.ensures c.loop-k-test.true in
    (omega (arith, low, c.decreases), (going_lent inv, (going_right inv, omega (arith, low, inv.figure.low))))

pub work_out-loop-k-preserved : goal.work_out-loop-k-preserved
work_out-loop-k-preserved t c =
    let looks = c.look_up-seen in
    going_next c.loop-k.invariant c.parent.result c.parent.ensures c.loop-k-test.true looks.result _ _ looks.auto.table looks.ensures _ refl

pub work_out-returns : goal.work_out-returns
work_out-returns t c = going_done c.loop-k.invariant (omega arith) _ c.evaluate.ensures
