-- `call_close::work_out` meets its contract. Assumes nothing.
use mathlib.Core.Path.{refl}
use native.Mathlib.Omega.{arith}
use Rattle.circuit.specs.Rules.{max_parents}
use Rattle.call_close.proofs.Gathering.{gathering_start, gathering_fits, gathering_next, gathering_formed, gathering_done}
use Rattle.call_close.proofs.work_out.Goals as goal

pub loop-k-init : goal.loop-k-init
unfolding max_parents
loop-k-init c =
    let q = c.requires in
    gathering_start q.lent q.within q.figure _ c.item-item.ensures _ c.parent_count-count.ensures _ refl

pub value_at-requires : goal.value_at-requires
value_at-requires c = gathering_fits c.loop-k.invariant _ c.parent.ensures c.loop-k-test.true

pub offset_bounds-values-k : goal.offset_bounds-values-k
unfolding max_parents
offset_bounds-values-k c = omega (arith, c.parent_count-count.ensures.at_most)

pub bounds-values-k : goal.bounds-values-k
unfolding max_parents
bounds-values-k c = omega (arith, c.parent_count-count.ensures.at_most)

pub loop-k-preserved : goal.loop-k-preserved
loop-k-preserved c =
    gathering_next c.loop-k.invariant _ c.parent.ensures c.loop-k-test.true _ c.value_at.ensures

pub evaluate-requires-clause-formed : goal.evaluate-requires-clause-formed
evaluate-requires-clause-formed c = gathering_formed c.loop-k.invariant (omega arith)

pub returns : goal.returns
returns c = gathering_done c.loop-k.invariant (omega arith) _ c.evaluate.ensures
