-- `head_places` meets its contract. Assumes nothing.
use Rattle.std.proofs.Common.{refl}
use Rattle.circuit.specs.Rules.{max_parents}
use Rattle.circuit.specs.Sheet.{parents_of}
use Rattle.children.specs.Children.{head_places, edges_of}
use Rattle.children.proofs.Rows.{nobody, headed_next}
use Rattle.children.proofs.head_places.Goals as goal

pub loop-k-init : goal.loop-k-init
unfolding head_places
loop-k-init c = refl

pub loop-k-preserved : goal.loop-k-preserved
unfolding max_parents edges_of
loop-k-preserved c =
    headed_next c.args.kin.now c.loop-k.kin c.args.c c.loop-k.k c.parent.result (parents_of c.args.item.now) _ nobody
    c.parent.ensures c.loop-k.invariant refl refl
