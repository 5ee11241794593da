-- `link_places` meets its contract. Assumes nothing.
use Rattle.std.proofs.Common.{refl, arith}
use Rattle.circuit.specs.Sheet.{parents_of}
use Rattle.children.specs.Children.{link_places}
use Rattle.children.proofs.Rows.{nobody, placed_next}
use Rattle.children.proofs.link_places.Goals as goal

pub loop-k-init : goal.loop-k-init
unfolding link_places
loop-k-init c = refl

pub loop-k-preserved : goal.loop-k-preserved
loop-k-preserved c =
    placed_next c.args.kin.now c.loop-k.kin c.args.c c.loop-k.k c.parent.result (parents_of c.args.item.now) c.link.new.self nobody nobody
    (omega arith) (omega arith) (omega arith) c.parent.ensures c.loop-k.invariant c.link.ensures.child_kept c.link.ensures.linked
