-- `link` meets its contract. Assumes nothing.
use Rattle.std.proofs.Common.{arith}
use Rattle.item.proofs.Located.{parents_low}
use Rattle.children.specs.Children.{lists_of}
use Rattle.children.proofs.Building.{built_start, edges_fit, built_next, built_done}
use Rattle.children.proofs.link.Goals as goal

pub loop-c-init : goal.loop-c-init
loop-c-init c = built_start c.args.sheet.now (lists_of c.args.kin.now) c.len-c.result c.len-c.ensures

pub link_places-requires-clause-listed : goal.link_places-requires-clause-listed
link_places-requires-clause-listed c =
    parents_low c.args.sheet.now _ c.item-item.result c.item-item.ensures (omega arith) _ (omega arith)

pub head_places-requires-clause-fits : goal.head_places-requires-clause-fits
head_places-requires-clause-fits c = edges_fit c.loop-c.invariant c.loop-c-test.true c.item-item.result c.item-item.ensures

pub head_places-requires-clause-listed : goal.head_places-requires-clause-listed
head_places-requires-clause-listed c =
    parents_low c.args.sheet.now _ c.item-item.result c.item-item.ensures (omega arith) _ (omega arith)

pub loop-c-preserved : goal.loop-c-preserved
loop-c-preserved c =
    built_next c.loop-c.invariant c.loop-c-test.true c.item-item.result c.item-item.ensures _ _ c.link_places.ensures c.head_places.ensures

pub returns : goal.returns
returns c = built_done c.loop-c.invariant (omega arith)
