-- `item::Sheet::item` meets its contract. Assumes nothing.
use Rattle.item.proofs.Located.{located_field, located_item}
use Rattle.item.proofs.Sheet.item.Goals as goal

pub invariant_of-result : goal.invariant_of-result
invariant_of-result c = located_field _ _ c.self.invariant.located c.args.i (rw c.self.view_is c.requires)

pub returns : goal.returns
returns c =
    rw (← c.self.view_is) (located_item _ _ c.self.invariant.located c.args.i (rw c.self.view_is c.requires))
