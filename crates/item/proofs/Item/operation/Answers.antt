-- `item::Item::operation` meets its contract. Assumes nothing.
use native.Mathlib.Omega.{arith}
use Rattle.item.proofs.Fields.{parts_within, operation_is, read_some}
use Rattle.item.proofs.Item.operation.Goals as goal

pub bounds-self-inside-self-inside : goal.bounds-self-inside-self-inside
bounds-self-inside-self-inside c = omega (arith, parts_within c.self.invariant c.self.view_is c.requires)

pub unwrap-requires : goal.unwrap-requires
unwrap-requires c =
    read_some _ _ (operation_is c.self.invariant c.self.view_is c.requires _ c.parent_count.ensures _ c.operation_of.ensures)

pub returns : goal.returns
returns c =
    rw c.unwrap.ensures at
    (operation_is c.self.invariant c.self.view_is c.requires _ c.parent_count.ensures _ c.operation_of.ensures)
