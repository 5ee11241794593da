-- `item::Item::parent` meets its contract. Assumes nothing.
use mathlib.Core.Path.{◌∙◌}
use native.Mathlib.Omega.{arith}
use Rattle.item.proofs.Fields.{parent_within, parent_is}
use Rattle.item.proofs.Item.parent.Goals as goal

pub overflow_mul-k : goal.overflow_mul-k
overflow_mul-k c = omega (arith, parent_within c.self.invariant c.self.view_is c.args.k c.requires)

pub overflow_add-self-inside-2 : goal.overflow_add-self-inside-2
overflow_add-self-inside-2 c = omega (arith, parent_within c.self.invariant c.self.view_is c.args.k c.requires)

pub u16_at-requires : goal.u16_at-requires
u16_at-requires c = omega (arith, parent_within c.self.invariant c.self.view_is c.args.k c.requires)

pub returns : goal.returns
returns c = c.u16_at.ensures.value ∙ parent_is c.self.invariant c.self.view_is c.args.k c.requires
