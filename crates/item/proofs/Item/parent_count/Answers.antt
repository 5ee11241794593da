-- `item::Item::parent_count` meets its contract. Assumes nothing.
use mathlib.Core.Path.{sym, ◌∙◌}
use native.Mathlib.Omega.{arith}
use Rattle.item.proofs.Fields.{parts_within, parents_counted}
use Rattle.item.proofs.Item.parent_count.Goals as goal

pub bounds-self-inside-self-inside : goal.bounds-self-inside-self-inside
bounds-self-inside-self-inside c = omega (arith, parts_within c.self.invariant c.self.view_is (sym c.is_figure.ensures ∙ c.if-is_figure.true))

pub returns-then-is_figure : goal.returns-then-is_figure
returns-then-is_figure c = rw c.from.ensures (parents_counted c.self.invariant c.self.view_is (sym c.is_figure.ensures ∙ c.if-is_figure.true))
