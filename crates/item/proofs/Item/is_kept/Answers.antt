-- `item::Item::is_kept` meets its contract. Assumes nothing.
use mathlib.Core.Path.{sym, ◌∙◌}
use native.Mathlib.Omega.{arith}
use Rattle.item.proofs.Fields.{parts_within, keep_is}
use Rattle.item.proofs.Item.is_kept.Goals as goal

pub bounds-self-inside-self-inside : goal.bounds-self-inside-self-inside
bounds-self-inside-self-inside c = omega (arith, parts_within c.self.invariant c.self.view_is (sym c.is_figure.ensures ∙ c.if-is_figure.true))

pub returns-then-is_figure : goal.returns-then-is_figure
returns-then-is_figure c = keep_is c.self.invariant c.self.view_is (sym c.is_figure.ensures ∙ c.if-is_figure.true)
