-- `item::Item::spread` meets its contract. Assumes nothing.
use mathlib.Core.Path.{sym, ◌∙◌}
use native.Mathlib.Omega.{arith}
use Rattle.item.proofs.Fields.{parts_within, spread_is, meant_renew, meant_defer, spread_none}
use Rattle.item.proofs.Item.spread.Goals as goal

pub bounds-self-inside-self-inside : goal.bounds-self-inside-self-inside
bounds-self-inside-self-inside c = omega (arith, parts_within c.self.invariant c.self.view_is (sym c.is_figure.ensures ∙ c.if-is_figure.true))

pub returns-in-1 : goal.returns-in-1
returns-in-1 c =
    meant_renew _ c.in-1.is ∙ spread_is c.self.invariant c.self.view_is (sym c.is_figure.ensures ∙ c.if-is_figure.true)

pub returns-in_default : goal.returns-in_default
returns-in_default c =
    meant_defer _ (λ h. omega arith) ∙ spread_is c.self.invariant c.self.view_is (sym c.is_figure.ensures ∙ c.if-is_figure.true)

pub returns-else-is_figure : goal.returns-else-is_figure
returns-else-is_figure c = spread_none c.self.invariant c.self.view_is (sym c.is_figure.ensures ∙ c.if-is_figure.false)
