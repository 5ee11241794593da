-- `item::Item::kind` meets its contract. Assumes nothing.
use Rattle.std.proofs.Common.{rules}
use mathlib.Core.Path.{sym, ◌∙◌}
use borrow.Author.Tests.{eq-eqb}
use Rattle.item.proofs.Fields.{tag_read}
use Rattle.item.proofs.Item.kind.Goals as goal

pub returns-then-self-eq-FIGURE_TAG : goal.returns-then-self-eq-FIGURE_TAG
returns-then-self-eq-FIGURE_TAG c = sym (eq-eqb _ _ c.if-self-eq-FIGURE_TAG.true) ∙ tag_read c.self.invariant c.self.view_is

pub returns-else-self-eq-FIGURE_TAG : goal.returns-else-self-eq-FIGURE_TAG
returns-else-self-eq-FIGURE_TAG c = rw (← tag_read c.self.invariant c.self.view_is) (search rules)
