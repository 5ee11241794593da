-- `day::carry_out` meets its contract, call by call. Assumes nothing.
use mathlib.Core.Path.{refl, sym, ap, ◌∙◌}
use mir.Syntax.{w64}
use mir.ValLaws.{to_z-of_z}
use borrow.Author.Rules.{rules}
use Rattle.circuit.specs.Call.{post}
use Rattle.day_order.specs.Orders.{order_meaning}
use Rattle.day_meaning.proofs.Playing.{carry_answer, carry_reading}
use Rattle.day.proofs.carry_out.Goals as goal

pub returns-in-Post : goal.returns-in-Post
returns-in-Post c =
    let v = c.in-Post in
    let read = to_z-of_z w64 v.number (search rules) in
    carry_answer _ _ _ (ap order_meaning v.is ∙ ap (λ z. post v.item v.kind z) (sym read)) (λ g. refl) c.post-given.ensures.number_is c.post-given.ensures.table_is
    c.answer_line.ensures

pub returns-in-Keep : goal.returns-in-Keep
returns-in-Keep c = carry_answer _ _ _ (ap order_meaning c.in-Keep.is) (λ g. refl) c.keep.ensures.number_is c.keep.ensures.table_is c.answer_line-in-Keep.ensures

pub returns-in-Drop : goal.returns-in-Drop
returns-in-Drop c = carry_answer _ _ _ (ap order_meaning c.in-Drop.is) (λ g. refl) c.drop_figure.ensures.number_is c.drop_figure.ensures.table_is c.answer_line-in-Drop.ensures

pub returns-in-Step : goal.returns-in-Step
returns-in-Step c = carry_answer _ _ _ (ap order_meaning c.in-Step.is) (λ g. refl) c.step.ensures.number_is c.step.ensures.table_is c.answer_line-in-Step.ensures

pub returns-in-Ask : goal.returns-in-Ask
returns-in-Ask c =
    let r = c.ask.ensures in
    carry_reading _ _ _ _ (ap order_meaning c.in-Ask.is) r.tried.number_is r.kind_is r.value_is r.tried.table_is c.reading_line.ensures
