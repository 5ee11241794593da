-- `day_order::post_in` meets its contract, case by case. Assumes nothing.
use mathlib.Core.Path.{sym, ◌∙◌}
use mir.Syntax.{w64}
use mir.ValLaws.{to_z-of_z}
use Rattle.day_order.proofs.Reading.{post_length_lem, post_good, post_bad}
use Rattle.day_order.proofs.post_in.Goals as goal

pub returns-then-content-ne-POST_LENGTH : goal.returns-then-content-ne-POST_LENGTH
returns-then-content-ne-POST_LENGTH c = post_length_lem _ c.if-content-ne-POST_LENGTH.true

pub returns-then-kind_allowed : goal.returns-then-kind_allowed
returns-then-kind_allowed c =
    let number = c.read_i64-number in
    post_good _ _ _ _
    c.if-content-ne-POST_LENGTH.false
    c.u16_at-item.ensures.value
    c.from.ensures
    (to_z-of_z w64 number.result (record { sfits = number.type_inv }) ∙ number.ensures)
    (sym c.kind_allowed.ensures ∙ c.if-kind_allowed.true)

pub returns-else-kind_allowed : goal.returns-else-kind_allowed
returns-else-kind_allowed c =
    let number = c.read_i64-number in
    post_bad _ _
    c.if-content-ne-POST_LENGTH.false
    (to_z-of_z w64 number.result (record { sfits = number.type_inv }) ∙ number.ensures)
    (sym c.kind_allowed.ensures ∙ c.if-kind_allowed.false)
