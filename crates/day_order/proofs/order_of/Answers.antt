-- `day_order::order_of` meets its contract, case by case. Assumes nothing.
use mathlib.Core.Path.{sym, ◌∙◌}
use native.Mathlib.Omega.{arith}
use Rattle.day_order.proofs.Reading.{order_post, order_ask, order_keep, order_drop, order_step, order_length, order_unknown}
use Rattle.day_order.proofs.order_of.Goals as goal

pub returns-then-tag-eq-POST_TAG : goal.returns-then-tag-eq-POST_TAG
returns-then-tag-eq-POST_TAG c = c.post_in.ensures ∙ sym (order_post _ _ c.if-tag-eq-POST_TAG.true)

pub returns-then-content-ne-CALL_LENGTH : goal.returns-then-content-ne-CALL_LENGTH
returns-then-content-ne-CALL_LENGTH c = order_length _ _ c.if-tag-eq-POST_TAG.false c.if-content-ne-CALL_LENGTH.true

pub returns-in-17 : goal.returns-in-17
returns-in-17 c = order_ask _ _ _ c.if-content-ne-CALL_LENGTH.false c.u16_at-item.ensures.value c.in-17.is

pub returns-in-18 : goal.returns-in-18
returns-in-18 c = order_keep _ _ _ c.if-content-ne-CALL_LENGTH.false c.u16_at-item.ensures.value c.in-18.is

pub returns-in-19 : goal.returns-in-19
returns-in-19 c = order_drop _ _ _ c.if-content-ne-CALL_LENGTH.false c.u16_at-item.ensures.value c.in-19.is

pub returns-in-20 : goal.returns-in-20
returns-in-20 c = order_step _ _ _ c.if-content-ne-CALL_LENGTH.false c.u16_at-item.ensures.value c.in-20.is

pub returns-in_default : goal.returns-in_default
returns-in_default c =
    order_unknown c.args.tag _ c.if-tag-eq-POST_TAG.false (omega arith) (omega arith) (omega arith) (omega arith)
