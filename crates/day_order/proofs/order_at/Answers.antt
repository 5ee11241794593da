-- `day_order::order_at` meets its contract: the content of a whole field is within the log, and is what is read. Assumes nothing.
use Rattle.std.proofs.Common.{rules, ◌≡◌, Some, None, Err}
use mathlib.Core.Path.{refl, sym, ap, ◌∙◌}
use Rattle.cause.specs.declared.Cause.TheVariants.{DayField}
use native.Mathlib.Omega.{arith}
use Rattle.day_meaning.specs.Orders.{order_of}
use Rattle.day_meaning.specs.Causes.{wrong}
use Rattle.day_meaning.proofs.Causes.{wrong_exactly}
use Rattle.day_meaning.proofs.Playing.{field_parts, content_part}
use Rattle.day_order.specs.Orders.{order_in}
use Rattle.day_order.proofs.order_at.Goals as goal

pub slice_bounds-order_of-count : goal.slice_bounds-order_of-count
slice_bounds-order_of-count c =
    let w = field_parts c.in-Ok.ensures refl in
    omega (arith, w.next_is)

pub slice_bounds-order_of-start : goal.slice_bounds-order_of-start
slice_bounds-order_of-start c =
    let w = field_parts c.in-Ok.ensures refl in
    omega (arith, w.next_is)

pub slice_bounds-order_of-end : goal.slice_bounds-order_of-end
slice_bounds-order_of-end c =
    let w = field_parts c.in-Ok.ensures refl in
    omega (arith, w.next_in)

pub returns-in_err-order-in-Ok : goal.returns-in_err-order-in-Ok
returns-in_err-order-in-Ok c =
    let w = field_parts c.in-Ok.ensures refl in
    let nothing : c.order_of.result ≡ None = search rules in
    let fault : c.from_residual.result ≡ Err DayField = search rules in
    let none = ap (order_of _) (sym (content_part w)) ∙ sym c.order_of.ensures ∙ ap order_in nothing in
    rw fault (refl, wrong _ _ _ _ (sym c.in-Ok.ensures) ((wrong_exactly _ _).0 none))

pub returns-in_ok-order-in-Ok : goal.returns-in_ok-order-in-Ok
returns-in_ok-order-in-Ok c =
    let f = c.in-Ok.field in
    let w = field_parts c.in-Ok.ensures refl in
    let some : c.order_of.result ≡ Some c.in_ok-order-in-Ok.order = search rules in
    record {
      tag = f.tag;
      start = f.start;
      len = f.len;
      cut_is = sym c.in-Ok.ensures;
      order_is = ap (order_of _) (sym (content_part w)) ∙ sym c.order_of.ensures ∙ ap order_in some;
    }
