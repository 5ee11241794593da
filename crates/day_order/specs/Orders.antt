-- What the code's orders are in the terms of the definitions. Assumes nothing.
use Rattle.std.specs.Prelude as std
use Rattle.std.specs.Prelude.{◌≡◌, ℕ, List, Result, Ok, Err, Some, None}
use Rattle.std.proofs.Math.Option.{Option, none, some}
use Rattle.circuit.specs.Call.{Call, post, keep, drop, step, ask}
use Rattle.cause.specs.declared.Cause.{Cause}
use Rattle.cause.specs.declared.Cause.TheVariants.{DayField}
use Rattle.field.specs.Field.{absent, field, cut_at}
use Rattle.layout.specs.Content.{content_at}
use Rattle.day_meaning.specs.Orders.{order_of}
use Rattle.day_meaning.specs.Causes.{DayFault}
use Rattle.day_order.specs.declared.Order.{Order}
use Rattle.day_order.specs.declared.Order.TheVariants.{Post, Ask, Keep, Drop, Step}
use Rattle.day_order.specs.declared.Placed.{Placed}

-- what the code's orders mean
abbrev pub order_meaning : Order → Call
order_meaning (Post item kind number) = post item kind number
order_meaning (Ask item) = ask item
order_meaning (Keep item) = keep item
order_meaning (Drop item) = drop item
order_meaning (Step item) = step item

abbrev pub order_in : std.Option Order → Option Call
order_in (Some order) = some (order_meaning order)
order_in None = none

-- the field of the log d at an offset orders the call, and ends where the next one begins
pub record OrderAt (d : List ℕ) (at : ℕ) (p : Placed) : Type 0 where
  pub tag : ℕ
  pub start : ℕ
  pub len : ℕ
  pub cut_is : cut_at d at ≡ field tag start len p.next
  pub order_is : order_of tag (content_at d start len) ≡ some (order_meaning p.order)

-- what is read at an offset: the log's end, an order, or a fault
abbrev pub Reads : List ℕ → ℕ → Result (std.Option Placed) Cause → Type 0
Reads d at (Ok None) = cut_at d at ≡ absent
Reads d at (Ok (Some p)) = OrderAt d at p
Reads d at (Err c) = (c ≡ DayField) × DayFault d at
