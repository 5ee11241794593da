-- What the code's values are in the terms of the definitions. Assumes nothing.
use Rattle.std.specs.Prelude.{List, map, Some, None}
use Rattle.std.specs.Prelude as std
use Rattle.std.proofs.Math.Option.{Option, none, some}
use Rattle.circuit.specs.Value as circuit
unfoldable pub use Rattle.circuit.specs.Value.{parts_of}
use Rattle.value.specs.declared.Amount.{Amount}
use Rattle.value.specs.declared.Amount.TheVariants.{Null, Out, Number}
use Rattle.value.specs.declared.Value.{Value}

abbrev pub amount_meaning : Amount → circuit.Value
amount_meaning Null = circuit.null
amount_meaning Out = circuit.out
amount_meaning (Number z) = circuit.num z

abbrev pub meaning : Value → circuit.Value
meaning v = amount_meaning v.amount

abbrev pub parts_meaning : std.Option Value → Option circuit.Value
parts_meaning (Some v) = some (meaning v)
parts_meaning None = none

-- the values of a slice, in order
abbrev pub meanings : List Value → List circuit.Value
meanings vs = map meaning vs
