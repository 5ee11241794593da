-- What the code's operations and their results are in the terms of the definitions. Assumes nothing.
use Rattle.std.specs.Prelude.{true, List, ◌≡◌, Some, None}
use Rattle.std.specs.Prelude as std
use Rattle.std.proofs.Math.Option.{Option, none, some}
use Rattle.circuit.specs.Rules as rules
use Rattle.circuit.specs.Value as circuit
use Rattle.value.specs.Meaning.{meaning}
use Rattle.value.specs.declared.Value.{Value}
use Rattle.rules.specs.declared.Operation.{Operation}
use Rattle.rules.specs.declared.Operation.TheVariants.{Sum, Difference, Smallest, Largest, Share, Choice, Count, AtLeast}

abbrev pub operation_meaning : Operation → rules.Operation
operation_meaning Sum = rules.sum
operation_meaning Difference = rules.difference
operation_meaning Smallest = rules.smallest
operation_meaning Largest = rules.largest
operation_meaning Share = rules.share
operation_meaning Choice = rules.choice
operation_meaning Count = rules.count
operation_meaning AtLeast = rules.at_least

-- the operation of a rule code, none for refusal 5
abbrev pub operation_in : std.Option Operation → Option rules.Operation
operation_in (Some op) = some (operation_meaning op)
operation_in None = none

-- what applying an operation gives: the rule's result, which is well formed
pub record Applied (op : Operation) (vs : List circuit.Value) (r : Value) : Type 0 where
  pub result : meaning r ≡ rules.apply (operation_meaning op) vs
  pub formed : circuit.well_formed (meaning r) ≡ true
