-- A figure's value by its operation. Assumes nothing.
use Prim.Native.Nat.{ℕ}
use mathlib.Core.Path.{◌≡◌}
use mathlib.Core.Bool.{true}
use mathlib.Core.List.{List}
use mathlib.Core.Option.{some}
use native.Mathlib.Omega.{arith}
use Rattle.circuit.specs.Value.{Value}
use Rattle.circuit.specs.Rules.{apply}
use Rattle.circuit.specs.Sheet.{Item, entry, figure, is_figure, evaluate}
use Rattle.value.specs.Meaning.{meaning}
use Rattle.rules.specs.declared.Operation.{Operation}
use Rattle.rules.specs.Operations.{operation_meaning, Applied}
use Rattle.item.specs.Item.{item_operation, OperationRead, Evaluated}

operation_value : (it : Item) (op : Operation) (vs : List Value) (own r : Value) → some (operation_meaning op) ≡ item_operation it → is_figure it ≡ true
    → r ≡ apply (operation_meaning op) vs → r ≡ evaluate it own vs
operation_value entry op vs own r e f a = let bad : ◌≡◌ {A = ℕ} 0 1 = cc in absurd (omega arith)
operation_value (figure o k sp ps) op vs own r e f a = cc

pub evaluated : (it : Item) (op : Operation) → OperationRead it op → is_figure it ≡ true → (vs : List Value)
    → (r : Rattle.value.specs.declared.Value.Value) → Applied op vs r → Evaluated it vs r
evaluated it op read figured vs r applies =
    record { value_is = λ own. operation_value it op vs own (meaning r) read.operation_is figured applies.result; formed = applies.formed }
