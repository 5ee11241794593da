-- The numbers of a difference. Assumes nothing.
use mathlib.Core.Bool.{true}
use mathlib.Core.Path.{◌≡◌, ◌∙◌}
use lib.IntN.{ℤ, ◌-ℤ◌}
use mir.Syntax.{w64}
use mir.Val.{SFits}
use Rattle.circuit.proofs.RuleLaws.{number-in_range}
use Rattle.circuit.specs.Value as circuit
use Rattle.value.proofs.Signed.{back, difference_fits, read}

-- two well-formed values have numbers whose difference is one of 64 bits
pub numbers_fit : (a b : circuit.Value) (x y : ℤ) → SFits w64 x → SFits w64 y → x ≡ circuit.number_of a → y ≡ circuit.number_of b
    → circuit.well_formed a ≡ true → circuit.well_formed b ≡ true → SFits w64 (read x -ℤ read y)
numbers_fit a b x y f g ea eb wa wb = rw (back x f, back y g, ea, eb) (difference_fits (circuit.number_of a) (circuit.number_of b) (number-in_range a wa) (number-in_range b wb))

pub numbers_less : (a b : circuit.Value) (x y : ℤ) → SFits w64 x → SFits w64 y → x ≡ circuit.number_of a → y ≡ circuit.number_of b
    → circuit.well_formed a ≡ true → circuit.well_formed b ≡ true → read (read x -ℤ read y) ≡ (circuit.number_of a -ℤ circuit.number_of b)
numbers_less a b x y f g ea eb wa wb = back (read x -ℤ read y) (numbers_fit a b x y f g ea eb wa wb) ∙ rw (back x f, back y g, ea, eb)
