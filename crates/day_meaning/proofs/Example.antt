-- The example of a day: its whole output, computed from the definition. Assumes nothing.
use Prim.Native.Nat.{ℕ}
use mathlib.Core.Path.{◌≡◌, refl}
use mathlib.Core.List.{List, [], ◌∷◌}
use Rattle.circuit.specs.Rules.{least, greatest, whole}
use Rattle.circuit.proofs.Examples.{machine}
use Rattle.decimal.specs.Decimal.{digits_up_to, digits, decimal}
use Rattle.value.specs.Meaning.{parts_of}
use Rattle.office.proofs.Examples.{calls}
use Rattle.day_meaning.specs.Day.{play_from, day_on, read_day, run_day}
use Rattle.layout.specs.Room.{count_said}
use Rattle.day_meaning.specs.Orders.{post_in, call_in, order_of}

-- five items: A, L and S are entries, T is the sum of A and S, B is T minus L
abbrev pub example_sheet : List ℕ
example_sheet =
    1 ∷ 4 ∷ 0 ∷ 1 ∷ 0 ∷ 5 ∷ 0 ∷ 2 ∷ 1 ∷ 0 ∷ 65 ∷ 2 ∷ 1 ∷ 0 ∷ 76 ∷ 2
    ∷ 1 ∷ 0 ∷ 83 ∷ 3 ∷ 9 ∷ 0 ∷ 1 ∷ 1 ∷ 0 ∷ 2 ∷ 0 ∷ 0 ∷ 2 ∷ 0 ∷ 84 ∷ 3
    ∷ 9 ∷ 0 ∷ 2 ∷ 0 ∷ 0 ∷ 2 ∷ 3 ∷ 0 ∷ 1 ∷ 0 ∷ 66 ∷ 4 ∷ 0 ∷ 0 ∷ []

-- post 0 with 1000, post 1 with 300, ask 4, post 2 with -200, ask 4, drop 0, ask 9
abbrev pub example_day : List ℕ
example_day =
    16 ∷ 11 ∷ 0 ∷ 0 ∷ 0 ∷ 3 ∷ 232 ∷ 3 ∷ 0 ∷ 0 ∷ 0 ∷ 0 ∷ 0 ∷ 0 ∷ 16 ∷ 11
    ∷ 0 ∷ 1 ∷ 0 ∷ 3 ∷ 44 ∷ 1 ∷ 0 ∷ 0 ∷ 0 ∷ 0 ∷ 0 ∷ 0 ∷ 17 ∷ 2 ∷ 0 ∷ 4
    ∷ 0 ∷ 16 ∷ 11 ∷ 0 ∷ 2 ∷ 0 ∷ 3 ∷ 56 ∷ 255 ∷ 255 ∷ 255 ∷ 255 ∷ 255 ∷ 255 ∷ 255 ∷ 17
    ∷ 2 ∷ 0 ∷ 4 ∷ 0 ∷ 19 ∷ 2 ∷ 0 ∷ 0 ∷ 0 ∷ 17 ∷ 2 ∷ 0 ∷ 9 ∷ 0 ∷ []

abbrev zeros20 : List ℕ
zeros20 = 0 ∷ 0 ∷ 0 ∷ 0 ∷ 0 ∷ 0 ∷ 0 ∷ 0 ∷ 0 ∷ 0 ∷ 0 ∷ 0 ∷ 0 ∷ 0 ∷ 0 ∷ 0
    ∷ 0 ∷ 0 ∷ 0 ∷ 0 ∷ []

abbrev zeros55 : List ℕ
zeros55 =
    0 ∷ 0 ∷ 0 ∷ 0 ∷ 0 ∷ 0 ∷ 0 ∷ 0 ∷ 0 ∷ 0 ∷ 0 ∷ 0 ∷ 0 ∷ 0 ∷ 0 ∷ 0
    ∷ 0 ∷ 0 ∷ 0 ∷ 0 ∷ 0 ∷ 0 ∷ 0 ∷ 0 ∷ 0 ∷ 0 ∷ 0 ∷ 0 ∷ 0 ∷ 0 ∷ 0 ∷ 0
    ∷ 0 ∷ 0 ∷ 0 ∷ 0 ∷ 0 ∷ 0 ∷ 0 ∷ 0 ∷ 0 ∷ 0 ∷ 0 ∷ 0 ∷ 0 ∷ 0 ∷ 0 ∷ 0
    ∷ 0 ∷ 0 ∷ 0 ∷ 0 ∷ 0 ∷ 0 ∷ 0 ∷ []

-- OK, OK, ASK 4 700, OK, ASK 4 500, NO 12, NO 11
abbrev pub example_output : List ℕ
example_output =
    79 ∷ 75 ∷ 10 ∷ 79 ∷ 75 ∷ 10 ∷ 65 ∷ 83 ∷ 75 ∷ 32 ∷ 52 ∷ 32 ∷ 55 ∷ 48 ∷ 48 ∷ 10
    ∷ 79 ∷ 75 ∷ 10 ∷ 65 ∷ 83 ∷ 75 ∷ 32 ∷ 52 ∷ 32 ∷ 53 ∷ 48 ∷ 48 ∷ 10 ∷ 78 ∷ 79 ∷ 32
    ∷ 49 ∷ 50 ∷ 10 ∷ 78 ∷ 79 ∷ 32 ∷ 49 ∷ 49 ∷ 10 ∷ []

pub example : (run_day example_sheet example_day zeros20 zeros55).text ≡ example_output
unfolding calls machine parts_of least greatest whole digits_up_to digits decimal post_in call_in order_of play_from count_said day_on read_day run_day
example = refl
