-- The search for the lowest marked item. Assumes nothing.
use Prim.Native.Nat.{ℕ, ◌<◌, ◌≤◌}
use native.Mathlib.Omega.{arith}
use mathlib.Core.Path.{◌≡◌}
use mathlib.Core.Bool.{true, false}
use Rattle.std.specs.Prelude.{Option, Some, None}
use Rattle.std.specs.Option.{MatchOption}
use Rattle.circuit.specs.Table.{Table, is_marked}
use Rattle.table.specs.Bytes.{LowestFound}

-- what a search over the numbers below n finds
pub lowest_found : (T : Table) (n : ℕ) (r : Option ℕ)
    → MatchOption r ((k : ℕ) → 0 ≤ k → k < n → is_marked (T k) ≡ false)
    (λ i. (0 ≤ i) × (i < n) × (is_marked (T i) ≡ true) × ((k : ℕ) → 0 ≤ k → k < i → is_marked (T k) ≡ false)) → LowestFound T n r
lowest_found T n None m =
    record { within = omega arith; none_below = λ i h. m i (omega arith) h; marked = λ h. absurd (omega (arith, h)) }
lowest_found T n (Some i) m =
    (m.1, record { within = omega (arith, m.1); none_below = λ k h. m.3 k (omega arith) h; marked = λ h. m.2 })
