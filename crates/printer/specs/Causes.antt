-- The printer's rows of "Turned back", in 01's words. Assumes nothing.
use Rattle.std.specs.Prelude.{ℕ, ◌≤◌, ◌<◌, ◌≡◌, ◌↔◌, ℤ, pos, nat_abs}
use Rattle.circuit.specs.Value.{limit}
use Rattle.printer.specs.Printing.{least_scratch, print_cause}

-- 10: kind not 1 to 3, number not 0 for a kind other than 3, or beyond the range
pub data ValueWrong (kind : ℕ) (z : ℤ) : Type 0 where
  kind_other : ¬ (kind ≡ 1) → ¬ (kind ≡ 2) → ¬ (kind ≡ 3) → ValueWrong kind z
  not_zero : ¬ (kind ≡ 3) → ¬ (z ≡ pos 0) → ValueWrong kind z
  number_beyond : kind ≡ 3 → limit < nat_abs z → ValueWrong kind z

-- Each cause exactly where it holds; of the two the lowest counts.
pub record PrintCauses (kind : ℕ) (z : ℤ) (count : ℕ) : Type 0 where
  pub ten : (print_cause kind z count ≡ 10) ↔ ValueWrong kind z
  pub fifteen : (print_cause kind z count ≡ 15) ↔ (¬ ValueWrong kind z) × (count < least_scratch)
  pub accepted : (print_cause kind z count ≡ 0) ↔ (¬ ValueWrong kind z) × (least_scratch ≤ count)
