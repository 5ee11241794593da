-- `print_cases::all_lengths` meets its contract: a power of ten is no less than that of two, and so above 0. Assumes nothing.
use Rattle.std.proofs.Common.{arith}
use Rattle.std.proofs.lemmas.Nat.{pow_pos}
use native.Mathlib.Nat.{pow-le-pow_left}
use Rattle.print_cases.proofs.all_lengths.Goals as goal

pub overflow_sub-power : goal.overflow_sub-power
overflow_sub-power g c = omega (arith, pow_pos c.loop-k.k, pow-le-pow_left {n = 2} {m = 10} (omega arith) c.loop-k.k, c.pow-power.ensures)
