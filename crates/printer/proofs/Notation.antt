-- What is printed of a value: how long it is at most, and that different values are printed differently. Assumes nothing.
use Prim.Native.Nat.{ℕ, suc, ◌^◌, ◌≤◌, ◌<◌}
use mathlib.Core.Path.{◌≡◌, refl, sym, ap}
use mathlib.Core.Bool.{true}
use mathlib.Core.List.{[], ◌∷◌}
use native.Mathlib.Omega.{arith}
use borrow.Author.Tests.{leb-true}
use lib.IntN.{ℤ, pos, negsuc, neg_ℤ, nat_abs}
use lib.ListN.{length, get_or}
use Rattle.circuit.specs.Value.{Value, null, out, num, limit, in_range, well_formed}
use Rattle.decimal.specs.Decimal.{minus, digits_up_to, digits, decimal}
use Rattle.decimal.proofs.Digits.{length_pos, length_at_most}
use Rattle.decimal.proofs.Notation.{first_digit, decimal_injective}
use Rattle.printer.specs.Printing.{printed}

-- no text of a value is longer: a sign and the 16 digits of the limit
abbrev pub longest : ℕ
longest = 17

limit_digits : limit < 10 ^ 16
unfolding limit
limit_digits = omega arith

pub printed_fits : (v : Value) → well_formed v ≡ true → length (printed v) ≤ longest
printed_fits null h = omega arith
printed_fits out h = omega arith
printed_fits (num z) h = go z (omega (arith, leb-true (nat_abs z) limit (unfold in_range in h), limit_digits))
  where
    go : (z : ℤ) → nat_abs z < 10 ^ 16 → length (decimal z) ≤ longest
    go (pos n) h = unfold decimal in omega (arith, length_at_most 15 n h)
    go (negsuc n) h = unfold decimal in omega (arith, length_at_most 15 (suc n) h)

-- and one is as long
pub longest_printed : length (printed (num (neg_ℤ (pos limit)))) ≡ longest
unfolding limit decimal digits digits_up_to
longest_printed = refl

-- no value is printed as nothing
pub printed_some : (v : Value) → 1 ≤ length (printed v)
printed_some null = omega arith
printed_some out = omega arith
printed_some (num z) = go z
  where
    go : (z : ℤ) → 1 ≤ length (decimal z)
    go (pos n) = unfold decimal in length_pos n
    go (negsuc n) = unfold decimal in omega arith

-- a number's notation is not `-`, and does not begin as `OUT`
not_null : (z : ℤ) → minus ∷ [] ≡ decimal z → ⊥
unfolding decimal
not_null (pos n) e = omega (arith, ap (λ l. get_or l 0 0) e, (first_digit n).0)
not_null (negsuc n) e = omega (arith, ap length e, length_pos (suc n))

not_out : (z : ℤ) → 79 ∷ 85 ∷ 84 ∷ [] ≡ decimal z → ⊥
unfolding decimal
not_out (pos n) e = omega (arith, ap (λ l. get_or l 0 0) e, (first_digit n).1)
not_out (negsuc n) e = omega (arith, ap (λ l. get_or l 0 0) e)

-- different values are printed differently
pub printed_injective : (v w : Value) → printed v ≡ printed w → v ≡ w
printed_injective null null e = refl
printed_injective null out e = absurd (omega (arith, ap length e))
printed_injective null (num y) e = absurd (not_null y e)
printed_injective out null e = absurd (omega (arith, ap length e))
printed_injective out out e = refl
printed_injective out (num y) e = absurd (not_out y e)
printed_injective (num x) null e = absurd (not_null x (sym e))
printed_injective (num x) out e = absurd (not_out x (sym e))
printed_injective (num x) (num y) e = ap num (decimal_injective x y e)
