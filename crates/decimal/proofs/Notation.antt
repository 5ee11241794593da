-- Decimal notation: read back it is the number; its bytes are digits after the sign; it has no leading zero. So different
-- numbers are written differently. Assumes nothing.
use Prim.Native.Nat.{ℕ, suc, ◌/◌, ◌%◌, ◌≤◌, ◌<◌}
use mathlib.Core.Path.{◌≡◌, refl, sym, ap, ◌∙◌}
use mathlib.Core.List.{List, [], ◌∷◌, ◌++◌}
use native.Mathlib.Omega.{arith}
use borrow.Author.Tests.{ne_eqb}
use lib.IntN.{ℤ, pos, negsuc, neg_ℤ}
use lib.ListN.{get_or, get_or-append}
use Rattle.decimal.specs.Decimal.{digit, minus, digits, decimal, AllDigits, read_from, read_decimal}
use Rattle.decimal.proofs.Digits.{digits_small, digits_more, by_digits, read_digits, length_pos}

all_snoc : (xs : List ℕ) (d : ℕ) → d < 10 → AllDigits xs → AllDigits (xs ++ (digit d ∷ []))
all_snoc [] d h a = (omega arith, omega arith, tt)
all_snoc (x ∷ xs) d h a = (a.0, a.1, all_snoc xs d h a.2)

-- each byte is one of `0` to `9`
pub all_digits : (n : ℕ) → AllDigits (digits n)
all_digits = by_digits (λ n. AllDigits (digits n)) small more
  where
    small : (n : ℕ) → n < 10 → AllDigits (digits n)
    small n h = rw (digits_small n h) (omega arith, omega arith, tt)

    more : (n : ℕ) → 10 ≤ n → AllDigits (digits (n / 10)) → AllDigits (digits n)
    more n h ih = rw (digits_more n h) (all_snoc (digits (n / 10)) (n % 10) (omega arith) ih)

-- zero is `0`
pub digits_zero : digits 0 ≡ 48 ∷ []
digits_zero = digits_small 0 (omega arith)

-- the first byte: a digit, and not `0` unless the number is 0
pub first_digit : (n : ℕ) → (48 ≤ get_or (digits n) 0 0) × (get_or (digits n) 0 0 ≤ 57) × (0 < n → 49 ≤ get_or (digits n) 0 0)
first_digit = by_digits P small more
  where
    P : ℕ → Type 0
    P n = (48 ≤ get_or (digits n) 0 0) × (get_or (digits n) 0 0 ≤ 57) × (0 < n → 49 ≤ get_or (digits n) 0 0)

    small : (n : ℕ) → n < 10 → P n
    small n h = rw (digits_small n h) (omega arith)

    more : (n : ℕ) → 10 ≤ n → P (n / 10) → P n
    more n h ih =
        let e : get_or (digits n) 0 0 ≡ get_or (digits (n / 10)) 0 0 =
        rw (digits_more n h) (get_or-append (digits (n / 10)) (digit (n % 10) ∷ []) 0 0 (length_pos (n / 10))) in
        (omega (arith, ih.0), omega (arith, ih.1), λ p. omega (arith, ih.2 (omega arith)))

-- without a sign, bytes are read as digits
read_unsigned : (xs : List ℕ) → AllDigits xs → read_decimal xs ≡ pos (read_from 0 xs)
unfolding read_decimal
read_unsigned [] a = unfold read_from in refl
read_unsigned (b ∷ bs) a = rw (ne_eqb b minus (λ e. omega (arith, a.0)))

-- read back, a number's notation is the number
pub read_decimal_lem : (z : ℤ) → read_decimal (decimal z) ≡ z
unfolding decimal
read_decimal_lem (pos n) = read_unsigned (digits n) (all_digits n) ∙ ap pos (read_digits n)
read_decimal_lem (negsuc n) = unfold read_decimal in ap (λ k. neg_ℤ (pos k)) (read_digits (suc n))

pub decimal_injective : (x y : ℤ) → decimal x ≡ decimal y → x ≡ y
decimal_injective x y e = sym (read_decimal_lem x) ∙ ap read_decimal e ∙ read_decimal_lem y
