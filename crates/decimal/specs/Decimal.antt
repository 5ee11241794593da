-- Decimal notation, as bytes: the digits from the highest to the lowest, with no leading zero, and a minus before a
-- number below 0. Assumes nothing.
use Rattle.std.specs.Prelude.{ℕ, zero, suc, ◌+◌, ◌-◌, ◌*◌, ◌/◌, ◌%◌, ◌≤◌, true, false, cond, List, [], ◌∷◌, ◌++◌, eqb, ltb, ℤ, pos, negsuc, neg_ℤ}

-- the byte of a digit d below ten; the digits stand in a row from `0`, 48, to `9`, 57
abbrev pub digit : ℕ → ℕ
digit d = 48 + d

-- the byte `-`
abbrev pub minus : ℕ
minus = 45

-- a number below ten is one digit; any other is the digits of its tenth part, and then its last digit. The first
-- argument bounds the number of digits.
unfoldable pub digits_up_to : ℕ → ℕ → List ℕ
digits_up_to zero n = []
digits_up_to (suc most) n =
    elim (ltb n 10) [ true ↦ digit n ∷ [] | false ↦ digits_up_to most (n / 10) ++ (digit (n % 10) ∷ []) ]

-- the digits of n, of which there are at most n + 1
unfoldable pub digits : ℕ → List ℕ
digits n = digits_up_to (suc n) n

unfoldable pub decimal : ℤ → List ℕ
decimal (pos n) = digits n
decimal (negsuc n) = minus ∷ digits (suc n)

-- every byte is a digit's
abbrev pub AllDigits : List ℕ → Type 0
AllDigits [] = Unit {0}
AllDigits (b ∷ bs) = (48 ≤ b) × (b ≤ 57) × AllDigits bs

-- The other way: what bytes in decimal notation mean. Each digit counts ten times what the next one does.
unfoldable pub read_from : ℕ → List ℕ → ℕ
read_from n [] = n
read_from n (b ∷ bs) = read_from (n * 10 + (b - 48)) bs

unfoldable pub read_decimal : List ℕ → ℤ
read_decimal [] = pos 0
read_decimal (b ∷ bs) = cond (eqb b minus) (neg_ℤ (pos (read_from 0 bs))) (pos (read_from 0 (b ∷ bs)))
