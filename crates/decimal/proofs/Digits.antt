-- The digits of a number: their two equations, what they mean read back, and how many there are. Assumes nothing.
use Prim.Native.Nat.{ℕ, zero, suc, ◌+◌, ◌-◌, ◌*◌, ◌/◌, ◌%◌, ◌^◌, ◌≤◌, ◌<◌}
use mathlib.Core.Path.{◌≡◌, refl, sym, ap, ◌∙◌}
use mathlib.Core.Bool.{Bool, true, false}
use mathlib.Core.List.{List, [], ◌∷◌, ◌++◌}
use native.Mathlib.Nat.{pow-succ', mul_comm, div-lt_iff_lt-mul}
use native.Mathlib.Omega.{arith}
use borrow.Author.Tests.{lt-ltb, le-ltb, ltb-true, ltb-false}
use lib.Dec.{ltb}
use lib.ListN.{length, length-append}
use Rattle.decimal.specs.Decimal.{digit, digits_up_to, digits, read_from}

up_to_small : (f n : ℕ) → n < 10 → digits_up_to (suc f) n ≡ digit n ∷ []
unfolding digits_up_to
up_to_small f n h = rw (lt-ltb n 10 h, digits_up_to)

up_to_more : (f n : ℕ) → 10 ≤ n → digits_up_to (suc f) n ≡ digits_up_to f (n / 10) ++ (digit (n % 10) ∷ [])
unfolding digits_up_to
up_to_more f n h = rw (le-ltb n 10 h, digits_up_to)

-- any bound above the number will do
up_to_enough : (f g n : ℕ) → n < f → n < g → digits_up_to f n ≡ digits_up_to g n
up_to_enough zero g n p q = absurd (omega arith)
up_to_enough (suc f) zero n p q = absurd (omega arith)
up_to_enough (suc f) (suc g) n p q = go (up_to_enough f g (n / 10)) (ltb n 10) refl
  where
    go : (n / 10 < f → n / 10 < g → digits_up_to f (n / 10) ≡ digits_up_to g (n / 10)) → (b : Bool) → ltb n 10 ≡ b → digits_up_to (suc f) n ≡ digits_up_to (suc g) n
    go ih true e = let h = ltb-true n 10 e in up_to_small f n h ∙ sym (up_to_small g n h)
    go ih false e =
        let h = ltb-false n 10 e in
        up_to_more f n h ∙ ap (λ l. l ++ (digit (n % 10) ∷ [])) (ih (omega arith) (omega arith)) ∙ sym (up_to_more g n h)

-- the two equations of the digits
pub digits_small : (n : ℕ) → n < 10 → digits n ≡ digit n ∷ []
unfolding digits
digits_small n h = up_to_small n n h

pub digits_more : (n : ℕ) → 10 ≤ n → digits n ≡ digits (n / 10) ++ (digit (n % 10) ∷ [])
unfolding digits
digits_more n h =
    up_to_more n n h ∙ ap (λ l. l ++ (digit (n % 10) ∷ [])) (up_to_enough n (suc (n / 10)) (n / 10) (omega arith) (omega arith))

-- induction along the digits: what holds of numbers below ten, and of n where it holds of n / 10, holds of all
pub by_digits : (P : ℕ → Type 0) → ((n : ℕ) → n < 10 → P n) → ((n : ℕ) → 10 ≤ n → P (n / 10) → P n) → (n : ℕ) → P n
by_digits P small more n = below (suc n) n (omega arith)
  where
    step : (n : ℕ) → (10 ≤ n → P (n / 10)) → (b : Bool) → ltb n 10 ≡ b → P n
    step n ih true e = small n (ltb-true n 10 e)
    step n ih false e = more n (ltb-false n 10 e) (ih (ltb-false n 10 e))

    below : (f n : ℕ) → n < f → P n
    below zero n h = absurd (omega arith)
    below (suc f) n h = step n (λ ten. below f (n / 10) (omega arith)) (ltb n 10) refl

read_snoc : (xs : List ℕ) (a b : ℕ) → read_from a (xs ++ (b ∷ [])) ≡ read_from a xs * 10 + (b - 48)
unfolding read_from
read_snoc [] a b = refl
read_snoc (x ∷ xs) a b = read_snoc xs (a * 10 + (x - 48)) b

-- read back, the digits are the number
pub read_digits : (n : ℕ) → read_from 0 (digits n) ≡ n
read_digits = by_digits (λ n. read_from 0 (digits n) ≡ n) small more
  where
    one_digit : (n : ℕ) → read_from 0 (digit n ∷ []) ≡ n
    one_digit n = unfold read_from in omega arith

    small : (n : ℕ) → n < 10 → read_from 0 (digits n) ≡ n
    small n h = rw (digits_small n h) (one_digit n)

    more : (n : ℕ) → 10 ≤ n → read_from 0 (digits (n / 10)) ≡ n / 10 → read_from 0 (digits n) ≡ n
    more n h ih = rw (digits_more n h, read_snoc, ih) (omega arith)

-- ---- how many digits there are

pub length_more : (n : ℕ) → 10 ≤ n → length (digits n) ≡ length (digits (n / 10)) + 1
length_more n h = rw (digits_more n h, length-append)

pub length_pos : (n : ℕ) → 1 ≤ length (digits n)
length_pos = by_digits (λ n. 1 ≤ length (digits n)) (λ n h. rw (digits_small n h) (omega arith)) (λ n h ih. rw (length_more n h) (omega arith))

tenth_below : (k n : ℕ) → n < 10 ^ suc k → n / 10 < 10 ^ k
tenth_below k n h = (div-lt_iff_lt-mul {k = 10} (omega arith)).1 (rw (pow-succ' 10 k, mul_comm 10 (10 ^ k)) at h)

-- a number below 10^k has at most k digits, for k from 1
pub length_at_most : (k n : ℕ) → n < 10 ^ suc k → length (digits n) ≤ suc k
length_at_most zero n h = rw (digits_small n (omega arith)) (omega arith)
length_at_most (suc k) n h = go (length_at_most k (n / 10) (tenth_below (suc k) n h)) (ltb n 10) refl
  where
    go : length (digits (n / 10)) ≤ suc k → (b : Bool) → ltb n 10 ≡ b → length (digits n) ≤ suc (suc k)
    go ih true e = rw (digits_small n (ltb-true n 10 e)) (omega arith)
    go ih false e = omega (arith, length_more n (ltb-false n 10 e))

-- the most digits of a number of 64 bits
abbrev pub most_digits : ℕ
most_digits = 20

pub length_word : (n : ℕ) → n < 2 ^ 64 → length (digits n) ≤ most_digits
length_word n h = length_at_most 19 n (omega arith)

-- and one has so many
pub most_word : length (digits (2 ^ 64 - 1)) ≡ most_digits
unfolding digits digits_up_to
most_word = refl
