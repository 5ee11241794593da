-- A share: the quotient by the whole in two parts, neither of which grows beyond the number that is shared, and rounding
-- down on both sides of 0. Assumes nothing.
use Prim.Native.Nat.{ℕ, zero, suc, ◌+◌, ◌*◌, ◌/◌, ◌%◌, ◌≤◌, ◌<◌}
use mathlib.Core.Bool.{true, false}
use mathlib.Core.Path.{◌≡◌, refl, sym, ap, ◌∙◌}
use native.Mathlib.Nat.{mul_comm, mul_assoc, add-mul, mul-le-mul_left, div-add-mod', mul-add-div_right, div-lt_iff_lt-mul, suc-mul}
use native.Mathlib.Omega.{arith}
use borrow.Author.Tests.{leb-true, ltb-true}
use lib.Dec.{lit<, leb-zero}
use lib.IntN.{ℤ, pos, negsuc, nat_abs, neg_ℤ, ◌-ℤ◌, ◌*ℤ◌, +ℤ_idl}
use lib.Signed.{le_z, lt_z}
use mir.Syntax.{w64}
use mir.Val.{SFits, to_z}
use mir.ValLaws.{to_z_pos}
use Rattle.circuit.proofs.RuleLaws.{in_range-size, neg_size}
use Rattle.circuit.specs.Rules.{floor_div, whole}
use Rattle.circuit.specs.Value as circuit
use Rattle.circuit.specs.Rules.{max_parents}
use Rattle.value.proofs.Signed.{fits, back, read}

whole_pos : 0 < whole
unfolding whole
whole_pos = lit< tt

-- ---- the two parts of the quotient

pub two_parts : (m p e : ℕ) → m / whole * p + (m % whole * p + e) / whole ≡ (m * p + e) / whole
two_parts m p e = sym (mul-add-div_right whole_pos (m / whole * p) (m % whole * p + e)) ∙ ap (λ (k : ℕ). k / whole) joined
  where
    moved : m / whole * p * whole ≡ m / whole * whole * p
    moved = mul_assoc (m / whole) p whole ∙ ap (λ (k : ℕ). m / whole * k) (mul_comm p whole) ∙ sym (mul_assoc (m / whole) whole p)

    joined : m / whole * p * whole + (m % whole * p + e) ≡ m * p + e
    joined =
        omega (
          arith,
          moved,
          add-mul (m / whole * whole) (m % whole) p,
          ap (λ (k : ℕ). k * p) (div-add-mod' m whole),
        )

-- the whole quotient is no larger than what is shared
pub quotient_size : (m p e : ℕ) → p ≤ whole → e < whole → (m * p + e) / whole ≤ m
quotient_size m p e h l =
    under ((m * p + e) / whole) m
    ((div-lt_iff_lt-mul {x = m * p + e} {y = suc m} whole_pos).1 (omega (arith, suc-mul m whole, mul-le-mul_left m h)))
  where
    under : (q m : ℕ) → q < suc m → q ≤ m
    under q m h = omega arith

-- ---- signs

pub positive_share : (m k : ℕ) → pos ((m * k + 0) / whole) ≡ floor_div (pos m *ℤ pos k) whole
positive_share m k = ap (λ (n : ℕ). pos (n / whole)) (plus_zero (m * k))
  where
    plus_zero : (n : ℕ) → n + 0 ≡ n
    plus_zero n = omega arith

pub negative_share : (m k : ℕ) → neg_ℤ (pos ((suc m * k + 9999) / whole)) ≡ floor_div (negsuc m *ℤ pos k) whole
unfolding whole
negative_share m k = go (suc m * k)
  where
    up : (j : ℕ) → (suc j + 9999) / 10_000 ≡ suc (j / 10_000)
    up j = omega arith

    go : (n : ℕ) → neg_ℤ (pos ((n + 9999) / 10_000)) ≡ floor_div (neg_ℤ (pos n)) 10_000
    go zero = refl
    go (suc j) = ap (λ (q : ℕ). neg_ℤ (pos q)) (up j)

-- ---- numbers that are read as unsigned

-- a number that is not below 0 is its size
pub not_below : (z : ℤ) → SFits w64 z → le_z (pos 0) z ≡ true → read z ≡ pos (nat_abs z)
not_below (pos n) f e = back (pos n) f
not_below (negsuc n) f e = cc

pub not_less : (z : ℤ) → SFits w64 z → lt_z (read z) (pos 0) ≡ false → le_z (pos 0) z ≡ true
not_less z f e = go z (rw (back z f) at e)
  where
    go : (z : ℤ) → lt_z z (pos 0) ≡ false → le_z (pos 0) z ≡ true
    go (pos n) e = leb-zero n
    go (negsuc n) e = cc

pub pos_fits : (k : ℕ) → k ≤ circuit.limit → SFits w64 (pos k)
unfolding max_parents
pos_fits k h = fits (pos k) (omega arith)

pub parts_size : (p : ℤ) → le_z (pos 0) p ≡ true → le_z p (pos whole) ≡ true → nat_abs p ≤ whole
parts_size (pos k) e h = leb-true k whole h
parts_size (negsuc k) e h = absurd (false_true e)
  where
    false_true : false ≡ true → ⊥
    false_true q = let z : ◌≡◌ {A = ℕ} 0 1 = cc in omega arith

-- ---- the share itself, r being what the unsigned quotient gave

module _ (x p : ℤ) (e : circuit.in_range x ≡ true) (fx : SFits w64 x) (fp : SFits w64 p) (low : le_z (pos 0) p ≡ true) (high : le_z p (pos whole) ≡ true) where
  -- the sizes that the quotient is asked of
  pub sizes : (m : ℕ) → m ≡ nat_abs (read x) → (m ≤ circuit.limit) × (nat_abs (read p) ≤ whole)
  sizes m q = rw (q, back x fx, not_below p fp low) (in_range-size x e, parts_size p low high)

  module _ (m : ℕ) (is : m ≡ nat_abs (read x)) (r c : ℕ) (l : c < whole) (q : r ≡ (m * nat_abs (read p) + c) / whole) where
    plain : r ≡ (nat_abs x * nat_abs p + c) / whole
    plain = q ∙ rw (is, back x fx, not_below p fp low)

    small : r ≤ circuit.limit
    small = omega (arith, quotient_size (nat_abs x) (nat_abs p) c (parts_size p low high) l, in_range-size x e, plain)

    pub result_fits : SFits w64 (pos r)
    result_fits = pos_fits r small

    read_back : to_z w64 r ≡ pos r
    read_back = to_z_pos w64 r result_fits.sfits

    pub negative_fits : SFits w64 (pos 0 -ℤ to_z w64 r)
    unfolding max_parents
    negative_fits = rw (read_back, +ℤ_idl (neg_ℤ (pos r))) (fits (neg_ℤ (pos r)) (omega (arith, neg_size (pos r), small)))

    pub below_zero : c ≡ 9999 → lt_z (read x) (pos 0) ≡ true → read (pos 0 -ℤ to_z w64 r) ≡ floor_div (x *ℤ p) whole
    below_zero ec n = back (pos 0 -ℤ to_z w64 r) negative_fits ∙ rw (read_back, +ℤ_idl (neg_ℤ (pos r)), plain, ec) (go x p (rw (back x fx) at n) low)
      where
        go : (x p : ℤ) → lt_z x (pos 0) ≡ true → le_z (pos 0) p ≡ true → neg_ℤ (pos ((nat_abs x * nat_abs p + 9999) / whole)) ≡ floor_div (x *ℤ p) whole
        go (negsuc m) (pos k) a b = negative_share m k
        go (negsuc m) (negsuc k) a b = cc
        go (pos m) (pos k) a b = absurd (omega (arith, ltb-true m 0 a))
        go (pos m) (negsuc k) a b = cc

    pub from_zero : c ≡ 0 → lt_z (read x) (pos 0) ≡ false → to_z w64 r ≡ floor_div (x *ℤ p) whole
    from_zero ec n = read_back ∙ rw (plain, ec) (go x p (not_less x fx n) low)
      where
        go : (x p : ℤ) → le_z (pos 0) x ≡ true → le_z (pos 0) p ≡ true → pos ((nat_abs x * nat_abs p + 0) / whole) ≡ floor_div (x *ℤ p) whole
        go (pos m) (pos k) a b = positive_share m k
        go (pos m) (negsuc k) a b = cc
        go (negsuc m) (pos k) a b = cc
        go (negsuc m) (negsuc k) a b = cc
