-- Laws of values and rules: equal values are the same value; every rule gives NULL where all parents are NULL, and a well-formed
-- value where all are well formed; every rule but choice gives OUT where a parent is OUT, and choice what it picks; a quotient is
-- rounded down; a sum of numbers within the range is at most that many times the limit. Assumes nothing.
use Prim.Native.Nat.{ℕ, zero, suc, ◌+◌, ◌-◌, ◌*◌, ◌/◌, ◌≤◌, ◌<◌}
use mathlib.Core.Bool.{Bool, true, false, cond, ◌&&◌, ◌||◌}
use mathlib.Core.List.{List, [], ◌∷◌, ◌++◌, map}
use mathlib.Core.Path.{◌≡◌, refl, ap}
use native.Mathlib.Nat.{suc-mul, mul_comm, div-mul-le_self, lt-mul-div-succ}
use native.Mathlib.Numerals.{add-one}
use native.Mathlib.Omega.{arith}
use borrow.Author.Tests.{eqb-true, eq-eqb, ltb-true, leb-true, le-leb, lt-ltb}
use lib.Dec.{ltb}
use lib.IntN.{ℤ, pos, negsuc, nat_abs, neg_ℤ, suc_ℤ, sub_ℕ, ◌+ℤ◌, ◌-ℤ◌, ◌*ℤ◌}
use lib.Signed.{le_z, lt_z}
use Rattle.circuit.specs.Rules.{Operation, sum, difference, smallest, largest, share, choice, count, at_least, apply, any_out, numbers, nth, of_numbers, total, least, greatest, how_many}
use Rattle.circuit.specs.Rules.{or_zero, floor_div, choice_of, whole}
use Rattle.circuit.specs.Value.{Value, null, out, num, limit, in_range, is_null, is_out, well_formed, ranged, same, same_number, number_of}
use Rattle.circuit.specs.WellFormed.{all_well_formed}

-- ---- equal values

pub same_number_true : (x y : ℤ) → same_number x y ≡ true → x ≡ y
same_number_true (pos a) (pos b) e = ap pos (eqb-true a b e)
same_number_true (pos a) (negsuc b) e = cc
same_number_true (negsuc a) (pos b) e = cc
same_number_true (negsuc a) (negsuc b) e = ap negsuc (eqb-true a b e)

pub same_number_refl : (x : ℤ) → same_number x x ≡ true
same_number_refl (pos a) = eq-eqb a a refl
same_number_refl (negsuc a) = eq-eqb a a refl

-- values that the test finds equal are equal
pub same_true : (a b : Value) → same a b ≡ true → a ≡ b
same_true null null e = refl
same_true null out e = cc
same_true null (num y) e = cc
same_true out null e = cc
same_true out out e = refl
same_true out (num y) e = cc
same_true (num x) null e = cc
same_true (num x) out e = cc
same_true (num x) (num y) e = ap num (same_number_true x y e)

pub same_refl : (a : Value) → same a a ≡ true
same_refl null = refl
same_refl out = refl
same_refl (num x) = same_number_refl x

-- ---- all parents NULL

unfoldable pub all_null : List Value → Bool
all_null [] = true
all_null (v ∷ vs) = is_null v && all_null vs

-- a list of NULLs, whatever it is made from
pub allNull-map {ℓ} : {A : Type ℓ} (f : A → Value) → ((a : A) → f a ≡ null) → (xs : List A) → all_null (map f xs) ≡ true
unfolding all_null
allNull-map f h [] = refl
allNull-map f h (a ∷ xs) = rw (h a) (allNull-map f h xs)

all_null_any_out : (vs : List Value) → all_null vs ≡ true → any_out vs ≡ false
unfolding all_null any_out
all_null_any_out [] e = refl
all_null_any_out (null ∷ vs) e = all_null_any_out vs e
all_null_any_out (out ∷ vs) e = cc
all_null_any_out (num z ∷ vs) e = cc

all_null_numbers : (vs : List Value) → all_null vs ≡ true → numbers vs ≡ []
unfolding all_null numbers
all_null_numbers [] e = refl
all_null_numbers (null ∷ vs) e = all_null_numbers vs e
all_null_numbers (out ∷ vs) e = cc
all_null_numbers (num z ∷ vs) e = cc

all_null_nth : (vs : List Value) (k : ℕ) → all_null vs ≡ true → nth vs k ≡ null
unfolding all_null
all_null_nth [] k e = refl
all_null_nth (null ∷ vs) zero e = refl
all_null_nth (null ∷ vs) (suc k) e = all_null_nth vs k e
all_null_nth (out ∷ vs) k e = cc
all_null_nth (num z ∷ vs) k e = cc

-- every rule gives NULL where all parents are
pub all_null_lem : (op : Operation) (vs : List Value) → all_null vs ≡ true → apply op vs ≡ null
unfolding apply
all_null_lem sum vs e = rw (all_null_any_out vs e, all_null_numbers vs e)
all_null_lem difference vs e = rw (all_null_any_out vs e, all_null_nth vs 0 e, all_null_nth vs 1 e)
all_null_lem smallest vs e = rw (all_null_any_out vs e, all_null_numbers vs e)
all_null_lem largest vs e = rw (all_null_any_out vs e, all_null_numbers vs e)
all_null_lem share vs e = rw (all_null_any_out vs e, all_null_nth vs 0 e)
all_null_lem choice vs e = rw (all_null_nth vs 0 e)
all_null_lem count vs e = rw (all_null_any_out vs e, all_null_numbers vs e)
all_null_lem at_least vs e = rw (all_null_any_out vs e, all_null_nth vs 0 e)

-- ---- a parent OUT

-- every rule but choice gives OUT where a parent is
pub any_out_lem : (op : Operation) → ¬ (op ≡ choice) → (vs : List Value) → any_out vs ≡ true → apply op vs ≡ out
unfolding apply
any_out_lem sum other vs e = rw e
any_out_lem difference other vs e = rw e
any_out_lem smallest other vs e = rw e
any_out_lem largest other vs e = rw e
any_out_lem share other vs e = rw e
any_out_lem choice other vs e = absurd (other refl)
any_out_lem count other vs e = rw e
any_out_lem at_least other vs e = rw e

any_out-member : (vs ws : List Value) → any_out (vs ++ (out ∷ ws)) ≡ true
unfolding any_out
any_out-member [] ws = refl
any_out-member (v ∷ vs) ws = go (is_out v) (any_out-member vs ws)
  where
    go : (b : Bool) → any_out (vs ++ (out ∷ ws)) ≡ true → (b || any_out (vs ++ (out ∷ ws))) ≡ true
    go true e = refl
    go false e = e

-- wherever it stands in the list
pub out_gives_out : (op : Operation) → ¬ (op ≡ choice) → (vs ws : List Value) → apply op (vs ++ (out ∷ ws)) ≡ out
out_gives_out op other vs ws = any_out_lem op other (vs ++ (out ∷ ws)) (any_out-member vs ws)

-- ---- a choice, by its first parent

pub choice_out : (b c : Value) → apply choice (out ∷ b ∷ c ∷ []) ≡ out
unfolding apply
choice_out b c = refl

pub choice_null : (b c : Value) → apply choice (null ∷ b ∷ c ∷ []) ≡ null
unfolding apply
choice_null b c = refl

-- the second or the third, whatever it is
pub choice_picks : (z : ℤ) (b c : Value) → apply choice (num z ∷ b ∷ c ∷ []) ≡ cond (lt_z (pos 0) z) b c
unfolding apply
choice_picks z b c = refl

-- ---- well-formed values

pub and_left : (a b : Bool) → (a && b) ≡ true → a ≡ true
and_left true b e = refl
and_left false b e = e

pub and_right : (a b : Bool) → (a && b) ≡ true → b ≡ true
and_right true b e = e
and_right false b e = cc

pub and_true : (a b : Bool) → a ≡ true → b ≡ true → (a && b) ≡ true
and_true a b e f = rw (e, f)

pub or-false : (a b : Bool) → a || b ≡ false → (a ≡ false) × (b ≡ false)
or-false true b e = (cc, cc)
or-false false b e = (refl, e)

-- one more value at the end
pub all_well_formed_snoc : (vs : List Value) (v : Value) → all_well_formed (vs ++ (v ∷ [])) ≡ (all_well_formed vs && well_formed v)
unfolding all_well_formed
all_well_formed_snoc [] v = go (well_formed v)
  where
    go : (b : Bool) → (b && true) ≡ b
    go true = refl
    go false = refl
all_well_formed_snoc (w ∷ vs) v = go (well_formed w) (all_well_formed_snoc vs v)
  where
    go : (b : Bool) → all_well_formed (vs ++ (v ∷ [])) ≡ (all_well_formed vs && well_formed v) → (b && all_well_formed (vs ++ (v ∷ []))) ≡ ((b && all_well_formed vs) && well_formed v)
    go true e = e
    go false e = refl

nth-well_formed : (vs : List Value) (k : ℕ) → all_well_formed vs ≡ true → well_formed (nth vs k) ≡ true
unfolding all_well_formed
nth-well_formed [] k e = refl
nth-well_formed (v ∷ vs) zero e = and_left (well_formed v) (all_well_formed vs) e
nth-well_formed (v ∷ vs) (suc k) e = nth-well_formed vs k (and_right (well_formed v) (all_well_formed vs) e)

-- an exact result is well formed
pub ranged-well_formed : (z : ℤ) → well_formed (ranged z) ≡ true
ranged-well_formed z = go (in_range z) refl
  where
    go : (b : Bool) → in_range z ≡ b → well_formed (cond b (num z) out) ≡ true
    go true e = e
    go false e = refl

cond_well_formed : (b : Bool) (v w : Value) → well_formed v ≡ true → well_formed w ≡ true → well_formed (cond b v w) ≡ true
cond_well_formed true v w e f = e
cond_well_formed false v w e f = f

of_numbers-well_formed : (f : ℤ → List ℤ → ℤ) (zs : List ℤ) → well_formed (of_numbers f zs) ≡ true
of_numbers-well_formed f [] = refl
of_numbers-well_formed f (z ∷ zs) = ranged-well_formed (f z zs)

choice_of-well_formed : (a b c : Value) → well_formed b ≡ true → well_formed c ≡ true → well_formed (choice_of a b c) ≡ true
choice_of-well_formed null b c e f = refl
choice_of-well_formed out b c e f = refl
choice_of-well_formed (num z) b c e f = cond_well_formed (lt_z (pos 0) z) b c e f

-- every rule gives a well-formed value on well-formed values
pub apply-well_formed : (op : Operation) (vs : List Value) → all_well_formed vs ≡ true → well_formed (apply op vs) ≡ true
unfolding apply
apply-well_formed sum vs e = cond_well_formed (any_out vs) _ _ refl (of_numbers-well_formed total (numbers vs))
apply-well_formed difference vs e =
    cond_well_formed (any_out vs) _ _ refl (cond_well_formed (is_null (nth vs 0) && is_null (nth vs 1)) _ _ refl (ranged-well_formed (or_zero (nth vs 0) -ℤ or_zero (nth vs 1))))
apply-well_formed smallest vs e = cond_well_formed (any_out vs) _ _ refl (of_numbers-well_formed least (numbers vs))
apply-well_formed largest vs e = cond_well_formed (any_out vs) _ _ refl (of_numbers-well_formed greatest (numbers vs))
apply-well_formed share vs e =
    cond_well_formed (any_out vs) _ _ refl
    (cond_well_formed (is_null (nth vs 0) || is_null (nth vs 1)) _ _ refl
    (cond_well_formed (le_z (pos 0) (or_zero (nth vs 1)) && le_z (or_zero (nth vs 1)) (pos whole)) _ _ (ranged-well_formed (floor_div (or_zero (nth vs 0) *ℤ or_zero (nth vs 1)) whole)) refl))
apply-well_formed choice vs e = choice_of-well_formed (nth vs 0) (nth vs 1) (nth vs 2) (nth-well_formed vs 1 e) (nth-well_formed vs 2 e)
apply-well_formed count vs e = cond_well_formed (any_out vs) _ _ refl (of_numbers-well_formed how_many (numbers vs))
apply-well_formed at_least vs e =
    cond_well_formed (any_out vs) _ _ refl
    (cond_well_formed (is_null (nth vs 0) || is_null (nth vs 1)) _ _ refl
    (ranged-well_formed (cond (le_z (or_zero (nth vs 1)) (or_zero (nth vs 0))) (pos 1) (pos 0))))

-- ---- the size of a sum

sub_size : (a b : ℕ) → nat_abs (sub_ℕ a b) ≤ a + b
sub_size a b = go (ltb a b) refl
  where
    go : (t : Bool) → ltb a b ≡ t → nat_abs (cond t (negsuc (b - suc a)) (pos (a - b))) ≤ a + b
    go true e = omega (arith, ltb-true a b e)
    go false e = omega arith

-- a sum is no larger than its two parts together
pub add_size : (x y : ℤ) → nat_abs (x +ℤ y) ≤ nat_abs x + nat_abs y
add_size (pos a) (pos b) = omega arith
add_size (pos a) (negsuc b) = sub_size a (suc b)
add_size (negsuc a) (pos b) = omega (arith, sub_size b (suc a))
add_size (negsuc a) (negsuc b) = omega arith

pub neg_size : (x : ℤ) → nat_abs (neg_ℤ x) ≡ nat_abs x
neg_size (pos zero) = refl
neg_size (pos (suc n)) = refl
neg_size (negsuc n) = refl

-- a number within the range
pub in_range-size : (z : ℤ) → in_range z ≡ true → nat_abs z ≤ limit
unfolding in_range
in_range-size z e = leb-true (nat_abs z) limit e

pub size-in_range : (z : ℤ) → nat_abs z ≤ limit → in_range z ≡ true
unfolding in_range
size-in_range z h = le-leb (nat_abs z) limit h

-- the number of a well-formed value is within the range, 0 where there is none
pub number-in_range : (v : Value) → well_formed v ≡ true → in_range (number_of v) ≡ true
number-in_range null w = size-in_range (pos 0) (omega arith)
number-in_range out w = size-in_range (pos 0) (omega arith)
number-in_range (num z) w = w

-- ---- a quotient rounded down

-- the quotient times the divisor is at most the number
pub floor_below : (z : ℤ) (d : ℕ) → 0 < d → le_z (floor_div z d *ℤ pos d) z ≡ true
floor_below (pos n) d h = le-leb (n / d * d) n (div-mul-le_self n d)
floor_below (negsuc n) d h = go (suc (n / d) * d) refl
  where
    go : (k : ℕ) → suc (n / d) * d ≡ k → le_z (neg_ℤ (pos k)) (negsuc n) ≡ true
    go zero e = absurd (positive_product (n / d) d h e)
      where
        positive_product : (q d : ℕ) → 0 < d → suc q * d ≡ zero → ⊥
        positive_product q d h e = omega (arith, suc-mul q d)
    go (suc k) e = le-leb n k (omega (arith, lt-mul-div-succ n h, mul_comm d (n / d + 1), add-one (n / d), e))

-- and one more quotient would be above it
pub floor_above : (z : ℤ) (d : ℕ) → 0 < d → lt_z z (suc_ℤ (floor_div z d) *ℤ pos d) ≡ true
floor_above (pos n) d h = lt-ltb n (suc (n / d) * d) (omega (arith, lt-mul-div-succ n h, mul_comm d (n / d + 1), add-one (n / d)))
floor_above (negsuc n) d h = go (n / d) refl
  where
    neg : (k : ℕ) → k ≤ n → lt_z (negsuc n) (neg_ℤ (pos k)) ≡ true
    neg zero l = refl
    neg (suc k) l = lt-ltb k n l

    go : (q : ℕ) → n / d ≡ q → lt_z (negsuc n) (suc_ℤ (negsuc q) *ℤ pos d) ≡ true
    go zero e = refl
    go (suc q) e = neg (suc q * d) (omega (arith, div-mul-le_self n d, ap (λ (k : ℕ). k * d) e))
