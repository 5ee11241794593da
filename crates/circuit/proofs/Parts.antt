-- A value and its kind and number: each well-formed value has its own, and no others are in form. Assumes nothing.
use Prim.Native.Nat.{ℕ, ◌≤◌}
use mathlib.Core.Bool.{Bool, true, false, cond}
use mathlib.Core.Option.{Option, none, some}
use mathlib.Core.Path.{◌≡◌, refl, ◌∙◌}
use native.Mathlib.Omega.{arith}
use borrow.Author.Tests.{eqb-true, eqb-false}
use lib.Dec.{eqb}
use lib.IntN.{ℤ, pos}
use Rattle.circuit.specs.Value.{Value, null, out, num, in_range, is_out, well_formed, same_number, kind_of, number_of, parts_of, of_parts}
use Rattle.circuit.specs.Calls.{posted_value}
use Rattle.circuit.proofs.RuleLaws.{same_number_true}

pub kind_small : (v : Value) → kind_of v ≤ 3
kind_small null = omega arith
kind_small out = omega arith
kind_small (num z) = omega arith

-- a value is what its own kind and number stand for
pub of_own_parts : (v : Value) → of_parts (kind_of v) (number_of v) ≡ v
of_own_parts null = refl
of_own_parts out = refl
of_own_parts (num z) = refl

-- a well-formed value comes back from its kind and number
pub parts_own : (v : Value) → well_formed v ≡ true → parts_of (kind_of v) (number_of v) ≡ some v
unfolding parts_of
parts_own null e = refl
parts_own out e = refl
parts_own (num z) e = rw e

-- what a kind and a number in form give
pub record Own (k : ℕ) (z : ℤ) (v : Value) : Type 0 where
  pub kind : k ≡ kind_of v
  pub number : z ≡ number_of v
  pub formed : well_formed v ≡ true

-- the value of a kind and a number has that kind and that number, and is well formed
pub parts_some : (k : ℕ) (z : ℤ) (v : Value) → parts_of k z ≡ some v → Own k z v
unfolding parts_of
parts_some k z v e = first (eqb k 1) refl e
  where
    -- w, where the test holds
    tested : (w : Value) (b : Bool) → (b ≡ true → Own k z w) → cond b (some w) none ≡ some v → Own k z v
    tested w true own h = let is : w ≡ v = cc in rw (← is) (own refl)
    tested w false own h = record { kind = cc; number = cc; formed = cc }

    numbered : Option Value
    numbered = cond (eqb k 3) (cond (in_range z) (some (num z)) none) none

    third : (b : Bool) → eqb k 3 ≡ b → cond b (cond (in_range z) (some (num z)) none) none ≡ some v → Own k z v
    third true q h = tested (num z) (in_range z) (λ r. record { kind = eqb-true k 3 q; number = refl; formed = r }) h
    third false q h = record { kind = cc; number = cc; formed = cc }

    second : (b : Bool) → eqb k 2 ≡ b → cond b (cond (same_number z (pos 0)) (some out) none) numbered ≡ some v → Own k z v
    second true q h = tested out (same_number z (pos 0)) (λ r. record { kind = eqb-true k 2 q; number = same_number_true z (pos 0) r; formed = refl }) h
    second false q h = third (eqb k 3) refl h

    first : (b : Bool) → eqb k 1 ≡ b → cond b (cond (same_number z (pos 0)) (some null) none) (cond (eqb k 2) (cond (same_number z (pos 0)) (some out) none) numbered) ≡ some v → Own k z v
    first true q h = tested null (same_number z (pos 0)) (λ r. record { kind = eqb-true k 1 q; number = same_number_true z (pos 0) r; formed = refl }) h
    first false q h = second (eqb k 2) refl h

-- so has the value of a post, which is not OUT
pub posted_some : (k : ℕ) (z : ℤ) (v : Value) → posted_value k z ≡ some v → Own k z v × (is_out v ≡ false)
unfolding posted_value
posted_some k z v e = go (eqb k 2) refl e
  where
    not_out : (w : Value) → (kind_of w ≡ 2 → ⊥) → is_out w ≡ false
    not_out null n = refl
    not_out out n = absurd (n refl)
    not_out (num y) n = refl

    go : (b : Bool) → eqb k 2 ≡ b → cond b none (parts_of k z) ≡ some v → Own k z v × (is_out v ≡ false)
    go true q h = let bad : ◌≡◌ {A = ℕ} 0 1 = cc in absurd (omega arith)
    go false q h =
        let own = parts_some k z v h in
        (own, not_out v (λ s. eqb-false k 2 q (own.kind ∙ s)))
