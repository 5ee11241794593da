-- Tests that tell whether a statement holds. Assumes nothing.
use mathlib.Core.Path.{◌≡◌, refl}
use mathlib.Core.Bool.{Bool, true, false, not, ◌&&◌, ◌||◌}
use mathlib.Core.Logic.{◌⊎◌, inl, inr, ⊎_elim}
use Prim.Native.Nat.{ℕ, ◌≤◌, ◌<◌}
use native.Mathlib.Omega.{arith}
use lib.Dec.{eqb, leb, ltb}
use borrow.Author.Tests.{eqb-true, eqb-false, leb-true, leb-false, ltb-true, ltb-false}

-- `Tells P b`: the test's value b says whether P holds
pub data Tells (P : Type 0) : Bool → Type 0 where
  holds : P → Tells P true
  fails : ¬ P → Tells P false

pub tells_if : {P Q : Type 0} {b : Bool} → (P → Q) → (Q → P) → Tells P b → Tells Q b
tells_if f g (holds p) = holds (f p)
tells_if f g (fails p) = fails (λ q. p (g q))

pub tells_or : {P Q : Type 0} {a b : Bool} → Tells P a → Tells Q b → Tells (P ⊎ Q) (a || b)
tells_or (holds p) t = holds (inl p)
tells_or (fails n) (holds q) = holds (inr q)
tells_or (fails n) (fails m) = fails (⊎_elim n m)

pub tells_and : {P Q : Type 0} {a b : Bool} → Tells P a → Tells Q b → Tells (P × Q) (a && b)
tells_and (holds p) (holds q) = holds (p, q)
tells_and (holds p) (fails n) = fails (λ x. n x.1)
tells_and (fails n) t = fails (λ x. n x.0)

-- `Refutes P b`: the test b passes unless P holds
pub data Refutes (P : Type 0) : Bool → Type 0 where
  right : ¬ P → Refutes P true
  wrong : P → Refutes P false

pub refutes_if : {P Q : Type 0} {b : Bool} → (P → Q) → (Q → P) → Refutes P b → Refutes Q b
refutes_if f g (right n) = right (λ q. n (g q))
refutes_if f g (wrong p) = wrong (f p)

-- a conjunction fails where a part does
pub refutes_and : {P Q : Type 0} {a b : Bool} → Refutes P a → Refutes Q b → Refutes (P ⊎ Q) (a && b)
refutes_and (right n) (right m) = right (⊎_elim n m)
refutes_and (right n) (wrong q) = wrong (inr q)
refutes_and (wrong p) t = wrong (inl p)

pub tells_not : {P : Type 0} {b : Bool} → Refutes P b → Tells P (not b)
tells_not (right n) = fails n
tells_not (wrong p) = holds p

pub refutes_tells : {P : Type 0} {b : Bool} → Tells P b → Refutes (¬ P) b
refutes_tells (holds p) = right (λ n. n p)
refutes_tells (fails n) = wrong n

pub tells_eq : (a b : ℕ) → Tells (a ≡ b) (eqb a b)
tells_eq a b = go (eqb a b) refl
  where
    go : (t : Bool) → eqb a b ≡ t → Tells (a ≡ b) t
    go true e = holds (eqb-true a b e)
    go false e = fails (eqb-false a b e)

pub tells_lt : (a b : ℕ) → Tells (a < b) (ltb a b)
tells_lt a b = go (ltb a b) refl
  where
    go : (t : Bool) → ltb a b ≡ t → Tells (a < b) t
    go true e = holds (ltb-true a b e)
    go false e = fails (λ h. omega (arith, ltb-false a b e))

pub tells_le : (a b : ℕ) → Tells (a ≤ b) (leb a b)
tells_le a b = go (leb a b) refl
  where
    go : (t : Bool) → leb a b ≡ t → Tells (a ≤ b) t
    go true e = holds (leb-true a b e)
    go false e = fails (λ h. omega (arith, leb-false a b e))

pub refutes_le : (a b : ℕ) → Refutes (b < a) (leb a b)
refutes_le a b = go (leb a b) refl
  where
    go : (t : Bool) → leb a b ≡ t → Refutes (b < a) t
    go true e = right (λ h. omega (arith, leb-true a b e))
    go false e = wrong (leb-false a b e)

pub refutes_lt : (a b : ℕ) → Refutes (b ≤ a) (ltb a b)
refutes_lt a b = go (ltb a b) refl
  where
    go : (t : Bool) → ltb a b ≡ t → Refutes (b ≤ a) t
    go true e = right (λ h. omega (arith, ltb-true a b e))
    go false e = wrong (ltb-false a b e)
