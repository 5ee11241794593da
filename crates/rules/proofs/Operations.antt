-- The choice of an operation by a rule code and a count of parents. Assumes nothing.
use Prim.Native.Nat.{ℕ, ◌≤◌, ◌<◌}
use mathlib.Core.Bool.{Bool, true, false, cond}
use mathlib.Core.Option.{Option, none, some, some-injective}
use mathlib.Core.Path.{◌≡◌, refl}
use native.Mathlib.Omega.{arith}
use borrow.Author.Tests.{le-leb, lt-leb}
use Rattle.circuit.specs.Rules.{Operation, coded, count_allowed, one_or_more, max_parents, allowed, operation_of}

pub enough : (n : ℕ) → 1 ≤ n → n < 17 → one_or_more n ≡ true
unfolding one_or_more max_parents
enough n h l = rw (le-leb 1 n h, le-leb n 16 (omega arith))

pub too_few : (n : ℕ) → n < 1 → one_or_more n ≡ false
unfolding one_or_more max_parents
too_few n h = rw (lt-leb 1 n h)

pub too_many : (n : ℕ) → 17 ≤ n → one_or_more n ≡ false
unfolding one_or_more max_parents
too_many n h = rw (le-leb 1 n (omega arith), lt-leb n 16 (omega arith))

-- whether a count of parents is one of 1 to 16
pub ruleset counts = (enough, too_few, too_many)

-- an operation that was chosen takes the parents that it was chosen for
pub chosen_takes : (code n : ℕ) (op : Operation) → some op ≡ operation_of code n → count_allowed op n ≡ true
unfolding operation_of
chosen_takes code n op e = go (coded code) e
  where
    takes : (o : Operation) (t : Bool) → count_allowed o n ≡ t → some op ≡ cond t (some o) none → count_allowed op n ≡ true
    takes o true q r = rw (some-injective op o r) q
    takes o false q r = cc

    go : (c : Option Operation) → some op ≡ allowed c n → count_allowed op n ≡ true
    go none r = cc
    go (some o) r = takes o (count_allowed o n) refl r
