-- Signed numbers of 64 bits: what fits, and what is read back from the bits. Assumes nothing.
use Prim.Native.Nat.{◌*◌, ◌^◌, ◌≤◌, ◌<◌, ◌+◌}
use mathlib.Core.Bool.{true}
use mathlib.Core.Path.{◌≡◌}
use native.Mathlib.Omega.{arith}
use lib.Dec.{lit<}
use lib.IntN.{ℤ, pos, negsuc, nat_abs, neg_ℤ, ◌+ℤ◌, ◌-ℤ◌}
use mir.Syntax.{w64}
use mir.Val.{SFits, to_z, of_z}
use mir.ValLaws.{to_z-of_z}
use Rattle.circuit.proofs.RuleLaws.{add_size, neg_size, in_range-size}
use Rattle.circuit.specs.Rules.{max_parents}
use Rattle.circuit.specs.Value.{limit, in_range}

-- as many numbers of the range as a figure has parents add up to a number of 64 bits
pub parents_fit : max_parents * limit < 2 ^ 63
unfolding limit max_parents
parents_fit = lit< tt

pub fits : (z : ℤ) → nat_abs z ≤ max_parents * limit → SFits w64 z
fits (pos n) h = record { sfits = omega (arith, parents_fit) }
fits (negsuc n) h = record { sfits = omega (arith, parents_fit) }

-- what is read back from the bits of z
abbrev pub read : ℤ → ℤ
read z = to_z w64 (of_z w64 z)

-- a number that fits is read back
pub back : (z : ℤ) → SFits w64 z → read z ≡ z
back z f = to_z-of_z w64 z f

-- ---- sums and differences

pub sum_fits : (x y : ℤ) → nat_abs x + limit ≤ max_parents * limit → in_range y ≡ true → SFits w64 (x +ℤ y)
sum_fits x y h e = fits (x +ℤ y) (omega (arith, add_size x y, in_range-size y e))

pub difference_fits : (x y : ℤ) → in_range x ≡ true → in_range y ≡ true → SFits w64 (x -ℤ y)
unfolding max_parents
difference_fits x y e f =
    fits (x -ℤ y) (omega (arith, add_size x (neg_ℤ y), neg_size y, in_range-size x e, in_range-size y f))
