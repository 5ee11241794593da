-- The results of a swap: one that overflows is beyond the range. Over plain variables. Assumes nothing.
use mathlib.Core.Path.{◌≡◌, refl}
use mathlib.Core.Bool.{Bool, true, false, cond, ◌&&◌}
use native.Mathlib.Omega.{arith}
use lib.IntN.{ℤ, ◌+ℤ◌, ◌-ℤ◌}
use mir.Syntax.{w64}
use mir.Val.{SFits}
use Rattle.circuit.specs.Value.{Value, in_range, number_of}
use Rattle.circuit.specs.Rules.{max_parents}
use Rattle.circuit.specs.Swap.{counted}
use Rattle.circuit.proofs.RuleLaws.{in_range-size}
use Rattle.value.proofs.Signed.{fits, back, read}
use Rattle.call_swap.specs.Results.{Swapped, beyond, swap_results}

unfit_beyond : (z : ℤ) → (SFits w64 z → ⊥) → in_range z ≡ false
unfolding max_parents
unfit_beyond z h = go (in_range z) refl
  where
    go : (b : Bool) → in_range z ≡ b → in_range z ≡ false
    go false e = e
    go true e = absurd (h (fits z (omega (arith, in_range-size z e))))

second_out : (a b : Bool) (s : Swapped) → b ≡ false → beyond ≡ cond (a && b) s beyond
second_out true b s e = rw e
second_out false b s e = refl

module _ (a b : Value) (x q : ℤ) (fx : SFits w64 x) (fq : SFits w64 q) where
  pub left_beyond : x ≡ number_of a → (SFits w64 (read x -ℤ read q) → ⊥) → beyond ≡ swap_results a b q
  left_beyond e h = rw (unfit_beyond (counted a -ℤ q) (λ f. h (rw (back x fx, back q fq, e) f)))

  pub come_beyond : x ≡ number_of b → (SFits w64 (read x +ℤ read q) → ⊥) → beyond ≡ swap_results a b q
  come_beyond e h = second_out _ _ _ (unfit_beyond (counted b +ℤ q) (λ f. h (rw (back x fx, back q fq, e) f)))
