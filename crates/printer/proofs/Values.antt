-- What the printer makes of a value, and of a call. Assumes nothing.
use Prim.Native.Nat.{ℕ, suc, ◌≤◌, ◌<◌}
use mathlib.Core.Path.{◌≡◌, sym, ap, ◌∙◌}
use mathlib.Core.Bool.{true, false}
use mathlib.Core.List.{List, [], ◌∷◌, ◌++◌}
use mathlib.Core.Option.{none, some}
use native.Mathlib.Omega.{arith}
use borrow.Author.Tests.{lt-ltb, le-ltb}
use lib.IntN.{ℤ, pos, negsuc, nat_abs}
use lib.Signed.{lt_z}
use lib.ListN.{length, drop, set}
use mir.Syntax.{w64}
use mir.Val.{SFits}
use Rattle.circuit.specs.Calls.{first_cause}
use Rattle.circuit.specs.Value.{Value}
use Rattle.value.specs.Meaning.{meaning, parts_of, parts_meaning}
use Rattle.value.specs.declared.Value as code
use Rattle.cause.specs.declared.Cause.TheVariants.{Form, Scratch}
use Rattle.std.specs.Prelude.{Some, None, Ok, Err, Result}
use Rattle.std.specs.Prelude as std
use Rattle.decimal.specs.Decimal.{digits, decimal, minus}
use Rattle.decimal.specs.Contract.{WithDigits}
use Rattle.decimal.proofs.Digits.{length_at_most}
use Rattle.printer.specs.Printing.{printed, least_scratch}
use Rattle.printer.specs.Contract.{written, Front, Prints}

-- ---- the values of the code

-- the value of a kind and a number, by the answer r for the number x that was read
module _ {x z : ℤ} {r : std.Option code.Value} (kind : ℕ) (read : x ≡ z) (answer : parts_meaning r ≡ parts_of kind x) where
  pub formed : {v : code.Value} → r ≡ Some v → parts_of kind z ≡ some (meaning v)
  formed e = ap (λ y. parts_of kind y) (sym read) ∙ sym answer ∙ ap parts_meaning e

  pub unformed : r ≡ None → parts_of kind z ≡ none
  unformed e = ap (λ y. parts_of kind y) (sym read) ∙ sym answer ∙ ap parts_meaning e

-- ---- what is written

-- the magnitude of a signed number of 64 bits has at most 19 digits
pub magnitude_fits : (z : ℤ) → SFits w64 z → length (digits (nat_abs z)) ≤ 19
magnitude_fits (pos a) h = length_at_most 18 a (omega (arith, h.sfits))
magnitude_fits (negsuc a) h = length_at_most 18 (suc a) (omega (arith, h.sfits))

-- a number: the sign, where it has one, and then its digits
pub number_below : (z : ℤ) (s₀ s : List ℕ) (m n : ℕ) → lt_z z (pos 0) ≡ true → m ≡ nat_abs z → 0 < length s₀ → WithDigits m 1 (set s₀ 0 minus) n s → Front (decimal z) s₀ n s
number_below (pos a) s₀ s m n h e l w = absurd (let c : ◌≡◌ {A = ℕ} 0 1 = cc (le-ltb a 0 (omega arith)) in omega arith)
number_below (negsuc a) [] s m n h e l w = absurd (omega arith)
number_below (negsuc a) (x ∷ s₀) s m n h e l w = unfold decimal in record { size = size; bytes = bytes }
  where
    same : length (digits m) ≡ length (digits (suc a))
    same = ap (λ k. length (digits k)) e

    size : n ≡ suc (length (digits (suc a)))
    size = omega (arith, w.place, same)

    bytes : s ≡ minus ∷ (digits (suc a) ++ drop (length (digits (suc a))) s₀)
    bytes = w.bytes ∙ ap (λ k. minus ∷ (digits m ++ drop k (minus ∷ s₀))) size ∙ ap (λ k. minus ∷ (digits k ++ drop (length (digits (suc a))) s₀)) e

pub number_above : (z : ℤ) (s₀ s : List ℕ) (m n : ℕ) → lt_z z (pos 0) ≡ false → m ≡ nat_abs z → WithDigits m 0 s₀ n s → Front (decimal z) s₀ n s
number_above (pos a) s₀ s m n h e w = unfold decimal in record { size = size; bytes = bytes }
  where
    size : n ≡ length (digits a)
    size = omega (arith, w.place, ap (λ k. length (digits k)) e)

    bytes : s ≡ digits a ++ drop (length (digits a)) s₀
    bytes = w.bytes ∙ ap (λ k. digits m ++ drop k s₀) size ∙ ap (λ k. digits k ++ drop (length (digits a)) s₀) e
number_above (negsuc a) s₀ s m n h e w = absurd (let c : ◌≡◌ {A = ℕ} 0 1 = cc in omega arith)

-- ---- the calls

-- no value: 10, whatever the scratch
pub refused_value : (kind : ℕ) (z : ℤ) (s : List ℕ) → parts_of kind z ≡ none → Prints kind z s (Err Form) s
unfolding first_cause
refused_value kind z s e = record { answers = rw e; bytes = rw e }

module _ (kind : ℕ) (z : ℤ) (v : Value) (e : parts_of kind z ≡ some v) where
  pub refused_scratch : (s : List ℕ) → length s < least_scratch → Prints kind z s (Err Scratch) s
  unfolding first_cause
  refused_scratch s h = record { answers = rw (e, lt-ltb (length s) least_scratch h); bytes = rw (e, lt-ltb (length s) least_scratch h) }

  pub accepted : (s s' : List ℕ) (n : ℕ) → least_scratch ≤ length s → Front (printed v) s n s' → Prints kind z s (Ok n) s'
  unfolding first_cause
  accepted s s' n h f =
      record { answers = rw (e, le-ltb (length s) least_scratch h) (ap written f.size); bytes = rw (e, le-ltb (length s) least_scratch h) f.bytes }
