-- The printer turns back exactly what its rows of "Turned back" name. Assumes nothing.
use Prim.Native.Nat.{ℕ, ◌≤◌, ◌<◌}
use mathlib.Core.Path.{◌≡◌, refl, sym, ap, ◌∙◌}
use mathlib.Core.Bool.{Bool, true, false, cond}
use mathlib.Core.Option.{none, some}
use native.Mathlib.Omega.{arith}
use lib.Dec.{eqb, ltb}
use lib.IntN.{ℤ, pos, nat_abs}
use borrow.Author.Tests.{eqb-true, eqb-false, leb-false, ltb-true, ltb-false}
use Rattle.field.proofs.Tells.{Tells, holds, fails}
use Rattle.circuit.specs.Value.{null, out, num, limit, in_range, same_number}
use Rattle.circuit.specs.Calls.{is_none, first_cause}
use Rattle.circuit.proofs.RuleLaws.{in_range-size, same_number_true, same_number_refl}
use Rattle.value.specs.Meaning.{parts_of}
use Rattle.printer.specs.Printing.{least_scratch, no_value, print_cause}
use Rattle.printer.specs.Causes.{ValueWrong, kind_other, not_zero, number_beyond, PrintCauses}

pub not_zero_lem : (z : ℤ) → same_number z (pos 0) ≡ false → ¬ (z ≡ pos 0)
not_zero_lem z e q = let bad : ◌≡◌ {A = ℕ} 0 1 = cc (sym (same_number_refl z) ∙ ap (same_number z) q ∙ e) in omega (arith, bad)

-- whether there is a value, by the test
tells_wrong : (kind : ℕ) (z : ℤ) → Tells (ValueWrong kind z) (no_value kind z)
unfolding parts_of
tells_wrong kind z = go (eqb kind 1) (eqb kind 2) (eqb kind 3) (same_number z (pos 0)) (in_range z) refl refl refl refl refl
  where
    go : (a b c s r : Bool) → eqb kind 1 ≡ a → eqb kind 2 ≡ b → eqb kind 3 ≡ c → same_number z (pos 0) ≡ s → in_range z ≡ r
        → Tells (ValueWrong kind z) (is_none (cond a (cond s (some null) none) (cond b (cond s (some out) none) (cond c (cond r (some (num z)) none) none))))
    go true b c true r ea eb ec es er = fails no
      where
        no : ValueWrong kind z → ⊥
        no (kind_other p q w) = p (eqb-true kind 1 ea)
        no (not_zero p q) = q (same_number_true z (pos 0) es)
        no (number_beyond p q) = omega (arith, eqb-true kind 1 ea, p)
    go true b c false r ea eb ec es er = holds (not_zero (λ p. omega (arith, eqb-true kind 1 ea, p)) (not_zero_lem z es))
    go false true c true r ea eb ec es er = fails no
      where
        no : ValueWrong kind z → ⊥
        no (kind_other p q w) = q (eqb-true kind 2 eb)
        no (not_zero p q) = q (same_number_true z (pos 0) es)
        no (number_beyond p q) = omega (arith, eqb-true kind 2 eb, p)
    go false true c false r ea eb ec es er = holds (not_zero (λ p. omega (arith, eqb-true kind 2 eb, p)) (not_zero_lem z es))
    go false false true s true ea eb ec es er = fails no
      where
        no : ValueWrong kind z → ⊥
        no (kind_other p q w) = w (eqb-true kind 3 ec)
        no (not_zero p q) = p (eqb-true kind 3 ec)
        no (number_beyond p q) = omega (arith, in_range-size z er, q)
    go false false true s false ea eb ec es er = holds (number_beyond (eqb-true kind 3 ec) (leb-false (nat_abs z) limit (unfold in_range in er)))
    go false false false s r ea eb ec es er = holds (kind_other (eqb-false kind 1 ea) (eqb-false kind 2 eb) (eqb-false kind 3 ec))

pub print_causes : (kind : ℕ) (z : ℤ) (count : ℕ) → PrintCauses kind z count
unfolding first_cause
print_causes kind z count = go (tells_wrong kind z) refl
  where
    go : {b : Bool} → Tells (ValueWrong kind z) b → no_value kind z ≡ b → PrintCauses kind z count
    go (holds w) e =
        let is : print_cause kind z count ≡ 10 = rw e in
        record {
          ten = (λ q. w, λ q. is);
          fifteen = (λ q. absurd (omega arith), λ q. absurd (q.0 w));
          accepted = (λ q. absurd (omega arith), λ q. absurd (q.0 w));
        }
    go (fails n) e = short (ltb count least_scratch) refl
      where
        short : (s : Bool) → ltb count least_scratch ≡ s → PrintCauses kind z count
        short true f =
            let is : print_cause kind z count ≡ 15 = rw (e, f) in
            let low : count < least_scratch = ltb-true count least_scratch f in
            record {
              ten = (λ q. absurd (omega arith), λ q. absurd (n q));
              fifteen = (λ q. (n, low), λ q. is);
              accepted = (λ q. absurd (omega arith), λ q. absurd (omega (arith, q.1)));
            }
        short false f =
            let is : print_cause kind z count ≡ 0 = rw (e, f) in
            let room : least_scratch ≤ count = ltb-false count least_scratch f in
            record {
              ten = (λ q. absurd (omega arith), λ q. absurd (n q));
              fifteen = (λ q. absurd (omega arith), λ q. absurd (omega (arith, q.1)));
              accepted = (λ q. (n, room), λ q. is);
            }
