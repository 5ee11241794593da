-- The digits of m written from the place `at` on, the last one first, and what holds after each; the digits as a part of the
-- bytes. Assumes nothing.
use Prim.Native.Nat.{ℕ, suc, ◌+◌, ◌-◌, ◌/◌, ◌%◌, ◌≤◌, ◌<◌}
use mathlib.Core.Bool.{Bool, true, false}
use mathlib.Core.Path.{◌≡◌, refl, sym, ap, subst, ◌∙◌}
use borrow.Author.Tests.{ltb-true, ltb-false}
use lib.Dec.{ltb}
use mathlib.Core.List.{List, [], ◌∷◌, ◌++◌, append_assoc}
use native.Mathlib.Omega.{arith}
use lib.ListN.{length, take, drop, set, length-set, length-take, take-append-drop}
use lib.Seq.{take_at, take-set-le, drop-cons, drop-set-lt, get_or-set_same}
use Rattle.decimal.specs.Decimal.{digit, digits}
use Rattle.decimal.specs.Contract.{WithDigits}
use Rattle.decimal.proofs.Digits.{digits_small, digits_more, length_more, length_pos}

-- the digits of `rest` are to come, right before the place `end`; from there on stand the others of m, and then what was there
pub record Writing (m at next : ℕ) (s₀ s : List ℕ) (rest end : ℕ) : Type 0 where
  pub last : end ≡ at + length (digits rest)
  pub within : end ≤ length s
  pub front : take at s ≡ take at s₀
  pub back : digits rest ++ drop end s ≡ digits m ++ drop next s₀
  pub size : length s ≡ length s₀

-- a byte stored at a place, seen from that place on
stored : (s : List ℕ) (place b : ℕ) → place < length s → drop place (set s place b) ≡ b ∷ drop (suc place) s
stored s place b h =
    drop-cons (set s place b) place 0 (omega (arith, length-set s place b))
    ∙ ap (λ x. x ∷ drop (suc place) (set s place b)) (get_or-set_same s place b 0 h)
    ∙ ap (λ r. b ∷ r) (drop-set-lt (suc place) s place b (omega arith))

module _ {m at next rest place : ℕ} {s₀ s : List ℕ} (w : Writing m at next s₀ s rest (suc place)) where
  -- no digit is written before `at`
  from_first : at ≤ place
  from_first = omega (arith, w.last, length_pos rest)

  step : 10 ≤ rest → Writing m at next s₀ (set s place (digit (rest % 10))) (rest / 10) place
  step h =
      record {
        last = omega (arith, w.last, length_more rest h);
        within = omega (arith, w.within, length-set s place (digit (rest % 10)));
        front = take-set-le at s place (digit (rest % 10)) from_first ∙ w.front;
        back = rw (stored s place (digit (rest % 10)) (omega (arith, w.within))) (
            sym (append_assoc (digits (rest / 10)) (digit (rest % 10) ∷ []) (drop (suc place) s))
            ∙ ap (λ d. d ++ drop (suc place) s) (sym (digits_more rest h))
            ∙ w.back);
        size = length-set s place (digit (rest % 10)) ∙ w.size;
      }

  -- the first digit is what is left
  first : rest < 10 → place ≡ at
  first h = omega (arith, w.last, ap length (digits_small rest h))

  finish : next ≡ at + length (digits m) → rest < 10 → WithDigits m at s₀ next (set s place (digit rest))
  finish e h = record { place = e; bytes = bytes }
    where
      from : drop at (set s place (digit rest)) ≡ digits m ++ drop next s₀
      from =
          ap (λ k. drop k (set s place (digit rest))) (sym (first h))
          ∙ stored s place (digit rest) (omega (arith, w.within))
          ∙ ap (λ d. d ++ drop (suc place) s) (sym (digits_small rest h))
          ∙ w.back

      bytes : set s place (digit rest) ≡ take at s₀ ++ digits m ++ drop next s₀
      bytes =
          sym (take-append-drop at (set s place (digit rest)))
          ∙ ap (λ f. f ++ drop at (set s place (digit rest))) (take-set-le at s place (digit rest) from_first ∙ w.front)
          ∙ ap (λ b. take at s₀ ++ b) from
          ∙ sym (append_assoc (take at s₀) (digits m) (drop next s₀))

-- the digits are written down to the place `end`: others are to come, or it is the first place
pub data Written (m at next : ℕ) (s₀ s : List ℕ) (rest end : ℕ) : Type 0 where
  some : Writing m at next s₀ s rest end → Written m at next s₀ s rest end
  all : end ≡ at → WithDigits m at s₀ next s → Written m at next s₀ s rest end

pub start : (m at next : ℕ) (s : List ℕ) → next ≡ at + length (digits m) → next ≤ length s → Written m at next s s m next
start m at next s e h = some (record { last = e; within = h; front = refl; back = refl; size = refl })

pub turn : {m at next rest end : ℕ} {s₀ s : List ℕ} → Written m at next s₀ s rest end → at < end → next ≡ at + length (digits m)
    → Written m at next s₀ (set s (end - 1) (digit (rest % 10))) (rest / 10) (end - 1)
turn (all e d) h q = absurd (omega (arith, e))
turn {m} {at} {next} {rest} {end} {s₀} {s} (some w) h q = go (end - 1) (omega arith)
  where
    more : (place : ℕ) → Writing m at next s₀ s rest (suc place) → (b : Bool) → ltb rest 10 ≡ b → Written m at next s₀ (set s place (digit (rest % 10))) (rest / 10) place
    more place w true e =
        let low : rest < 10 = ltb-true rest 10 e in
        let whole : rest % 10 ≡ rest = omega arith in
        all (first w low) (rw whole (finish w q low))
    more place w false e = some (step w (ltb-false rest 10 e))

    go : (place : ℕ) → end ≡ suc place → Written m at next s₀ (set s place (digit (rest % 10))) (rest / 10) place
    go place up = more place (subst (λ k. Writing m at next s₀ s rest k) up w) (ltb rest 10) refl

pub written : {m at next rest end : ℕ} {s₀ s : List ℕ} → Written m at next s₀ s rest end → end ≤ at → WithDigits m at s₀ next s
written (all e d) h = d
written {rest = rest} (some w) h = absurd (omega (arith, w.last, length_pos rest))

-- ---- the digits at the front, as a part of the bytes

pub digits_part : {m count : ℕ} {before after : List ℕ} → WithDigits m 0 before count after → take count after ≡ digits m
digits_part {m} {count} {before} w =
    ap (λ l. take count l) w.bytes ∙ take_at (digits m) (drop count before) count (omega (arith, w.place))

pub digits_count : {m count : ℕ} {before after : List ℕ} → WithDigits m 0 before count after → count ≡ length (take count after)
digits_count w = omega (arith, w.place, ap length (digits_part w))

pub digits_within : {m count : ℕ} {before after : List ℕ} → WithDigits m 0 before count after → count ≤ length after
digits_within {m} {count} {before} {after} w = omega (arith, digits_count w, length-take count after)
