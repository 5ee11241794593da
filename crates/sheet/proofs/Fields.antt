-- A field that is there whole, and one that is not. Assumes nothing.
use mathlib.Core.Path.{◌≡◌, refl, sym, ap, ◌∙◌}
use mathlib.Core.List.{List}
use Prim.Native.Nat.{ℕ, ◌-◌}
use native.Mathlib.Omega.{arith}
use lib.ListN.{take, drop}
use Rattle.std.specs.Prelude.{Result, Ok, Err}
use Rattle.cause.specs.declared.Cause as cause
use Rattle.field.specs.Field.{cut_at, cut_meaning}
use Rattle.field.specs.declared.Field.{Field}
use Rattle.field.specs.declared.NoField.{NoField}
use Rattle.field.specs.declared.NoField.TheVariants.{Short, Absent}
use Rattle.field.proofs.Cutting.{field_iff}
use Rattle.circuit.specs.Calls.{Test, first_cause}
use Rattle.layout.specs.Content.{content_at}
use Rattle.layout.specs.Read.{judge}
use Rattle.sheet.specs.Check.{Whole, NotWhole}

-- What `field_at` gives.
module _ (s : List ℕ) (at : ℕ) where
  pub whole : (f : Field) → cut_meaning (Ok f) ≡ cut_at s at → Whole s at f
  whole f e =
      let v = (field_iff s at f.tag f.start f.len f.next).0 (sym e) in
      record { cut_is = sym e; next_is = sym v.next_is; next_in = v.next_in }

  pub not_whole : (r : Result Field NoField) → cut_meaning r ≡ cut_at s at → ((f : Field) → r ≡ Ok f → ⊥)
      → NotWhole s at (record { cause = cause.TheVariants.Cut; offset = at })
  not_whole (Ok f) e o = absurd (o f refl)
  not_whole (Err Short) e o = record { number_is = refl; offset_is = refl; judged = λ tests. ap (judge tests s) (sym e) }
  not_whole (Err Absent) e o = record { number_is = refl; offset_is = refl; judged = λ tests. ap (judge tests s) (sym e) }

-- The content of a field that is there whole, as its bytes are cut out.
module _ {s : List ℕ} {at : ℕ} {f : Field} (w : Whole s at f) where
  pub content_is : take (f.next - f.start) (drop f.start s) ≡ content_at s f.start f.len
  content_is = let n : f.next - f.start ≡ f.len = omega (arith, w.next_is) in ap (λ k. take k (drop f.start s)) n

  pub judge_whole : (tests : ℕ → List ℕ → List Test) → judge tests s (cut_at s at) ≡ first_cause (tests f.tag (take (f.next - f.start) (drop f.start s)))
  judge_whole tests = ap (judge tests s) w.cut_is ∙ ap (λ content. first_cause (tests f.tag content)) (sym content_is)
