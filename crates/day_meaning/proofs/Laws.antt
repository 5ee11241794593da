-- Laws of the definition: the bound on the number of fields is never why a day ends, and a value is printed as its text. Assumes nothing.
use Prim.Native.Nat.{ℕ, zero, suc, ◌+◌, ◌<◌}
use mathlib.Core.Path.{◌≡◌, refl, sym, ap, ◌∙◌}
use mathlib.Core.List.{List, []}
use mathlib.Core.Option.{Option, none, some}
use native.Mathlib.Omega.{arith}
use lib.ListN.{length}
use mathlib.Core.Bool.{true}
use Rattle.circuit.specs.Value.{Value, well_formed, kind_of, number_of}
use Rattle.circuit.specs.Call.{Call}
use Rattle.printer.specs.Printing.{text_of, printed}
use Rattle.value.specs.Meaning.{parts_of}
use Rattle.circuit.proofs.Parts.{parts_own}
use Rattle.field.specs.Field.{Cut, absent, short, field, cut_at}
use Rattle.field.proofs.Cutting.{FieldAt, field_iff, absent_iff}
use Rattle.layout.specs.Content.{content_at}
use Rattle.office.specs.Office.{call_on, keeping}
use Rattle.day_meaning.specs.Orders.{order_of}
use Rattle.day_meaning.specs.Day.{line_of, after, play_from}
use Rattle.day_meaning.proofs.Playing.{play_absent, play_short, play_fault, play_call_lem}

play_none : (s x d t : List ℕ) (at : ℕ) → play_from 0 s x d at t ≡ record { text = []; table = t }
unfolding play_from
play_none s x d t at = refl

-- any bounds beyond the end of the log give the same day
pub enough_fields : (f g : ℕ) (s x d t : List ℕ) (at : ℕ) → length d < at + f → length d < at + g → play_from f s x d at t ≡ play_from g s x d at t
enough_fields zero zero s x d t at p q = refl
enough_fields zero (suc g) s x d t at p q = play_none s x d t at ∙ sym (play_absent s x d t at g ((absent_iff d at).1 (omega arith)))
enough_fields (suc f) zero s x d t at p q = play_absent s x d t at f ((absent_iff d at).1 (omega arith)) ∙ sym (play_none s x d t at)
enough_fields (suc f) (suc g) s x d t at p q = cut (λ u next. enough_fields f g s x d u next) (cut_at d at) refl
  where
    order : ((u : List ℕ) (next : ℕ) → length d < next + f → length d < next + g → play_from f s x d next u ≡ play_from g s x d next u)
        → (tag start len next : ℕ) → cut_at d at ≡ field tag start len next → (o : Option Call) → order_of tag (content_at d start len) ≡ o
        → play_from (suc f) s x d at t ≡ play_from (suc g) s x d at t
    order ih tag start len next e none o =
        play_fault s x d t at f tag start len next e o ∙ sym (play_fault s x d t at g tag start len next e o)
    order ih tag start len next e (some c) o =
        let w : FieldAt d at tag start len next = (field_iff d at tag start len next).0 e in
        play_call_lem s x d t at f tag start len next c e o
        ∙ ap (λ r. after (line_of c (call_on s (keeping x t) c)) r)
        (ih (call_on s (keeping x t) c).after.table next (omega (arith, w.start_is, w.next_is)) (omega (arith, w.start_is, w.next_is)))
        ∙ sym (play_call_lem s x d t at g tag start len next c e o)

    cut : ((u : List ℕ) (next : ℕ) → length d < next + f → length d < next + g → play_from f s x d next u ≡ play_from g s x d next u)
        → (c : Cut) → cut_at d at ≡ c → play_from (suc f) s x d at t ≡ play_from (suc g) s x d at t
    cut ih absent e = play_absent s x d t at f e ∙ sym (play_absent s x d t at g e)
    cut ih short e = play_short s x d t at f e ∙ sym (play_short s x d t at g e)
    cut ih (field tag start len next) e = order ih tag start len next e (order_of tag (content_at d start len)) refl

-- what is printed of the kind and the number of a value is the value's text
pub value_text : (v : Value) → well_formed v ≡ true → text_of (parts_of (kind_of v) (number_of v)) ≡ printed v
value_text v h = ap text_of (parts_own v h)
