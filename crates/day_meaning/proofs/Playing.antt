-- The day log's calls one after the other, with their lines: what holds before each field, and where the day ends.
-- Assumes nothing.
use Prim.Native.Nat.{ℕ, zero, suc, ◌+◌, ◌-◌, ◌≤◌, ◌<◌}
use mathlib.Core.Path.{◌≡◌, refl, sym, ap, ◌∙◌}
use mathlib.Core.List.{List, [], ◌++◌, append_assoc}
use mathlib.Core.Option.{none, some}
use native.Mathlib.Omega.{arith}
use lib.IntN.{ℤ}
use lib.ListN.{length, take}
use lib.ListN
use Rattle.circuit.specs.Call.{Call, ask}
use Rattle.field.specs.Field.{Cut, absent, short, field, cut_at}
use Rattle.field.proofs.Cutting.{FieldAt, field_iff}
use Rattle.layout.specs.Content.{content_at}
use Rattle.office.specs.Office.{Given, call_on, keeping}
use Rattle.printer.specs.Printing.{text_of}
use Rattle.value.specs.Meaning.{parts_of}
use Rattle.day_meaning.specs.Lines.{Appended, no_line}
use Rattle.day_meaning.specs.Orders.{order_of}
use Rattle.day_meaning.specs.Causes.{DayFault}
use Rattle.day_meaning.specs.Day.{answer_line, reading_line, line_of, fault_line, after, play_from, CarriedOut, PlayedOn}
use Rattle.day_meaning.proofs.Causes.{fault_ends}
use Rattle.day_meaning.proofs.Storing.{appended_as, appended_more}

-- a number other than 0 is a refusal
pub answer_refused : (n : ℕ) → (n ≡ 0 → ⊥) → no_line n ≡ answer_line n
answer_refused zero h = absurd (h refl)
answer_refused (suc n) h = refl

pub reading_refused : (item n : ℕ) (text : List ℕ) → (n ≡ 0 → ⊥) → no_line n ≡ reading_line item n text
reading_refused item zero text h = absurd (h refl)
reading_refused item (suc n) text h = refl

-- a call and its line
pub carry_answer : {c c' : Call} {t' out out' : List ℕ} {n at next : ℕ} (s x t : List ℕ) → c ≡ c' → ((g : Given) → line_of c' g ≡ answer_line g.number)
    → n ≡ (call_on s (keeping x t) c').number → t' ≡ (call_on s (keeping x t) c').after.table → Appended (answer_line n) out at next out'
    → CarriedOut c (call_on s (keeping x t) c) out at next t' out'
carry_answer {c} {c'} {n = n} s x t e line number table p =
    rw e (record { line = appended_as (ap answer_line number ∙ sym (line (call_on s (keeping x t) c'))) p; table_is = table })

pub carry_reading : {c : Call} {t' out out' : List ℕ} {n kind at next : ℕ} {z : ℤ} (s x t : List ℕ) (item : ℕ) → c ≡ ask item
    → n ≡ (call_on s (keeping x t) (ask item)).number → kind ≡ (call_on s (keeping x t) (ask item)).kind → z ≡ (call_on s (keeping x t) (ask item)).value → t'
    ≡ (call_on s (keeping x t) (ask item)).after.table
    → Appended (reading_line item n (text_of (parts_of kind z))) out at next out' → CarriedOut c (call_on s (keeping x t) c) out at next t' out'
carry_reading {c} {n = n} {kind = kind} {z = z} s x t item e number kinds value table p =
    let g : Given = call_on s (keeping x t) (ask item) in
    rw e (record {
      line = appended_as (
          ap (λ m. reading_line item m (text_of (parts_of kind z))) number
          ∙ ap (λ k. reading_line item g.number (text_of (parts_of k z))) kinds
          ∙ ap (λ v. reading_line item g.number (text_of (parts_of g.kind v))) value) p;
      table_is = table;
    })

-- a field that was cut
pub field_parts : {d : List ℕ} {at tag start len next : ℕ} {cut : Cut} → cut ≡ cut_at d at → cut ≡ field tag start len next → FieldAt d at tag start len next
field_parts {d} {at} {tag} {start} {len} {next} e f = (field_iff d at tag start len next).0 (sym e ∙ f)

-- its content, as a part of the log
pub content_part : {d : List ℕ} {at tag start len next : ℕ} → FieldAt d at tag start len next → take (next - start) (ListN.drop start d) ≡ content_at d start len
content_part {d} {at} {tag} {start} {len} {next} w =
    let n : next - start ≡ len = omega (arith, w.next_is) in
    ap (λ k. take k (ListN.drop start d)) n

-- The fields before the offset have been played; the whole day is the lines so far and what follows.
pub record Playing (s x d t₀ out₀ t out : List ℕ) (at count : ℕ) : Type 0 where
  pub fuel : ℕ
  pub text : List ℕ
  pub within : at ≤ length d
  pub enough : length d < at + fuel
  pub size : length t ≡ length t₀
  pub lines : Appended text out₀ 0 count out
  pub goes_on : play_from (suc (length d)) s x d 0 t₀ ≡ after text (play_from fuel s x d at t)

pub playing_start : (s x d t out : List ℕ) → Playing s x d t out t out 0 0
playing_start s x d t out =
    record {
      fuel = suc (length d);
      text = [];
      within = omega arith;
      enough = omega arith;
      size = refl;
      lines = record { place = omega arith; bytes = refl };
      goes_on = refl;
    }

-- what a field does, by the cut and by the order
module _ (s x d t : List ℕ) (at : ℕ) where
  pub play_absent : (k : ℕ) → cut_at d at ≡ absent → play_from (suc k) s x d at t ≡ record { text = []; table = t }
  unfolding play_from
  play_absent k e = rw e

  pub play_short : (k : ℕ) → cut_at d at ≡ short → play_from (suc k) s x d at t ≡ record { text = fault_line at; table = t }
  unfolding play_from
  play_short k e = rw e

  pub play_fault : (k tag start len next : ℕ) → cut_at d at ≡ field tag start len next → order_of tag (content_at d start len) ≡ none
      → play_from (suc k) s x d at t ≡ record { text = fault_line at; table = t }
  unfolding play_from
  play_fault k tag start len next e o = rw (e, o)

  pub play_call_lem : (k tag start len next : ℕ) (c : Call) → cut_at d at ≡ field tag start len next → order_of tag (content_at d start len) ≡ some c
      → play_from (suc k) s x d at t ≡ after (line_of c (call_on s (keeping x t) c)) (play_from k s x d next (call_on s (keeping x t) c).after.table)
  unfolding play_from
  play_call_lem k tag start len next c e o = rw (e, o)

module _ {s x d t₀ out₀ t out : List ℕ} {at count : ℕ} (w : Playing s x d t₀ out₀ t out at count) where
  -- a last line, if any, and the table as it is
  closes : {last out' : List ℕ} {count' : ℕ} → ((k : ℕ) → play_from (suc k) s x d at t ≡ record { text = last; table = t })
      → Appended last out count count' out' → PlayedOn (play_from (suc (length d)) s x d 0 t₀) out₀ count' t out'
  closes {last} {out'} {count'} e p = go w.fuel refl
    where
      go : (f : ℕ) → w.fuel ≡ f → PlayedOn (play_from (suc (length d)) s x d 0 t₀) out₀ count' t out'
      go zero h = absurd (omega (arith, w.within, w.enough))
      go (suc k) h =
          let whole : play_from (suc (length d)) s x d 0 t₀ ≡ record { text = w.text ++ last; table = t } =
          w.goes_on ∙ ap (λ f. after w.text (play_from f s x d at t)) h ∙ ap (λ p. after w.text p) (e k)
          in
          rw whole (record { lines = appended_more w.lines p; table_is = refl })

  pub playing_end : cut_at d at ≡ absent → PlayedOn (play_from (suc (length d)) s x d 0 t₀) out₀ count t out
  playing_end e = closes (λ k. play_absent s x d t at k e) nothing
    where
      nothing : Appended [] out count count out
      nothing = record { place = omega (arith, w.lines.place, ap length w.lines.bytes, lib.Seq.length-sets out₀ 0 w.text); bytes = refl }

  pub playing_fault : {out' : List ℕ} {count' : ℕ} → DayFault d at → Appended (fault_line at) out count count' out'
      → PlayedOn (play_from (suc (length d)) s x d 0 t₀) out₀ count' t out'
  playing_fault f p = closes (λ k. fault_ends k s x d at t f) p

  pub playing_step : {tag start len next count' : ℕ} {t' out' : List ℕ} (c : Call) → cut_at d at ≡ field tag start len next
      → order_of tag (content_at d start len) ≡ some c → length t' ≡ length t → CarriedOut c (call_on s (keeping x t) c) out count count' t' out'
      → Playing s x d t₀ out₀ t' out' next count'
  playing_step {tag} {start} {len} {next} {count'} {t'} {out'} c e o same p = go w.fuel refl
    where
      go : (k : ℕ) → w.fuel ≡ k → Playing s x d t₀ out₀ t' out' next count'
      go zero h = absurd (omega (arith, w.within, w.enough))
      go (suc k) h =
          let cut_is : FieldAt d at tag start len next = field_parts refl e in
          let line : List ℕ = line_of c (call_on s (keeping x t) c) in
          record {
            fuel = k;
            text = w.text ++ line;
            within = cut_is.next_in;
            enough = omega (arith, w.enough, cut_is.start_is, cut_is.next_is);
            size = same ∙ w.size;
            lines = appended_more w.lines p.line;
            goes_on =
                w.goes_on
                ∙ ap (λ f. after w.text (play_from f s x d at t)) h
                ∙ ap (λ q. after w.text q) (play_call_lem s x d t at k tag start len next c e o)
                ∙ ap (λ l. record { text = l; table = (play_from k s x d next (call_on s (keeping x t) c).after.table).table })
                (sym (append_assoc w.text line (play_from k s x d next (call_on s (keeping x t) c).after.table).text))
                ∙ ap (λ q. after (w.text ++ line) (play_from k s x d next q)) (sym p.table_is);
          }
