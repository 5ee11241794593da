-- A day field is at fault exactly where its row of "Turned back" (16) says so; the fault is the last line, and the table stays.
-- Assumes nothing.
use Prim.Native.Nat.{ℕ, suc}
use native.Mathlib.Omega.{arith}
use mathlib.Core.Path.{◌≡◌, refl, sym, ap, ◌∙◌}
use mathlib.Core.Bool.{Bool, true, false, cond, ◌&&◌}
use mathlib.Core.List.{List}
use mathlib.Core.Option.{Option, none, some}
use mathlib.Core.Logic.{◌↔◌}
use lib.Dec.{eqb}
use lib.IntN.{pos}
use lib.ListN.{length}
use borrow.Author.Tests.{eqb-true, eqb-false}
use Rattle.circuit.specs.Value.{same_number}
use Rattle.circuit.specs.Call.{Call, post, keep, drop, step, ask}
use Rattle.circuit.proofs.RuleLaws.{same_number_true}
use Rattle.printer.proofs.Causes.{not_zero_lem}
use Rattle.field.specs.Field.{Cut, absent, short, field, cut_at}
use Rattle.layout.specs.Content.{content_at}
use Rattle.day_meaning.specs.Orders.{post_tag, ask_tag, keep_tag, drop_tag, step_tag, post_length, call_length, item_in, kind_in, number_in, post_in, call_in, order_of}
use Rattle.day_meaning.specs.Day.{played, fault_line, play_order, play_cut, play_from}
use Rattle.day_meaning.specs.Causes.{FieldWrong, tag_unknown, post_length_other, call_length_other, kind_other, null_not_zero, DayFault, runs_past, wrong, DaySound, ends, orders}

-- an order, or none where P holds
data Orders (P : Type 0) : Option Call → Type 0 where
  a_call : (c : Call) → ¬ P → Orders P (some c)
  no_call : P → Orders P none

module _ (tag : ℕ) (content : List ℕ) where
  post_orders : tag ≡ post_tag → Orders (FieldWrong tag content) (post_in content)
  unfolding post_in
  post_orders t = go (eqb (length content) post_length) (eqb (kind_in content) 1) (eqb (kind_in content) 3) (same_number (number_in content) (pos 0)) refl refl refl refl
    where
      go : (l a b z : Bool) → eqb (length content) post_length ≡ l → eqb (kind_in content) 1 ≡ a → eqb (kind_in content) 3 ≡ b → same_number (number_in content) (pos 0) ≡ z
          → Orders (FieldWrong tag content) (cond (l && cond a z b) (some (post (item_in content) (kind_in content) (number_in content))) none)
      go false a b z el ea eb ez = no_call (post_length_other t (eqb-false (length content) post_length el))
      go true true b true el ea eb ez = a_call _ no
        where
          no : FieldWrong tag content → ⊥
          no (tag_unknown p q r s u) = p t
          no (post_length_other p q) = q (eqb-true (length content) post_length el)
          no (call_length_other p q) = p t
          no (kind_other p q r) = q (eqb-true (kind_in content) 1 ea)
          no (null_not_zero p q r) = r (same_number_true (number_in content) (pos 0) ez)
      go true true b false el ea eb ez = no_call (null_not_zero t (eqb-true (kind_in content) 1 ea) (not_zero_lem (number_in content) ez))
      go true false true z el ea eb ez = a_call _ no
        where
          no : FieldWrong tag content → ⊥
          no (tag_unknown p q r s u) = p t
          no (post_length_other p q) = q (eqb-true (length content) post_length el)
          no (call_length_other p q) = p t
          no (kind_other p q r) = r (eqb-true (kind_in content) 3 eb)
          no (null_not_zero p q r) = eqb-false (kind_in content) 1 ea q
      go true false false z el ea eb ez = no_call (kind_other t (eqb-false (kind_in content) 1 ea) (eqb-false (kind_in content) 3 eb))

  call_orders : (call : ℕ → Call) → ¬ (tag ≡ post_tag) → (¬ (tag ≡ ask_tag) → ¬ (tag ≡ keep_tag) → ¬ (tag ≡ drop_tag) → ¬ (tag ≡ step_tag) → ⊥)
      → Orders (FieldWrong tag content) (call_in call content)
  unfolding call_in
  call_orders call t known = go (eqb (length content) call_length) refl
    where
      go : (l : Bool) → eqb (length content) call_length ≡ l → Orders (FieldWrong tag content) (cond l (some (call (item_in content))) none)
      go false el = no_call (call_length_other t (eqb-false (length content) call_length el))
      go true el = a_call _ no
        where
          no : FieldWrong tag content → ⊥
          no (tag_unknown p q r s u) = known q r s u
          no (post_length_other p q) = t p
          no (call_length_other p q) = q (eqb-true (length content) call_length el)
          no (kind_other p q r) = t p
          no (null_not_zero p q r) = t p

  field_orders : Orders (FieldWrong tag content) (order_of tag content)
  unfolding order_of
  field_orders = go (eqb tag post_tag) (eqb tag ask_tag) (eqb tag keep_tag) (eqb tag drop_tag) (eqb tag step_tag) refl refl refl refl refl
    where
      go : (a b c d e : Bool) → eqb tag post_tag ≡ a → eqb tag ask_tag ≡ b → eqb tag keep_tag ≡ c → eqb tag drop_tag ≡ d → eqb tag step_tag ≡ e
          → Orders (FieldWrong tag content) (cond a (post_in content) (cond b (call_in ask content) (cond c (call_in keep content) (cond d (call_in drop content) (cond e (call_in step content) none)))))
      go true b c d e ea eb ec ed ee = post_orders (eqb-true tag post_tag ea)
      go false true c d e ea eb ec ed ee = call_orders ask (eqb-false tag post_tag ea) (λ p q r s. p (eqb-true tag ask_tag eb))
      go false false true d e ea eb ec ed ee = call_orders keep (eqb-false tag post_tag ea) (λ p q r s. q (eqb-true tag keep_tag ec))
      go false false false true e ea eb ec ed ee = call_orders drop (eqb-false tag post_tag ea) (λ p q r s. r (eqb-true tag drop_tag ed))
      go false false false false true ea eb ec ed ee = call_orders step (eqb-false tag post_tag ea) (λ p q r s. s (eqb-true tag step_tag ee))
      go false false false false false ea eb ec ed ee =
          no_call (tag_unknown (eqb-false tag post_tag ea) (eqb-false tag ask_tag eb) (eqb-false tag keep_tag ec) (eqb-false tag drop_tag ed) (eqb-false tag step_tag ee))

  -- a field orders no call exactly if it is wrong
  pub wrong_exactly : (order_of tag content ≡ none) ↔ FieldWrong tag content
  wrong_exactly = go field_orders refl
    where
      go : {o : Option Call} → Orders (FieldWrong tag content) o → order_of tag content ≡ o → (order_of tag content ≡ none) ↔ FieldWrong tag content
      go (a_call c n) e = (λ q. let bad : ◌≡◌ {A = ℕ} 0 1 = cc (sym e ∙ q) in absurd (omega (arith, bad)), λ w. absurd (n w))
      go (no_call w) e = (λ q. w, λ p. e)

-- a fault is the last line, and leaves the table
pub fault_ends : (k : ℕ) (s x d : List ℕ) (at : ℕ) (t : List ℕ) → DayFault d at → play_from (suc k) s x d at t ≡ played (fault_line at) t
unfolding play_from
fault_ends k s x d at t (runs_past e) = ap (play_cut (play_from k s x d) s x d at t) e
fault_ends k s x d at t (wrong tag start len next e w) =
    ap (play_cut (play_from k s x d) s x d at t) e
    ∙ ap (play_order (play_from k s x d) s x at t next) ((wrong_exactly tag (content_at d start len)).1 w)

-- and where there is none, the log ends or orders a call
pub fault_or_sound : (d : List ℕ) (at : ℕ) → ¬ DayFault d at → DaySound d at
fault_or_sound d at none-there = go (cut_at d at) refl
  where
    go : (c : Cut) → cut_at d at ≡ c → DaySound d at
    go absent e = ends e
    go short e = absurd (none-there (runs_past e))
    go (field tag start len next) e = order (order_of tag (content_at d start len)) refl
      where
        order : (o : Option Call) → order_of tag (content_at d start len) ≡ o → DaySound d at
        order (some c) q = orders tag start len next c e q
        order none q = absurd (none-there (wrong tag start len next e ((wrong_exactly tag (content_at d start len)).0 q)))
