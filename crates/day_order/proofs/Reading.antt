-- What a field of the day log orders, case by case. Assumes nothing.
use Prim.Native.Nat.{ℕ}
use mathlib.Core.Path.{◌≡◌, refl}
use mathlib.Core.Bool.{Bool, true, false, cond}
use mathlib.Core.List.{List}
use mathlib.Core.Option.{none, some}
use borrow.Author.Tests.{eq-eqb, ne_eqb}
use lib.IntN.{ℤ}
use lib.ListN.{length}
use Rattle.circuit.specs.Call.{Call, post, keep, drop, step, ask}
use Rattle.day_meaning.specs.Orders.{post_tag, ask_tag, keep_tag, drop_tag, step_tag, post_length, call_length, item_in, kind_in, number_in, kind_allowed, post_in, call_in, order_of}

pub post_length_lem : (content : List ℕ) → (length content ≡ post_length → ⊥) → none ≡ post_in content
unfolding post_in
post_length_lem content h = rw (ne_eqb (length content) post_length h)

pub post_good : (content : List ℕ) (item kind : ℕ) (y : ℤ) → length content ≡ post_length → item ≡ item_in content → kind ≡ kind_in content → y ≡ number_in content
    → kind_allowed (kind_in content) y ≡ true → some (post item kind y) ≡ post_in content
unfolding post_in
post_good content item kind y n i k e f = rw (eq-eqb (length content) post_length n, ← e, f, ← i, ← k)

pub post_bad : (content : List ℕ) (y : ℤ) → length content ≡ post_length → y ≡ number_in content → kind_allowed (kind_in content) y ≡ false → none ≡ post_in content
unfolding post_in
post_bad content y n e f = rw (eq-eqb (length content) post_length n, ← e, f)

pub order_post : (tag : ℕ) (content : List ℕ) → tag ≡ post_tag → order_of tag content ≡ post_in content
unfolding order_of
order_post tag content e = rw e

call_good : (call : ℕ → Call) (content : List ℕ) (item : ℕ) → length content ≡ call_length → item ≡ item_in content → some (call item) ≡ call_in call content
unfolding call_in
call_good call content item n i = rw (eq-eqb (length content) call_length n, ← i)

call_bad : (call : ℕ → Call) (content : List ℕ) → (length content ≡ call_length → ⊥) → call_in call content ≡ none
unfolding call_in
call_bad call content h = rw (ne_eqb (length content) call_length h)

module _ (tag : ℕ) (content : List ℕ) (item : ℕ) (n : length content ≡ call_length) (i : item ≡ item_in content) where
  pub order_ask : tag ≡ ask_tag → some (ask item) ≡ order_of tag content
  unfolding order_of
  order_ask e = rw e (call_good ask content item n i)

  pub order_keep : tag ≡ keep_tag → some (keep item) ≡ order_of tag content
  unfolding order_of
  order_keep e = rw e (call_good keep content item n i)

  pub order_drop : tag ≡ drop_tag → some (drop item) ≡ order_of tag content
  unfolding order_of
  order_drop e = rw e (call_good drop content item n i)

  pub order_step : tag ≡ step_tag → some (step item) ≡ order_of tag content
  unfolding order_of
  order_step e = rw e (call_good step content item n i)

same : {A : Type 0} (b : Bool) (x : A) → cond b x x ≡ x
same true x = refl
same false x = refl

pub order_length : (tag : ℕ) (content : List ℕ) → (tag ≡ post_tag → ⊥) → (length content ≡ call_length → ⊥) → none ≡ order_of tag content
unfolding order_of
order_length tag content t h =
    simp (ne_eqb tag post_tag t, call_bad ask content h, call_bad keep content h, call_bad drop content h, call_bad step content h, same)

pub order_unknown : (tag : ℕ) (content : List ℕ) → (tag ≡ post_tag → ⊥) → (tag ≡ ask_tag → ⊥) → (tag ≡ keep_tag → ⊥)
    → (tag ≡ drop_tag → ⊥) → (tag ≡ step_tag → ⊥) → none ≡ order_of tag content
unfolding order_of
order_unknown tag content a b c d e = rw (ne_eqb tag post_tag a, ne_eqb tag ask_tag b, ne_eqb tag keep_tag c, ne_eqb tag drop_tag d, ne_eqb tag step_tag e)
