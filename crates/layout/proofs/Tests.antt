-- Each test of the reader says what its row of the table says. Assumes nothing.
use mathlib.Core.Path.{◌≡◌, refl, ap, subst}
use mathlib.Core.Bool.{Bool, true, false, cond, not, ◌&&◌, ◌||◌}
use mathlib.Core.List.{List, [], ◌∷◌, ◌++◌}
use mathlib.Core.Logic.{◌⊎◌, inl, inr, ⊎_elim}
use mathlib.Core.Option.{Option, none, some}
use Prim.Native.Nat.{ℕ, zero, suc, ◌-◌, ◌≤◌, ◌<◌}
use native.Mathlib.Omega.{arith}
use native.Mathlib.Decide.{ℕ_discrete}
use lib.Dec.{eqb, ltb, leb}
use lib.ListN.{length, length-drop}
use borrow.Author.Tests.{eq-eqb, ne_eqb}
use Rattle.circuit.specs.Circuit.{Listed}
use Rattle.circuit.specs.Rules.{Operation, sum, difference, smallest, largest, share, choice, count, at_least, operation_of, allowed, coded, one_or_more, max_parents, count_allowed as parents_allowed}
use Rattle.layout.specs.Layout.{LayoutItem, entry_field, figure_field, entry_tag, figure_tag, parents_at, parent_at, edition_known, count_allowed, item_limit, keep_allowed, spread_limit, spread_allowed}
use Rattle.layout.specs.Layout.{rule_allowed, is_some, name_allowed, name_byte, name_limit, all}
use Rattle.layout.specs.Content.{rule_in, keep_in, spread_in, parent_count_in, parent_in, parents_in, name_in, item_in}
use Rattle.layout.specs.Read.{length_or_name, rule_wrong, parent_wrong}
use Rattle.layout.specs.Causes.{NotAName, BadByte, WrongItemLength, entry_name, figure_under, figure_rest, figure_name, RuleTakes, sum_takes, difference_takes, smallest_takes, largest_takes}
use Rattle.layout.specs.Causes.{share_takes, choice_takes, count_takes, at_least_takes, WrongSpread, WrongFigure, HighParent}
use Rattle.layout.proofs.Items.{parents_count}
pub use Rattle.field.proofs.Tells.{Tells, holds, fails, tells_if, tells_or, tells_and, Refutes, right, wrong, refutes_if, refutes_and, tells_not, refutes_tells, tells_eq, tells_lt, tells_le}
pub use Rattle.field.proofs.Tells.{refutes_le, refutes_lt}

-- some element fails a test
pub refutes_all : (test : ℕ → Bool) (P : ℕ → Type 0) → ((x : ℕ) → Refutes (P x) (test x)) → (xs : List ℕ)
    → Refutes ((x : ℕ) × Listed x xs × P x) (all test xs)
unfolding all
refutes_all test P t [] = right (λ w. w.1)
refutes_all test P t (y ∷ ys) = refutes_if forth back (refutes_and (t y) (refutes_all test P t ys))
  where
    forth : (P y ⊎ ((x : ℕ) × Listed x ys × P x)) → (x : ℕ) × Listed x (y ∷ ys) × P x
    forth (inl p) = (y, inl refl, p)
    forth (inr w) = (w.0, inr w.1, w.2)

    here : (x : ℕ) → P x → (x ≡ y) ⊎ Listed x ys → P y ⊎ ((z : ℕ) × Listed z ys × P z)
    here x p (inl e) = inl (subst P e p)
    here x p (inr l) = inr (x, l, p)

    back : ((x : ℕ) × Listed x (y ∷ ys) × P x) → P y ⊎ ((x : ℕ) × Listed x ys × P x)
    back w = here w.0 w.2 w.1

-- 3: a name that is not one
pub refutes_name : (name : List ℕ) → Refutes (NotAName name) (name_allowed name)
unfolding name_allowed
refutes_name name =
    refutes_if forth back
    (refutes_and (refutes_and (refutes_le 1 (length name)) (refutes_le (length name) name_limit))
    (refutes_all name_byte (λ b. (b < 33) ⊎ (126 < b)) (λ b. refutes_and (refutes_le 33 b) (refutes_le b 126)) name))
  where
    forth : ((length name < 1) ⊎ (name_limit < length name)) ⊎ BadByte name → NotAName name
    forth (inl (inl h)) = inl h
    forth (inl (inr h)) = inr (inl h)
    forth (inr w) = inr (inr w)

    back : NotAName name → ((length name < 1) ⊎ (name_limit < length name)) ⊎ BadByte name
    back (inl h) = inl (inl h)
    back (inr (inl h)) = inl (inr h)
    back (inr (inr w)) = inr w

-- a figure's length and name
tells_figure : (tag : ℕ) (content : List ℕ) → tag ≡ figure_tag
    → Tells (WrongItemLength tag (length content) content) (ltb (length content) parents_at || not (name_allowed (name_in content)))
tells_figure tag content t = tells_if forth back (tells_or (tells_lt (length content) parents_at) (tells_not (refutes_name (name_in content))))
  where
    p : ℕ
    p = parent_count_in content

    n : length (name_in content) ≡ length content - parent_at (parent_count_in content)
    n = length-drop (parent_at (parent_count_in content)) content

    forth : (length content < parents_at) ⊎ NotAName (name_in content) → WrongItemLength tag (length content) content
    forth (inl h) = figure_under t h
    forth (inr (inl h)) = figure_rest t (inl (omega (arith, n)))
    forth (inr (inr (inl h))) = figure_rest t (inr (omega (arith, n)))
    forth (inr (inr (inr w))) = figure_name t w

    back : WrongItemLength tag (length content) content → (length content < parents_at) ⊎ NotAName (name_in content)
    back (entry_name e w) = absurd (omega arith)
    back (figure_under e h) = inl h
    back (figure_rest e (inl h)) = inr (inl (omega (arith, n)))
    back (figure_rest e (inr h)) = inr (inr (inl (omega (arith, n))))
    back (figure_name e w) = inr (inr (inr w))

tells_entry : (tag : ℕ) (content : List ℕ) → tag ≡ entry_tag → Tells (WrongItemLength tag (length content) content) (not (name_allowed content))
tells_entry tag content t = tells_if (entry_name t) back (tells_not (refutes_name content))
  where
    back : WrongItemLength tag (length content) content → NotAName content
    back (entry_name e w) = w
    back (figure_under e h) = absurd (omega arith)
    back (figure_rest e h) = absurd (omega arith)
    back (figure_name e w) = absurd (omega arith)

pub tells_length : (tag : ℕ) (content : List ℕ) → (tag ≡ entry_tag) ⊎ (tag ≡ figure_tag) → Tells (WrongItemLength tag (length content) content) (length_or_name tag content)
unfolding length_or_name
tells_length tag content (inl e) = rw (ne_eqb tag figure_tag (λ t. omega arith)) (tells_entry tag content e)
tells_length tag content (inr e) = rw (eq-eqb tag figure_tag e) (tells_figure tag content e)

-- 4: edition or item count
pub refutes_edition : (edition n : ℕ)
    → Refutes (((¬ (edition ≡ 1)) × (¬ (edition ≡ 2))) ⊎ (n < 1) ⊎ (item_limit edition < n)) (edition_known edition && count_allowed edition n)
unfolding edition_known count_allowed
refutes_edition edition n =
    refutes_and (refutes_if (λ m. (λ e. m (inl e), λ e. m (inr e))) (λ m. ⊎_elim m.0 m.1) (refutes_tells (tells_or (tells_eq edition 1) (tells_eq edition 2))))
    (refutes_and (refutes_le 1 n) (refutes_le n (item_limit edition)))

-- 5: rule, keep, spread, or p wrong for the rule
record TakesFacts (code p : ℕ) : Type 0 where
  low : 1 ≤ p
  high : p ≤ max_parents
  difference_two : code ≡ 2 → p ≡ 2
  share_two : code ≡ 5 → p ≡ 2
  choice_three : code ≡ 6 → p ≡ 3
  at_least_two : code ≡ 8 → p ≡ 2

takes_facts : (code p : ℕ) → RuleTakes code p → TakesFacts code p
unfolding max_parents
takes_facts code p (sum_takes e l h) = omega arith
takes_facts code p (difference_takes e h) = omega arith
takes_facts code p (smallest_takes e l h) = omega arith
takes_facts code p (largest_takes e l h) = omega arith
takes_facts code p (share_takes e h) = omega arith
takes_facts code p (choice_takes e h) = omega arith
takes_facts code p (count_takes e l h) = omega arith
takes_facts code p (at_least_takes e h) = omega arith

module _ (code p : ℕ) where
  tells_allowed : (op : Operation) → Tells (RuleTakes code p) (parents_allowed op p) → Tells (RuleTakes code p) (is_some (allowed (some op) p))
  tells_allowed op t = go (parents_allowed op p) t
    where
      go : (b : Bool) → Tells (RuleTakes code p) b → Tells (RuleTakes code p) (is_some (cond b (some op) none))
      go true (holds x) = holds x
      go false (fails n) = fails n

  tells_many : (1 ≤ p → p ≤ max_parents → RuleTakes code p) → Tells (RuleTakes code p) (one_or_more p)
  unfolding one_or_more
  tells_many f = tells_if (λ h. f h.0 h.1) (λ x. ((takes_facts code p x).low, (takes_facts code p x).high)) (tells_and (tells_le 1 p) (tells_le p max_parents))

  tells_exactly : (k : ℕ) → (p ≡ k → RuleTakes code p) → (RuleTakes code p → p ≡ k) → Tells (RuleTakes code p) (eqb p k)
  tells_exactly k f g = tells_if f g (tells_eq p k)

  tells_code : (k : ℕ) (op : Operation) (rest : Option Operation) → (code ≡ k → Tells (RuleTakes code p) (parents_allowed op p))
      → (¬ (code ≡ k) → Tells (RuleTakes code p) (is_some (allowed rest p)))
      → Tells (RuleTakes code p) (is_some (allowed (cond (eqb code k) (some op) rest) p))
  tells_code k op rest f g = go (eqb code k) (tells_eq code k)
    where
      go : (b : Bool) → Tells (code ≡ k) b → Tells (RuleTakes code p) (is_some (allowed (cond b (some op) rest) p))
      go true (holds e) = tells_allowed op (f e)
      go false (fails n) = g n

  takes_none : ¬ (code ≡ 1) → ¬ (code ≡ 2) → ¬ (code ≡ 3) → ¬ (code ≡ 4) → ¬ (code ≡ 5) → ¬ (code ≡ 6) → ¬ (code ≡ 7) → ¬ (code ≡ 8)
      → ¬ RuleTakes code p
  takes_none n1 n2 n3 n4 n5 n6 n7 n8 (sum_takes e l h) = n1 e
  takes_none n1 n2 n3 n4 n5 n6 n7 n8 (difference_takes e h) = n2 e
  takes_none n1 n2 n3 n4 n5 n6 n7 n8 (smallest_takes e l h) = n3 e
  takes_none n1 n2 n3 n4 n5 n6 n7 n8 (largest_takes e l h) = n4 e
  takes_none n1 n2 n3 n4 n5 n6 n7 n8 (share_takes e h) = n5 e
  takes_none n1 n2 n3 n4 n5 n6 n7 n8 (choice_takes e h) = n6 e
  takes_none n1 n2 n3 n4 n5 n6 n7 n8 (count_takes e l h) = n7 e
  takes_none n1 n2 n3 n4 n5 n6 n7 n8 (at_least_takes e h) = n8 e

  pub tells_rule : Tells (RuleTakes code p) (rule_allowed code p)
  unfolding operation_of coded parents_allowed
  tells_rule =
      tells_code 1 sum _ (λ e. tells_many (sum_takes e)) λ n1.
      tells_code 2 difference _ (λ e. tells_exactly 2 (difference_takes e) (λ x. (takes_facts code p x).difference_two e)) λ n2.
      tells_code 3 smallest _ (λ e. tells_many (smallest_takes e)) λ n3.
      tells_code 4 largest _ (λ e. tells_many (largest_takes e)) λ n4.
      tells_code 5 share _ (λ e. tells_exactly 2 (share_takes e) (λ x. (takes_facts code p x).share_two e)) λ n5.
      tells_code 6 choice _ (λ e. tells_exactly 3 (choice_takes e) (λ x. (takes_facts code p x).choice_three e)) λ n6.
      tells_code 7 count _ (λ e. tells_many (count_takes e)) λ n7.
      tells_code 8 at_least _ (λ e. tells_exactly 2 (at_least_takes e) (λ x. (takes_facts code p x).at_least_two e)) λ n8.
      fails (takes_none n1 n2 n3 n4 n5 n6 n7 n8)

-- of a figure only
tells_of_figure : (tag : ℕ) (P : Type 0) (b : Bool) → Tells P b → Tells ((tag ≡ figure_tag) × P) (cond (eqb tag figure_tag) b false)
tells_of_figure tag P b t = go (eqb tag figure_tag) (tells_eq tag figure_tag)
  where
    go : (f : Bool) → Tells (tag ≡ figure_tag) f → Tells ((tag ≡ figure_tag) × P) (cond f b false)
    go true (holds e) = tells_if (λ p. (e, p)) (λ x. x.1) t
    go false (fails n) = fails (λ x. n x.0)

-- a test of an item that no entry meets
cond_entry : (test : LayoutItem → Bool) (f : Bool) (figure : LayoutItem) (name : List ℕ) → test (entry_field name) ≡ false
    → test (cond f figure (entry_field name)) ≡ cond f (test figure) false
cond_entry test true figure name e = refl
cond_entry test false figure name e = e

pub refutes_spread : (edition spread : ℕ) → Refutes (WrongSpread edition spread) (spread_allowed edition spread)
unfolding spread_allowed spread_limit
refutes_spread edition spread = go (eqb edition 2) (tells_eq edition 2)
  where
    above : edition ≡ 2 → 1 < spread → WrongSpread edition spread
    above e h = which (ℕ_discrete spread 2)
      where
        which : Dec (spread ≡ 2) → WrongSpread edition spread
        which (yes two) = inr (e, two)
        which (no n) = inl (omega arith)

    over : WrongSpread edition spread → 1 < spread
    over (inl h) = omega arith
    over (inr (e, two)) = omega arith

    go : (b : Bool) → Tells (edition ≡ 2) b → Refutes (WrongSpread edition spread) (leb spread (cond b 1 2))
    go true (holds e) = refutes_if (above e) over (refutes_le spread 1)
    go false (fails n) = refutes_if (λ h. inl h) (⊎_elim (λ h. h) (λ w. absurd (n w.0))) (refutes_le spread 2)

-- what is not refuted
pub not_refuted : {P : Type 0} {b : Bool} → Refutes P b → ¬ P → b ≡ true
not_refuted (right n) h = refl
not_refuted (wrong p) h = absurd (h p)

pub tells_wrong_figure : (edition tag : ℕ) (content : List ℕ) → Tells ((tag ≡ figure_tag) × WrongFigure edition content) (rule_wrong edition (item_in tag content))
unfolding item_in keep_allowed
tells_wrong_figure edition tag content =
    let parents : List ℕ = parents_in content (parent_count_in content) in
    let fig : LayoutItem = figure_field (rule_in content) (keep_in content) (spread_in content) parents (name_in content) in
    let c = cond_entry (rule_wrong edition) (eqb tag figure_tag) fig content refl in
    let n = parents_count content (parent_count_in content) in
    let rule = refutes_tells (tells_rule (rule_in content) (parent_count_in content)) in
    let three = refutes_and (refutes_and rule (refutes_le (keep_in content) 1)) (refutes_spread edition (spread_in content)) in
    let one : Tells (WrongFigure edition content) (rule_wrong edition fig) = rw n (tells_not (refutes_if forth back three)) in
    rw c (tells_of_figure tag (WrongFigure edition content) (rule_wrong edition fig) one)
  where
    forth : ((¬ RuleTakes (rule_in content) (parent_count_in content)) ⊎ (1 < keep_in content)) ⊎ WrongSpread edition (spread_in content) → WrongFigure edition content
    forth (inl (inl h)) = inl h
    forth (inl (inr h)) = inr (inl h)
    forth (inr h) = inr (inr h)

    back : WrongFigure edition content → ((¬ RuleTakes (rule_in content) (parent_count_in content)) ⊎ (1 < keep_in content)) ⊎ WrongSpread edition (spread_in content)
    back (inl h) = inl (inl h)
    back (inr (inl h)) = inl (inr h)
    back (inr (inr h)) = inr h

-- 6: parent not below the item

listed_left : (x : ℕ) (xs ys : List ℕ) → Listed x xs → Listed x (xs ++ ys)
listed_left x [] ys l = absurd l
listed_left x (y ∷ xs) ys (inl e) = inl e
listed_left x (y ∷ xs) ys (inr l) = inr (listed_left x xs ys l)

listed_right : (x : ℕ) (xs ys : List ℕ) → Listed x ys → Listed x (xs ++ ys)
listed_right x [] ys l = l
listed_right x (y ∷ xs) ys l = inr (listed_right x xs ys l)

listed_append : (x : ℕ) (xs ys : List ℕ) → Listed x (xs ++ ys) → Listed x xs ⊎ Listed x ys
listed_append x [] ys l = inr l
listed_append x (y ∷ xs) ys (inl e) = inl (inl e)
listed_append x (y ∷ xs) ys (inr l) = ⊎_elim (λ a. inl (inr a)) (λ b. inr b) (listed_append x xs ys l)

-- what is listed among the parents is the k-th for some k
listed_parent : (content : List ℕ) (n p : ℕ) → Listed p (parents_in content n) → (k : ℕ) × (k < n) × (p ≡ parent_in content k)
unfolding parents_in
listed_parent content zero p l = absurd l
listed_parent content (suc n) p l = go (listed_parent content n p) (listed_append p (parents_in content n) (parent_in content n ∷ []) l)
  where
    go : (Listed p (parents_in content n) → (k : ℕ) × (k < n) × (p ≡ parent_in content k))
        → Listed p (parents_in content n) ⊎ ((p ≡ parent_in content n) ⊎ ⊥) → (k : ℕ) × (k < suc n) × (p ≡ parent_in content k)
    go ih (inl a) = let w = ih a in (w.0, omega arith, w.2)
    go ih (inr (inl e)) = (n, omega arith, e)
    go ih (inr (inr b)) = absurd b

parent_listed : (content : List ℕ) (n k : ℕ) → k < n → Listed (parent_in content k) (parents_in content n)
unfolding parents_in
parent_listed content zero k h = absurd (omega arith)
parent_listed content (suc n) k h = go (ℕ_discrete k n) (parent_listed content n k)
  where
    go : Dec (k ≡ n) → (k < n → Listed (parent_in content k) (parents_in content n))
        → Listed (parent_in content k) (parents_in content n ++ (parent_in content n ∷ []))
    go (yes e) ih = listed_right (parent_in content k) (parents_in content n) (parent_in content n ∷ []) (inl (ap (parent_in content) e))
    go (no e) ih = listed_left (parent_in content k) (parents_in content n) (parent_in content n ∷ []) (ih (omega arith))

pub tells_parents : (i tag : ℕ) (content : List ℕ) → Tells ((tag ≡ figure_tag) × HighParent i content) (parent_wrong i (item_in tag content))
unfolding item_in
tells_parents i tag content =
    let parents : List ℕ = parents_in content (parent_count_in content) in
    let fig : LayoutItem = figure_field (rule_in content) (keep_in content) (spread_in content) parents (name_in content) in
    let c = cond_entry (parent_wrong i) (eqb tag figure_tag) fig content refl in
    rw c
    (tells_of_figure tag (HighParent i content) (parent_wrong i fig)
    (tells_not (refutes_if forth back (refutes_all (λ p. ltb p i) (λ p. i ≤ p) (λ p. refutes_lt p i) parents))))
  where
    forth : ((p : ℕ) × Listed p (parents_in content (parent_count_in content)) × (i ≤ p)) → HighParent i content
    forth w = let l = listed_parent content (parent_count_in content) w.0 w.1 in (l.0, l.1, rw l.2 at w.2)

    back : HighParent i content → (p : ℕ) × Listed p (parents_in content (parent_count_in content)) × (i ≤ p)
    back w = (parent_in content w.0, parent_listed content (parent_count_in content) w.0 w.1, w.2)
