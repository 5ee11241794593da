-- In a finite acyclic circuit it is decided which items lead to which, and the number of items that lead to an item is a
-- rank: it rises from each parent to its child. Assumes nothing.
use Prim.Native.Nat.{ℕ, ◌+◌, ◌<◌, ◌≤◌}
use mathlib.Core.Path.{sym, subst}
use mathlib.Core.Logic.Dec
use mathlib.Core.Logic.{◌⊎◌, inl, inr, ⊎_elim}
use mathlib.Core.List.{List, [], ◌∷◌}
use native.Mathlib.Omega.{arith}
use native.Mathlib.Decide.{map_dec}
use lib.ListN.{length}
use Rattle.circuit.specs.Circuit.{Circuit, Listed, LeadsTo, direct, further, FiniteAcyclic}

-- Deciding and counting

dec_or : {P Q : Type 0} → Dec P → Dec Q → Dec (P ⊎ Q)
dec_or (yes p) d = yes (inl p)
dec_or (no n) (yes q) = yes (inr q)
dec_or (no n) (no m) = no (⊎_elim n m)

dec_listed : {I : Type 0} → Discrete I → (a : I) (list : List I) → Dec (Listed a list)
dec_listed same a [] = no (λ h. h)
dec_listed same a (b ∷ rest) = dec_or (same a b) (dec_listed same a rest)

abbrev one_if : {P : Type 0} → Dec P → ℕ
one_if (yes p) = 1
one_if (no n) = 0

one_if_bound : {P : Type 0} (d : Dec P) → one_if d ≤ 1
one_if_bound (yes p) = omega arith
one_if_bound (no n) = omega arith

one_if_more : {P Q : Type 0} (d : Dec P) (e : Dec Q) → (P → Q) → one_if d ≤ one_if e
one_if_more (yes p) (yes q) h = omega arith
one_if_more (yes p) (no n) h = absurd (n (h p))
one_if_more (no n) e h = omega arith

one_if_rises : {P Q : Type 0} (d : Dec P) (e : Dec Q) → (P → ⊥) → Q → one_if d < one_if e
one_if_rises (yes p) e n q = absurd (n p)
one_if_rises (no n') (yes q') n q = omega arith
one_if_rises (no n') (no m) n q = absurd (m q)

-- how many of the list have a property
tally : {I : Type 0} {P : I → Type 0} → ((a : I) → Dec (P a)) → List I → ℕ
tally p [] = 0
tally p (a ∷ rest) = one_if (p a) + tally p rest

tally_bound : {I : Type 0} {P : I → Type 0} (p : (a : I) → Dec (P a)) (list : List I) → tally p list ≤ length list
unfolding tally
tally_bound p [] = omega arith
tally_bound p (a ∷ rest) = omega (arith, one_if_bound (p a), tally_bound p rest)

module _ {I : Type 0} {P Q : I → Type 0} (p : (a : I) → Dec (P a)) (q : (a : I) → Dec (Q a)) (more : (a : I) → P a → Q a) where
  tally_more : (list : List I) → tally p list ≤ tally q list
  unfolding tally
  tally_more [] = omega arith
  tally_more (a ∷ rest) = omega (arith, one_if_more (p a) (q a) (more a), tally_more rest)

  -- more of the list have Q, if some b of it has Q and not P
  tally_rises : (b : I) → (P b → ⊥) → Q b → (list : List I) → Listed b list → tally p list < tally q list
  unfolding tally
  tally_rises b n h [] l = absurd l
  tally_rises b n h (a ∷ rest) (inl e) =
      omega (arith, one_if_rises (p a) (q a) (λ x. n (subst P (sym e) x)) (subst Q e h), tally_more rest)
  tally_rises b n h (a ∷ rest) (inr l) = omega (arith, one_if_more (p a) (q a) (more a), tally_rises b n h rest l)

-- a leads to b through items of the list alone: directly; or, with m put at the head of the list, through the rest, or
-- through the rest to m and from m on
data Through {I A : Type 0} (C : Circuit I A) : List I → I → I → Type 0 where
  straight : {a b : I} → Listed a (C.parents b) → Through C [] a b
  without : {m a b : I} {rest : List I} → Through C rest a b → Through C (m ∷ rest) a b
  over : {m a b : I} {rest : List I} → Through C rest a m → Through C rest m b → Through C (m ∷ rest) a b

module _ {I A : Type 0} (C : Circuit I A) where
  leads_trans : {a b c : I} → LeadsTo C a b → LeadsTo C b c → LeadsTo C a c
  leads_trans h (direct l) = further h l
  leads_trans h (further k l) = further (leads_trans h k) l

  through_leads : {list : List I} {a b : I} → Through C list a b → LeadsTo C a b
  through_leads (straight l) = direct l
  through_leads (without h) = through_leads h
  through_leads (over h k) = leads_trans (through_leads h) (through_leads k)

  through_direct : (list : List I) {a b : I} → Listed a (C.parents b) → Through C list a b
  through_direct [] l = straight l
  through_direct (m ∷ rest) l = without (through_direct rest l)

  -- to m and from m no way need pass m
  through_to : {rest : List I} {a m : I} → Through C (m ∷ rest) a m → Through C rest a m
  through_to (without h) = h
  through_to (over h k) = h

  through_from : {rest : List I} {m b : I} → Through C (m ∷ rest) m b → Through C rest m b
  through_from (without h) = h
  through_from (over h k) = k

  through_trans : (list : List I) {a b c : I} → Listed b list → Through C list a b → Through C list b c → Through C list a c
  through_trans [] l h k = absurd l
  through_trans (m ∷ rest) {a} {b} {c} (inl e) h k =
      over (through_to (subst (λ x. Through C (m ∷ rest) a x) e h)) (through_from (subst (λ x. Through C (m ∷ rest) x c) e k))
  through_trans (m ∷ rest) (inr l) (without h) (without k) = without (through_trans rest l h k)
  through_trans (m ∷ rest) (inr l) (without h) (over k k') = over (through_trans rest l h k) k'
  through_trans (m ∷ rest) (inr l) (over h h') (without k) = over h (through_trans rest l h' k)
  through_trans (m ∷ rest) (inr l) (over h h') (over k k') = over h k'

  dec_through : Discrete I → (list : List I) (a b : I) → Dec (Through C list a b)
  dec_through same [] a b = map_dec straight back (dec_listed same a (C.parents b))
    where
      back : Through C [] a b → Listed a (C.parents b)
      back (straight l) = l
  dec_through same (m ∷ rest) a b =
      map_dec (⊎_elim without (λ h. over h.0 h.1)) back
      (dec_or (dec_through same rest a b) (Dec.and (dec_through same rest a m) (dec_through same rest m b)))
    where
      back : Through C (m ∷ rest) a b → Through C rest a b ⊎ (Through C rest a m × Through C rest m b)
      back (without h) = inl h
      back (over h k) = inr (h, k)

-- The number of items that lead to i, each as often as it is listed.
pub rank : {I A : Type 0} (C : Circuit I A) → FiniteAcyclic C → I → ℕ
rank C shape i = tally (λ a. dec_through C shape.discrete C.items a i) C.items

module _ {I A : Type 0} (C : Circuit I A) (shape : FiniteAcyclic C) where
  -- what leads to an item leads to it through items
  leads_through : {a b : I} → Listed b C.items → LeadsTo C a b → Through C C.items a b
  leads_through h (direct l) = through_direct C C.items l
  leads_through {b = c} h (further {b = b} k l) =
      let m : Listed b C.items = shape.closed c b h l in
      through_trans C C.items m (leads_through m k) (through_direct C C.items l)

  -- It is decided whether an item leads to another.
  pub dec_leads : (a b : I) → Listed b C.items → Dec (LeadsTo C a b)
  dec_leads a b h = map_dec (through_leads C) (leads_through h) (dec_through C shape.discrete C.items a b)

  pub rank_bound : (i : I) → rank C shape i ≤ length C.items
  unfolding rank
  rank_bound i = tally_bound (λ a. dec_through C shape.discrete C.items a i) C.items

  -- The number of items that lead to an item rises from each parent to its child.
  pub rank_rises : (i p : I) → Listed i C.items → Listed p (C.parents i) → rank C shape p < rank C shape i
  unfolding rank
  rank_rises i p h l =
      let m : Listed p C.items = shape.closed i p h l in
      tally_rises (λ a. dec_through C shape.discrete C.items a p) (λ a. dec_through C shape.discrete C.items a i)
      (λ a t. leads_through h (further (through_leads C t) l))
      p (λ t. shape.acyclic p m (through_leads C t)) (through_direct C C.items l) C.items m
