-- The child lists that are built lead over each item's children. Assumes nothing.
use Prim.Native.Nat.{ℕ, zero, suc, ◌+◌, ◌*◌, ◌-◌, ◌/◌, ◌<◌, ◌≤◌}
use native.Mathlib.Omega.{arith}
use mathlib.Core.Path.{◌≡◌, refl, sym, ap, subst, ◌∙◌}
use mathlib.Core.Bool.{Bool, true, false, cond, or-true}
use mathlib.Core.List.{List, [], ◌∷◌}
use mathlib.Core.Logic.{◌⊎◌, inl, inr}
use lib.Dec.{eqb}
use lib.ListN.{length, get_or, set, length-set}
use lib.Seq.{get_or-set_same, get_or-set_other}
use borrow.Author.Tests.{eqb-true, eqb-false, eq-eqb, ne_eqb}
use Rattle.circuit.specs.Rules.{max_parents}
use Rattle.circuit.specs.Sheet.{Sheet, size, parents, member, is_child, Ordered}
use Rattle.item.proofs.Located.{place_listed}
use Rattle.children.specs.Children.{Lists, lists, link_places, head_places, link_item, link_last, link_all, NoChild, Leads, ends, child, Linked}

pub links_length : (links heads : List ℕ) (first : ℕ) (ps : List ℕ) (k : ℕ) → length (link_places links heads first ps k) ≡ length links
unfolding link_places
links_length links heads first ps zero = refl
links_length links heads first ps (suc k) = length-set (link_places links heads first ps k) (first + k) _ ∙ links_length links heads first ps k

pub heads_length : (heads : List ℕ) (first : ℕ) (ps : List ℕ) (k : ℕ) → length (head_places heads first ps k) ≡ length heads
unfolding head_places
heads_length heads first ps zero = refl
heads_length heads first ps (suc k) = length-set (head_places heads first ps k) (get_or ps k 0) _ ∙ heads_length heads first ps k

-- an edge that is not among those stays
links_stay : (links heads : List ℕ) (first : ℕ) (ps : List ℕ) (k e : ℕ) → (e < first) ⊎ (first + k ≤ e)
    → get_or (link_places links heads first ps k) e 0 ≡ get_or links e 0
unfolding link_places
links_stay links heads first ps zero e h = refl
links_stay links heads first ps (suc k) e h =
    get_or-set_other (link_places links heads first ps k) (first + k) e _ 0 (other h) ∙ links_stay links heads first ps k e (rest h)
  where
    other : (e < first) ⊎ (first + suc k ≤ e) → e ≡ first + k → ⊥
    other (inl a) q = omega arith
    other (inr a) q = omega arith

    rest : (e < first) ⊎ (first + suc k ≤ e) → (e < first) ⊎ (first + k ≤ e)
    rest (inl a) = inl a
    rest (inr a) = inr (omega arith)

-- an edge among those is linked
links_put : (links heads : List ℕ) (first : ℕ) (ps : List ℕ) (k j : ℕ) → first + k ≤ length links → j < k
    → get_or (link_places links heads first ps k) (first + j) 0 ≡ get_or heads (get_or ps j 0) 0
unfolding link_places
links_put links heads first ps zero j room h = absurd (omega arith)
links_put links heads first ps (suc k) j room h = go (eqb j k) refl (λ low. links_put links heads first ps k j (omega arith) low)
  where
    before : List ℕ
    before = link_places links heads first ps k

    go : (b : Bool) → eqb j k ≡ b → (j < k → get_or before (first + j) 0 ≡ get_or heads (get_or ps j 0) 0)
        → get_or (set before (first + k) (get_or heads (get_or ps k 0) 0)) (first + j) 0 ≡ get_or heads (get_or ps j 0) 0
    go true q rest =
        let same : j ≡ k = eqb-true j k q in
        rw same (get_or-set_same before (first + k) (get_or heads (get_or ps k 0) 0) 0 (omega (arith, links_length links heads first ps k)))
    go false q rest =
        let other : (j ≡ k → ⊥) = eqb-false j k q in
        get_or-set_other before (first + k) (first + j) _ 0 (λ e. other (omega arith)) ∙ rest (omega arith)

-- the head of p's list: one of the edges, of a place where p is listed, or the head as it was
data Headed (heads : List ℕ) (first : ℕ) (ps : List ℕ) (k p e : ℕ) : Type 0 where
  newly : (j : ℕ) → j < k → get_or ps j 0 ≡ p → e ≡ first + j → Headed heads first ps k p e
  still : ((j : ℕ) → j < k → get_or ps j 0 ≡ p → ⊥) → e ≡ get_or heads p 0 → Headed heads first ps k p e

heads_put : (heads : List ℕ) (first : ℕ) (ps : List ℕ) (k p : ℕ) → p < length heads
    → Headed heads first ps k p (get_or (head_places heads first ps k) p 0)
unfolding head_places
heads_put heads first ps zero p low = still (λ j h e. omega arith) refl
heads_put heads first ps (suc k) p low = go (eqb (get_or ps k 0) p) refl (heads_put heads first ps k p low)
  where
    before : List ℕ
    before = head_places heads first ps k

    go : (b : Bool) → eqb (get_or ps k 0) p ≡ b → Headed heads first ps k p (get_or before p 0)
        → Headed heads first ps (suc k) p (get_or (set before (get_or ps k 0) (first + k)) p 0)
    go true q r =
        let same : get_or ps k 0 ≡ p = eqb-true (get_or ps k 0) p q in
        newly k (omega arith) same (rw same (get_or-set_same before p (first + k) 0 (omega (arith, heads_length heads first ps k))))
    go false q (newly j h at is) =
        newly j (omega arith) at (get_or-set_other before (get_or ps k 0) p _ 0 (λ e. eqb-false (get_or ps k 0) p q (sym e)) ∙ is)
    go false q (still none is) =
        still (λ j h e. last j (eqb j k) refl h e) (get_or-set_other before (get_or ps k 0) p _ 0 (λ e. eqb-false (get_or ps k 0) p q (sym e)) ∙ is)
      where
        last : (j : ℕ) (b : Bool) → eqb j k ≡ b → j < suc k → get_or ps j 0 ≡ p → ⊥
        last j true z h e = eqb-false (get_or ps k 0) p q (ap (λ x. get_or ps x 0) (sym (eqb-true j k z)) ∙ e)
        last j false z h e = let other : (j ≡ k → ⊥) = eqb-false j k z in none j (omega arith) e

-- a listed parent is a member
place_member : (ps : List ℕ) (k p : ℕ) → k < length ps → get_or ps k 0 ≡ p → member p ps ≡ true
unfolding member
place_member [] k p h e = absurd (omega arith)
place_member (q ∷ ps) zero p h e = rw (eq-eqb p q (sym e))
place_member (q ∷ ps) (suc k) p h e = rw (place_member ps k p (omega arith) e) (or-true (eqb p q))

-- what is listed in no place is no member
nowhere_member : (ps : List ℕ) (p : ℕ) → ((k : ℕ) → k < length ps → get_or ps k 0 ≡ p → ⊥) → member p ps ≡ false
unfolding member
nowhere_member [] p none = refl
nowhere_member (q ∷ ps) p none =
    rw (ne_eqb p q (λ e. none 0 (omega arith) (sym e))) (nowhere_member ps p (λ k h e. none (suc k) (omega arith) e))

-- the place of a child: it lists the parent
pub place_child : (S : Sheet) (p d k : ℕ) → k < length (parents S d) → get_or (parents S d) k 0 ≡ p → is_child S p d ≡ true
place_child S p d k h e = place_member (parents S d) k p h e

-- a parent in its place is below the item
pub place_below : (S : Sheet) → Ordered S → (c k : ℕ) → k < length (parents S c) → get_or (parents S c) k 0 < c
place_below S ordered c k h = ordered c (get_or (parents S c) k 0) (place_listed (parents S c) k h)

-- neither item c nor one above it is a child
below_by : (S : Sheet) (p c x : ℕ) → is_child S p c ≡ false → (c + 1 ≤ x → is_child S p x ≡ false) → c ≤ x → is_child S p x ≡ false
below_by S p c x here above a = go (eqb x c) refl
  where
    go : (y : Bool) → eqb x c ≡ y → is_child S p x ≡ false
    go true q = rw (eqb-true x c q) here
    go false q = let other : (x ≡ c → ⊥) = eqb-false x c q in above (omega arith)

pub lists_length : (S : Sheet) (heads links : List ℕ) (j : ℕ)
    → (length (link_last S (lists heads links) j).heads ≡ length heads) × (length (link_last S (lists heads links) j).links ≡ length links)
unfolding link_last
lists_length S heads links zero = (refl, refl)
lists_length S heads links (suc j) =
    let r = lists_length S heads links j in
    let l : Lists = link_last S (lists heads links) j in
    let c : ℕ = size S - suc j in (
      heads_length l.heads (max_parents * c) (parents S c) (length (parents S c)) ∙ r.0,
      links_length l.links l.heads (max_parents * c) (parents S c) (length (parents S c)) ∙ r.1,
    )

-- the lists of the items from c on
record Linking (S : Sheet) (heads₀ links₀ : List ℕ) (c : ℕ) (l : Lists) : Type 0 where
  heads_kept : length l.heads ≡ length heads₀
  links_kept : length l.links ≡ length links₀
  head : (p : ℕ) → p < size S → Leads S p c (get_or l.heads p 0)
  link : (d k : ℕ) → c ≤ d → d < size S → k < length (parents S d) → Leads S (get_or (parents S d) k 0) (d + 1) (get_or l.links (max_parents * d + k) 0)

module _ (S : Sheet) (ordered : Ordered S) (narrow : (c : ℕ) → c < size S → length (parents S c) ≤ max_parents) (heads₀ links₀ : List ℕ)
    (head_room : size S ≤ length heads₀) (link_room : max_parents * size S ≤ length links₀) where
  -- an item that is no child of p does not change where p's list leads
  leads_down : (p c e : ℕ) → is_child S p c ≡ false → Leads S p (c + 1) e → Leads S p c e
  leads_down p c e not (ends z none) = ends z (λ x a b. below_by S p c x not (λ h. none x h b) a)
  leads_down p c e not (child d k is k_low from low none listed at) =
      child d k is k_low (omega arith) low (λ x a b. below_by S p c x not (λ h. none x h b) a) listed at

  linking_next : (c : ℕ) (l : Lists) → c < size S → Linking S heads₀ links₀ (c + 1) l
      → Linking S heads₀ links₀ c (link_item (parents S c) (max_parents * c) l)
  unfolding max_parents
  linking_next c l low inv =
      record {
        heads_kept = heads_length l.heads (max_parents * c) ps (length ps) ∙ inv.heads_kept;
        links_kept = links_length l.links l.heads (max_parents * c) ps (length ps) ∙ inv.links_kept;
        head = λ p h. headed p h (heads_put l.heads (max_parents * c) ps (length ps) p (omega (arith, inv.heads_kept)));
        link = λ d k from h listed. linked d k from h listed (eqb d c) refl;
      }
    where
      ps : List ℕ
      ps = parents S c

      headed : (p : ℕ) → p < size S → {e : ℕ} → Headed l.heads (max_parents * c) ps (length ps) p e → Leads S p c e
      headed p h (newly j j-low at is) =
          child c j is (omega (arith, narrow c low)) (omega arith) low (λ x a b. absurd (omega arith)) j-low at
      headed p h {e} (still none is) =
          leads_down p c e (nowhere_member ps p none) (subst (Leads S p (c + 1)) (sym is) (inv.head p h))

      linked : (d k : ℕ) → c ≤ d → d < size S → k < length (parents S d) → (b : Bool) → eqb d c ≡ b
          → Leads S (get_or (parents S d) k 0) (d + 1) (get_or (link_places l.links l.heads (max_parents * c) ps (length ps)) (max_parents * d + k) 0)
      linked d k from h listed true q =
          let same : d ≡ c = eqb-true d c q in
          let k_low : k < length ps = subst (λ x. k < length (parents S x)) same listed in
          let put = links_put l.links l.heads (max_parents * c) ps (length ps) k (omega (arith, narrow c low, inv.links_kept)) k_low in
          let below = place_below S ordered c k k_low in
          rw (same, put) (inv.head (get_or ps k 0) (omega arith))
      linked d k from h listed false q =
          let other : (d ≡ c → ⊥) = eqb-false d c q in
          let stays = links_stay l.links l.heads (max_parents * c) ps (length ps) (max_parents * d + k) (inr (omega (arith, narrow c low))) in
          rw stays (inv.link d k (omega arith) h listed)

  linking : (empty : (p : ℕ) → p < size S → get_or heads₀ p 0 ≡ 0) (j : ℕ) → j ≤ size S → Linking S heads₀ links₀ (size S - j) (link_last S (lists heads₀ links₀) j)
  unfolding link_last
  linking empty zero h =
      record {
        heads_kept = refl;
        links_kept = refl;
        head = λ p low. ends (empty p low) (λ x a b. absurd (omega arith));
        link = λ d k from low listed. absurd (omega arith);
      }
  linking empty (suc j) h =
      linking_next (size S - suc j) (link_last S (lists heads₀ links₀) j) (omega arith)
      (subst (λ c. Linking S heads₀ links₀ c (link_last S (lists heads₀ links₀) j)) (omega arith) (linking empty j (omega arith)))

  -- from empty lists the whole sheet is linked
  pub all_linked : ((p : ℕ) → p < size S → get_or heads₀ p 0 ≡ 0) → Linked S (link_all S (lists heads₀ links₀)).heads (link_all S (lists heads₀ links₀)).links
  unfolding link_all max_parents
  all_linked empty =
      let none_left : size S - size S ≡ 0 = omega arith in
      let r = subst (λ c. Linking S heads₀ links₀ c (link_last S (lists heads₀ links₀) (size S))) none_left (linking empty (size S) (omega arith)) in
      record {
        head_room = omega (arith, r.heads_kept);
        link_room = omega (arith, r.links_kept);
        head = r.head;
        link = λ c k low listed. r.link c k (omega arith) low listed;
      }

-- The child that an edge leads to.
pub record Child (S : Sheet) (p c e : ℕ) : Type 0 where
  pub place : ℕ
  pub edge_is : e ≡ max_parents * (e / max_parents) + place
  pub from : c ≤ e / max_parents
  pub low : e / max_parents < size S
  pub none_before : NoChild S p c (e / max_parents)
  pub listed : place < length (parents S (e / max_parents))
  pub parent_is : get_or (parents S (e / max_parents)) place 0 ≡ p

pub leads_child : {S : Sheet} {p c e : ℕ} → Leads S p c e → (e ≡ 0 → ⊥) → Child S p c e
unfolding max_parents
leads_child (ends z none) more = absurd (more z)
leads_child {S} {p} {c} {e} (child d k is k_low from low none listed at) more =
    let d_is : d ≡ e / max_parents = omega arith in
    record {
      place = k;
      edge_is = omega arith;
      from = omega arith;
      low = omega arith;
      none_before = subst (NoChild S p c) d_is none;
      listed = subst (λ x. k < length (parents S x)) d_is listed;
      parent_is = subst (λ x. get_or (parents S x) k 0 ≡ p) d_is at;
    }

-- the end of a list: no child is left, as no item lists a parent above its own number
pub leads_end : {S : Sheet} {p c e : ℕ} → Ordered S → Leads S p c e → e ≡ 0 → NoChild S p c (size S)
unfolding max_parents
leads_end ordered (ends z none) end = none
leads_end {S} {p} {c} {e} ordered (child d k is k_low from low none listed at) end =
    let below = place_below S ordered d k listed in
    absurd (omega arith)

-- how far an edge is from the end of its list
abbrev pub left : List ℕ → ℕ → ℕ
left links e = cond (eqb e 0) 0 (suc (length links) - e)

-- the next edge is nearer
pub next_less : {S : Sheet} {p e : ℕ} (links : List ℕ) → e < length links → (e ≡ 0 → ⊥) → (e₂ : ℕ) → Leads S p (e / max_parents + 1) e₂ → left links e₂ < left links e
unfolding max_parents
next_less {S} {p} {e} links low more e₂ leads = go (eqb e₂ 0) refl leads
  where
    here : left links e ≡ suc (length links) - e
    here = rw (ne_eqb e 0 more)

    go : (b : Bool) → eqb e₂ 0 ≡ b → Leads S p (e / max_parents + 1) e₂ → cond b 0 (suc (length links) - e₂) < left links e
    go true q l = omega (arith, here)
    go false q (ends z none) = absurd (eqb-false e₂ 0 q z)
    go false q (child d k is k_low from low₂ none listed at) = omega (arith, here)
