-- The child lists in the kin of the items: what a read and a store of an edge are in the lists. Assumes nothing.
use Prim.Native.Nat.{ℕ, zero, suc, ◌+◌, ◌*◌, ◌-◌, ◌/◌, ◌%◌, ◌<◌}
use native.Mathlib.Omega.{arith}
use native.Mathlib.Numerals.{add-one}
use mathlib.Core.Path.{◌≡◌, refl, sym, ap, ◌∙◌}
use mathlib.Core.Bool.{Bool, true, false}
use mathlib.Core.List.{List, [], ◌∷◌, ◌++◌}
use lib.Dec.{eqb}
use lib.ListN.{length, get_or, set, length-set}
use lib.Seq.{get_or-set_same, get_or-set_other, map-set_same}
use borrow.Author.Tests.{eqb-true, eqb-false}
use Rattle.std.specs.List.{concat}
use Rattle.std.proofs.lemmas.List.{length-map, get_or-map, set-append_left, set-append_right, get_or_append_left, get_or-append_right, map-set, length-append}
use Rattle.std.proofs.lemmas.List.FromFn.{length-map-range_with_len, get_or-map-range_with_len, fill_by_all}
use Rattle.circuit.specs.Rules.{max_parents}
use Rattle.children.specs.declared.Kin.{Kin}
use Rattle.children.specs.Children.{edges_of, heads_of, links_of, lists, lists_of, link_places, head_places}

edges_length : (k : Kin) → length (edges_of k) ≡ max_parents
unfolding edges_of
edges_length k = length-map-range_with_len (λ j. get_or k.siblings j 0) 0 max_parents

edges_get : (k : Kin) (j : ℕ) → j < max_parents → get_or (edges_of k) j 0 ≡ get_or k.siblings j 0
unfolding edges_of
edges_get k j h = get_or-map-range_with_len (λ i. get_or k.siblings i 0) 0 max_parents j j 0 h (omega arith)

-- an edge is stored in an item's kin
pub edges_put : (k : Kin) (j e : ℕ) → length k.siblings ≡ max_parents → j < max_parents
    → edges_of (record { child = k.child; siblings = set k.siblings j e }) ≡ set (edges_of k) j e
unfolding edges_of
edges_put k j e len h =
    sym (fill_by_all (λ i. get_or (set k.siblings j e) i 0) (set (edges_of k) j e) max_parents 0 (length-set (edges_of k) j e ∙ edges_length k) (λ i low. at i low (eqb i j) refl))
  where
    at : (i : ℕ) → i < max_parents → (b : Bool) → eqb i j ≡ b → get_or (set (edges_of k) j e) i 0 ≡ get_or (set k.siblings j e) i 0
    at i low true q =
        rw (eqb-true i j q, get_or-set_same (edges_of k) j e 0 (omega (arith, edges_length k)), get_or-set_same k.siblings j e 0 (omega (arith, len)))
    at i low false q =
        rw (get_or-set_other (edges_of k) j i e 0 (eqb-false i j q), get_or-set_other k.siblings j i e 0 (eqb-false i j q)) (edges_get k i low)

pub heads_count : (kin : List Kin) → length (heads_of kin) ≡ length kin
heads_count kin = length-map kin (λ k. k.child)

pub links_count : (kin : List Kin) → length (links_of kin) ≡ max_parents * length kin
unfolding max_parents
links_count [] = refl
links_count (k ∷ kin) = omega (arith, length-append (edges_of k) (links_of kin), edges_length k, links_count kin)

-- the edge that follows one
links_get : (kin : List Kin) (c k : ℕ) (d : Kin) → c < length kin → k < max_parents
    → get_or (links_of kin) (max_parents * c + k) 0 ≡ get_or (get_or kin c d).siblings k 0
unfolding max_parents
links_get [] c k d low place = absurd (omega arith)
links_get (x ∷ kin) zero k d low place =
    ap (λ i. get_or (edges_of x ++ links_of kin) i 0) (omega arith)
    ∙ get_or_append_left (edges_of x) (links_of kin) 0 k (omega (arith, edges_length x))
    ∙ edges_get x k place
links_get (x ∷ kin) (suc c) k d low place =
    let from : max_parents * suc c + k - max_parents ≡ max_parents * c + k = omega arith in
    get_or-append_right (edges_of x) (links_of kin) max_parents (max_parents * suc c + k) 0 (edges_length x) (omega arith)
    ∙ ap (λ i. get_or (links_of kin) i 0) from
    ∙ links_get kin c k d (omega arith) place

-- an item's kin where an index misses
abbrev pub nobody : Kin
nobody = record { child = 0; siblings = [] }

pub link_there : (kin : List Kin) (e : ℕ) → e < length (links_of kin) → e / max_parents < length kin
unfolding max_parents
link_there kin e low = omega (arith, links_count kin)

pub link_read : (kin : List Kin) (e : ℕ) → e < length (links_of kin)
    → get_or (get_or kin (e / max_parents) nobody).siblings (e % max_parents) 0 ≡ get_or (links_of kin) e 0
unfolding max_parents
link_read kin e low =
    let at : max_parents * (e / max_parents) + e % max_parents ≡ e = omega arith in
    sym (links_get kin (e / max_parents) (e % max_parents) nobody (omega (arith, links_count kin)) (omega arith)) ∙ ap (λ i. get_or (links_of kin) i 0) at

-- item c is given kin x, in which one edge is another
pub links_put : (kin : List Kin) (c k e : ℕ) (x d : Kin) → c < length kin → k < max_parents → edges_of x ≡ set (edges_of (get_or kin c d)) k e
    → links_of (set kin c x) ≡ set (links_of kin) (max_parents * c + k) e
unfolding max_parents
links_put [] c k e x d low place is = absurd (omega arith)
links_put (y ∷ kin) zero k e x d low place is =
    ap (λ r. r ++ links_of kin) is
    ∙ sym (set-append_left (edges_of y) (links_of kin) k e (omega (arith, edges_length y)))
    ∙ ap (λ i. set (edges_of y ++ links_of kin) i e) (omega arith)
links_put (y ∷ kin) (suc c) k e x d low place is =
    let from : max_parents * suc c + k - max_parents ≡ max_parents * c + k = omega arith in
    ap (λ r. edges_of y ++ r) (links_put kin c k e x d (omega arith) place is)
    ∙ ap (λ i. edges_of y ++ set (links_of kin) i e) (sym from)
    ∙ sym (set-append_right (edges_of y) (links_of kin) max_parents (max_parents * suc c + k) e (edges_length y) (omega arith))

pub heads_stay : (kin : List Kin) (c : ℕ) (x d : Kin) → x.child ≡ (get_or kin c d).child → heads_of (set kin c x) ≡ heads_of kin
heads_stay kin c x d is = map-set_same (λ k. k.child) kin c x d is

-- item p is given kin with another head
pub heads_put : (kin : List Kin) (p : ℕ) (x : Kin) → heads_of (set kin p x) ≡ set (heads_of kin) p x.child
heads_put kin p x = map-set (λ k. k.child) kin p x

pub links_stay : (kin : List Kin) (p : ℕ) (x d : Kin) → edges_of x ≡ edges_of (get_or kin p d) → links_of (set kin p x) ≡ links_of kin
links_stay kin p x d is = ap concat (map-set_same edges_of kin p x d is)

-- the head of an item's list
pub head_read : (kin : List Kin) (p : ℕ) (d : Kin) → p < length kin → (get_or kin p d).child ≡ get_or (heads_of kin) p 0
head_read kin p d low = sym (get_or-map (λ k. k.child) kin p d 0 low)

-- The loop that links an item's edges: the kin of item c is x, which has the edge of place k too.
pub placed_next : (kin₀ kin : List Kin) (c k p : ℕ) (ps : List ℕ) (x d e : Kin) → c < length kin → k < max_parents → p < length kin → p ≡ get_or ps k 0
    → lists_of kin ≡ lists (heads_of kin₀) (link_places (links_of kin₀) (heads_of kin₀) (max_parents * c) ps k)
    → x.child ≡ (get_or kin c d).child → edges_of x ≡ set (edges_of (get_or kin c d)) k (get_or kin p e).child
    → lists_of (set kin c x) ≡ lists (heads_of kin₀) (link_places (links_of kin₀) (heads_of kin₀) (max_parents * c) ps (k + 1))
unfolding link_places
placed_next kin₀ kin c k p ps x d e low place p_low p_is inv child linked =
    let heads : heads_of (set kin c x) ≡ heads_of kin₀ = heads_stay kin c x d child ∙ ap (λ l. l.heads) inv in
    let head : (get_or kin p e).child ≡ get_or (heads_of kin₀) (get_or ps k 0) 0 =
    head_read kin p e p_low ∙ ap (λ l. get_or l.heads p 0) inv ∙ ap (λ i. get_or (heads_of kin₀) i 0) p_is in
    let put = links_put kin c k (get_or kin p e).child x d low place linked in
    rw (add-one k, heads, put, head, ap (λ l. l.links) inv)

-- The loop that puts them in front: the kin of parent p is x, whose head is the edge of place k.
pub headed_next : (kin₀ kin : List Kin) (c k p : ℕ) (ps : List ℕ) (x d : Kin) → p ≡ get_or ps k 0
    → lists_of kin ≡ lists (head_places (heads_of kin₀) (max_parents * c) ps k) (links_of kin₀)
    → x.child ≡ max_parents * c + k → edges_of x ≡ edges_of (get_or kin p d)
    → lists_of (set kin p x) ≡ lists (head_places (heads_of kin₀) (max_parents * c) ps (k + 1)) (links_of kin₀)
unfolding head_places
headed_next kin₀ kin c k p ps x d p_is inv child same =
    rw (add-one k, heads_put kin p x, links_stay kin p x d same, child, ap (λ l. l.heads) inv, ap (λ l. l.links) inv, p_is)
