-- The child lists of a sheet: how they are built, and what they say. Edge max_parents * c + k stands for the parent that
-- item c lists in place k; 0 ends a list. They stand in one array, the kin of each item. Assumes nothing.
use Rattle.std.specs.Prelude.{ℕ, zero, suc, ◌+◌, ◌*◌, ◌-◌, ◌<◌, ◌≤◌, ◌≡◌, Bool, true, false, cond, List, eqb, length, get_or, set, map}
use Rattle.std.specs.Prelude as core
use Rattle.std.specs.List.{concat, range_with_len}
use Rattle.circuit.specs.Rules.{max_parents}
use Rattle.circuit.specs.Sheet.{Sheet, size, parents, is_child}
use Rattle.children.specs.declared.Kin.{Kin}
use Rattle.children.specs.declared.Edge.{Edge}

-- the edge that heads the list of each item, and the edge that follows each edge
pub record Lists : Type 0 where
  pub heads : List ℕ
  pub links : List ℕ

abbrev pub lists : List ℕ → List ℕ → Lists
lists h l = record { heads = h; links = l }

-- the edges from `first` on, one for each of the first k of the parents ps, are linked to the heads of the parents' lists
unfoldable pub link_places : List ℕ → List ℕ → ℕ → List ℕ → ℕ → List ℕ
link_places links heads first ps zero = links
link_places links heads first ps (suc k) =
    set (link_places links heads first ps k) (first + k) (get_or heads (get_or ps k 0) 0)

-- those edges head the lists
unfoldable pub head_places : List ℕ → ℕ → List ℕ → ℕ → List ℕ
head_places heads first ps zero = heads
head_places heads first ps (suc k) = set (head_places heads first ps k) (get_or ps k 0) (first + k)

-- an item with the parents ps is put in front of their lists, once in each, by the last place that lists the parent
abbrev pub link_item : List ℕ → ℕ → Lists → Lists
link_item ps first l =
    lists (head_places l.heads first ps (length ps)) (link_places l.links l.heads first ps (length ps))

-- the j highest items, highest first
unfoldable pub link_last : Sheet → Lists → ℕ → Lists
link_last S l zero = l
link_last S l (suc j) = link_item (parents S (size S - suc j)) (max_parents * (size S - suc j)) (link_last S l j)

unfoldable pub link_all : Sheet → Lists → Lists
link_all S l = link_last S l (size S)

-- no item from c on and below d lists p
abbrev pub NoChild : Sheet → ℕ → ℕ → ℕ → Type 0
NoChild S p c d = (x : ℕ) → c ≤ x → x < d → is_child S p x ≡ false

-- Edge e leads to the lowest child of p from c on: it ends the list where there is none.
pub data Leads (S : Sheet) (p c e : ℕ) : Type 0 where
  ends : e ≡ 0 → NoChild S p c (size S) → Leads S p c e
  child : (d k : ℕ) → e ≡ max_parents * d + k → k < max_parents → c ≤ d → d < size S → NoChild S p c d → k < length (parents S d)
      → get_or (parents S d) k 0 ≡ p → Leads S p c e

-- The lists of a sheet: from each item's head, and then from edge to edge, they lead over the item's children, lowest
-- first, once each.
pub record Linked (S : Sheet) (heads links : List ℕ) : Type 0 where
  pub head_room : size S ≤ length heads
  pub link_room : max_parents * size S ≤ length links
  pub head : (p : ℕ) → p < size S → Leads S p 0 (get_or heads p 0)
  pub link : (c k : ℕ) → c < size S → k < length (parents S c)
      → Leads S (get_or (parents S c) k 0) (c + 1) (get_or links (max_parents * c + k) 0)

abbrev pub heads_of : List Kin → List ℕ
heads_of kin = map (λ k. k.child) kin

-- the edges that follow an item's own, place by place
unfoldable pub edges_of : Kin → List ℕ
edges_of k = map (λ j. get_or k.siblings j 0) (range_with_len 0 max_parents)

-- those of each item in turn: edge max_parents * c + k is followed by that of item c in place k
abbrev pub links_of : List Kin → List ℕ
links_of kin = concat (map edges_of kin)

abbrev pub lists_of : List Kin → Lists
lists_of kin = lists (heads_of kin) (links_of kin)

-- the lists, and whether they are built
pub record Family : Type 0 where
  pub lists : Lists
  pub built : Bool

abbrev pub family : Lists → Bool → Family
family l b = record { lists = l; built = b }

-- the edge of a number; 0 ends a list
abbrev pub edge_in : ℕ → core.Option Edge
edge_in n = cond (eqb n 0) core.None (core.Some (record { number = n }))

abbrev pub edge_number : core.Option Edge → ℕ
edge_number core.None = 0
edge_number (core.Some e) = e.number

-- The child lists of the sheet: built, or with room for them and blank heads.
pub record Kept (S : Sheet) (f : Family) : Type 0 where
  pub head_room : size S ≤ length f.lists.heads
  pub link_room : max_parents * size S ≤ length f.lists.links
  pub linked : f.built ≡ true → Linked S f.lists.heads f.lists.links
  pub blank : f.built ≡ false → (p : ℕ) → p < size S → get_or f.lists.heads p 0 ≡ 0
