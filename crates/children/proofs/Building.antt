-- The loop that builds the child lists of a sheet, and what the lists are good for. Assumes nothing.
use Prim.Native.Nat.{ℕ, zero, suc, ◌+◌, ◌*◌, ◌-◌, ◌<◌, ◌≤◌}
use native.Mathlib.Omega.{arith}
use mathlib.Core.Path.{◌≡◌, refl, sym, ap, ◌∙◌}
use mathlib.Core.Bool.{true, false}
use mathlib.Core.List.{List}
use lib.ListN.{length, get_or, replicate, length-replicate, take}
use lib.Seq.{take-length}
use Rattle.std.proofs.lemmas.List.{length-map}
use Rattle.circuit.specs.Rules.{max_parents}
use Rattle.circuit.specs.Sheet.{Item, size, parents, parents_of, item_at}
use Rattle.layout.specs.Layout.{item_limit, most_items}
use Rattle.layout.specs.Room.{room_for}
use Rattle.layout.specs.Opened.{sheet_of, items_of, offsets_of, Located}
use Rattle.item.proofs.Located.{sheet_ordered, size_room, size_limit, located_narrow}
use Rattle.children.specs.declared.Kin.{Kin}
use Rattle.children.specs.Children.{Lists, lists, link_places, head_places, link_last, link_all, heads_of, lists_of, family, Linked, Kept}
use Rattle.children.proofs.Linking.{lists_length, all_linked}
use Rattle.children.proofs.Rows.{heads_count, links_count}

offsets_located : (s : List ℕ) → Located s (offsets_of (items_of s))
unfolding Located
offsets_located s =
    let same : length (items_of s) ≡ length (offsets_of (items_of s)) = sym (length-map (items_of s) (λ p. p.offset)) in
    ap (λ n. take n (offsets_of (items_of s))) same ∙ take-length (offsets_of (items_of s))

-- how many parents an item lists at most
pub sheet_narrow : (s : List ℕ) (c : ℕ) → c < size (sheet_of s) → length (parents (sheet_of s) c) ≤ max_parents
sheet_narrow s c low = located_narrow s (offsets_of (items_of s)) (offsets_located s) c low

-- the lists after the items from c on
pub record Built (s : List ℕ) (l₀ : Lists) (c : ℕ) (l : Lists) : Type 0 where
  pub within : c ≤ size (sheet_of s)
  pub lists_are : l ≡ link_last (sheet_of s) l₀ (size (sheet_of s) - c)

pub built_start : (s : List ℕ) (l : Lists) (n : ℕ) → n ≡ size (sheet_of s) → Built s l n l
unfolding link_last
built_start s l n is =
    let none : size (sheet_of s) - n ≡ 0 = omega arith in
    record { within = omega arith; lists_are = rw none }

-- the item before c
module _ {s : List ℕ} {l₀ : Lists} {c : ℕ} {l : Lists} (inv : Built s l₀ c l) (more : 0 < c) (it : Item) (it_is : it ≡ item_at (sheet_of s) (c - 1)) where
  pub edges_fit : max_parents * (c - 1) + max_parents ≤ 65_536
  unfolding max_parents most_items item_limit
  edges_fit = omega (arith, size_limit s, inv.within)

  pub built_next : (l₁ l₂ : Lists) → l₁ ≡ lists l.heads (link_places l.links l.heads (max_parents * (c - 1)) (parents_of it) (length (parents_of it)))
      → l₂ ≡ lists (head_places l₁.heads (max_parents * (c - 1)) (parents_of it) (length (parents_of it))) l₁.links
      → Built s l₀ (c - 1) l₂
  unfolding link_last
  built_next l₁ l₂ linked headed =
      let one_more : size (sheet_of s) - (c - 1) ≡ suc (size (sheet_of s) - c) = omega (arith, inv.within) in
      let here : size (sheet_of s) - suc (size (sheet_of s) - c) ≡ c - 1 = omega (arith, inv.within) in
      record { within = omega (arith, inv.within); lists_are = headed ∙ rw (linked, it_is, one_more, here, inv.lists_are) }

pub built_done : {s : List ℕ} {l₀ l : Lists} {c : ℕ} → Built s l₀ c l → c ≡ 0 → l ≡ link_all (sheet_of s) l₀
unfolding link_all
built_done {s} {l₀} {l} {c} inv end = let all : size (sheet_of s) - c ≡ size (sheet_of s) = omega arith in inv.lists_are ∙ rw all

-- The lists that `link` gives from empty ones are those of the sheet.
pub sheet_linked : (s heads links : List ℕ) → size (sheet_of s) ≤ length heads → max_parents * size (sheet_of s) ≤ length links
    → ((p : ℕ) → p < size (sheet_of s) → get_or heads p 0 ≡ 0)
    → Linked (sheet_of s) (link_all (sheet_of s) (lists heads links)).heads (link_all (sheet_of s) (lists heads links)).links
sheet_linked s heads links head_room link_room empty =
    all_linked (sheet_of s) (sheet_ordered s) (sheet_narrow s) heads links head_room link_room empty

-- blank lists that are built are those of the sheet
pub kept_built : (s : List ℕ) (l l₂ : Lists) → Kept (sheet_of s) (family l false) → l₂ ≡ link_all (sheet_of s) l → Kept (sheet_of s) (family l₂ true)
unfolding link_all
kept_built s l l₂ kept is =
    let lengths = lists_length (sheet_of s) l.heads l.links (size (sheet_of s)) in
    record {
      head_room = rw is (omega (arith, lengths.0, kept.head_room));
      link_room = rw is (omega (arith, lengths.1, kept.link_room));
      linked = λ e. rw is (sheet_linked s l.heads l.links kept.head_room kept.link_room (kept.blank refl));
      blank = λ e. absurd (cc);
    }

-- kin that have no child are blank lists
pub kept_blank : (s : List ℕ) (most : ℕ) (k : Kin) → k.child ≡ 0 → room_for s ≤ most → Kept (sheet_of s) (family (lists_of (replicate most k)) false)
unfolding max_parents
kept_blank s most k none room =
    record {
      head_room = omega (arith, size_room s, heads_count (replicate most k), length-replicate most k);
      link_room = omega (arith, size_room s, links_count (replicate most k), length-replicate most k);
      linked = λ e. absurd (cc);
      blank = λ e p low. blank most p;
    }
  where
    blank : (n p : ℕ) → get_or (heads_of (replicate n k)) p 0 ≡ 0
    blank zero p = refl
    blank (suc n) zero = none
    blank (suc n) (suc p) = blank n p
