-- The fields of a sheet that opens: each is an item's, whose item is the machine's of that number. What an array of the
-- fields' offsets is good for. Assumes nothing.
use mathlib.Core.Path.{◌≡◌, refl, sym, ap, ap₂, ◌∙◌}
use mathlib.Core.Bool.{Bool, true, false, ◌&&◌}
use mathlib.Core.List.{List, [], ◌∷◌, map}
use mathlib.Core.Logic.{inl, inr}
use Prim.Native.Nat.{ℕ, zero, suc, ◌+◌, ◌≤◌, ◌<◌}
use native.Mathlib.Omega.{arith}
use lib.ListN.{length, get_or, take, length-map}
use lib.Seq.{get_or-take}
use lib.Dec.{eqb}
use borrow.Author.Tests.{eqb-true, eqb-false, not-false}
use Rattle.std.specs.List.{All}
use Rattle.std.proofs.lemmas.List.Elements.{All-from_get_or}
use Rattle.field.specs.Field.{len_at, header_length}
use Rattle.field.proofs.Cutting.{field_iff, content_length}
use Rattle.circuit.specs.Rules.{max_parents}
use Rattle.circuit.specs.Circuit.{Listed}
use Rattle.circuit.specs.Sheet.{Item, size, item_at, parents_of, Ordered}
use Rattle.layout.specs.Layout.{LayoutItem, figure_tag, rule_allowed, keep_allowed, spread_allowed, machine_item, rule_at, parent_count_at, most_items}
use Rattle.layout.specs.Content.{content_at, count_in, rule_in, keep_in, spread_in, parent_count_in, parents_in, item_in}
use Rattle.layout.specs.Read.{length_or_name, rule_wrong, Placed, head_content, SheetRead, opens, refused, read_sheet}
use Rattle.layout.specs.Room.{room_for}
use Rattle.layout.specs.Opened.{placed_from, items_of, sheet_read, sheet_from, sheet_of, offsets_of, Located}
use Rattle.layout.proofs.Scan.{placed_at, offset_placed, ItemRead, passes, scan_item_lem, opened, opened_length, most_small, opened_ordered, machine_item_lem, and_left}
use Rattle.layout.proofs.Rooms.{room_most, opened_room}
use Rattle.layout.proofs.Items.{figure_parts, parents_count}
use Rattle.item.specs.Item.{field_content, field_item, count_byte, FigureField, ItemField}
use Rattle.item.proofs.Fields.{content_at_lem, count_read, count_not}

-- An item that was read: its field and its item.
module _ (s : List ℕ) (edition : ℕ) (ps : List Placed) (at : ℕ) (it : LayoutItem) (next : ℕ) (r : ItemRead s edition ps at it next) where
  content_same : content_at s r.start r.len ≡ field_content s at
  content_same =
      let f = (field_iff s at r.tag r.start r.len next).0 r.whole in
      ap₂ (content_at s) f.start_is f.len_is

  read_item : field_item s at ≡ machine_item it
  unfolding field_item
  read_item =
      let f = (field_iff s at r.tag r.start r.len next).0 r.whole in
      ap machine_item (sym (r.item_is ∙ ap₂ item_in f.tag_is content_same))

  read_figure : get_or s at 0 ≡ figure_tag → FigureField s at
  unfolding item_in
  read_figure t =
      let f = (field_iff s at r.tag r.start r.len next).0 r.whole in
      let content : List ℕ = field_content s at in
      let p = passes edition ps r.tag (content_at s r.start r.len) r.sound in
      let z : r.tag ≡ figure_tag = f.tag_is ∙ t in
      let n : length_or_name figure_tag content ≡ false = sym (ap₂ length_or_name z content_same) ∙ p.name_fits in
      let parts = (figure_parts content n).length_is in
      let l : length content ≡ len_at s at = sym (ap length content_same) ∙ content_length s at r.tag r.start r.len next f ∙ f.len_is in
      let e₀ = content_at_lem s at rule_at (at + (header_length + rule_at)) (omega arith) (omega arith) in
      let e₃ = content_at_lem s at parent_count_at (at + (header_length + parent_count_at)) (omega arith) (omega arith) in
      let parents : List ℕ = parents_in content (parent_count_in content) in
      let w : rule_wrong edition (item_in figure_tag content) ≡ false = sym (ap (rule_wrong edition) (ap₂ item_in z content_same)) ∙ p.rule_fits in
      let a = and_left (rule_allowed (rule_in content) (length parents)) (keep_allowed (keep_in content))
      (and_left (rule_allowed (rule_in content) (length parents) && keep_allowed (keep_in content)) (spread_allowed edition (spread_in content)) (not-false _ w)) in
      let c : length parents ≡ count_byte s at = parents_count content (parent_count_in content) ∙ e₃ in
      record { within = omega arith; rule_fits = sym (ap₂ rule_allowed e₀ c) ∙ a }

  read_field : ItemField s at
  read_field =
      let f = (field_iff s at r.tag r.start r.len next).0 r.whole in
      record { whole = omega arith; figure = read_figure }

-- The machine's sheet has as many items as were read.
pub sheet_size : (s : List ℕ) → size (sheet_of s) ≡ length (items_of s)
unfolding sheet_of items_of
sheet_size s = go (read_sheet s)
  where
    go : (r : SheetRead) → size (sheet_from r) ≡ length (placed_from r)
    go (opens edition ps) = length-map (map (λ p. p.item) ps) machine_item ∙ length-map ps (λ p. p.item)
    go (refused k at) = refl

-- A sheet that has an item opens.
pub record OpensAs (s : List ℕ) : Type 0 where
  pub edition : ℕ
  pub items : List Placed
  pub read : read_sheet s ≡ opens edition items
  pub items_are : items_of s ≡ items
  pub sheet_is : sheet_of s ≡ sheet_read edition items

pub opens_as : (s : List ℕ) (edition : ℕ) (ps : List Placed) → read_sheet s ≡ opens edition ps → OpensAs s
unfolding items_of sheet_of
opens_as s edition ps e = record { edition = edition; items = ps; read = e; items_are = ap placed_from e; sheet_is = ap sheet_from e }

pub size_opens : (s : List ℕ) → 0 < size (sheet_of s) → OpensAs s
unfolding sheet_of
size_opens s h = go (read_sheet s) refl h
  where
    go : (r : SheetRead) → read_sheet s ≡ r → 0 < size (sheet_from r) → OpensAs s
    go (opens edition ps) e h = opens_as s edition ps e
    go (refused k at) e h = absurd (omega arith)

pub sheet_ordered : (s : List ℕ) → Ordered (sheet_of s)
unfolding sheet_of
sheet_ordered s = go (read_sheet s) refl
  where
    go : (r : SheetRead) → read_sheet s ≡ r → Ordered (sheet_from r)
    go (opens edition ps) e = opened_ordered s edition ps e
    go (refused k at) e = λ i p l. absurd l

-- what stands in a place is listed
pub place_listed : (ps : List ℕ) (k : ℕ) → k < length ps → Listed (get_or ps k 0) ps
place_listed [] k h = absurd (omega arith)
place_listed (q ∷ ps) zero h = inl refl
place_listed (q ∷ ps) (suc k) h = inr (place_listed ps k (omega arith))

-- what has room for the items has room for each parent of one
pub parents_low : (s : List ℕ) (i : ℕ) (it : Item) → it ≡ item_at (sheet_of s) i → i < size (sheet_of s) → (room : ℕ) → size (sheet_of s) ≤ room
    → All (λ p. p < room) (parents_of it)
parents_low s i it is low room fits =
    rw is
    (All-from_get_or (λ p. p < room) (parents_of (item_at (sheet_of s) i)) 0
    (λ k h. omega (arith, sheet_ordered s i (get_or (parents_of (item_at (sheet_of s) i)) k 0) (place_listed (parents_of (item_at (sheet_of s) i)) k h))))

pub size_room : (s : List ℕ) → size (sheet_of s) ≤ room_for s
unfolding sheet_of
size_room s = go (read_sheet s) refl
  where
    go : (r : SheetRead) → read_sheet s ≡ r → size (sheet_from r) ≤ room_for s
    go (opens edition ps) e =
        omega (arith, opened_room s edition ps e, length-map (map (λ p. p.item) ps) machine_item, length-map ps (λ p. p.item))
    go (refused k at) e = omega arith

pub size_limit : (s : List ℕ) → size (sheet_of s) ≤ most_items
size_limit s = omega (arith, size_room s, room_most s)

pub size_most : (s : List ℕ) → size (sheet_of s) < 65_536
size_most s = omega (arith, size_limit s, most_small)

-- What the field of item i is, by the offset that an array gives.
module _ (s offsets : List ℕ) (located : Located s offsets) (i : ℕ) (h : i < size (sheet_of s)) where
  located_opens : OpensAs s
  located_opens = size_opens s (omega arith)

  located_read : (o : OpensAs s) → (ItemField s (placed_at o.items i).offset) × (field_item s (placed_at o.items i).offset ≡ item_at (sheet_of s) i)
  located_read o =
      let n : i < length o.items = omega (arith, sheet_size s, ap length o.items_are) in
      let x = opened s o.edition o.items o.read in
      let r = (scan_item_lem s o.edition (count_in (head_content s)) x.at o.items x.scanned i (omega (arith, opened_length s o.edition o.items o.read))).read in
      let w = offset_placed x.at o.items i n in
      let f = read_field s o.edition (take i o.items) _ _ _ r in
      let m = read_item s o.edition (take i o.items) _ _ _ r in (
        rw w at f,
        ap (field_item s) (sym w) ∙ m ∙ sym (machine_item_lem o.edition o.items i) ∙ ap (λ S. item_at S i) (sym o.sheet_is),
      )

  offset_located : (o : OpensAs s) → get_or offsets i 0 ≡ (placed_at o.items i).offset
  unfolding Located
  offset_located o =
      let n = sheet_size s in
      let l : i < length (items_of s) = omega arith in
      let k : i < length o.items = omega (arith, ap length o.items_are) in
      sym (get_or-take (length (items_of s)) offsets i 0 l)
      ∙ ap (λ l. get_or l i 0) located
      ∙ ap (λ ps. get_or (offsets_of ps) i 0) o.items_are
      ∙ offset_placed 0 o.items i k

  pub located_field : ItemField s (get_or offsets i 0)
  located_field = let o = located_opens in rw (offset_located o) (located_read o).0

  pub located_item : field_item s (get_or offsets i 0) ≡ item_at (sheet_of s) i
  located_item = let o = located_opens in ap (field_item s) (offset_located o) ∙ (located_read o).1

  -- how many parents an item lists at most
  pub located_narrow : length (parents_of (item_at (sheet_of s) i)) ≤ max_parents
  located_narrow = rw (← located_item) (go (eqb (get_or s (get_or offsets i 0) 0) figure_tag) refl)
    where
      go : (b : Bool) → eqb (get_or s (get_or offsets i 0) 0) figure_tag ≡ b → length (parents_of (field_item s (get_or offsets i 0))) ≤ max_parents
      go true e =
          let r = count_read s (get_or offsets i 0) located_field (eqb-true (get_or s (get_or offsets i 0) 0) figure_tag e) in
          omega (arith, r.count_is, r.at_most)
      go false e =
          let r = count_not s (get_or offsets i 0) located_field (eqb-false (get_or s (get_or offsets i 0) 0) figure_tag e) in
          omega (arith, r.count_is, r.at_most)
