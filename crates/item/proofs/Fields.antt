-- The parts of an item read from the bytes of its field. Assumes nothing.
use mathlib.Core.Path.{◌≡◌, refl, sym, ap, ap₂, ◌∙◌}
use mathlib.Core.Bool.{Bool, true, false, cond}
use mathlib.Core.List.{List, [], ◌∷◌, ◌++◌}
use mathlib.Core.Option.{Option, none, some}
use Prim.Native.Nat.{ℕ, zero, suc, ◌+◌, ◌*◌, ◌≤◌, ◌<◌}
use native.Mathlib.Omega.{arith}
use native.Mathlib.Decide.{dec_lt}
use lib.Dec.{eqb}
use lib.ListN.{length, get_or, drop, get_or-append}
use lib.Seq.{get_or-take, get_or-drop, get_or_at}
use borrow.Author.Tests.{eqb-true, eqb-false, eq-eqb, ne_eqb}
use Rattle.field.specs.Field.{len_at, le16_at, le16, header_length}
use Rattle.circuit.specs.Rules.{Operation, operation_of, count_allowed, coded, allowed}
use Rattle.circuit.specs.Sheet.{Item, entry, figure, is_figure, parents_of, kept_of, spread_of, defer, renew}
use Rattle.layout.specs.Layout.{figure_tag, machine_item, spread_meant, operation_or, rule_at, keep_at, spread_at, parent_count_at, parents_at, parent_width, parent_at}
use Rattle.layout.specs.Content.{item_in, parent_in, parents_in}
use Rattle.layout.proofs.Scan.{allowed_operation}
use Rattle.layout.proofs.Items.{parents_count}
use Rattle.layout.proofs.IndexLaws.{parents_most}
use Rattle.std.specs.Prelude as std
use Rattle.std.specs.Prelude.{Some, None, IsSome}
use Rattle.rules.specs.Operations.{operation_meaning, operation_in}
use Rattle.item.specs.Item.{field_content, field_item, rule_byte, keep_byte, spread_byte, count_byte, ItemField, item_operation, OperationRead, CountRead}
use Rattle.rules.specs.declared.Operation.{Operation as Answer}

-- the k-th of the first n parents
parents_at_lem : (content : List ℕ) (n k : ℕ) → k < n → get_or (parents_in content n) k 0 ≡ parent_in content k
unfolding parents_in
parents_at_lem content zero k h = absurd (omega arith)
parents_at_lem content (suc n) k h = go (parents_at_lem content n k) (dec_lt k n)
  where
    go : (k < n → get_or (parents_in content n) k 0 ≡ parent_in content k) → Dec (k < n)
        → get_or (parents_in content n ++ (parent_in content n ∷ [])) k 0 ≡ parent_in content k
    go ih (yes l) = get_or-append (parents_in content n) (parent_in content n ∷ []) 0 k (omega (arith, parents_count content n)) ∙ ih l
    go ih (no l) =
        let z : k ≡ n = omega arith in
        rw z (get_or_at (parents_in content n) (parent_in content n) [] 0 n (parents_count content n))

-- the operation of a rule and a count takes as many parents
pub operation_takes : (rule n : ℕ) (op : Operation) → operation_of rule n ≡ some op → count_allowed op n ≡ true
unfolding operation_of
operation_takes rule n op e = code (coded rule) e
  where
    counted : (o : Operation) (b : Bool) → count_allowed o n ≡ b → cond b (some o) none ≡ some op → count_allowed op n ≡ true
    counted o true q h = let z : o ≡ op = cc in rw z at q
    counted o false q h = let z : ◌≡◌ {A = ℕ} 0 1 = cc in absurd (omega arith)

    code : (c : Option Operation) → allowed c n ≡ some op → count_allowed op n ≡ true
    code none h = let z : ◌≡◌ {A = ℕ} 0 1 = cc in absurd (omega arith)
    code (some o) h = counted o (count_allowed o n) refl h

-- an operation was found, the item's
abbrev pub IfRead : Item → std.Option Answer → Type 0
IfRead it None = ⊥
IfRead it (Some op) = OperationRead it op

pub read_some : (it : Item) (o : std.Option Answer) → IfRead it o → IsSome o
read_some it None r = absurd r
read_some it (Some op) r = refl

-- The spread that a byte means.
pub meant_renew : (b : ℕ) → b ≡ 1 → renew ≡ spread_meant b
unfolding spread_meant
meant_renew b e = rw (e)

pub meant_defer : (b : ℕ) → (b ≡ 1 → ⊥) → defer ≡ spread_meant b
unfolding spread_meant
meant_defer b n = rw (ne_eqb b 1 n)

module _ (s : List ℕ) (at : ℕ) where
  -- a byte of the content is one of the sheet
  pub content_at_lem : (k j : ℕ) → at + header_length + k ≡ j → k < len_at s at → get_or (field_content s at) k 0 ≡ get_or s j 0
  content_at_lem k j e h =
      get_or-take (len_at s at) (drop (at + header_length) s) k 0 h ∙ get_or-drop (at + header_length) s k 0 ∙ ap (λ m. get_or s m 0) e

  pub tag_figure : is_figure (field_item s at) ≡ eqb (get_or s at 0) figure_tag
  unfolding field_item item_in machine_item
  tag_figure = go (eqb (get_or s at 0) figure_tag) refl
    where
      go : (b : Bool) → eqb (get_or s at 0) figure_tag ≡ b → is_figure (field_item s at) ≡ b
      go true e = rw e
      go false e = rw e

  pub figure_tag_lem : is_figure (field_item s at) ≡ true → get_or s at 0 ≡ figure_tag
  figure_tag_lem h = eqb-true (get_or s at 0) figure_tag (sym tag_figure ∙ h)

  pub not_figure_lem : (get_or s at 0 ≡ figure_tag → ⊥) → field_item s at ≡ entry
  unfolding field_item item_in machine_item
  not_figure_lem e = rw (ne_eqb (get_or s at 0) figure_tag e)

  -- a figure's parents
  abbrev pub parents_read : List ℕ
  parents_read = parents_in (field_content s at) (count_byte s at)

  module _ (f : ItemField s at) where
    pub count_not : (get_or s at 0 ≡ figure_tag → ⊥) → CountRead (field_item s at) 0
    count_not e = rw (not_figure_lem e) (record { count_is = refl; at_most = omega arith })

    module _ (t : get_or s at 0 ≡ figure_tag) where
      -- the parents stand within the sheet
      pub figure_within : at + header_length + parent_at (count_byte s at) ≤ length s
      figure_within = omega (arith, f.whole, (f.figure t).within)

      figure_is : field_item s at ≡ figure (operation_or (operation_of (rule_byte s at) (count_byte s at))) (eqb (keep_byte s at) 1) (spread_meant (spread_byte s at)) parents_read
      unfolding field_item item_in machine_item
      figure_is =
          let w = (f.figure t).within in
          let e₀ = content_at_lem rule_at (at + (header_length + rule_at)) (omega arith) (omega arith) in
          let e₁ = content_at_lem keep_at (at + (header_length + keep_at)) (omega arith) (omega arith) in
          let e₂ = content_at_lem spread_at (at + (header_length + spread_at)) (omega arith) (omega arith) in
          let e₃ = content_at_lem parent_count_at (at + (header_length + parent_count_at)) (omega arith) (omega arith) in
          rw (eq-eqb (get_or s at 0) figure_tag t, e₃, parents_count (field_content s at) (count_byte s at), e₀, e₁, e₂)

      pub kept_read : eqb (keep_byte s at) 1 ≡ kept_of (field_item s at)
      kept_read = rw figure_is

      pub spread_read : spread_meant (spread_byte s at) ≡ spread_of (field_item s at)
      spread_read = rw figure_is

      parents_are : parents_of (field_item s at) ≡ parents_read
      parents_are = ap parents_of figure_is

      pub count_is : count_byte s at ≡ length (parents_of (field_item s at))
      count_is = sym (ap length parents_are ∙ parents_count (field_content s at) (count_byte s at))

      pub count_read : CountRead (field_item s at) (count_byte s at)
      count_read = record { count_is = count_is; at_most = parents_most (rule_byte s at) (count_byte s at) (f.figure t).rule_fits }

      pub parent_read : (k : ℕ) → k < count_byte s at → le16_at s (at + (header_length + parents_at) + parent_width * k) ≡ get_or (parents_of (field_item s at)) k 0
      parent_read k h =
          let w = (f.figure t).within in
          let low = content_at_lem (parent_at k) (at + (header_length + parents_at) + parent_width * k) (omega arith) (omega arith) in
          let high = content_at_lem (parent_at k + 1) (at + (header_length + parents_at) + parent_width * k + 1) (omega arith) (omega arith) in
          sym (ap (λ l. get_or l k 0) parents_are ∙ parents_at_lem (field_content s at) (count_byte s at) k h ∙ ap₂ le16 low high)

      pub operation_read : (o : std.Option Answer) → operation_in o ≡ operation_of (rule_byte s at) (count_byte s at) → IfRead (field_item s at) o
      operation_read o m = go o m
        where
          go : (o : std.Option Answer) → operation_in o ≡ operation_of (rule_byte s at) (count_byte s at) → IfRead (field_item s at) o
          go None m =
              let a = allowed_operation (rule_byte s at) (count_byte s at) (f.figure t).rule_fits in
              let bad : ◌≡◌ {A = ℕ} 0 1 = cc (m, a.1) in
              absurd (omega arith)
          go (Some op) m =
              let a = allowed_operation (rule_byte s at) (count_byte s at) (f.figure t).rule_fits in
              let is : operation_meaning op ≡ a.0 = cc (m, a.1) in
              record {
                operation_is = m ∙ a.1 ∙ ap (λ o. some (operation_or o)) (sym a.1) ∙ sym (ap item_operation figure_is);
                takes = rw (is, ← count_is) (operation_takes (rule_byte s at) (count_byte s at) a.0 a.1);
              }

    -- who has a parent is a figure
    pub parent_tag : (k : ℕ) → k < length (parents_of (field_item s at)) → get_or s at 0 ≡ figure_tag
    parent_tag k h = go (eqb (get_or s at 0) figure_tag) refl
      where
        go : (b : Bool) → eqb (get_or s at 0) figure_tag ≡ b → get_or s at 0 ≡ figure_tag
        go true e = eqb-true (get_or s at 0) figure_tag e
        go false e =
            let n : length (parents_of (field_item s at)) ≡ 0 = ap (λ i. length (parents_of i)) (not_figure_lem (eqb-false (get_or s at 0) figure_tag e)) in
            absurd (omega arith)

    pub parent_counted : (k : ℕ) → k < length (parents_of (field_item s at)) → k < count_byte s at
    parent_counted k h = omega (arith, count_is (parent_tag k h))

    -- an item's operation takes as many parents as it lists
    pub field_takes : (op : Operation) → item_operation (field_item s at) ≡ some op → count_allowed op (length (parents_of (field_item s at))) ≡ true
    field_takes op e = go (eqb (get_or s at 0) figure_tag) refl
      where
        go : (b : Bool) → eqb (get_or s at 0) figure_tag ≡ b → count_allowed op (length (parents_of (field_item s at))) ≡ true
        go true q =
            let t : get_or s at 0 ≡ figure_tag = eqb-true (get_or s at 0) figure_tag q in
            let a = allowed_operation (rule_byte s at) (count_byte s at) (f.figure t).rule_fits in
            let is : some a.0 ≡ some op = ap (λ o. some (operation_or o)) (sym a.1) ∙ sym (ap item_operation (figure_is t)) ∙ e in
            let same : a.0 ≡ op = cc in
            rw (← count_is t, ← same) (operation_takes (rule_byte s at) (count_byte s at) a.0 a.1)
        go false q =
            let n : none ≡ some op = sym (ap item_operation (not_figure_lem (eqb-false (get_or s at 0) figure_tag q))) ∙ e in
            let z : ◌≡◌ {A = ℕ} 0 1 = cc in
            absurd (omega arith)

-- An item by its field: what reading its bytes gives.
module _ {s : List ℕ} {at : ℕ} (f : ItemField s at) {it : Item} (seen : field_item s at ≡ it) where
  pub tag_read : eqb (get_or s at 0) figure_tag ≡ is_figure it
  tag_read = sym (tag_figure s at) ∙ ap is_figure seen

  pub entry_is : is_figure it ≡ false → it ≡ entry
  entry_is n = sym seen ∙ not_figure_lem s at (eqb-false (get_or s at 0) figure_tag (tag_read ∙ n))

  pub spread_none : is_figure it ≡ false → defer ≡ spread_of it
  spread_none n = rw (entry_is n)

  module _ (t : is_figure it ≡ true) where
    tag_is : get_or s at 0 ≡ figure_tag
    tag_is = eqb-true (get_or s at 0) figure_tag (tag_read ∙ t)

    pub parts_within : at + header_length + parent_at (count_byte s at) ≤ length s
    parts_within = figure_within s at f tag_is

    pub keep_is : eqb (keep_byte s at) 1 ≡ kept_of it
    keep_is = kept_read s at f tag_is ∙ ap kept_of seen

    pub spread_is : spread_meant (spread_byte s at) ≡ spread_of it
    spread_is = spread_read s at f tag_is ∙ ap spread_of seen

    pub parents_counted : CountRead it (count_byte s at)
    parents_counted = rw (← seen) (count_read s at f tag_is)

    pub operation_is : (n : ℕ) → CountRead it n → (o : std.Option Answer) → operation_in o ≡ operation_of (rule_byte s at) n → IfRead it o
    operation_is n counts o e =
        let same : n ≡ count_byte s at = counts.count_is ∙ sym parents_counted.count_is in
        rw (← seen) (operation_read s at f tag_is o (e ∙ ap (operation_of (rule_byte s at)) same))

  -- a parent stands within the sheet
  module _ (k : ℕ) (h : k < length (parents_of it)) where
    has_parent : k < length (parents_of (field_item s at))
    has_parent = rw seen h

    pub parent_within : at + header_length + parent_at k + 1 < length s
    parent_within =
        omega (arith, figure_within s at f (parent_tag s at f k has_parent), parent_counted s at f k has_parent)

    pub parent_is : le16_at s (at + (header_length + parents_at) + parent_width * k) ≡ get_or (parents_of it) k 0
    parent_is =
        parent_read s at f (parent_tag s at f k has_parent) k (parent_counted s at f k has_parent) ∙ ap (λ i. get_or (parents_of i) k 0) seen
