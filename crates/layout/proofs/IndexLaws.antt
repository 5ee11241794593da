-- The index of a sheet that opens: its length, the offset that is read back from each entry, and that the offsets fit. Assumes nothing.
use mathlib.Core.Path.{◌≡◌, refl, ap, ◌∙◌}
use mathlib.Core.Bool.{Bool, true, false, cond, ◌&&◌}
use mathlib.Core.List.{List, [], ◌∷◌, ◌++◌}
use mathlib.Core.Option.{Option, none, some}
use Prim.Native.Nat.{ℕ, zero, suc, ◌+◌, ◌*◌, ◌/◌, ◌%◌, ◌≤◌, ◌<◌}
use native.Mathlib.Omega.{arith}
use native.Mathlib.Nat.{mod-add-div}
use lib.Dec.{eqb, leb}
use lib.ListN.{length, get_or}
use lib.Seq.{get_or-append-add}
use borrow.Author.Tests.{eqb-true, leb-true, not-false}
use Rattle.field.specs.Bytes.{Bytes}
use Rattle.field.specs.Field.{header_length}
use Rattle.field.proofs.Cutting.{field_iff, content_length}
use Rattle.circuit.specs.Rules.{Operation, sum, difference, smallest, largest, share, choice, count, at_least, operation_of, allowed, coded, one_or_more, max_parents, count_allowed as parents_allowed}
use Rattle.layout.specs.Layout.{figure_field, figure_tag, last_tag, keep_allowed, spread_allowed, rule_allowed, is_some, name_limit, parent_at, item_limit, most_items}
use Rattle.layout.specs.Content.{content_at, count_in, rule_in, keep_in, spread_in, parent_count_in, parents_in, name_in, item_in}
use Rattle.layout.specs.Read.{length_or_name, rule_wrong, Placed, going, head_next, scan, head_content, opens, read_sheet}
use Rattle.layout.specs.Write.{concat}
use Rattle.layout.specs.Index.{index_width, bytes32, index_bytes, le32_at}
use Rattle.layout.proofs.Scan.{placed_at, offset_from, offset_placed, Passes, passes, scan_extended, scan_item_lem, opened, opened_length, opened_limit, limit_most, and_left, and_right}
use Rattle.layout.proofs.Items.{figure_parts, name_length, parents_count}

-- Four bytes an item.
pub index_length : (ps : List Placed) → length (index_bytes ps) ≡ index_width * length ps
unfolding index_bytes concat
index_length [] = refl
index_length (p ∷ ps) = omega (arith, index_length ps)

pub index_bytes_lem : (ps : List Placed) → Bytes (index_bytes ps)
unfolding index_bytes concat
index_bytes_lem [] i = omega arith
index_bytes_lem (p ∷ ps) zero = omega arith
index_bytes_lem (p ∷ ps) (suc zero) = omega arith
index_bytes_lem (p ∷ ps) (suc (suc zero)) = omega arith
index_bytes_lem (p ∷ ps) (suc (suc (suc zero))) = omega arith
index_bytes_lem (p ∷ ps) (suc (suc (suc (suc i)))) = index_bytes_lem ps i

-- the number that was written in four bytes
digits : (n a b c r₀ r₁ r₂ : ℕ) → r₀ + 256 * a ≡ n → r₁ + 256 * b ≡ a → r₂ + 256 * c ≡ b → r₀ + 256 * r₁ + 65_536 * r₂ + 16_777_216 * c ≡ n
digits n a b c r₀ r₁ r₂ x y z = omega arith

le32_of : (n : ℕ) (rest : List ℕ) → n < 4_294_967_296 → le32_at (bytes32 n ++ rest) 0 ≡ n
le32_of n rest h =
    let two : n / 65_536 ≡ n / 256 / 256 = omega arith in
    let three : n / 16_777_216 ≡ n / 256 / 256 / 256 = omega arith in
    let small : n / 16_777_216 % 256 ≡ n / 256 / 256 / 256 = omega arith in
    rw (small, two)
    (digits n (n / 256) (n / 256 / 256) (n / 256 / 256 / 256) (n % 256) (n / 256 % 256) (n / 256 / 256 % 256) (mod-add-div n 256) (mod-add-div (n / 256) 256) (mod-add-div (n / 256 / 256) 256))

-- four bytes on
le32_skip : (n : ℕ) (rest : List ℕ) (at : ℕ) → le32_at (bytes32 n ++ rest) (index_width + at) ≡ le32_at rest at
le32_skip n rest at =
    let all : List ℕ = bytes32 n ++ rest in
    let at₀ : get_or all (index_width + at) 0 ≡ get_or rest at 0 = get_or-append-add (bytes32 n) rest at 0 in
    let at₁ : get_or all (index_width + at + 1) 0 ≡ get_or rest (at + 1) 0 = ap (λ k. get_or all k 0) (onward 1) ∙ get_or-append-add (bytes32 n) rest (at + 1) 0 in
    let at₂ : get_or all (index_width + at + 2) 0 ≡ get_or rest (at + 2) 0 = ap (λ k. get_or all k 0) (onward 2) ∙ get_or-append-add (bytes32 n) rest (at + 2) 0 in
    let at₃ : get_or all (index_width + at + 3) 0 ≡ get_or rest (at + 3) 0 = ap (λ k. get_or all k 0) (onward 3) ∙ get_or-append-add (bytes32 n) rest (at + 3) 0 in
    omega arith
  where
    onward : (k : ℕ) → index_width + at + k ≡ index_width + (at + k)
    onward k = omega arith

-- Each entry is its item's offset.
pub index_entry : (ps : List Placed) (j : ℕ) → j < length ps → (placed_at ps j).offset < 4_294_967_296
    → le32_at (index_bytes ps) (index_width * j) ≡ (placed_at ps j).offset
unfolding index_bytes concat
index_entry [] j h b = absurd (omega arith)
index_entry (p ∷ ps) zero h b = le32_of p.offset (index_bytes ps) b
index_entry (p ∷ ps) (suc j) h b =
    let n : index_width * suc j ≡ index_width + index_width * j = omega arith in
    ap (le32_at (index_bytes (p ∷ ps))) n ∙ le32_skip p.offset (index_bytes ps) (index_width * j) ∙ index_entry ps j (omega arith) b

-- The size of a sheet.

one_or_more_lem : (p : ℕ) → one_or_more p ≡ true → p ≤ max_parents
unfolding one_or_more
one_or_more_lem p e = leb-true p max_parents (and_right (leb 1 p) (leb p max_parents) e)

exactly_most : (p k : ℕ) → k ≤ max_parents → eqb p k ≡ true → p ≤ max_parents
exactly_most p k h e = omega (arith, eqb-true p k e)

operation_most : (op : Operation) (p : ℕ) → parents_allowed op p ≡ true → p ≤ max_parents
unfolding parents_allowed max_parents
operation_most sum p e = one_or_more_lem p e
operation_most difference p e = exactly_most p 2 (omega arith) e
operation_most smallest p e = one_or_more_lem p e
operation_most largest p e = one_or_more_lem p e
operation_most share p e = exactly_most p 2 (omega arith) e
operation_most choice p e = exactly_most p 3 (omega arith) e
operation_most count p e = one_or_more_lem p e
operation_most at_least p e = exactly_most p 2 (omega arith) e

-- how many parents a figure may list
pub parents_most : (rule p : ℕ) → rule_allowed rule p ≡ true → p ≤ max_parents
unfolding operation_of
parents_most rule p e = code (coded rule) e
  where
    counted : (op : Operation) (b : Bool) → parents_allowed op p ≡ b → is_some (cond b (some op) none) ≡ true → p ≤ max_parents
    counted op true q h = operation_most op p q
    counted op false q h = let z : ◌≡◌ {A = ℕ} 0 1 = cc in absurd (omega arith)

    code : (c : Option Operation) → is_some (allowed c p) ≡ true → p ≤ max_parents
    code none h = let z : ◌≡◌ {A = ℕ} 0 1 = cc in absurd (omega arith)
    code (some op) h = counted op (parents_allowed op p) refl h

-- the longest field of an item: a figure's, with as many parents and as long a name as may be
abbrev pub field_most : ℕ
field_most = header_length + parent_at max_parents + name_limit

pub content_most : (edition : ℕ) (ps : List Placed) (tag : ℕ) (content : List ℕ) → Passes edition ps tag content → header_length + length content ≤ field_most
unfolding item_in length_or_name
content_most edition ps tag content p = go (eqb tag figure_tag) refl
  where
    go : (f : Bool) → eqb tag figure_tag ≡ f → header_length + length content ≤ field_most
    go true q =
        let z : tag ≡ figure_tag = eqb-true tag figure_tag q in
        let n : length_or_name figure_tag content ≡ false = rw z at p.name_fits in
        let parts = figure_parts content n in
        let m = name_length (name_in content) parts.name_fits in
        let parents : List ℕ = parents_in content (parent_count_in content) in
        let r : rule_wrong edition (figure_field (rule_in content) (keep_in content) (spread_in content) parents (name_in content)) ≡ false = rw q at p.rule_fits in
        let a = and_left (rule_allowed (rule_in content) (length parents)) (keep_allowed (keep_in content))
        (and_left (rule_allowed (rule_in content) (length parents) && keep_allowed (keep_in content)) (spread_allowed edition (spread_in content)) (not-false _ r)) in
        omega (arith, parents_most (rule_in content) (length parents) a, parents_count content (parent_count_in content))
    go false q = let m = name_length content (not-false _ (rw q at p.name_fits)) in omega arith

-- the items' fields
pub scan_most : (s : List ℕ) (edition k at : ℕ) (ps : List Placed) → scan s edition k ≡ going at ps → at ≤ head_next + k * field_most
unfolding scan max_parents name_limit
scan_most s edition zero at ps e = let z : head_next ≡ at = cc in omega arith
scan_most s edition (suc k) at ps e =
    let x = scan_extended s edition k at ps e in
    let r = x.read in
    let ih = scan_most s edition k x.before x.earlier x.scanned in
    let f = (field_iff s x.before r.tag r.start r.len at).0 r.whole in
    let m = content_most edition x.earlier r.tag (content_at s r.start r.len) (passes edition x.earlier r.tag (content_at s r.start r.len) r.sound) in
    omega (arith, content_length s x.before r.tag r.start r.len at f)

module _ (s : List ℕ) (edition : ℕ) (ps : List Placed) (e : read_sheet s ≡ opens edition ps) where
  pub opened_size : length s ≤ head_next + item_limit edition * field_most + header_length
  unfolding max_parents name_limit
  opened_size =
      let o = opened s edition ps e in
      let n : ℕ = count_in (head_content s) in
      let f = (field_iff s o.at last_tag (o.at + header_length) 0 (length s)).0 o.last in
      let m = scan_most s edition n o.at ps o.scanned in
      omega (arith, opened_limit s edition ps e, opened_length s edition ps e)

  -- each item's field begins within the sheet
  pub opened_offset : (j : ℕ) → j < length ps → (placed_at ps j).offset < length s
  opened_offset j h =
      let o = opened s edition ps e in
      let a = scan_item_lem s edition (count_in (head_content s)) o.at ps o.scanned j (omega (arith, opened_length s edition ps e)) in
      let r = a.read in
      let f = (field_iff s (offset_from o.at ps j) r.tag r.start r.len (offset_from o.at ps (suc j))).0 r.whole in
      omega (arith, offset_placed o.at ps j h)

  -- so an offset is read back from the index of a sheet that opens
  pub opened_entry : (j : ℕ) → j < length ps → le32_at (index_bytes ps) (index_width * j) ≡ (placed_at ps j).offset
  unfolding max_parents name_limit most_items item_limit
  opened_entry j h = index_entry ps j h (omega (arith, opened_offset j h, opened_size, limit_most edition))
