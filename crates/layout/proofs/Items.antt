-- An item and the field that it is written as: the item is read back from the field that was written, and what is read from a
-- field is written as that field. Assumes nothing.
use mathlib.Core.Path.{◌≡◌, refl, sym, ap, ap₂, ◌∙◌}
use mathlib.Core.Bool.{Bool, true, false, ◌&&◌, ◌||◌}
use mathlib.Core.List.{List, [], ◌∷◌, ◌++◌, map, append_assoc}
use Prim.Native.Nat.{ℕ, zero, suc, ◌+◌, ◌*◌, ◌/◌, ◌%◌, ◌≤◌, ◌<◌}
use native.Mathlib.Omega.{arith}
use lib.Dec.{eqb, leb, ltb}
use lib.ListN.{length, get_or, take, drop, length-append, length-drop, take-append-drop}
use lib.Seq.{take-suc, drop-cons, drop-drop, drop_at, take_all, get_or-append-add, get_or-drop, drop-append-add}
use borrow.Author.Tests.{eqb-true, leb-true, ltb-false, not-false}
use Rattle.field.specs.Bytes.{Bytes}
use Rattle.field.specs.Field.{le16, field_bytes}
use Rattle.field.proofs.Cutting.{le16_of, le16_low, le16_high}
use Rattle.layout.specs.Layout.{LayoutItem, entry_field, figure_field, entry_tag, figure_tag, name_allowed, name_limit, all, parents_at, parent_width, parent_at}
use Rattle.layout.specs.Content.{rule_in, keep_in, spread_in, parent_count_in, parent_in, parents_in, name_in, item_in}
use Rattle.layout.specs.Read.{length_or_name}
use Rattle.layout.specs.Write.{bytes16, concat, item_bytes}
use Rattle.layout.proofs.Scan.{map-append, and_left, and_right}

-- the tag and the content of an item's field
abbrev pub tag_of : LayoutItem → ℕ
tag_of (entry_field name) = entry_tag
tag_of (figure_field rule keep spread parents name) = figure_tag

abbrev pub content_of : LayoutItem → List ℕ
content_of (entry_field name) = name
content_of (figure_field rule keep spread parents name) = rule ∷ keep ∷ spread ∷ length parents ∷ concat (map bytes16 parents) ++ name

pub item_bytes_field : (it : LayoutItem) → item_bytes it ≡ field_bytes (tag_of it) (content_of it)
unfolding item_bytes
item_bytes_field (entry_field name) = refl
item_bytes_field (figure_field rule keep spread parents name) = refl

-- Numbers in two bytes each.

pub concat_append : (xs ys : List (List ℕ)) → concat (xs ++ ys) ≡ concat xs ++ concat ys
unfolding concat
concat_append [] ys = refl
concat_append (x ∷ xs) ys = rw (concat_append xs ys) (sym (append_assoc x (concat xs) (concat ys)))

pub concat_one : (xs : List ℕ) → concat (xs ∷ []) ≡ xs
unfolding concat
concat_one [] = refl
concat_one (x ∷ xs) = ap (λ l. x ∷ l) (concat_one xs)

pub pairs_length : (ps : List ℕ) → length (concat (map bytes16 ps)) ≡ parent_width * length ps
unfolding concat
pairs_length [] = refl
pairs_length (p ∷ ps) = omega (arith, pairs_length ps)

pairs_low : (ps name : List ℕ) (k : ℕ) → k < length ps → get_or (concat (map bytes16 ps) ++ name) (parent_width * k) 0 ≡ get_or ps k 0 % 256
unfolding concat
pairs_low [] name k h = absurd (omega arith)
pairs_low (p ∷ ps) name zero h = refl
pairs_low (p ∷ ps) name (suc k) h =
    let n : parent_width * suc k ≡ suc (suc (parent_width * k)) = omega arith in
    rw n (pairs_low ps name k (omega arith))

pairs_high : (ps name : List ℕ) (k : ℕ) → k < length ps → get_or (concat (map bytes16 ps) ++ name) (parent_width * k + 1) 0 ≡ get_or ps k 0 / 256
unfolding concat
pairs_high [] name k h = absurd (omega arith)
pairs_high (p ∷ ps) name zero h = refl
pairs_high (p ∷ ps) name (suc k) h =
    let n : parent_width * suc k + 1 ≡ suc (suc (parent_width * k + 1)) = omega arith in
    rw n (pairs_high ps name k (omega arith))

-- Read back what was written.

module _ (a b c d : ℕ) (parents name : List ℕ) where
  abbrev pub written : List ℕ
  written = a ∷ b ∷ c ∷ d ∷ concat (map bytes16 parents) ++ name

  parent_back : (k : ℕ) → k < length parents → parent_in written k ≡ get_or parents k 0
  parent_back k h =
      let rest : List ℕ = concat (map bytes16 parents) ++ name in
      let l = get_or-append-add (a ∷ b ∷ c ∷ d ∷ []) rest (parent_width * k) 0 in
      let r = get_or-append-add (a ∷ b ∷ c ∷ d ∷ []) rest (parent_width * k + 1) 0 in
      let n : parent_at k + 1 ≡ parents_at + (parent_width * k + 1) = omega arith in
      let l' : get_or written (parent_at k) 0 ≡ get_or parents k 0 % 256 = l ∙ pairs_low parents name k h in
      let r' : get_or written (parent_at k + 1) 0 ≡ get_or parents k 0 / 256 = ap (λ m. get_or written m 0) n ∙ r ∙ pairs_high parents name k h in
      ap₂ le16 l' r' ∙ le16_of (get_or parents k 0)

  parents_back : (n : ℕ) → n ≤ length parents → parents_in written n ≡ take n parents
  unfolding parents_in
  parents_back zero h = refl
  parents_back (suc n) h =
      rw (take-suc parents n 0 (omega arith), ← parents_back n (omega arith), ← parent_back n h)

  pub name_back : d ≡ length parents → drop (parent_at d) written ≡ name
  name_back e =
      drop-append-add (a ∷ b ∷ c ∷ d ∷ []) (concat (map bytes16 parents) ++ name) (parent_width * d)
      ∙ drop_at (concat (map bytes16 parents)) name (parent_width * d) (omega (arith, pairs_length parents))

pub item_back : (it : LayoutItem) → item_in (tag_of it) (content_of it) ≡ it
unfolding item_in
item_back (entry_field name) = refl
item_back (figure_field rule keep spread parents name) =
    let p = parents_back rule keep spread (length parents) parents name (length parents) (omega arith) in
    let q = name_back rule keep spread (length parents) parents name refl in
    rw (p, q, take_all (length parents) parents (omega arith))

-- Write back what was read.

pub pair_forth : (low high : ℕ) → low < 256 → bytes16 (le16 low high) ≡ low ∷ high ∷ []
pair_forth low high h = rw (le16_low low high h, le16_high low high h)

take_two : (l : List ℕ) (n : ℕ) → n + 2 ≤ length l → take (suc (suc n)) l ≡ take n l ++ (get_or l n 0 ∷ get_or l (n + 1) 0 ∷ [])
take_two l n h =
    let one : n + 1 ≡ suc n = omega arith in
    rw (take-suc l (suc n) 0 (omega arith), take-suc l n 0 (omega arith), one) (append_assoc (take n l) (get_or l n 0 ∷ []) (get_or l (suc n) 0 ∷ []))

parents_forth : (content : List ℕ) → Bytes content → (n : ℕ) → parent_at n ≤ length content
    → concat (map bytes16 (parents_in content n)) ≡ take (parent_width * n) (drop parents_at content)
unfolding parents_in concat
parents_forth content b zero h = refl
parents_forth content b (suc n) h =
    let p : ℕ = parent_in content n in
    let ih = parents_forth content b n (omega arith) in
    let two : parent_width * suc n ≡ suc (suc (parent_width * n)) = omega arith in
    let low = get_or-drop parents_at content (parent_width * n) 0 in
    let high = get_or-drop parents_at content (parent_width * n + 1) 0 in
    let next : parents_at + (parent_width * n + 1) ≡ parent_at n + 1 = omega arith in
    let high' : get_or (drop parents_at content) (parent_width * n + 1) 0 ≡ get_or content (parent_at n + 1) 0 = high ∙ ap (λ m. get_or content m 0) next in
    let q : bytes16 p ≡ get_or content (parent_at n) 0 ∷ get_or content (parent_at n + 1) 0 ∷ [] = pair_forth _ _ (b (parent_at n)) in
    let both = take_two (drop parents_at content) (parent_width * n) (omega (arith, length-drop parents_at content)) in
    let left : concat (map bytes16 (parents_in content n ++ (p ∷ []))) ≡ concat (map bytes16 (parents_in content n)) ++ bytes16 p =
    ap concat (map-append bytes16 (parents_in content n) (p ∷ [])) ∙ concat_append (map bytes16 (parents_in content n)) (bytes16 p ∷ []) in
    left ∙ rw (two, both, ih, q, low, high')

pub parents_count : (content : List ℕ) (n : ℕ) → length (parents_in content n) ≡ n
unfolding parents_in
parents_count content zero = refl
parents_count content (suc n) = omega (arith, parents_count content n, length-append (parents_in content n) (parent_in content n ∷ []))

-- a name that is allowed is not empty
pub name_length : (name : List ℕ) → name_allowed name ≡ true → (1 ≤ length name) × (length name ≤ name_limit)
unfolding name_allowed
name_length name e =
    let both = and_left (leb 1 (length name) && leb (length name) name_limit) (all _ name) e in
    (leb-true 1 (length name) (and_left _ _ both), leb-true (length name) name_limit (and_right (leb 1 (length name)) _ both))

-- a figure's content whose length and name are right
pub record FigureParts (content : List ℕ) : Type 0 where
  pub name_fits : name_allowed (name_in content) ≡ true
  pub length_is : parent_at (parent_count_in content) + length (name_in content) ≡ length content
  pub content_is : Bytes content → content ≡ rule_in content ∷ keep_in content ∷ spread_in content ∷ parent_count_in content
      ∷ concat (map bytes16 (parents_in content (parent_count_in content))) ++ name_in content

head_drop : (l : List ℕ) → parents_at ≤ length l → l ≡ get_or l 0 0 ∷ get_or l 1 0 ∷ get_or l 2 0 ∷ get_or l 3 0 ∷ drop parents_at l
head_drop l h = rw (← drop-cons l 3 0 (omega arith), ← drop-cons l 2 0 (omega arith), ← drop-cons l 1 0 (omega arith), ← drop-cons l 0 0 (omega arith))

pub or_left : (a b : Bool) → (a || b) ≡ false → a ≡ false
or_left true b e = e
or_left false b e = refl

pub or_right : (a b : Bool) → (a || b) ≡ false → b ≡ false
or_right true b e = let z : ◌≡◌ {A = ℕ} 0 1 = cc in absurd (omega arith)
or_right false b e = e

pub or-true : (a b : Bool) → (a || b) ≡ true → b ≡ false → a ≡ true
or-true true b e f = refl
or-true false b e f = sym f ∙ e

pub figure_parts : (content : List ℕ) → length_or_name figure_tag content ≡ false → FigureParts content
unfolding length_or_name
figure_parts content e =
    let four : parents_at ≤ length content = omega (arith, ltb-false (length content) parents_at (or_left (ltb (length content) parents_at) _ e)) in
    let fits : name_allowed (name_in content) ≡ true = not-false _ (or_right (ltb (length content) parents_at) _ e) in
    let p : ℕ = parent_count_in content in
    let one = (name_length (name_in content) fits).0 in
    let l : parent_at p + length (name_in content) ≡ length content = omega (arith, length-drop (parent_at p) content) in
    let cut = take-append-drop (parent_width * p) (drop parents_at content) in
    let dd = drop-drop (parent_width * p) parents_at content in
    let split : take (parent_width * p) (drop parents_at content) ++ name_in content ≡ drop parents_at content = rw (← dd) cut in
    record {
      name_fits = fits;
      length_is = l;
      content_is = λ b. head_drop content four
          ∙ ap (λ r. rule_in content ∷ keep_in content ∷ spread_in content ∷ p ∷ r)
          (sym split ∙ ap (λ r. r ++ name_in content) (sym (parents_forth content b p (omega arith))));
    }

-- an item field whose tag, length and name are right
pub item_forth : (tag : ℕ) (content : List ℕ) → Bytes content → (eqb tag entry_tag || eqb tag figure_tag) ≡ true → length_or_name tag content ≡ false
    → (tag_of (item_in tag content) ≡ tag) × (content_of (item_in tag content) ≡ content)
unfolding item_in length_or_name
item_forth tag content b t e = go (eqb tag figure_tag) refl
  where
    go : (f : Bool) → eqb tag figure_tag ≡ f → (tag_of (item_in tag content) ≡ tag) × (content_of (item_in tag content) ≡ content)
    go true q =
        let z : tag ≡ figure_tag = eqb-true tag figure_tag q in
        let n : length_or_name figure_tag content ≡ false = rw z at e in
        let parts = (figure_parts content n).content_is b in
        let c = parents_count content (parent_count_in content) in
        (rw q (sym z), rw q (rw c (sym parts)))
    go false q =
        let z : tag ≡ entry_tag = eqb-true tag entry_tag (or-true (eqb tag entry_tag) (eqb tag figure_tag) t q) in
        (rw q (sym z), rw q refl)
