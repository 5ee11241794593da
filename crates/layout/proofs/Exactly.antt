-- A sheet opens exactly if it is the written form of a layout within the limits, and there is only one such layout. Assumes nothing.
use mathlib.Core.Path.{◌≡◌, refl, sym, ap, ap₂, ◌∙◌}
use mathlib.Core.Bool.{Bool, true, false, not, ◌&&◌}
use mathlib.Core.List.{List, [], ◌∷◌, ◌++◌, map, append_assoc, append-nil}
use mathlib.Core.Logic.{◌↔◌}
use Prim.Native.Nat.{ℕ, zero, suc, ◌+◌, ◌<◌}
use native.Mathlib.Omega.{arith}
use native.Mathlib.Decide.{dec_lt}
use native.Mathlib.Nat.{zero-add, add-zero}
use lib.Dec.{eqb, leb, ltb}
use lib.ListN.{length, get_or, take, drop, length-append, length-take, length-map, get_or-map, get_or-eq_default}
use lib.Seq.{take_at, drop-append-add, take-append_seam, take-length, get_or-take, get_or-drop}
use borrow.Author.Tests.{eqb-true, leb-true, ltb-false, le-ltb, le-leb, not-false}
use Rattle.layout.specs.Opened.{levels_of}
use Rattle.field.specs.Bytes.{Bytes}
use Rattle.field.specs.Field.{field, cut_at, field_bytes, header_length}
use Rattle.field.proofs.Cutting.{FieldAt, field_iff, cut_field_bytes, cut_back_bytes, content_length, le16_of}
use Rattle.layout.specs.Layout.{LayoutItem, entry_field, figure_field, Layout, head_tag, figure_tag, last_tag, edition_known, count_allowed, level_limit, keep_allowed, spread_allowed}
use Rattle.layout.specs.Layout.{rule_allowed, name_allowed, all, head_length, parents_at}
use Rattle.layout.specs.Content.{content_at, edition_in, count_in, rule_in, keep_in, spread_in, parent_count_in, parents_in, name_in, item_in}
use Rattle.layout.specs.Read.{Placed, placed, level_of, item_level, length_or_name, rule_wrong, parent_wrong, level_wrong, going, place_item, head_next, scan, head_content, opens, read_sheet, layout_of}
use Rattle.layout.specs.Write.{bytes16, concat, item_bytes, write_sheet, level_after, item_within, items_within, within}
use Rattle.layout.specs.Places.{places_from, places, offset_written}
use Rattle.layout.proofs.Scan.{placed_at, Passes, passes, passes_back, ItemRead, scan_extended, scan_length, opened, opens_back, and_left, and_right, and_both, map-append}
use Rattle.layout.proofs.Items.{tag_of, content_of, item_bytes_field, item_back, item_forth, concat_append, concat_one, figure_parts, name_back, pair_forth}

-- Levels by the items read and by the list of levels are the same.

level_same : (ps : List Placed) (p : ℕ) → get_or (levels_of ps) p 0 ≡ level_of ps p
level_same ps p = get_or-map (λ q. q.level) ps p (placed 0 (entry_field []) 0)

pub level_after_lem : (ps : List Placed) (it : LayoutItem) → level_after (levels_of ps) it ≡ item_level ps it
level_after_lem ps (entry_field name) = refl
level_after_lem ps (figure_field rule keep spread parents name) = simp level_same

-- An item within the limits passes the tests of its field, and the other way round.

pub and_four : (a b c d : Bool) → (a && b && c && d) ≡ true → (a ≡ true) × (b ≡ true) × (c ≡ true) × (d ≡ true)
and_four true true true true e = (refl, refl, refl, refl)
and_four true true true false e = let z : ◌≡◌ {A = ℕ} 0 1 = cc in absurd (omega arith)
and_four true true false d e = let z : ◌≡◌ {A = ℕ} 0 1 = cc in absurd (omega arith)
and_four true false c d e = let z : ◌≡◌ {A = ℕ} 0 1 = cc in absurd (omega arith)
and_four false b c d e = let z : ◌≡◌ {A = ℕ} 0 1 = cc in absurd (omega arith)

levels_length : (ps : List Placed) → length (levels_of ps) ≡ length ps
levels_length ps = length-map ps (λ p. p.level)

within_passes : (edition : ℕ) (ps : List Placed) (it : LayoutItem) → item_within edition (levels_of ps) it ≡ true
    → Passes edition ps (tag_of it) (content_of it)
unfolding length_or_name
within_passes edition ps (entry_field name) e =
    let i = item_back (entry_field name) in
    record {
      tag_fits = refl;
      name_fits = ap not e;
      rule_fits = ap (rule_wrong edition) i;
      parents_fit = ap (parent_wrong (length ps)) i;
      level_fits = ap (level_wrong ps) i ∙ le-ltb level_limit 0 (omega arith);
    }
within_passes edition ps (figure_field rule keep spread parents name) e =
    let it : LayoutItem = figure_field rule keep spread parents name in
    let i = item_back it in
    let f = and_four (name_allowed name) (rule_allowed rule (length parents) && keep_allowed keep && spread_allowed edition spread)
    (all (λ p. ltb p (length (levels_of ps))) parents) (leb (level_after (levels_of ps) it) level_limit) e in
    let q : name_in (content_of it) ≡ name = name_back rule keep spread (length parents) parents name refl in
    let four = le-ltb (length (content_of it)) parents_at (omega arith) in
    let l = leb-true (level_after (levels_of ps) it) level_limit f.3 in
    record {
      tag_fits = refl;
      name_fits = rw (four, q, f.0);
      rule_fits = ap (rule_wrong edition) i ∙ ap not f.1;
      parents_fit = ap (parent_wrong (length ps)) i ∙ ap not (rw (levels_length ps) at f.2);
      level_fits = ap (level_wrong ps) i ∙ le-ltb level_limit (item_level ps it) (omega (arith, level_after_lem ps it));
    }

figure_within : (edition : ℕ) (ps : List Placed) (rule keep spread : ℕ) (parents name : List ℕ) → name_allowed name ≡ true
    → rule_wrong edition (figure_field rule keep spread parents name) ≡ false
    → parent_wrong (length ps) (figure_field rule keep spread parents name) ≡ false
    → level_wrong ps (figure_field rule keep spread parents name) ≡ false
    → item_within edition (levels_of ps) (figure_field rule keep spread parents name) ≡ true
figure_within edition ps rule keep spread parents name n r p l =
    let it : LayoutItem = figure_field rule keep spread parents name in
    let below : all (λ q. ltb q (length (levels_of ps))) parents ≡ true = rw (levels_length ps) (not-false _ p) in
    let level = le-leb (level_after (levels_of ps) it) level_limit (omega (arith, level_after_lem ps it, ltb-false level_limit (item_level ps it) l)) in
    let three : Bool = rule_allowed rule (length parents) && keep_allowed keep && spread_allowed edition spread in
    let r' : three ≡ true = not-false three r in
    rw (n, r', below, level)

passes_within : (edition : ℕ) (ps : List Placed) (tag : ℕ) (content : List ℕ) → Passes edition ps tag content
    → item_within edition (levels_of ps) (item_in tag content) ≡ true
unfolding item_in length_or_name
passes_within edition ps tag content p = go (eqb tag figure_tag) refl
  where
    go : (f : Bool) → eqb tag figure_tag ≡ f → item_within edition (levels_of ps) (item_in tag content) ≡ true
    go true q =
        let z : tag ≡ figure_tag = eqb-true tag figure_tag q in
        let n : length_or_name figure_tag content ≡ false = rw z at p.name_fits in
        rw q
        (figure_within edition ps (rule_in content) (keep_in content) (spread_in content) (parents_in content (parent_count_in content)) (name_in content)
        (figure_parts content n).name_fits
        (rw q at p.rule_fits)
        (rw q at p.parents_fit)
        (rw q at p.level_fits))
    go false q = rw q (not-false _ (rw q at p.name_fits))

-- What was written is read.

-- the content of a field that stands between two parts
content_between : (pre content post : List ℕ) (tag : ℕ) → content_at (pre ++ (field_bytes tag content ++ post)) (length pre + header_length) (length content) ≡ content
content_between pre content post tag =
    ap (take (length content)) (drop-append-add pre (field_bytes tag content ++ post) header_length) ∙ take-append_seam content post

-- one item more
scan_one : (s pre post : List ℕ) (edition k : ℕ) (ps : List Placed) (it : LayoutItem) → s ≡ pre ++ (item_bytes it ++ post)
    → scan s edition k ≡ going (length pre) ps → item_within edition (levels_of ps) it ≡ true
    → scan s edition (suc k) ≡ going (length pre + length (item_bytes it)) (place_item (length pre) ps it)
unfolding scan
scan_one s pre post edition k ps it es e w =
    let tag : ℕ = tag_of it in
    let content : List ℕ = content_of it in
    let es' : s ≡ pre ++ (field_bytes tag content ++ post) = es ∙ ap (λ b. pre ++ (b ++ post)) (item_bytes_field it) in
    let n : length (item_bytes it) ≡ header_length + length content = omega (arith, ap length (item_bytes_field it)) in
    let c : cut_at s (length pre) ≡ field tag (length pre + header_length) (length content) (length pre + header_length + length content) =
    ap (λ t. cut_at t (length pre)) es' ∙ cut_field_bytes pre content post tag in
    let d : content_at s (length pre + header_length) (length content) ≡ content =
    ap (λ t. content_at t (length pre + header_length) (length content)) es' ∙ content_between pre content post tag in
    let f = passes_back edition ps tag content (within_passes edition ps it w) in
    let m : length pre + header_length + length content ≡ length pre + length (item_bytes it) = omega arith in
    rw (e, c, d, f, item_back it, m)

pub levels_snoc : (at : ℕ) (ps : List Placed) (it : LayoutItem) → levels_of (place_item at ps it) ≡ levels_of ps ++ (level_after (levels_of ps) it ∷ [])
levels_snoc at ps it =
    map-append (λ p. p.level) ps (placed at it (item_level ps it) ∷ []) ∙ ap (λ v. levels_of ps ++ (v ∷ [])) (sym (level_after_lem ps it))

-- items more
scan_more : (s pre post : List ℕ) (edition k : ℕ) (ps : List Placed) (its : List LayoutItem) → s ≡ pre ++ (concat (map item_bytes its) ++ post)
    → scan s edition k ≡ going (length pre) ps → items_within edition (levels_of ps) its ≡ true
    → scan s edition (k + length its) ≡ going (length pre + length (concat (map item_bytes its))) (ps ++ places_from (length pre) (levels_of ps) its)
unfolding concat items_within places_from
scan_more s pre post edition k ps [] es e w = rw (add-zero k, add-zero (length pre), append-nil ps) e
scan_more s pre post edition k ps (it ∷ its) es e w =
    let bytes : List ℕ = item_bytes it in
    let rest : List ℕ = concat (map item_bytes its) in
    let w₁ = and_left (item_within edition (levels_of ps) it) _ w in
    let w₂ = and_right (item_within edition (levels_of ps) it) _ w in
    let ls = levels_snoc (length pre) ps it in
    let here : s ≡ pre ++ (bytes ++ (rest ++ post)) = es ∙ ap (λ r. pre ++ r) (append_assoc bytes rest post) in
    let one = scan_one s pre (rest ++ post) edition k ps it here e w₁ in
    let n : length (pre ++ bytes) ≡ length pre + length bytes = length-append pre bytes in
    let there : s ≡ (pre ++ bytes) ++ (rest ++ post) = here ∙ sym (append_assoc pre bytes (rest ++ post)) in
    let ih = scan_more s (pre ++ bytes) post edition (suc k) (place_item (length pre) ps it) its there (rw n one) (rw ls w₂) in
    let k' : k + suc (length its) ≡ suc k + length its = omega arith in
    let l : length pre + length (bytes ++ rest) ≡ length (pre ++ bytes) + length rest = omega (arith, length-append bytes rest) in
    let level : item_level ps it ≡ level_after (levels_of ps) it = sym (level_after_lem ps it) in
    let more = places_from (length pre + length bytes) (levels_of ps ++ (level_after (levels_of ps) it ∷ [])) its in
    let joined : place_item (length pre) ps it ++ more ≡ ps ++ (placed (length pre) it (level_after (levels_of ps) it) ∷ more) =
    append_assoc ps (placed (length pre) it (item_level ps it) ∷ []) more ∙ ap (λ v. ps ++ (placed (length pre) it v ∷ more)) level in
    rw (k', l, ← joined, ← ls, ← n) ih

pub scan_none : (s : List ℕ) (edition : ℕ) → scan s edition 0 ≡ going head_next []
unfolding scan
scan_none s edition = refl

-- The parts of what is within the limits.
pub within_parts : (l : Layout) → within l ≡ true
    → (edition_known l.edition ≡ true) × (count_allowed l.edition (length l.items) ≡ true) × (items_within l.edition [] l.items ≡ true)
unfolding within
within_parts l w =
    let two = and_left (edition_known l.edition && count_allowed l.edition (length l.items)) (items_within l.edition [] l.items) w in (
      and_left (edition_known l.edition) _ two,
      and_right (edition_known l.edition) _ two,
      and_right (edition_known l.edition && count_allowed l.edition (length l.items)) _ w,
    )

-- What the writer writes opens, to its items at their places.
pub written_opens : (l : Layout) → within l ≡ true → read_sheet (write_sheet l) ≡ opens l.edition (places l)
unfolding write_sheet
written_opens l w =
    let parts = within_parts l w in
    let n : ℕ = length l.items in
    let head : List ℕ = field_bytes head_tag (bytes16 l.edition ++ bytes16 n) in
    let bytes : List ℕ = concat (map item_bytes l.items) in
    let last : List ℕ = field_bytes last_tag [] in
    let s : List ℕ = head ++ bytes ++ last in
    let split : s ≡ head ++ (bytes ++ last) = append_assoc head bytes last in
    let k : count_in (head_content s) ≡ n = le16_of n in
    let c = scan_more s head last l.edition 0 [] l.items split (scan_none s l.edition) parts.2 in
    let z : 0 + n ≡ n = zero-add n in
    let m : length (head ++ bytes) ≡ head_next + length bytes = length-append head bytes in
    let d = cut_field_bytes (head ++ bytes) [] [] last_tag in
    let e : length (head ++ bytes) + header_length + 0 ≡ length s = omega (arith, length-append (head ++ bytes) last) in
    opens_back s l.edition (places l)
    (record {
      at = head_next + length bytes;
      head = cut_field_bytes [] (bytes16 l.edition ++ bytes16 n) (bytes ++ last) head_tag;
      edition_is = le16_of l.edition;
      edition_fits = parts.0;
      count_fits = rw k parts.1;
      scanned = rw k (rw z at c);
      last = rw (← m, ← e) d;
    })

-- The places have the layout's items, at the offsets where they are written.

places_items : (at : ℕ) (ls : List ℕ) (its : List LayoutItem) → map (λ p. p.item) (places_from at ls its) ≡ its
unfolding places_from
places_items at ls [] = refl
places_items at ls (it ∷ its) = ap (λ r. it ∷ r) (places_items (at + length (item_bytes it)) (ls ++ (level_after ls it ∷ [])) its)

pub places_layout : (l : Layout) → layout_of l.edition (places l) ≡ l
places_layout l = λ i. record { edition = l.edition; items = places_items head_next [] l.items i }

places_at : (at : ℕ) (ls : List ℕ) (its : List LayoutItem) (j : ℕ) → j < length its
    → (placed_at (places_from at ls its) j).offset ≡ at + length (concat (map item_bytes (take j its)))
unfolding places_from concat
places_at at ls [] j h = absurd (omega arith)
places_at at ls (it ∷ its) zero h = omega arith
places_at at ls (it ∷ its) (suc j) h =
    omega (
      arith,
      places_at (at + length (item_bytes it)) (ls ++ (level_after ls it ∷ [])) its j (omega arith),
      length-append (item_bytes it) (concat (map item_bytes (take j its))),
    )

pub places_offset : (l : Layout) (j : ℕ) → j < length l.items → (placed_at (places l) j).offset ≡ offset_written l j
places_offset l j h = places_at head_next [] l.items j h

-- Everything that opens was written.

-- the levels after some more items
run_levels : List ℕ → List LayoutItem → List ℕ
run_levels ls [] = ls
run_levels ls (it ∷ its) = run_levels (ls ++ (level_after ls it ∷ [])) its

within_snoc : (edition : ℕ) (ls : List ℕ) (its : List LayoutItem) (it : LayoutItem) → items_within edition ls its ≡ true
    → item_within edition (run_levels ls its) it ≡ true → items_within edition ls (its ++ (it ∷ [])) ≡ true
unfolding items_within run_levels
within_snoc edition ls [] it e f = and_both (item_within edition ls it) true f refl
within_snoc edition ls (x ∷ its) it e f =
    let ls' : List ℕ = ls ++ (level_after ls x ∷ []) in
    and_both (item_within edition ls x) (items_within edition ls' (its ++ (it ∷ [])))
    (and_left (item_within edition ls x) (items_within edition ls' its) e)
    (within_snoc edition ls' its it (and_right (item_within edition ls x) (items_within edition ls' its) e) f)

run_snoc : (ls : List ℕ) (its : List LayoutItem) (it : LayoutItem) → run_levels ls (its ++ (it ∷ [])) ≡ run_levels ls its ++ (level_after (run_levels ls its) it ∷ [])
unfolding run_levels
run_snoc ls [] it = refl
run_snoc ls (x ∷ its) it = run_snoc (ls ++ (level_after ls x ∷ [])) its it

items : List Placed → List LayoutItem
items ps = map (λ p. p.item) ps

-- the bytes passed by a scan of k items
record Passed (s : List ℕ) (edition at : ℕ) (ps : List Placed) : Type 0 where
  written : take at s ≡ take head_next s ++ concat (map item_bytes (items ps))
  fits : items_within edition [] (items ps) ≡ true
  levels_are : levels_of ps ≡ run_levels [] (items ps)

Bytes-content : (s : List ℕ) (start len : ℕ) → Bytes s → Bytes (content_at s start len)
Bytes-content s start len b i = go (dec_lt i len)
  where
    go : Dec (i < len) → get_or (content_at s start len) i 0 < 256
    go (yes h) = rw (get_or-take len (drop start s) i 0 h, get_or-drop start s i 0) (b (start + i))
    go (no h) =
        let z : get_or (content_at s start len) i 0 ≡ 0 =
        get_or-eq_default (content_at s start len) 0 (omega (arith, length-take len (drop start s))) in
        omega arith

field_passed : (s : List ℕ) (at tag start len next : ℕ) → Bytes s → FieldAt s at tag start len next
    → take next s ≡ take at s ++ field_bytes tag (content_at s start len)
field_passed s at tag start len next b f =
    let one : List ℕ = field_bytes tag (content_at s start len) in
    let c : s ≡ take at s ++ (one ++ drop next s) = cut_back_bytes s at tag start len next f b in
    let d : s ≡ (take at s ++ one) ++ drop next s = c ∙ sym (append_assoc (take at s) one (drop next s)) in
    let n : length (take at s ++ one) ≡ next =
    omega (arith, length-append (take at s) one, length-take at s, content_length s at tag start len next f) in
    ap (take next) d ∙ take_at (take at s ++ one) (drop next s) next n

items_snoc : (at : ℕ) (ps : List Placed) (it : LayoutItem) → items (place_item at ps it) ≡ items ps ++ (it ∷ [])
unfolding items
items_snoc at ps it = map-append (λ p. p.item) ps (placed at it (item_level ps it) ∷ [])

bytes_snoc : (its : List LayoutItem) (it : LayoutItem) → concat (map item_bytes (its ++ (it ∷ []))) ≡ concat (map item_bytes its) ++ item_bytes it
bytes_snoc its it =
    ap concat (map-append item_bytes its (it ∷ []))
    ∙ concat_append (map item_bytes its) (item_bytes it ∷ [])
    ∙ ap (λ r. concat (map item_bytes its) ++ r) (concat_one (item_bytes it))

-- what was read of a field is written as that field
read_written : (s : List ℕ) (edition at next : ℕ) (ps : List Placed) (it : LayoutItem) → Bytes s → (r : ItemRead s edition ps at it next)
    → item_bytes it ≡ field_bytes r.tag (content_at s r.start r.len)
read_written s edition at next ps it b r =
    let content : List ℕ = content_at s r.start r.len in
    let p = passes edition ps r.tag content r.sound in
    let forth = item_forth r.tag content (Bytes-content s r.start r.len b) p.tag_fits p.name_fits in
    ap item_bytes r.item_is ∙ item_bytes_field (item_in r.tag content) ∙ ap₂ field_bytes forth.0 forth.1

one_passed : (s : List ℕ) (edition at next : ℕ) (ps : List Placed) (it : LayoutItem) → Bytes s → Passed s edition at ps
    → ItemRead s edition ps at it next → Passed s edition next (place_item at ps it)
one_passed s edition at next ps it b h r =
    let content : List ℕ = content_at s r.start r.len in
    let p = passes edition ps r.tag content r.sound in
    let f = (field_iff s at r.tag r.start r.len next).0 r.whole in
    let fp = field_passed s at r.tag r.start r.len next b f in
    let w = read_written s edition at next ps it b r in
    let all : List ℕ = concat (map item_bytes (items ps)) in
    let fit : item_within edition (levels_of ps) it ≡ true = rw r.item_is (passes_within edition ps r.tag content p) in
    let ls = h.levels_are in
    record {
      written = rw (items_snoc at ps it, bytes_snoc (items ps) it) (fp ∙ ap₂ ◌++◌ h.written (sym w) ∙ append_assoc (take head_next s) all (item_bytes it));
      fits = rw (items_snoc at ps it) (within_snoc edition [] (items ps) it h.fits (rw ls at fit));
      levels_are = levels_snoc at ps it ∙ rw (ls, items_snoc at ps it) (sym (run_snoc [] (items ps) it));
    }

none_passed : (s : List ℕ) (edition : ℕ) → Passed s edition head_next []
unfolding items run_levels items_within concat
none_passed s edition = record { written = sym (append-nil (take head_next s)); fits = refl; levels_are = refl }

scan_passed : (s : List ℕ) (edition : ℕ) → Bytes s → (k at : ℕ) (ps : List Placed) → scan s edition k ≡ going at ps → Passed s edition at ps
scan_passed s edition b zero at ps e =
    let z = scan_none s edition in
    let p : [] ≡ ps = cc in
    let a : head_next ≡ at = cc in
    rw (← p, ← a) (none_passed s edition)
scan_passed s edition b (suc k) at ps e =
    let x = scan_extended s edition k at ps e in
    rw x.placed_is
    (one_passed s edition x.before at x.earlier x.it b (scan_passed s edition b k x.before x.earlier x.scanned) x.read)

four_long : (xs : List ℕ) → length xs ≡ 4 → xs ≡ get_or xs 0 0 ∷ get_or xs 1 0 ∷ get_or xs 2 0 ∷ get_or xs 3 0 ∷ []
four_long [] h = absurd (omega arith)
four_long (a ∷ []) h = absurd (omega arith)
four_long (a ∷ b ∷ []) h = absurd (omega arith)
four_long (a ∷ b ∷ c ∷ []) h = absurd (omega arith)
four_long (a ∷ b ∷ c ∷ d ∷ []) h = refl
four_long (a ∷ b ∷ c ∷ d ∷ x ∷ xs) h = absurd (omega arith)

-- the first field is that of its edition and item count
head_written : (s : List ℕ) → Bytes s → cut_at s 0 ≡ field head_tag header_length head_length head_next
    → take head_next s ≡ field_bytes head_tag (bytes16 (edition_in (head_content s)) ++ bytes16 (count_in (head_content s)))
head_written s b e =
    let f = (field_iff s 0 head_tag header_length head_length head_next).0 e in
    let c : List ℕ = head_content s in
    let four = four_long c (content_length s 0 head_tag header_length head_length head_next f) in
    let bc = Bytes-content s header_length head_length b in
    let ed : bytes16 (edition_in c) ≡ get_or c 0 0 ∷ get_or c 1 0 ∷ [] = pair_forth (get_or c 0 0) (get_or c 1 0) (bc 0) in
    let n : bytes16 (count_in c) ≡ get_or c 2 0 ∷ get_or c 3 0 ∷ [] = pair_forth (get_or c 2 0) (get_or c 3 0) (bc 2) in
    field_passed s 0 head_tag header_length head_length head_next b f ∙ ap (field_bytes head_tag) (four ∙ ap₂ ◌++◌ (sym ed) (sym n))

-- and it is all: a sheet that opens is what the writer makes of its layout, which is within the limits
pub opened_written : (s : List ℕ) (edition : ℕ) (ps : List Placed) → Bytes s → read_sheet s ≡ opens edition ps
    → (within (layout_of edition ps) ≡ true) × (s ≡ write_sheet (layout_of edition ps))
unfolding write_sheet within items
opened_written s edition ps b e =
    let o = opened s edition ps e in
    let k : ℕ = count_in (head_content s) in
    let its : List LayoutItem = map (λ p. p.item) ps in
    let p = scan_passed s edition b k o.at ps o.scanned in
    let n : length its ≡ k = length-map ps (λ q. q.item) ∙ scan_length s edition k o.at ps o.scanned in
    let head = head_written s b o.head in
    let head' : take head_next s ≡ field_bytes head_tag (bytes16 edition ++ bytes16 (length its)) = rw (n, ← o.edition_is) head in
    let f = (field_iff s o.at last_tag (o.at + header_length) 0 (length s)).0 o.last in
    let end : take (length s) s ≡ take o.at s ++ field_bytes last_tag [] = field_passed s o.at last_tag (o.at + header_length) 0 (length s) b f in
    let fits = and_both (edition_known edition && count_allowed edition (length its)) (items_within edition [] its)
    (and_both (edition_known edition) (count_allowed edition (length its)) o.edition_fits (rw n o.count_fits))
    p.fits in
    (fits, sym (take-length s) ∙ end ∙ ap (λ r. r ++ field_bytes last_tag []) (p.written ∙ ap (λ r. r ++ concat (map item_bytes its)) head'))

-- A sheet opens exactly if it is the written form of a layout within the limits.
pub opens_exactly : (s : List ℕ) → Bytes s
    → ((edition : ℕ) × (ps : List Placed) × (read_sheet s ≡ opens edition ps)) ↔ ((l : Layout) × (within l ≡ true) × (s ≡ write_sheet l))
opens_exactly s b = (
  λ o. (layout_of o.0 o.1, (opened_written s o.0 o.1 b o.2).0, (opened_written s o.0 o.1 b o.2).1),
  λ w. (w.0.edition, places w.0, ap read_sheet w.2 ∙ written_opens w.0 w.1),
)

-- There is only one layout of a written form.
pub layout_unique : (l m : Layout) → within l ≡ true → within m ≡ true → write_sheet l ≡ write_sheet m → l ≡ m
layout_unique l m wl wm e =
    let a = written_opens l wl in
    let b = written_opens m wm in
    let r : read_sheet (write_sheet l) ≡ read_sheet (write_sheet m) = ap read_sheet e in
    let ed : l.edition ≡ m.edition = cc in
    let ps : places l ≡ places m = cc in
    sym (places_layout l) ∙ ap₂ layout_of ed ps ∙ places_layout m
