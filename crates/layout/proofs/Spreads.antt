-- Two sheets that differ in spread bytes only are read alike: refused with the same number and offset, or opened with items that differ in
-- their spreads (`reads_alike`), if each spread byte is allowed in both or in neither. Assumes nothing.
use mathlib.Core.Path.{◌≡◌, refl, sym, ap, ap₂, subst, ◌∙◌}
use mathlib.Core.Bool.{Bool, true, false, cond, not, ◌||◌}
use mathlib.Core.List.{List, [], ◌∷◌, ◌++◌, map}
use mathlib.Core.Logic.{◌⊎◌, inl, inr}
use Prim.Native.Nat.{ℕ, zero, suc, ◌+◌, ◌≤◌, ◌<◌}
use native.Mathlib.Omega.{arith}
use native.Mathlib.Decide.{dec_le, dec_lt, ℕ_discrete}
use lib.Dec.{eqb, ltb}
use lib.ListN.{length, get_or, drop, set, length-set, length-take, length-drop, length-map, get_or-eq_default}
use lib.Seq.{ext_get_or, get_or-take, get_or-drop, get_or-set_same, get_or-set_other}
use borrow.Author.Tests.{eq-eqb, eqb-true, eqb-false}
use Rattle.field.specs.Field.{Cut, absent, short, field, header_length, le16, len_at, cut_at}
use Rattle.circuit.specs.Calls.{first_cause}
use Rattle.field.proofs.Cutting.{Cutting, at_end, no_header, no_content, whole, cutting}
use Rattle.layout.specs.Layout.{LayoutItem, entry_field, figure_field, head_length, head_next, head_tag}
use Rattle.layout.specs.Layout.{figure_tag, spread_at, parents_at, parent_at, spread_limit, spread_allowed, name_allowed}
use Rattle.layout.specs.Content.{content_at, rule_in, keep_in, spread_in, parent_count_in, parents_in, name_in, item_in}
use Rattle.layout.specs.Read.{Placed, placed, length_or_name, rule_wrong, parent_wrong, item_level, head_tests, item_tests, last_tests}
use Rattle.layout.specs.Read.{judge, Scan, going, stopped, place_item, place_field, go_on, scan_item, scan, after_last}
use Rattle.layout.specs.Read.{scan_end, scan_last, scan_sheet, SheetRead, opens, refused, conclude, read_sheet}
use Rattle.layout.specs.Opened.{levels_of}
use Rattle.layout.specs.Write.{level_after}
use Rattle.layout.specs.Causes.{item, last, field_offset, edition_of, item_count, offset_of, tag_of, length_of, content_of, cause5, Faultless}
use Rattle.layout.specs.Spreads.{spread_offset, holds_forget, NoForget, SpreadByte, DifferInSpreads, zeroed_below, without_forget, Zeroes}
use Rattle.layout.proofs.Scan.{head_read, map-append, and_left, and_right, and_both}
use Rattle.layout.proofs.Exactly.{level_after_lem}
use Rattle.layout.proofs.Tests.{not_refuted, refutes_spread}
use Rattle.layout.proofs.Causes.{whole_length, edition_same, count_same, first_offset, next_offset, stands}
use Rattle.layout.proofs.Editions.{cut_agrees, head_cause}

-- Contents of one length that differ in the spread byte of a figure only.

pub record Alike (tag : ℕ) (c d : List ℕ) : Type 0 where
  pub long : length d ≡ length c
  pub bytes : (m : ℕ) → ¬ ((tag ≡ figure_tag) × (m ≡ spread_at)) → get_or d m 0 ≡ get_or c m 0

module _ (tag : ℕ) (c d : List ℕ) (alike : Alike tag c d) where
  -- an entry's are equal
  entry_same : ¬ (tag ≡ figure_tag) → d ≡ c
  entry_same n = ext_get_or 0 d c alike.long (λ m l. alike.bytes m (λ b. n b.0))

  -- what stands after the spread byte is the same
  after_spread : (n : ℕ) → spread_at < n → drop n d ≡ drop n c
  after_spread n h =
      ext_get_or 0 (drop n d) (drop n c) (simp (length-drop, alike.long))
      (λ m l. get_or-drop n d m 0 ∙ alike.bytes (n + m) (λ b. omega (arith, b.1)) ∙ sym (get_or-drop n c m 0))

  byte_beside : (m : ℕ) → ¬ (m ≡ spread_at) → get_or d m 0 ≡ get_or c m 0
  byte_beside m n = alike.bytes m (λ b. n b.1)

  count_alike : parent_count_in d ≡ parent_count_in c
  count_alike = byte_beside 3 (λ e. omega arith)

  parents_alike : (p : ℕ) → parents_in d p ≡ parents_in c p
  unfolding parents_in
  parents_alike zero = refl
  parents_alike (suc p) =
      ap₂ (λ ps q. ps ++ (q ∷ [])) (parents_alike p)
      (ap₂ le16 (byte_beside (parent_at p) (λ e. omega arith)) (byte_beside (parent_at p + 1) (λ e. omega arith)))

  name_alike : name_in d ≡ name_in c
  name_alike = ap (λ p. drop (parent_at p) d) count_alike ∙ after_spread (parent_at (parent_count_in c)) (omega arith)

-- Items that differ in their spreads only, which g takes for one and the edition allows together.

abbrev pub respread : (ℕ → ℕ) → LayoutItem → LayoutItem
respread g (entry_field name) = entry_field name
respread g (figure_field rule keep spread parents name) = figure_field rule keep (g spread) parents name

abbrev pub respread_placed : (ℕ → ℕ) → Placed → Placed
respread_placed g p = placed p.offset (respread g p.item) p.level

pub respread_length : (g : ℕ → ℕ) (ps qs : List Placed) → map (respread_placed g) qs ≡ map (respread_placed g) ps → length qs ≡ length ps
respread_length g ps qs e = sym (length-map qs (respread_placed g)) ∙ ap length e ∙ length-map ps (respread_placed g)

module _ (g : ℕ → ℕ) (edition : ℕ) where
  data Similar : LayoutItem → LayoutItem → Type 0 where
    entries : (name : List ℕ) → Similar (entry_field name) (entry_field name)
    figures : (rule keep a b : ℕ) (parents name : List ℕ) → g b ≡ g a → spread_allowed edition b ≡ spread_allowed edition a
        → Similar (figure_field rule keep a parents name) (figure_field rule keep b parents name)

  similar_respread : (x y : LayoutItem) → Similar x y → respread g y ≡ respread g x
  similar_respread _ _ (entries name) = refl
  similar_respread _ _ (figures rule keep a b parents name e f) = ap (λ z. figure_field rule keep z parents name) e

  similar_rule : (x y : LayoutItem) → Similar x y → rule_wrong edition y ≡ rule_wrong edition x
  similar_rule _ _ (entries name) = refl
  similar_rule _ _ (figures rule keep a b parents name e f) = rw f

  similar_parents : (n : ℕ) (x y : LayoutItem) → Similar x y → parent_wrong n y ≡ parent_wrong n x
  similar_parents n _ _ (entries name) = refl
  similar_parents n _ _ (figures rule keep a b parents name e f) = refl

  similar_level : (ps : List Placed) (x y : LayoutItem) → Similar x y → item_level ps y ≡ item_level ps x
  similar_level ps _ _ (entries name) = refl
  similar_level ps _ _ (figures rule keep a b parents name e f) = refl

  -- of contents that are alike
  item_similar : (tag : ℕ) (c d : List ℕ) → Alike tag c d
      → (tag ≡ figure_tag → (g (spread_in d) ≡ g (spread_in c)) × (spread_allowed edition (spread_in d) ≡ spread_allowed edition (spread_in c)))
      → Similar (item_in tag c) (item_in tag d)
  unfolding item_in
  item_similar tag c d alike spreads = go (eqb tag figure_tag) refl
    where
      figure_in : List ℕ → LayoutItem
      figure_in x = figure_field (rule_in x) (keep_in x) (spread_in x) (parents_in x (parent_count_in x)) (name_in x)

      go : (b : Bool) → eqb tag figure_tag ≡ b → Similar (cond b (figure_in c) (entry_field c)) (cond b (figure_in d) (entry_field d))
      go true e =
          let both = spreads (eqb-true tag figure_tag e) in
          rw (
            name_alike tag c d alike,
            byte_beside tag c d alike 0 (λ q. omega arith),
            byte_beside tag c d alike 1 (λ q. omega arith),
            count_alike tag c d alike,
            parents_alike tag c d alike (parent_count_in c),
          )
          (figures (rule_in c) (keep_in c) (spread_in c) (spread_in d) _ _ both.0 both.1)
      go false e = rw (entry_same tag c d alike (eqb-false tag figure_tag e)) (entries c)

  length_alike : (tag : ℕ) (c d : List ℕ) → Alike tag c d → length_or_name tag d ≡ length_or_name tag c
  unfolding length_or_name
  length_alike tag c d alike = go (eqb tag figure_tag) refl
    where
      go : (b : Bool) → eqb tag figure_tag ≡ b
          → cond b (ltb (length d) parents_at || not (name_allowed (name_in d))) (not (name_allowed d))
          ≡ cond b (ltb (length c) parents_at || not (name_allowed (name_in c))) (not (name_allowed c))
      go true e = rw (alike.long, name_alike tag c d alike)
      go false e = rw (entry_same tag c d alike (eqb-false tag figure_tag e))

  -- after items that differ in their spreads
  abbrev Spreading : List Placed → List Placed → Type 0
  Spreading ps qs = map (respread_placed g) qs ≡ map (respread_placed g) ps

  levels_respread : (ps : List Placed) → levels_of (map (respread_placed g) ps) ≡ levels_of ps
  levels_respread [] = refl
  levels_respread (p ∷ ps) = ap (λ l. p.level ∷ l) (levels_respread ps)

  spreading_levels : (ps qs : List Placed) → Spreading ps qs → levels_of qs ≡ levels_of ps
  spreading_levels ps qs e = sym (levels_respread qs) ∙ ap levels_of e ∙ levels_respread ps

  level_similar : (ps qs : List Placed) (x y : LayoutItem) → Spreading ps qs → Similar x y → item_level qs y ≡ item_level ps x
  level_similar ps qs x y e s =
      sym (level_after_lem qs y) ∙ ap (λ l. level_after l y) (spreading_levels ps qs e) ∙ level_after_lem ps y ∙ similar_level ps x y s

  tests_alike : (ps qs : List Placed) (tag : ℕ) (c d : List ℕ) → Spreading ps qs → Alike tag c d → Similar (item_in tag c) (item_in tag d)
      → item_tests edition qs tag d ≡ item_tests edition ps tag c
  unfolding item_tests
  tests_alike ps qs tag c d e alike s =
      let x : LayoutItem = item_in tag c in
      let y : LayoutItem = item_in tag d in
      rw (length_alike tag c d alike, similar_rule x y s, respread_length g ps qs e, similar_parents (length ps) x y s, level_similar ps qs x y e s)

-- Where spread bytes stand: each within its figure's field, and none in the first field or after the last item.

module _ (s : List ℕ) where
  offsets_rise : (i j : ℕ) → i ≤ j → field_offset s i ≤ field_offset s j
  offsets_rise i zero h = let z : i ≡ 0 = omega arith in rw z (omega arith)
  offsets_rise i (suc j) h = go (offsets_rise i j) (dec_le i j)
    where
      go : (i ≤ j → field_offset s i ≤ field_offset s j) → Dec (i ≤ j) → field_offset s i ≤ field_offset s (suc j)
      go rise (yes l) = omega (arith, rise l, next_offset s j)
      go rise (no l) = let z : i ≡ suc j = omega arith in rw z (omega arith)

  module _ (k i : ℕ) (byte : SpreadByte s k i) where
    -- after the header of figure i, and before the next field
    spread_after : field_offset s (suc i) + header_length ≤ k
    spread_after = omega (arith, byte.there)

    spread_before : k < field_offset s (suc (suc i))
    spread_before = omega (arith, byte.there, byte.inside, next_offset s (suc i))

    spread_past_head : 8 ≤ k
    spread_past_head = omega (arith, byte.there, next_offset s 0, offsets_rise 1 (suc i) (omega arith))

    -- in no field but its own
    spread_in_lem : (j : ℕ) → field_offset s (suc j) ≤ k → k < field_offset s (suc (suc j)) → i ≡ j
    spread_in_lem j low high = go (dec_lt i j) (dec_lt j i)
      where
        go : Dec (i < j) → Dec (j < i) → i ≡ j
        go (yes l) d = absurd (omega (arith, spread_before, offsets_rise (suc (suc i)) (suc j) (omega arith)))
        go (no l) (yes m) = absurd (omega (arith, spread_after, offsets_rise (suc (suc j)) (suc i) (omega arith)))
        go (no l) (no m) = omega arith

-- The bytes of two sheets that differ in spread bytes only.
module _ (s t : List ℕ) (differ : DifferInSpreads s t) where
  head_byte : (k : ℕ) → k < 8 → get_or t k 0 ≡ get_or s k 0
  head_byte k h = differ.others k (λ i b. omega (arith, spread_past_head s k i b))

  -- of the field of item j
  field_byte : (j k : ℕ) → field_offset s (suc j) ≤ k → k < field_offset s (suc (suc j)) → ¬ SpreadByte s k j → get_or t k 0 ≡ get_or s k 0
  field_byte j k low high none = differ.others k (λ i b. none (subst (SpreadByte s k) (spread_in_lem s k i b j low high) b))

  -- after the last item
  last_byte : (k : ℕ) → offset_of s last ≤ k → get_or t k 0 ≡ get_or s k 0
  last_byte k h =
      differ.others k (λ i b. omega (arith, spread_before s k i b, offsets_rise s (suc (suc i)) (suc (item_count s)) (omega (arith, b.in_sheet))))

  -- the header of item j's field
  header_byte : (j k : ℕ) → field_offset s (suc j) ≤ k → k < field_offset s (suc j) + header_length → get_or t k 0 ≡ get_or s k 0
  header_byte j k low high = field_byte j k low (omega (arith, next_offset s (suc j))) (λ b. omega (arith, b.there))

  pub edition_alike : edition_of t ≡ edition_of s
  edition_alike = ap₂ le16 (head_byte 3 (omega arith)) (head_byte 4 (omega arith))

  pub items_alike : item_count t ≡ item_count s
  items_alike = ap₂ le16 (head_byte 5 (omega arith)) (head_byte 6 (omega arith))

  header_length_lem : (j : ℕ) → len_at t (offset_of s (item j)) ≡ len_at s (offset_of s (item j))
  header_length_lem j =
      let at : ℕ = offset_of s (item j) in
      ap₂ le16 (header_byte j (at + 1) (omega arith) (omega arith)) (header_byte j (at + 1 + 1) (omega arith) (omega arith))

  -- the same is cut at item j
  cut_alike : (j : ℕ) → cut_at t (offset_of s (item j)) ≡ cut_at s (offset_of s (item j))
  cut_alike j =
      cut_agrees s t (offset_of s (item j)) differ.long (header_byte j (offset_of s (item j)) (omega arith) (omega arith)) (header_length_lem j)

  module _ (j : ℕ) (low : j < item_count s) (fits : offset_of s (item j) + header_length + length_of s (item j) ≤ length s) where
    abbrev there : List ℕ
    there = content_at t (offset_of s (item j) + header_length) (length_of s (item j))

    -- a byte of the content
    content_byte : (x : List ℕ) (m : ℕ) → m < length_of s (item j)
        → get_or (content_at x (offset_of s (item j) + header_length) (length_of s (item j))) m 0 ≡ get_or x (offset_of s (item j) + header_length + m) 0
    content_byte x m h = get_or-take (length_of s (item j)) (drop (offset_of s (item j) + header_length) x) m 0 h ∙ get_or-drop (offset_of s (item j) + header_length) x m 0

    there_long : length there ≡ length (content_of s (item j))
    there_long = simp (length-take, length-drop, differ.long)

    content_alike : Alike (tag_of s (item j)) (content_of s (item j)) there
    content_alike = record { long = there_long; bytes = λ m n. go m n (dec_lt m (length_of s (item j))) }
      where
        go : (m : ℕ) → ¬ ((tag_of s (item j) ≡ figure_tag) × (m ≡ spread_at)) → Dec (m < length_of s (item j))
            → get_or there m 0 ≡ get_or (content_of s (item j)) m 0
        go m n (yes l) =
            content_byte t m l
            ∙ field_byte j (offset_of s (item j) + header_length + m) (omega arith) (omega (arith, next_offset s (suc j))) (λ b. n (b.figure, omega (arith, b.there)))
            ∙ sym (content_byte s m l)
        go m n (no l) =
            let e = whole_length s (offset_of s (item j)) fits in
            get_or-eq_default there 0 (omega (arith, there_long)) ∙ sym (get_or-eq_default (content_of s (item j)) 0 (omega arith))

    -- the spreads of its figure, where they are the sheets' bytes
    module _ (P : ℕ → ℕ → Type 0) (same : (a : ℕ) → P a a) (spreads : (k i : ℕ) → SpreadByte s k i → P (get_or s k 0) (get_or t k 0)) where
      spread_alike : tag_of s (item j) ≡ figure_tag → P (spread_in (content_of s (item j))) (spread_in there)
      spread_alike figure = go (dec_lt spread_at (length_of s (item j)))
        where
          go : Dec (spread_at < length_of s (item j)) → P (spread_in (content_of s (item j))) (spread_in there)
          go (yes l) =
              rw (content_byte s spread_at l, content_byte t spread_at l)
              (spreads (spread_offset s j) j (record { in_sheet = low; figure = figure; inside = l; there = refl }))
          go (no l) =
              let e = whole_length s (offset_of s (item j)) fits in
              rw (get_or-eq_default (content_of s (item j)) 0 {n = spread_at} (omega arith), get_or-eq_default there 0 {n = spread_at} (omega (arith, there_long)))
              (same 0)

  -- after the last item nothing differs
  after_last_lem : (k : ℕ) → offset_of s last ≤ k → drop k t ≡ drop k s
  after_last_lem k h =
      ext_get_or 0 (drop k t) (drop k s) (simp (length-drop, differ.long))
      (λ m l. get_or-drop k t m 0 ∙ last_byte (k + m) (omega arith) ∙ sym (get_or-drop k s m 0))

  -- nor in the first field
  head_alike : judge head_tests t (cut_at t 0) ≡ judge head_tests s (cut_at s 0)
  head_alike = rw cut (go (cut_at s 0) (cutting s 0))
    where
      cut : cut_at t 0 ≡ cut_at s 0
      cut = cut_agrees s t 0 differ.long (head_byte 0 (omega arith)) (ap₂ le16 (head_byte 1 (omega arith)) (head_byte 2 (omega arith)))

      go : (c : Cut) → Cutting s 0 c → judge head_tests t c ≡ judge head_tests s c
      go absent (at_end x) = refl
      go short (no_header x y) = refl
      go short (no_content x y) = refl
      go (field tag start len next) (whole x) =
          head_cause tag (content_at t header_length len) (content_at s header_length len) (simp (length-take, length-drop, differ.long))
          (λ e. let n : len ≡ head_length = sym (whole_length s 0 x) ∙ e in
          rw (ap (content_at t header_length) n, ap (content_at s header_length) n, edition_same t, count_same t, edition_same s, count_same s, edition_alike, items_alike))

-- What two such sheets are read as: the same refusal, or items that g takes for one.
pub data SameRead (g : ℕ → ℕ) : SheetRead → SheetRead → Type 0 where
  both_refused : (k at : ℕ) → SameRead g (refused k at) (refused k at)
  both_open : (edition : ℕ) (ps qs : List Placed) → map (respread_placed g) qs ≡ map (respread_placed g) ps → SameRead g (opens edition ps) (opens edition qs)

module _ (s t : List ℕ) (differ : DifferInSpreads s t) (g : ℕ → ℕ) where
  abbrev ed : ℕ
  ed = edition_of s

  -- of two spreads: g takes them for one, and the edition allows both or neither
  abbrev pub Taken : ℕ → ℕ → Type 0
  Taken a b = (g b ≡ g a) × (spread_allowed ed b ≡ spread_allowed ed a)

  data SameScan : Scan → Scan → Type 0 where
    halted : (k at : ℕ) → SameScan (stopped k at) (stopped k at)
    goes : (at : ℕ) (ps qs : List Placed) → Spreading g ed ps qs → SameScan (going at ps) (going at qs)

  placed_alike : (at : ℕ) (ps qs : List Placed) (x y : LayoutItem) → Spreading g ed ps qs → Similar g ed x y
      → Spreading g ed (place_item at ps x) (place_item at qs y)
  placed_alike at ps qs x y e similar =
      map-append (respread_placed g) qs (placed at y (item_level qs y) ∷ [])
      ∙ ap₂ (λ l p. l ++ (p ∷ [])) e (ap₂ (placed at) (similar_respread g ed x y similar) (level_similar g ed ps qs x y e similar))
      ∙ sym (map-append (respread_placed g) ps (placed at x (item_level ps x) ∷ []))

  module _ (spreads : (k i : ℕ) → SpreadByte s k i → Taken (get_or s k 0) (get_or t k 0)) where
    item_alike : (j : ℕ) → j < item_count s → (ps qs : List Placed) → Spreading g ed ps qs
        → SameScan (scan_item s ed (going (offset_of s (item j)) ps)) (scan_item t ed (going (offset_of s (item j)) qs))
    item_alike j low ps qs e = rw (cut_alike s t differ j) (go (cut_at s at) (cutting s at))
      where
        at : ℕ
        at = offset_of s (item j)

        go : (c : Cut) → Cutting s at c
            → SameScan (go_on (judge (item_tests ed ps) s c) at (place_field s at ps c)) (go_on (judge (item_tests ed qs) t c) at (place_field t at qs c))
        go absent (at_end x) = halted 1 at
        go short (no_header x y) = halted 1 at
        go short (no_content x y) = halted 1 at
        go (field tag start len next) (whole x) =
            let d : List ℕ = content_at t start len in
            let alike : Alike tag (content_at s start len) d = content_alike s t differ j low x in
            let similar : Similar g ed (item_in tag (content_at s start len)) (item_in tag d) =
            item_similar g ed tag (content_at s start len) d alike (spread_alike s t differ j low x Taken (λ a. (refl, refl)) spreads) in
            rw (tests_alike g ed ps qs tag (content_at s start len) d e alike similar)
            (judged _ _ (first_cause (item_tests ed ps tag (content_at s start len))) (placed_alike at ps qs _ _ e similar))
          where
            judged : (xs ys : List Placed) (v : ℕ) → Spreading g ed xs ys → SameScan (go_on v at (going next xs)) (go_on v at (going next ys))
            judged xs ys zero more = goes next xs ys more
            judged xs ys (suc v) more = halted (suc v) at

    scan_alike : cut_at s 0 ≡ field head_tag header_length head_length head_next → (k : ℕ) → k ≤ item_count s → SameScan (scan s ed k) (scan t ed k)
    unfolding scan
    scan_alike head zero h = goes head_next [] [] refl
    scan_alike head (suc k) h = go (scan s ed k) (scan t ed k) refl (scan_alike head k (omega arith))
      where
        go : (r q : Scan) → scan s ed k ≡ r → SameScan r q → SameScan (scan_item s ed r) (scan_item t ed q)
        go _ _ x (halted v at) = halted v at
        go _ _ x (goes at ps qs e) =
            let o : at ≡ offset_of s (item k) = (stands s ed refl head k at ps x).offset_is in
            rw o (item_alike k (omega arith) ps qs e)

    last_alike : (ps qs : List Placed) → Spreading g ed ps qs
        → SameScan (scan_last s (going (offset_of s last) ps)) (scan_last t (going (offset_of s last) qs))
    last_alike ps qs e = rw cut (go (cut_at s at) (cutting s at))
      where
        at : ℕ
        at = offset_of s last

        cut : cut_at t at ≡ cut_at s at
        cut =
            cut_agrees s t at differ.long (last_byte s t differ at (omega arith))
            (ap₂ le16 (last_byte s t differ (at + 1) (omega arith)) (last_byte s t differ (at + 1 + 1) (omega arith)))

        go : (c : Cut) → Cutting s at c
            → SameScan (go_on (judge last_tests s c) at (scan_end s (after_last s c) ps)) (go_on (judge last_tests t c) at (scan_end t (after_last t c) qs))
        go absent (at_end x) = halted 1 at
        go short (no_header x y) = halted 1 at
        go short (no_content x y) = halted 1 at
        go (field tag start len next) (whole x) =
            rw (after_last_lem s t differ (at + header_length) (omega arith), differ.long)
            (judged (first_cause (last_tests tag (content_at s start len))) (ltb next (length s)))
          where
            judged : (v : ℕ) (b : Bool)
                → SameScan (go_on v at (cond b (stopped 2 next) (going next ps))) (go_on v at (cond b (stopped 2 next) (going next qs)))
            judged zero true = halted 2 next
            judged zero false = goes next ps qs e
            judged (suc v) b = halted (suc v) at

    pub reads_alike : SameRead g (read_sheet s) (read_sheet t)
    unfolding read_sheet scan_sheet
    reads_alike =
        rw (head_alike s t differ, edition_same t, count_same t, edition_same s, count_same s, edition_alike s t differ, items_alike s t differ)
        (judged (judge head_tests s (cut_at s 0)) refl)
      where
        n : ℕ
        n = item_count s

        concludes : (r q : Scan) → SameScan r q → SameRead g (conclude ed r) (conclude ed q)
        concludes _ _ (halted k at) = both_refused k at
        concludes _ _ (goes at ps qs e) = both_open ed ps qs e

        ends : cut_at s 0 ≡ field head_tag header_length head_length head_next → (r q : Scan) → scan s ed n ≡ r → SameScan r q → SameScan (scan_last s r) (scan_last t q)
        ends head _ _ x (halted k at) = halted k at
        ends head _ _ x (goes at ps qs e) =
            let o : at ≡ offset_of s last = (stands s ed refl head n at ps x).offset_is in
            rw o (last_alike ps qs e)

        judged : (v : ℕ) → judge head_tests s (cut_at s 0) ≡ v
            → SameRead g (conclude ed (go_on v 0 (scan_last s (scan s ed n)))) (conclude ed (go_on v 0 (scan_last t (scan t ed n))))
        judged (suc v) x = both_refused (suc v) 0
        judged zero x =
            let head = (head_read s x).head in
            concludes (scan_last s (scan s ed n)) (scan_last t (scan t ed n)) (ends head (scan s ed n) (scan t ed n) refl (scan_alike head n (omega arith)))

-- Two sheets without a fault that differ in spread bytes only.

-- a figure's spread is its byte
byte_spread : (s : List ℕ) (k i : ℕ) → SpreadByte s k i → spread_in (content_of s (item i)) ≡ get_or s k 0
byte_spread s k i b =
    get_or-take (length_of s (item i)) (drop (offset_of s (item i) + header_length) s) spread_at 0 b.inside
    ∙ get_or-drop (offset_of s (item i) + header_length) s spread_at 0 ∙ ap (λ m. get_or s m 0) (sym b.there)

-- a spread byte of a sheet without a fault is allowed
allowed_byte : (s : List ℕ) → Faultless s → (k i : ℕ) → SpreadByte s k i → spread_allowed (edition_of s) (get_or s k 0) ≡ true
allowed_byte s sound k i b =
    rw (← byte_spread s k i b)
    (not_refuted (refutes_spread (edition_of s) (spread_in (content_of s (item i))))
    (λ w. sound (item i) b.in_sheet 5 (cause5 (b.figure, inr (inr w)))))

module _ (s t : List ℕ) (differ : DifferInSpreads s t) where
  -- their fields have the same offsets
  offset_alike : (j : ℕ) → field_offset t j ≡ field_offset s j
  offset_alike zero = first_offset t ∙ sym (first_offset s)
  offset_alike (suc j) = next_offset t j ∙ rw (offset_alike j) (ap (λ l. field_offset s j + header_length + l) (same j)) ∙ sym (next_offset s j)
    where
      same : (j : ℕ) → len_at t (field_offset s j) ≡ len_at s (field_offset s j)
      same zero = rw (first_offset s) (ap₂ le16 (head_byte s t differ 1 (omega arith)) (head_byte s t differ 2 (omega arith)))
      same (suc i) = header_length_lem s t differ i

  -- and their spread bytes the same places
  byte_alike : (k i : ℕ) → SpreadByte s k i → SpreadByte t k i
  byte_alike k i b =
      let o = offset_alike (suc i) in
      record {
        in_sheet = rw (items_alike s t differ) b.in_sheet;
        figure = ap (λ m. get_or t m 0) o ∙ header_byte s t differ i (offset_of s (item i)) (omega arith) (omega arith) ∙ b.figure;
        inside = rw (o, header_length_lem s t differ i) b.inside;
        there = rw o b.there;
      }

  -- so each differs from the other in these only
  differ_back : DifferInSpreads t s
  differ_back = record { long = sym differ.long; others = λ k none. sym (differ.others k (λ i b. none i (byte_alike k i b))) }

  -- and they are read alike
  pub read_both : Faultless s → Faultless t → SameRead (λ spread. 0) (read_sheet s) (read_sheet t)
  read_both sound sound' =
      reads_alike s t differ (λ spread. 0)
      (λ k i b. (refl, ap (λ e. spread_allowed e (get_or t k 0)) (sym (edition_alike s t differ)) ∙ allowed_byte t sound' k i (byte_alike k i b) ∙ sym (allowed_byte s sound k i b)))

-- The sheet with 0 in place of each spread 2.

abbrev pub zero_for_two : ℕ → ℕ
zero_for_two spread = cond (eqb spread 2) 0 spread

module _ (s : List ℕ) where
  -- what is there to be changed
  record Held2 (i : ℕ) : Type 0 where
    byte : SpreadByte s (spread_offset s i) i
    two : get_or s (spread_offset s i) 0 ≡ 2
    inside : spread_offset s i < length s

  held_2 : (i : ℕ) → i < item_count s → holds_forget s i ≡ true → Held2 i
  held_2 i low e = go (dec_lt spread_at (length_of s (item i))) (dec_lt (spread_offset s i) (length s))
    where
      tag : tag_of s (item i) ≡ figure_tag
      tag = eqb-true _ figure_tag (and_left (eqb (tag_of s (item i)) figure_tag) _ e)

      two : spread_in (content_of s (item i)) ≡ 2
      two = eqb-true _ 2 (and_right (eqb (tag_of s (item i)) figure_tag) _ e)

      rest : List ℕ
      rest = drop (offset_of s (item i) + header_length) s

      go : Dec (spread_at < length_of s (item i)) → Dec (spread_offset s i < length s) → Held2 i
      go (yes l) (yes m) =
          record {
            byte = record { in_sheet = low; figure = tag; inside = l; there = refl };
            two = sym (get_or-take (length_of s (item i)) rest spread_at 0 l ∙ get_or-drop (offset_of s (item i) + header_length) s spread_at 0) ∙ two;
            inside = m;
          }
      go (yes l) (no m) =
          let z = get_or-take (length_of s (item i)) rest spread_at 0 l ∙ get_or-drop (offset_of s (item i) + header_length) s spread_at 0 in
          let d : get_or s (spread_offset s i) 0 ≡ 0 = get_or-eq_default s 0 (omega arith) in
          absurd (omega (arith, two, z, d))
      go (no l) m =
          let d : spread_in (content_of s (item i)) ≡ 0 = get_or-eq_default (content_of s (item i)) 0 {n = spread_at} (omega (arith, length-take (length_of s (item i)) rest)) in
          absurd (omega (arith, two, d))

  -- each byte is as it was, or is a spread byte that was 2 and is 0
  abbrev Zeroed : List ℕ → ℕ → Type 0
  Zeroed t k = (get_or t k 0 ≡ get_or s k 0) ⊎ ((i : ℕ) × SpreadByte s k i × (get_or s k 0 ≡ 2) × (get_or t k 0 ≡ 0))

  record Changed (n : ℕ) (t : List ℕ) : Type 0 where
    long : length t ≡ length s
    each : (k : ℕ) → Zeroed t k
    -- and the first n items have no 2 left
    all : (i : ℕ) → i < n → holds_forget s i ≡ true → get_or t (spread_offset s i) 0 ≡ 0

  changed : (n : ℕ) → n ≤ item_count s → Changed n (zeroed_below s n)
  unfolding zeroed_below
  changed zero h = record { long = refl; each = λ k. inl refl; all = λ i l. absurd (omega arith) }
  changed (suc n) h = go (holds_forget s n) refl (changed n (omega arith))
    where
      t : List ℕ
      t = zeroed_below s n

      go : (b : Bool) → holds_forget s n ≡ b → Changed n t → Changed (suc n) (cond b (set t (spread_offset s n) 0) t)
      go false e c = record { long = c.long; each = c.each; all = λ i l. before i l (ℕ_discrete i n) }
        where
          before : (i : ℕ) → i < suc n → Dec (i ≡ n) → holds_forget s i ≡ true → get_or t (spread_offset s i) 0 ≡ 0
          before i l (yes q) f = let z : ◌≡◌ {A = ℕ} 0 1 = cc (sym e ∙ ap (holds_forget s) (sym q) ∙ f) in absurd (omega arith)
          before i l (no q) f = c.all i (omega arith) f
      go true e c =
          record { long = length-set t _ _ ∙ c.long; each = λ k. at k (ℕ_discrete k (spread_offset s n)); all = λ i l. zero_at i l (ℕ_discrete (spread_offset s i) (spread_offset s n)) }
        where
          two : Held2 n
          two = held_2 n (omega arith) e

          there : get_or (set t (spread_offset s n) 0) (spread_offset s n) 0 ≡ 0
          there = get_or-set_same t (spread_offset s n) 0 0 (omega (arith, two.inside, c.long))

          zero_at : (i : ℕ) → i < suc n → Dec (spread_offset s i ≡ spread_offset s n) → holds_forget s i ≡ true → get_or (set t (spread_offset s n) 0) (spread_offset s i) 0 ≡ 0
          zero_at i l (yes q) f = rw q there
          zero_at i l (no q) f = get_or-set_other t (spread_offset s n) (spread_offset s i) 0 0 q ∙ c.all i (below (ℕ_discrete i n)) f
            where
              below : Dec (i ≡ n) → i < n
              below (yes h) = absurd (q (ap (spread_offset s) h))
              below (no h) = omega arith

          at : (k : ℕ) → Dec (k ≡ spread_offset s n) → Zeroed (set t (spread_offset s n) 0) k
          at k (yes q) = rw q (inr (n, two.byte, two.two, there))
          at k (no q) = rw (get_or-set_other t (spread_offset s n) k 0 0 q) (c.each k)

  abbrev Whole : List ℕ → Type 0
  Whole t = Changed (item_count s) t

  zeroed_differs : (t : List ℕ) → Whole t → DifferInSpreads s t
  zeroed_differs t c = record { long = c.long; others = λ k none. go k none (c.each k) }
    where
      go : (k : ℕ) → ((i : ℕ) → ¬ SpreadByte s k i) → Zeroed t k → get_or t k 0 ≡ get_or s k 0
      go k none (inl e) = e
      go k none (inr w) = absurd (none w.0 w.1)

  zeroed_taken : edition_of s ≡ 1 → (t : List ℕ) (c : Whole t) → (k i : ℕ) → SpreadByte s k i
      → Taken s t (zeroed_differs t c) zero_for_two (get_or s k 0) (get_or t k 0)
  unfolding spread_allowed spread_limit
  zeroed_taken one t c k i b = go (c.each k)
    where
      go : Zeroed t k → Taken s t (zeroed_differs t c) zero_for_two (get_or s k 0) (get_or t k 0)
      go (inl e) = rw e (refl, refl)
      go (inr w) = rw (one, w.2, w.3) (refl, refl)

  pub without_forget_lem : DifferInSpreads s (without_forget s)
  without_forget_lem = zeroed_differs (without_forget s) (changed (item_count s) (omega arith))

  -- in edition 1 it is read alike
  pub read_without : edition_of s ≡ 1 → SameRead zero_for_two (read_sheet s) (read_sheet (without_forget s))
  read_without one =
      let c : Whole (without_forget s) = changed (item_count s) (omega arith) in
      reads_alike s (without_forget s) (zeroed_differs (without_forget s) c) zero_for_two (zeroed_taken one (without_forget s) c)

  -- a figure whose spread byte is 2 holds it
  held_by : (k i : ℕ) → SpreadByte s k i → get_or s k 0 ≡ 2 → holds_forget s i ≡ true
  held_by k i b two =
      let e : spread_in (content_of s (item i)) ≡ 2 = byte_spread s k i b ∙ two in
      and_both (eqb (tag_of s (item i)) figure_tag) (eqb (spread_in (content_of s (item i))) 2) (eq-eqb _ figure_tag b.figure) (eq-eqb _ 2 e)

  -- Each byte: a spread byte that was 2 is 0, and every other is as it was.
  zeroed_two : (k i : ℕ) → SpreadByte s k i → get_or s k 0 ≡ 2 → get_or (without_forget s) k 0 ≡ 0
  zeroed_two k i b two = rw b.there ((changed (item_count s) (omega arith)).all i b.in_sheet (held_by k i b two))

  zeroed_other : (k : ℕ) → ((i : ℕ) → SpreadByte s k i → ¬ (get_or s k 0 ≡ 2)) → get_or (without_forget s) k 0 ≡ get_or s k 0
  zeroed_other k none = go ((changed (item_count s) (omega arith)).each k)
    where
      go : Zeroed (without_forget s) k → get_or (without_forget s) k 0 ≡ get_or s k 0
      go (inl e) = e
      go (inr w) = absurd (none w.0 w.1 w.2)

-- so no figure holds spread 2 any more
none_left : (s : List ℕ) → NoForget (without_forget s)
none_left s i low = go (holds_forget (without_forget s) i) refl
  where
    t : List ℕ
    t = without_forget s

    differ : DifferInSpreads t s
    differ = differ_back s t (without_forget_lem s)

    go : (b : Bool) → holds_forget t i ≡ b → b ≡ false
    go false e = refl
    go true e = absurd (two_or_not (ℕ_discrete (get_or s k 0) 2))
      where
        held : Held2 t i
        held = held_2 t i low e

        k : ℕ
        k = spread_offset t i

        byte : SpreadByte s k i
        byte = byte_alike t s differ k i held.byte

        two_or_not : Dec (get_or s k 0 ≡ 2) → ⊥
        two_or_not (yes q) = omega (arith, held.two, zeroed_two s k i byte q)
        two_or_not (no q) = q (sym (zeroed_other s k (λ j b. q)) ∙ held.two)

pub zeroes : (s : List ℕ) → Zeroes s (without_forget s)
zeroes s = record { long = (without_forget_lem s).long; twos = zeroed_two s; others = zeroed_other s; none_left = none_left s }
