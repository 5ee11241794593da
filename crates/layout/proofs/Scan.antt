-- What a scan of the items says when it goes on: of each item the field that was cut, its item, its level and that each of its
-- tests fails; and that a shorter scan is a prefix. What a sheet that opens says of the machine's sheet. Assumes nothing.
use mathlib.Core.Path.{◌≡◌, refl, sym, ap, ap₂, ◌∙◌}
use mathlib.Core.Bool.{Bool, true, false, cond, ◌&&◌, ◌||◌}
use mathlib.Core.List.{List, [], ◌∷◌, ◌++◌, map}
use mathlib.Core.Logic.{inl, inr}
use mathlib.Core.Option.{Option, none, some}
use Prim.Native.Nat.{ℕ, zero, suc, ◌+◌, ◌≤◌, ◌<◌}
use native.Mathlib.Omega.{arith}
use native.Mathlib.Decide.{dec_le, dec_lt}
use native.Mathlib.Nat.{zero-add, suc-add}
use lib.Dec.{eqb, leb, ltb}
use lib.ListN.{length, get_or, take, length-append, length-map, get_or-map, get_or-eq_default}
use lib.Seq.{length-take-le, take-append-le, take_all, get_or_at, get_or-take}
use borrow.Author.Tests.{eqb-true, leb-true, ltb-true, ltb-false, not-false, eq-eqb, le-ltb}
use Rattle.field.specs.Field.{Cut, absent, short, field, cut_at, header_length}
use Rattle.field.proofs.Cutting.{field_iff, content_length}
use Rattle.circuit.specs.Calls.{Test, test, first_cause}
use Rattle.circuit.specs.Circuit.{Listed}
use Rattle.circuit.specs.Rules.{Operation, operation_of}
use Rattle.circuit.specs.Sheet.{item_at, parents_of, Ordered}
use Rattle.layout.specs.Layout.{LayoutItem, entry_field, figure_field, head_tag, entry_tag, figure_tag, last_tag, edition_known, count_allowed, level_limit, rule_allowed, all, item_limit}
use Rattle.layout.specs.Layout.{machine_item, machine_sheet, is_some, head_length, most_items}
use Rattle.layout.specs.Content.{content_at, edition_in, count_in, item_in}
use Rattle.layout.specs.Read.{Placed, placed, item_level, length_or_name, rule_wrong, parent_wrong, level_wrong, head_tests, item_tests, last_tests, judge, Scan, going, stopped, place_item}
use Rattle.layout.specs.Read.{place_field, go_on, scan_item, head_next, scan, after_last, scan_end, scan_last, head_content, scan_sheet, opens, conclude, read_sheet, layout_of}

-- Lists of tests.

pub cause_none : (k : ℕ) (b : Bool) (ts : List Test) → first_cause (test (suc k) b ∷ ts) ≡ 0 → (b ≡ false) × (first_cause ts ≡ 0)
unfolding first_cause
cause_none k true ts e = absurd (omega arith)
cause_none k false ts e = (refl, e)

-- the item read j-th, and the offset of its field; where the scan ended, beyond the last
abbrev pub placed_at : List Placed → ℕ → Placed
placed_at ps j = get_or ps j (placed 0 (entry_field []) 0)

abbrev pub offset_from : ℕ → List Placed → ℕ → ℕ
offset_from at ps j = get_or (map (λ p. p.offset) ps) j at

-- One item: the field that was cut at an offset after the items ps, whose tests all fail.
pub record ItemRead (s : List ℕ) (edition : ℕ) (ps : List Placed) (at : ℕ) (it : LayoutItem) (next : ℕ) : Type 0 where
  pub tag : ℕ
  pub start : ℕ
  pub len : ℕ
  pub whole : cut_at s at ≡ field tag start len next
  pub item_is : it ≡ item_in tag (content_at s start len)
  pub sound : first_cause (item_tests edition ps tag (content_at s start len)) ≡ 0

-- One more item was read.
pub record Extended (s : List ℕ) (edition k at : ℕ) (ps : List Placed) : Type 0 where
  pub before : ℕ
  pub earlier : List Placed
  pub it : LayoutItem
  pub scanned : scan s edition k ≡ going before earlier
  pub read : ItemRead s edition earlier before it at
  pub placed_is : ps ≡ place_item before earlier it

module _ (s : List ℕ) (edition : ℕ) where
  field_placed : (k before : ℕ) (earlier : List Placed) → scan s edition k ≡ going before earlier → (c : Cut) → cut_at s before ≡ c
      → (v : ℕ) → judge (item_tests edition earlier) s c ≡ v → (at : ℕ) (ps : List Placed) → go_on v before (place_field s before earlier c) ≡ going at ps
      → Extended s edition k at ps
  field_placed k b qs ek absent ec zero ej at ps e = absurd (omega arith)
  field_placed k b qs ek absent ec (suc v) ej at ps e = let z : ◌≡◌ {A = ℕ} 0 1 = cc in absurd (omega arith)
  field_placed k b qs ek short ec zero ej at ps e = absurd (omega arith)
  field_placed k b qs ek short ec (suc v) ej at ps e = let z : ◌≡◌ {A = ℕ} 0 1 = cc in absurd (omega arith)
  field_placed k b qs ek (field tag start len next) ec (suc v) ej at ps e = let z : ◌≡◌ {A = ℕ} 0 1 = cc in absurd (omega arith)
  field_placed k b qs ek (field tag start len next) ec zero ej at ps e =
      let n : next ≡ at = cc in
      record {
        before = b;
        earlier = qs;
        it = item_in tag (content_at s start len);
        scanned = ek;
        read = record { tag = tag; start = start; len = len; whole = cc; item_is = refl; sound = ej };
        placed_is = cc;
      }

  pub scan_extended : (k at : ℕ) (ps : List Placed) → scan s edition (suc k) ≡ going at ps → Extended s edition k at ps
  unfolding scan
  scan_extended k at ps e = go (scan s edition k) refl e
    where
      go : (r : Scan) → scan s edition k ≡ r → scan_item s edition r ≡ going at ps → Extended s edition k at ps
      go (stopped v o) ek h = let z : ◌≡◌ {A = ℕ} 0 1 = cc in absurd (omega arith)
      go (going b qs) ek h =
          field_placed k b qs ek (cut_at s b) refl (judge (item_tests edition qs) s (cut_at s b)) refl at ps h

  -- how many, and how far
  pub scan_length : (k at : ℕ) (ps : List Placed) → scan s edition k ≡ going at ps → length ps ≡ k
  unfolding scan
  scan_length zero at ps e = let n : ps ≡ [] = cc in ap length n
  scan_length (suc k) at ps e =
      let x = scan_extended k at ps e in
      let n = scan_length k x.before x.earlier x.scanned in
      rw x.placed_is (omega (arith, length-append x.earlier (placed x.before x.it (item_level x.earlier x.it) ∷ [])))

-- an element of a list with one more at its end: the default of the shorter is the one more
get_d_snoc : {A : Type 0} (xs : List A) (b d : A) (j : ℕ) → j ≤ length xs → get_or (xs ++ (b ∷ [])) j d ≡ get_or xs j b
get_d_snoc [] b d zero h = refl
get_d_snoc [] b d (suc j) h = absurd (omega arith)
get_d_snoc (x ∷ xs) b d zero h = refl
get_d_snoc (x ∷ xs) b d (suc j) h = get_d_snoc xs b d j (omega arith)

pub map-append : {A B : Type 0} (f : A → B) (xs ys : List A) → map f (xs ++ ys) ≡ map f xs ++ map f ys
map-append f [] ys = refl
map-append f (x ∷ xs) ys = ap (λ l. f x ∷ l) (map-append f xs ys)

offset_snoc : (at : ℕ) (ps : List Placed) (p : Placed) (j : ℕ) → j ≤ length ps → offset_from at (ps ++ (p ∷ [])) j ≡ offset_from p.offset ps j
offset_snoc at ps p j h =
    rw (map-append (λ q. q.offset) ps (p ∷ []))
    (get_d_snoc (map (λ q. q.offset) ps) p.offset at j (omega (arith, length-map ps (λ q. q.offset))))

offset_end : (at : ℕ) (ps : List Placed) → offset_from at ps (length ps) ≡ at
offset_end at ps = get_or-eq_default (map (λ q. q.offset) ps) at (omega (arith, length-map ps (λ q. q.offset)))

pub offset_placed : (at : ℕ) (ps : List Placed) (j : ℕ) → j < length ps → offset_from at ps j ≡ (placed_at ps j).offset
offset_placed at [] j h = absurd (omega arith)
offset_placed at (p ∷ ps) zero h = refl
offset_placed at (p ∷ ps) (suc j) h = offset_placed at ps j (omega arith)

-- A scan of fewer items is a prefix.
module _ (s : List ℕ) (edition : ℕ) where
  whole_prefix : (k at : ℕ) (ps : List Placed) → scan s edition k ≡ going at ps → scan s edition k ≡ going (offset_from at ps k) (take k ps)
  whole_prefix k at ps e =
      let n = scan_length s edition k at ps e in
      let o : offset_from at ps k ≡ at = ap (offset_from at ps) (sym n) ∙ offset_end at ps in
      let t : take k ps ≡ ps = take_all k ps (omega arith) in
      cc

  pub scan_prefix : (k at : ℕ) (ps : List Placed) → scan s edition k ≡ going at ps → (j : ℕ) → j ≤ k
      → scan s edition j ≡ going (offset_from at ps j) (take j ps)
  scan_prefix zero at ps e j h = let z : j ≡ 0 = omega arith in rw z (whole_prefix zero at ps e)
  scan_prefix (suc k) at ps e j h = go x (scan_prefix k x.before x.earlier x.scanned j) (dec_le j k)
    where
      x : Extended s edition k at ps
      x = scan_extended s edition k at ps e

      go : (x : Extended s edition k at ps) → (j ≤ k → scan s edition j ≡ going (offset_from x.before x.earlier j) (take j x.earlier))
          → Dec (j ≤ k) → scan s edition j ≡ going (offset_from at ps j) (take j ps)
      go x ih (yes l) =
          let n = scan_length s edition k x.before x.earlier x.scanned in
          let one : Placed = placed x.before x.it (item_level x.earlier x.it) in
          let o : offset_from at (x.earlier ++ (one ∷ [])) j ≡ offset_from x.before x.earlier j = offset_snoc at x.earlier one j (omega arith) in
          let t : take j (x.earlier ++ (one ∷ [])) ≡ take j x.earlier = take-append-le j x.earlier (one ∷ []) (omega arith) in
          rw (x.placed_is, o, t) (ih l)
      go x ih (no l) = let z : j ≡ suc k = omega arith in rw z (whole_prefix (suc k) at ps e)

  -- a scan that stopped stays so
  pub scan_stopped : (k d number offset : ℕ) → scan s edition k ≡ stopped number offset → scan s edition (d + k) ≡ stopped number offset
  unfolding scan
  scan_stopped k zero v o e = rw (zero-add k) e
  scan_stopped k (suc d) v o e = rw (suc-add d k, scan, scan_stopped k d v o e)

  -- item j: its field, its item, its level, its tests
  pub record ItemAt (at : ℕ) (ps : List Placed) (j : ℕ) : Type 0 where
    pub read : ItemRead s edition (take j ps) (offset_from at ps j) (placed_at ps j).item (offset_from at ps (suc j))
    pub level_is : (placed_at ps j).level ≡ item_level (take j ps) (placed_at ps j).item

  pub scan_item_lem : (k at : ℕ) (ps : List Placed) → scan s edition k ≡ going at ps → (j : ℕ) → j < k → ItemAt at ps j
  scan_item_lem k at ps e j h =
      let x = scan_extended s edition j (offset_from at ps (suc j)) (take (suc j) ps) (scan_prefix k at ps e (suc j) h) in
      let q = scan_prefix k at ps e j (omega arith) in
      let b : x.before ≡ offset_from at ps j = cc in
      let l : x.earlier ≡ take j ps = cc in
      let n = scan_length s edition j x.before x.earlier x.scanned in
      let one : Placed = placed x.before x.it (item_level x.earlier x.it) in
      let g = get_or-take (suc j) ps j (placed 0 (entry_field []) 0) (omega arith) in
      let f = get_or_at x.earlier one [] (placed 0 (entry_field []) 0) j n in
      let o : placed_at ps j ≡ one = sym g ∙ ap (λ r. placed_at r j) x.placed_is ∙ f in
      let i : (placed_at ps j).item ≡ x.it = ap (λ p. p.item) o in
      record { read = rw (← l, ← b, i) x.read; level_is = rw (o, ← l) }

-- Where a scan stopped: at an item whose field was judged at fault, after items that were read.
pub record Faulted (s : List ℕ) (edition n number offset : ℕ) : Type 0 where
  pub at_item : ℕ
  pub below : at_item < n
  pub read : List Placed
  pub scanned : scan s edition at_item ≡ going offset read
  pub judged : judge (item_tests edition read) s (cut_at s offset) ≡ number
  pub positive : 0 < number

module _ (s : List ℕ) (edition : ℕ) where
  field_faulted : (k number offset b : ℕ) (qs : List Placed) → scan s edition k ≡ going b qs → (c : Cut) → cut_at s b ≡ c
      → (v : ℕ) → judge (item_tests edition qs) s c ≡ v → go_on v b (place_field s b qs c) ≡ stopped number offset → Faulted s edition (suc k) number offset
  field_faulted k number offset b qs ek absent ec zero ej e = absurd (omega arith)
  field_faulted k number offset b qs ek short ec zero ej e = absurd (omega arith)
  field_faulted k number offset b qs ek (field tag start len next) ec zero ej e = let z : ◌≡◌ {A = ℕ} 0 1 = cc in absurd (omega arith)
  field_faulted k number offset b qs ek c ec (suc v) ej e =
      let n : suc v ≡ number = cc in
      let o : b ≡ offset = cc in
      record {
        at_item = k;
        below = omega arith;
        read = qs;
        scanned = rw o at ek;
        judged = rw (← o) (ap (judge (item_tests edition qs) s) ec ∙ ej ∙ n);
        positive = omega arith;
      }

  pub scan_faulted : (n number offset : ℕ) → scan s edition n ≡ stopped number offset → Faulted s edition n number offset
  unfolding scan
  scan_faulted zero number offset e = let z : ◌≡◌ {A = ℕ} 0 1 = cc in absurd (omega arith)
  scan_faulted (suc n) number offset e = go (scan s edition n) refl (scan_faulted n number offset) e
    where
      go : (r : Scan) → scan s edition n ≡ r → (scan s edition n ≡ stopped number offset → Faulted s edition n number offset)
          → scan_item s edition r ≡ stopped number offset → Faulted s edition (suc n) number offset
      go (stopped v o) er ih x =
          let f = ih (er ∙ x) in
          record {
            at_item = f.at_item;
            below = omega arith;
            read = f.read;
            scanned = f.scanned;
            judged = f.judged;
            positive = f.positive;
          }
      go (going b qs) er ih x =
          field_faulted n number offset b qs er (cut_at s b) refl (judge (item_tests edition qs) s (cut_at s b)) refl x

-- What it says that all tests of an item fail.

pub record Passes (edition : ℕ) (ps : List Placed) (tag : ℕ) (content : List ℕ) : Type 0 where
  pub tag_fits : (eqb tag entry_tag || eqb tag figure_tag) ≡ true
  pub name_fits : length_or_name tag content ≡ false
  pub rule_fits : rule_wrong edition (item_in tag content) ≡ false
  pub parents_fit : parent_wrong (length ps) (item_in tag content) ≡ false
  pub level_fits : level_wrong ps (item_in tag content) ≡ false

pub passes : (edition : ℕ) (ps : List Placed) (tag : ℕ) (content : List ℕ) → first_cause (item_tests edition ps tag content) ≡ 0
    → Passes edition ps tag content
unfolding item_tests
passes edition ps tag content e =
    let a = cause_none 1 _ _ e in
    let b = cause_none 2 _ _ a.1 in
    let c = cause_none 4 _ _ b.1 in
    let d = cause_none 5 _ _ c.1 in
    let f = cause_none 6 _ _ d.1 in
    record { tag_fits = not-false _ a.0; name_fits = b.0; rule_fits = c.0; parents_fit = d.0; level_fits = f.0 }

-- and the other way round
pub passes_back : (edition : ℕ) (ps : List Placed) (tag : ℕ) (content : List ℕ) → Passes edition ps tag content
    → first_cause (item_tests edition ps tag content) ≡ 0
unfolding item_tests first_cause
passes_back edition ps tag content p = simp (p.tag_fits, p.name_fits, p.rule_fits, p.parents_fit, p.level_fits)

-- a Bool test that all elements pass
pub and_left : (a b : Bool) → (a && b) ≡ true → a ≡ true
and_left true b e = refl
and_left false b e = e

pub and_right : (a b : Bool) → (a && b) ≡ true → b ≡ true
and_right true b e = e
and_right false b e = let z : ◌≡◌ {A = ℕ} 0 1 = cc in absurd (omega arith)

pub and_both : (a b : Bool) → a ≡ true → b ≡ true → (a && b) ≡ true
and_both a b e f = simp (e, f)

pub all_listed : (test : ℕ → Bool) (xs : List ℕ) → all test xs ≡ true → (x : ℕ) → Listed x xs → test x ≡ true
unfolding all
all_listed test [] e x q = absurd q
all_listed test (y ∷ ys) e x (inl q) = ap test q ∙ and_left (test y) (all test ys) e
all_listed test (y ∷ ys) e x (inr q) = all_listed test ys (and_right (test y) (all test ys) e) x q

pub all_by : (test : ℕ → Bool) (xs : List ℕ) → ((x : ℕ) → Listed x xs → test x ≡ true) → all test xs ≡ true
unfolding all
all_by test [] f = refl
all_by test (y ∷ ys) f = and_both (test y) (all test ys) (f y (inl refl)) (all_by test ys (λ x q. f x (inr q)))

-- What it says that a sheet opens: its first field, its items, its last field at the end.

pub record Opened (s : List ℕ) (edition : ℕ) (ps : List Placed) : Type 0 where
  -- the offset of the last field
  pub at : ℕ
  pub head : cut_at s 0 ≡ field head_tag header_length head_length head_next
  pub edition_is : edition_in (head_content s) ≡ edition
  pub edition_fits : edition_known edition ≡ true
  pub count_fits : count_allowed edition (count_in (head_content s)) ≡ true
  pub scanned : scan s edition (count_in (head_content s)) ≡ going at ps
  pub last : cut_at s at ≡ field last_tag (at + header_length) 0 (length s)

module _ (s : List ℕ) where
  -- the first field
  pub record HeadRead : Type 0 where
    pub head : cut_at s 0 ≡ field head_tag header_length head_length head_next
    pub edition_fits : edition_known (edition_in (head_content s)) ≡ true
    pub count_fits : count_allowed (edition_in (head_content s)) (count_in (head_content s)) ≡ true

  pub head_read : judge head_tests s (cut_at s 0) ≡ 0 → HeadRead
  unfolding head_tests
  head_read e = go (cut_at s 0) refl e
    where
      go : (c : Cut) → cut_at s 0 ≡ c → judge head_tests s c ≡ 0 → HeadRead
      go absent ec h = absurd (omega arith)
      go short ec h = absurd (omega arith)
      go (field tag start len next) ec h =
          let a = cause_none 1 _ _ h in
          let b = cause_none 2 _ _ a.1 in
          let c = cause_none 3 _ _ b.1 in
          let f = (field_iff s 0 tag start len next).0 ec in
          let t : tag ≡ head_tag = eqb-true tag head_tag (not-false _ a.0) in
          let n : length (content_at s start len) ≡ head_length = eqb-true _ head_length (not-false _ b.0) in
          let l : len ≡ head_length = omega (arith, content_length s 0 tag start len next f) in
          let st : start ≡ header_length = omega arith in
          let nx : next ≡ head_next = omega arith in
          let content : List ℕ = content_at s start len in
          let w : (edition_known (edition_in content) && count_allowed (edition_in content) (count_in content)) ≡ true = not-false _ c.0 in
          let same : content ≡ head_content s = ap₂ (content_at s) st l in
          let known : Bool = edition_known (edition_in (head_content s)) in
          let counted : Bool = count_allowed (edition_in (head_content s)) (count_in (head_content s)) in
          let w' : (known && counted) ≡ true = rw same at w in
          record { head = cc; edition_fits = and_left known counted w'; count_fits = and_right known counted w' }

  pub head_judged : HeadRead → judge head_tests s (cut_at s 0) ≡ 0
  unfolding head_tests first_cause
  head_judged r =
      let n : length (head_content s) ≡ head_length = content_length s 0 head_tag header_length head_length head_next ((field_iff s 0 head_tag header_length head_length head_next).0 r.head) in
      rw r.head (simp (eq-eqb (length (head_content s)) head_length n, r.edition_fits, r.count_fits))

  -- the last field, at its offset
  pub last_read : (at : ℕ) (ps : List Placed) (k : ℕ) (qs : List Placed) → scan_last s (going at ps) ≡ going k qs
      → (cut_at s at ≡ field last_tag (at + header_length) 0 (length s)) × (ps ≡ qs)
  unfolding last_tests
  last_read at ps k qs e = go (cut_at s at) refl (judge last_tests s (cut_at s at)) refl e
    where
      end : (next : ℕ) → next ≤ length s → (b : Bool) → ltb next (length s) ≡ b → cond b (stopped 2 next) (going next ps) ≡ going k qs → (next ≡ length s) × (ps ≡ qs)
      end next h true eb x = let z : ◌≡◌ {A = ℕ} 0 1 = cc in absurd (omega arith)
      end next h false eb x = (omega (arith, ltb-false next (length s) eb), cc)

      go : (c : Cut) → cut_at s at ≡ c → (v : ℕ) → judge last_tests s c ≡ v → go_on v at (scan_end s (after_last s c) ps) ≡ going k qs
          → (cut_at s at ≡ field last_tag (at + header_length) 0 (length s)) × (ps ≡ qs)
      go absent ec zero h x = absurd (omega arith)
      go absent ec (suc v) h x = let z : ◌≡◌ {A = ℕ} 0 1 = cc in absurd (omega arith)
      go short ec zero h x = absurd (omega arith)
      go short ec (suc v) h x = let z : ◌≡◌ {A = ℕ} 0 1 = cc in absurd (omega arith)
      go (field tag start len next) ec (suc v) h x = let z : ◌≡◌ {A = ℕ} 0 1 = cc in absurd (omega arith)
      go (field tag start len next) ec zero h x =
          let a = cause_none 1 _ _ h in
          let b = cause_none 2 _ _ a.1 in
          let f = (field_iff s at tag start len next).0 ec in
          let t : tag ≡ last_tag = eqb-true tag last_tag (not-false _ a.0) in
          let n : length (content_at s start len) ≡ 0 = eqb-true _ 0 (not-false _ b.0) in
          let l : len ≡ 0 = omega (arith, content_length s at tag start len next f) in
          let st : start ≡ at + header_length = omega arith in
          let y = end next f.next_in (ltb next (length s)) refl x in
          let y0 = y.0 in
          (cc, y.1)

  pub last_scanned : (at : ℕ) (ps : List Placed) → cut_at s at ≡ field last_tag (at + header_length) 0 (length s) → scan_last s (going at ps) ≡ going (length s) ps
  unfolding last_tests first_cause
  last_scanned at ps e = rw e (simp (le-ltb (length s) (length s) (omega arith)))

  pub opened : (edition : ℕ) (ps : List Placed) → read_sheet s ≡ opens edition ps → Opened s edition ps
  unfolding read_sheet scan_sheet
  opened edition ps e = go (judge head_tests s (cut_at s 0)) refl (scan s (edition_in (head_content s)) (count_in (head_content s))) refl e
    where
      fin : HeadRead → (at k : ℕ) (qs : List Placed) → scan s (edition_in (head_content s)) (count_in (head_content s)) ≡ going at qs
          → (r : Scan) → scan_last s (going at qs) ≡ r → conclude (edition_in (head_content s)) r ≡ opens edition ps → Opened s edition ps
      fin h at k qs es (stopped v o) l x = let z : ◌≡◌ {A = ℕ} 0 1 = cc in absurd (omega arith)
      fin h at k qs es (going m rs) l x =
          let d = last_read at qs m rs l in
          let ed : edition_in (head_content s) ≡ edition = cc in
          let q = d.1 in
          let p : qs ≡ ps = cc in
          record {
            at = at;
            head = h.head;
            edition_is = ed;
            edition_fits = rw ed at h.edition_fits;
            count_fits = rw ed at h.count_fits;
            scanned = rw (ed, p) at es;
            last = d.0;
          }

      go : (v : ℕ) → judge head_tests s (cut_at s 0) ≡ v → (r : Scan) → scan s (edition_in (head_content s)) (count_in (head_content s)) ≡ r
          → conclude (edition_in (head_content s)) (go_on v 0 (scan_last s r)) ≡ opens edition ps → Opened s edition ps
      go (suc v) ev r er x = let z : ◌≡◌ {A = ℕ} 0 1 = cc in absurd (omega arith)
      go zero ev (stopped k o) er x = let z : ◌≡◌ {A = ℕ} 0 1 = cc in absurd (omega arith)
      go zero ev (going at qs) er x = fin (head_read ev) at 0 qs er (scan_last s (going at qs)) refl x

  pub opens_back : (edition : ℕ) (ps : List Placed) → Opened s edition ps → read_sheet s ≡ opens edition ps
  unfolding read_sheet scan_sheet
  opens_back edition ps o =
      let ed = o.edition_is in
      let h : HeadRead = record { head = o.head; edition_fits = rw ed o.edition_fits; count_fits = rw ed o.count_fits } in
      rw (head_judged h, ed, o.scanned, last_scanned o.at ps o.last)

-- What a sheet that opens says of its items, as they were written and as the machine sees them.

-- item j passed its tests
pub record ItemFits (edition : ℕ) (ps : List Placed) (j : ℕ) : Type 0 where
  pub rule_fits : rule_wrong edition (placed_at ps j).item ≡ false
  pub parents_fit : parent_wrong j (placed_at ps j).item ≡ false
  pub level_is : (placed_at ps j).level ≡ item_level (take j ps) (placed_at ps j).item
  pub level_fits : (placed_at ps j).level ≤ level_limit

pub scan_fits : (s : List ℕ) (edition k at : ℕ) (ps : List Placed) → scan s edition k ≡ going at ps → (j : ℕ) → j < k → ItemFits edition ps j
scan_fits s edition k at ps e j h =
    let a = scan_item_lem s edition k at ps e j h in
    let r = a.read in
    let n = scan_length s edition k at ps e in
    let m : length (take j ps) ≡ j = length-take-le j ps (omega arith) in
    let p = passes edition (take j ps) r.tag (content_at s r.start r.len) r.sound in
    let l : ltb level_limit (item_level (take j ps) (placed_at ps j).item) ≡ false = rw r.item_is p.level_fits in
    let below : parent_wrong (length (take j ps)) (placed_at ps j).item ≡ false = rw r.item_is p.parents_fit in
    record {
      rule_fits = rw r.item_is p.rule_fits;
      parents_fit = ap (λ n. parent_wrong n (placed_at ps j).item) (sym m) ∙ below;
      level_is = a.level_is;
      level_fits = omega (arith, ltb-false level_limit (item_level (take j ps) (placed_at ps j).item) l);
    }

pub machine_item_lem : (edition : ℕ) (ps : List Placed) (i : ℕ) → item_at (machine_sheet (layout_of edition ps)) i ≡ machine_item (placed_at ps i).item
unfolding machine_item
machine_item_lem edition ps i =
    get_or-map machine_item (map (λ p. p.item) ps) i (entry_field []) ∙ ap machine_item (get_or-map (λ p. p.item) ps i (placed 0 (entry_field []) 0))

pub parent_below : (i p : ℕ) (it : LayoutItem) → parent_wrong i it ≡ false → Listed p (parents_of (machine_item it)) → p < i
unfolding machine_item
parent_below i p (entry_field name) e l = absurd l
parent_below i p (figure_field rule keep spread parents name) e l =
    ltb-true p i (all_listed (λ q. ltb q i) parents (not-false _ e) p l)

entry_listed : (p : ℕ) (name : List ℕ) → Listed p (parents_of (machine_item (entry_field name))) → ⊥
unfolding machine_item
entry_listed p name l = l

pub allowed_operation : (rule p : ℕ) → rule_allowed rule p ≡ true → (op : Operation) × (operation_of rule p ≡ some op)
allowed_operation rule p e = go (operation_of rule p) refl e
  where
    go : (o : Option Operation) → operation_of rule p ≡ o → is_some o ≡ true → (op : Operation) × (operation_of rule p ≡ some op)
    go none q h = let z : ◌≡◌ {A = ℕ} 0 1 = cc in absurd (omega arith)
    go (some op) q h = (op, q)

-- an item's number fits in two bytes
pub most_small : most_items < 65_536
unfolding most_items item_limit
most_small = omega arith

-- no edition has more items than the most of any
pub limit_most : (edition : ℕ) → item_limit edition ≤ most_items
unfolding item_limit most_items
limit_most edition = go (eqb edition 1) refl
  where
    go : (b : Bool) → eqb edition 1 ≡ b → item_limit edition ≤ most_items
    go true e = rw e (omega arith)
    go false e = rw e (omega arith)

pub allowed_limit : (edition n : ℕ) → count_allowed edition n ≡ true → (1 ≤ n) × (n ≤ item_limit edition)
unfolding count_allowed
allowed_limit edition n e =
    (leb-true 1 n (and_left (leb 1 n) (leb n (item_limit edition)) e), leb-true n (item_limit edition) (and_right (leb 1 n) (leb n (item_limit edition)) e))

module _ (s : List ℕ) (edition : ℕ) (ps : List Placed) (e : read_sheet s ≡ opens edition ps) where
  pub opened_length : length ps ≡ count_in (head_content s)
  opened_length = let o = opened s edition ps e in scan_length s edition (count_in (head_content s)) o.at ps o.scanned

  pub opened_limit : (1 ≤ length ps) × (length ps ≤ item_limit edition)
  opened_limit = rw opened_length (allowed_limit edition (count_in (head_content s)) (opened s edition ps e).count_fits)

  pub opened_count : (1 ≤ length ps) × (length ps ≤ most_items)
  opened_count = (opened_limit.0, omega (arith, opened_limit, limit_most edition))

  pub opened_fits : (j : ℕ) → j < length ps → ItemFits edition ps j
  opened_fits j h =
      let o = opened s edition ps e in
      scan_fits s edition (count_in (head_content s)) o.at ps o.scanned j (omega (arith, opened_length))

  -- each parent is a lower item number
  pub opened_ordered : Ordered (machine_sheet (layout_of edition ps))
  opened_ordered i p l = go (dec_lt i (length ps)) (rw (machine_item_lem edition ps i) at l)
    where
      go : Dec (i < length ps) → Listed p (parents_of (machine_item (placed_at ps i).item)) → p < i
      go (yes h) q = parent_below i p (placed_at ps i).item (opened_fits i h).parents_fit q
      go (no h) q =
          let d : placed_at ps i ≡ placed 0 (entry_field []) 0 = get_or-eq_default ps (placed 0 (entry_field []) 0) (omega arith) in
          absurd (entry_listed p [] (rw d at q))
