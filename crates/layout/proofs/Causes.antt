-- A sheet is turned back with a number and an offset exactly if they are those of its first fault, and opens exactly if it has
-- none. Assumes nothing.
use mathlib.Core.Path.{◌≡◌, refl, sym, ap, ap₂, ◌∙◌, subst}
use mathlib.Core.Bool.{Bool, true, false, cond, not, ◌&&◌, ◌||◌}
use mathlib.Core.List.{List, []}
use mathlib.Core.Logic.{◌⊎◌, inl, inr, ⊎_elim, ◌↔◌}
use Prim.Native.Nat.{ℕ, zero, suc, ◌+◌, ◌≤◌, ◌<◌}
use native.Mathlib.Omega.{arith}
use native.Mathlib.Decide.{dec_le, dec_lt, ℕ_discrete}
use lib.Dec.{eqb, ltb}
use lib.ListN.{length, get_or, take, drop}
use lib.Seq.{get_or-take, get_or-drop}
use Rattle.layout.specs.Opened.{levels_of}
use Rattle.field.specs.Field.{Cut, absent, short, field, cut_at, le16, len_at, header_length}
use Rattle.field.proofs.Cutting.{Cutting, at_end, no_header, no_content, whole, cutting, field_iff, content_length}
use Rattle.circuit.specs.Calls.{Test, first_cause}
use Rattle.layout.specs.Layout.{head_tag, entry_tag, figure_tag, level_limit, edition_known, count_allowed, last_tag, head_length}
use Rattle.layout.specs.Content.{content_at, edition_in, count_in, item_in}
use Rattle.layout.specs.Read.{Placed, item_level, length_or_name, parent_wrong, level_wrong, head_tests, item_tests, last_tests, judge, Scan, going, stopped, go_on, head_next, scan, after_last}
use Rattle.layout.specs.Read.{scan_end, scan_last, head_content, scan_sheet, SheetRead, opens, refused, conclude, read_sheet}
use Rattle.layout.specs.Causes.{Place, first, item, last, after, field_offset, edition_of, item_count, field_number, InSheet, Before, offset_of, tag_of, length_of, content_of, levels_before}
use Rattle.layout.specs.Causes.{item_level_of, NotWhole, RunsPastOrAbsent, WrongTagOrTrailing, WrongLengthOrName, WrongItemLength, WrongEditionOrCount, WrongRuleKeepSpreadOrCount}
use Rattle.layout.specs.Causes.{ParentNotBelow, LevelAbove, CauseAt, cause1, cause2, cause3, cause4, cause5, cause6, cause7, Sound, Faultless, FirstFault}
use Rattle.layout.proofs.Scan.{Extended, scan_extended, scan_length, scan_prefix, head_read, Faulted, scan_faulted, offset_from}
use Rattle.layout.proofs.Exactly.{level_after_lem, levels_snoc, scan_none}
use Rattle.layout.proofs.Tests.{Tells, holds, fails, tells_if, tells_or, tells_not, tells_eq, tells_lt, refutes_tells, refutes_edition, tells_length, tells_wrong_figure, tells_parents}

-- The lowest cause from a number on.

-- the rows are numbered 1 to 7
cause_number : (s : List ℕ) (p : Place) (k : ℕ) → CauseAt s p k → (1 ≤ k) × (k ≤ 7)
cause_number s p k (cause1 x) = omega arith
cause_number s p k (cause2 x) = omega arith
cause_number s p k (cause3 x) = omega arith
cause_number s p k (cause4 x) = omega arith
cause_number s p k (cause5 x) = omega arith
cause_number s p k (cause6 x) = omega arith
cause_number s p k (cause7 x) = omega arith

-- `Lowest s p m k`: k is the lowest number from m on whose cause holds at p, or 0 where there is none
data Lowest (s : List ℕ) (p : Place) (m : ℕ) : ℕ → Type 0 where
  nothing : ((j : ℕ) → m ≤ j → ¬ CauseAt s p j) → Lowest s p m 0
  found : {k : ℕ} → CauseAt s p k → m ≤ k → ((j : ℕ) → m ≤ j → j < k → ¬ CauseAt s p j) → Lowest s p m k

module _ (s : List ℕ) (p : Place) where
  beyond : Lowest s p 8 0
  beyond = nothing (λ j h c. omega (arith, cause_number s p j c))

  skip : (m k : ℕ) → ¬ CauseAt s p m → Lowest s p (suc m) k → Lowest s p m k
  skip m k n (nothing f) = nothing (λ j h c. go j h c (ℕ_discrete j m))
    where
      go : (j : ℕ) → m ≤ j → CauseAt s p j → Dec (j ≡ m) → ⊥
      go j h c (yes e) = n (subst (CauseAt s p) e c)
      go j h c (no e) = f j (omega arith) c
  skip m k n (found c l f) = found c (omega arith) (λ j h b d. go j h b d (ℕ_discrete j m))
    where
      go : (j : ℕ) → m ≤ j → j < k → CauseAt s p j → Dec (j ≡ m) → ⊥
      go j h b d (yes e) = n (subst (CauseAt s p) e d)
      go j h b d (no e) = f j (omega arith) b d

  -- the test of number m first
  next : (m k : ℕ) (b : Bool) → Tells (CauseAt s p m) b → (¬ CauseAt s p m → Lowest s p (suc m) k) → Lowest s p m (cond b m k)
  next m k true (holds c) f = found c (omega arith) (λ j h l d. omega arith)
  next m k false (fails n) f = skip m k n (f n)

  sound_of : Lowest s p 1 0 → Sound s p
  sound_of (nothing f) j c = f j (cause_number s p j c).0 c
  sound_of (found c l f) j d = omega (arith, cause_number s p 0 c)

  fault_of : (k : ℕ) → Lowest s p 1 (suc k) → CauseAt s p (suc k)
  fault_of k (found c l f) = c

  lowest_of : (k : ℕ) → Lowest s p 1 (suc k) → (j : ℕ) → j < suc k → ¬ CauseAt s p j
  lowest_of k (found c l f) j h d = f j (cause_number s p j d).0 h d

  -- what the rows say
  row2 : CauseAt s p 2 → WrongTagOrTrailing s p
  row2 (cause2 x) = x

  row3 : CauseAt s p 3 → WrongLengthOrName s p
  row3 (cause3 x) = x

  row4 : CauseAt s p 4 → WrongEditionOrCount s p
  row4 (cause4 x) = x

  row5 : CauseAt s p 5 → WrongRuleKeepSpreadOrCount s p
  row5 (cause5 x) = x

  row6 : CauseAt s p 6 → ParentNotBelow s p
  row6 (cause6 x) = x

  row7 : CauseAt s p 7 → LevelAbove s p
  row7 (cause7 x) = x

  row1 : CauseAt s p 1 → RunsPastOrAbsent s p
  row1 (cause1 x) = x

-- The verdict on each place.

not_whole : (s : List ℕ) (at : ℕ) → at + header_length + len_at s at ≤ length s → ¬ NotWhole s at
not_whole s at h (inl l) = omega arith
not_whole s at h (inr (inl l)) = omega arith
not_whole s at h (inr (inr l)) = omega arith

-- a place where a field is expected: cause 1, else the tests of a whole field
field_verdict : (s : List ℕ) (p : Place) (at : ℕ) (tests : ℕ → List ℕ → List Test)
    → (NotWhole s at → RunsPastOrAbsent s p) → (RunsPastOrAbsent s p → NotWhole s at)
    → (at + header_length + len_at s at ≤ length s → Lowest s p 2 (first_cause (tests (get_or s at 0) (content_at s (at + header_length) (len_at s at)))))
    → Lowest s p 1 (judge tests s (cut_at s at))
field_verdict s p at tests f g t = go (cut_at s at) (cutting s at)
  where
    past : NotWhole s at → Lowest s p 1 1
    past x = found (cause1 (f x)) (omega arith) (λ j h l d. omega arith)

    go : (c : Cut) → Cutting s at c → Lowest s p 1 (judge tests s c)
    go absent (at_end h) = past (inr (inr h))
    go short (no_header h k) = past (inl k)
    go short (no_content h k) = past (inr (inl k))
    go (field tag start len next) (whole h) = skip s p 1 _ (λ c. not_whole s at h (g (row1 s p c))) (t h)

-- what the content of a whole field has for a length
pub whole_length : (s : List ℕ) (at : ℕ) → at + header_length + len_at s at ≤ length s → length (content_at s (at + header_length) (len_at s at)) ≡ len_at s at
whole_length s at h =
    content_length s at (get_or s at 0) (at + header_length) (len_at s at) (at + header_length + len_at s at)
    (record { tag_is = refl; len_is = refl; start_is = refl; next_is = refl; next_in = h })

-- the last field
last_verdict : (s : List ℕ) → Lowest s last 1 (judge last_tests s (cut_at s (offset_of s last)))
unfolding last_tests first_cause
last_verdict s = field_verdict s last (offset_of s last) last_tests (λ x. x) (λ x. x) tests
  where
    tests : offset_of s last + header_length + len_at s (offset_of s last) ≤ length s
        → Lowest s last 2 (first_cause (last_tests (tag_of s last) (content_of s last)))
    tests h =
        let t3 : Tells (WrongLengthOrName s last) (not (eqb (length (content_of s last)) 0)) =
        rw (whole_length s (offset_of s last) h) (tells_not (refutes_tells (tells_eq (length_of s last) 0))) in
        next s last 2 _ _ (tells_if cause2 (row2 s last) (tells_not (refutes_tells (tells_eq (tag_of s last) last_tag)))) λ n2.
        next s last 3 _ _ (tells_if cause3 (row3 s last) t3) λ n3.
        skip s last 4 0 (row4 s last)
        (skip s last 5 0 (row5 s last)
        (skip s last 6 0 (row6 s last)
        (skip s last 7 0 (row7 s last) (beyond s last))))

-- the first field
head_same : (s : List ℕ) (k : ℕ) → k < head_length → get_or (head_content s) k 0 ≡ get_or s (header_length + k) 0
head_same s k h = get_or-take head_length (drop header_length s) k 0 h ∙ get_or-drop header_length s k 0

pub edition_same : (s : List ℕ) → edition_in (head_content s) ≡ edition_of s
edition_same s = ap₂ le16 (head_same s 0 (omega arith)) (head_same s 1 (omega arith))

pub count_same : (s : List ℕ) → count_in (head_content s) ≡ item_count s
count_same s = ap₂ le16 (head_same s 2 (omega arith)) (head_same s 3 (omega arith))

abbrev head_counted : List ℕ → Bool
head_counted content = edition_known (edition_in content) && count_allowed (edition_in content) (count_in content)

head_counted_lem : (s : List ℕ) → ¬ (¬ (len_at s 0 ≡ head_length)) → Tells (WrongEditionOrCount s first) (not (head_counted (content_at s header_length (len_at s 0))))
head_counted_lem s n = go (ℕ_discrete (len_at s 0) head_length)
  where
    go : Dec (len_at s 0 ≡ head_length) → Tells (WrongEditionOrCount s first) (not (head_counted (content_at s header_length (len_at s 0))))
    go (yes e) = rw (ap (content_at s header_length) e, edition_same s, count_same s) (tells_not (refutes_edition (edition_of s) (item_count s)))
    go (no e) = absurd (n e)

first_verdict : (s : List ℕ) → Lowest s first 1 (judge head_tests s (cut_at s 0))
unfolding head_tests first_cause field_offset
first_verdict s = field_verdict s first 0 head_tests (λ x. x) (λ x. x) tests
  where
    tests : 0 + header_length + len_at s 0 ≤ length s → Lowest s first 2 (first_cause (head_tests (get_or s 0 0) (content_at s header_length (len_at s 0))))
    tests h =
        let content : List ℕ = content_at s header_length (len_at s 0) in
        let t3 : Tells (WrongLengthOrName s first) (not (eqb (length content) head_length)) =
        rw (whole_length s 0 h) (tells_not (refutes_tells (tells_eq (len_at s 0) head_length))) in
        next s first 2 _ _ (tells_if cause2 (row2 s first) (tells_not (refutes_tells (tells_eq (get_or s 0 0) head_tag)))) λ n2.
        next s first 3 _ _ (tells_if cause3 (row3 s first) t3) λ n3.
        next s first 4 0 _ (tells_if cause4 (row4 s first) (head_counted_lem s (λ x. n3 (cause3 x)))) λ n4.
        skip s first 5 0 (row5 s first)
        (skip s first 6 0 (row6 s first)
        (skip s first 7 0 (row7 s first) (beyond s first)))

tells_neither : (tag : ℕ) → Tells ((¬ (tag ≡ entry_tag)) × (¬ (tag ≡ figure_tag))) (not (eqb tag entry_tag || eqb tag figure_tag))
tells_neither tag =
    tells_if (λ n. (λ e. n (inl e), λ e. n (inr e))) (λ n. ⊎_elim n.0 n.1) (tells_not (refutes_tells (tells_or (tells_eq tag entry_tag) (tells_eq tag figure_tag))))

one_of_two : (tag : ℕ) → ¬ ((¬ (tag ≡ entry_tag)) × (¬ (tag ≡ figure_tag))) → (tag ≡ entry_tag) ⊎ (tag ≡ figure_tag)
one_of_two tag n = go (ℕ_discrete tag entry_tag) (ℕ_discrete tag figure_tag)
  where
    go : Dec (tag ≡ entry_tag) → Dec (tag ≡ figure_tag) → (tag ≡ entry_tag) ⊎ (tag ≡ figure_tag)
    go (yes e) d = inl e
    go (no e) (yes f) = inr f
    go (no e) (no f) = absurd (n (e, f))

item_length : (s : List ℕ) (i : ℕ) → offset_of s (item i) + header_length + len_at s (offset_of s (item i)) ≤ length s
    → (tag_of s (item i) ≡ entry_tag) ⊎ (tag_of s (item i) ≡ figure_tag) → Tells (WrongLengthOrName s (item i)) (length_or_name (tag_of s (item i)) (content_of s (item i)))
item_length s i h t =
    subst (λ n. Tells (WrongItemLength (tag_of s (item i)) n (content_of s (item i))) (length_or_name (tag_of s (item i)) (content_of s (item i))))
    (whole_length s (offset_of s (item i)) h)
    (tells_length (tag_of s (item i)) (content_of s (item i)) t)

-- the field of item i, after the items read
item_verdict : (s : List ℕ) (i : ℕ) (ps : List Placed) → length ps ≡ i → levels_of ps ≡ levels_before s i
    → Lowest s (item i) 1 (judge (item_tests (edition_of s) ps) s (cut_at s (offset_of s (item i))))
unfolding item_tests first_cause
item_verdict s i ps n l = field_verdict s (item i) (offset_of s (item i)) (item_tests (edition_of s) ps) (λ x. x) (λ x. x) tests
  where
    tests : offset_of s (item i) + header_length + len_at s (offset_of s (item i)) ≤ length s
        → Lowest s (item i) 2 (first_cause (item_tests (edition_of s) ps (tag_of s (item i)) (content_of s (item i))))
    tests h =
        let p : Place = item i in
        let tag : ℕ = tag_of s p in
        let content : List ℕ = content_of s p in
        let e : item_level_of s i ≡ item_level ps (item_in tag content) = rw (← l) (level_after_lem ps (item_in tag content)) in
        let t6 : Tells (ParentNotBelow s p) (parent_wrong (length ps) (item_in tag content)) = rw n (tells_parents i tag content) in
        let t7 : Tells (LevelAbove s p) (level_wrong ps (item_in tag content)) = rw e (tells_lt level_limit (item_level ps (item_in tag content))) in
        next s p 2 _ _ (tells_if cause2 (row2 s p) (tells_neither tag)) λ n2.
        next s p 3 _ _ (tells_if cause3 (row3 s p) (item_length s i h (one_of_two tag (λ x. n2 (cause2 x))))) λ n3.
        skip s p 4 _ (row4 s p)
        (next s p 5 _ _ (tells_if cause5 (row5 s p) (tells_wrong_figure (edition_of s) tag content)) λ n5.
        next s p 6 _ _ (tells_if cause6 (row6 s p) t6) λ n6.
        next s p 7 _ _ (tells_if cause7 (row7 s p) t7) λ n7.
        beyond s p)

-- what stands after the last field
after_verdict : (s : List ℕ) (b : Bool) → ltb (offset_of s after) (length s) ≡ b → Lowest s after 1 (cond b 2 0)
after_verdict s b e =
    skip s after 1 _ (row1 s after)
    (next s after 2 0 b (tells_if cause2 (row2 s after) (subst (Tells (offset_of s after < length s)) e (tells_lt (offset_of s after) (length s)))) λ n2.
    skip s after 3 0 (row3 s after)
    (skip s after 4 0 (row4 s after)
    (skip s after 5 0 (row5 s after)
    (skip s after 6 0 (row6 s after)
    (skip s after 7 0 (row7 s after) (beyond s after))))))

-- A scan stands where the fields stand, with their levels.

pub record Standing (s : List ℕ) (i at : ℕ) (ps : List Placed) : Type 0 where
  pub offset_is : at ≡ field_offset s (suc i)
  pub levels_are : levels_of ps ≡ levels_before s i

pub next_offset : (s : List ℕ) (k : ℕ) → field_offset s (suc k) ≡ field_offset s k + header_length + len_at s (field_offset s k)
unfolding field_offset
next_offset s k = refl

pub first_offset : (s : List ℕ) → field_offset s 0 ≡ 0
unfolding field_offset
first_offset s = refl

levels_none : (s : List ℕ) → levels_of [] ≡ levels_before s 0
unfolding levels_before
levels_none s = refl

module _ (s : List ℕ) (edition : ℕ) (is : edition ≡ edition_of s) (head : cut_at s 0 ≡ field head_tag header_length head_length head_next) where
  stands_one : (k at : ℕ) (ps : List Placed) (x : Extended s edition k at ps) → Standing s k x.before x.earlier → Standing s (suc k) at ps
  unfolding levels_before
  stands_one k at ps x st =
      let r = x.read in
      let f = (field_iff s x.before r.tag r.start r.len at).0 r.whole in
      let o = st.offset_is in
      let b : x.before ≡ offset_of s (item k) = o in
      let t : r.tag ≡ tag_of s (item k) = f.tag_is ∙ ap (λ n. get_or s n 0) b in
      let l : r.len ≡ length_of s (item k) = f.len_is ∙ ap (len_at s) b in
      let st' : r.start ≡ offset_of s (item k) + header_length = f.start_is ∙ ap (λ n. n + header_length) b in
      let i : x.it ≡ item_in (tag_of s (item k)) (content_of s (item k)) = r.item_is ∙ ap₂ item_in t (ap₂ (content_at s) st' l) in
      record {
        offset_is = f.next_is ∙ ap₂ ◌+◌ st' l ∙ sym (next_offset s (suc k));
        levels_are = ap levels_of x.placed_is ∙ levels_snoc x.before x.earlier x.it ∙ rw (st.levels_are, i);
      }

  pub stands : (k at : ℕ) (ps : List Placed) → scan s edition k ≡ going at ps → Standing s k at ps
  stands zero at ps e =
      let z = scan_none s edition in
      let a : head_next ≡ at = cc in
      let p : [] ≡ ps = cc in
      let l = ((field_iff s 0 head_tag header_length head_length head_next).0 head).len_is in
      let n = next_offset s 0 in
      let m : len_at s (field_offset s 0) ≡ len_at s 0 = ap (len_at s) (first_offset s) in
      record { offset_is = omega (arith, first_offset s); levels_are = rw (← p) (levels_none s) }
  stands (suc k) at ps e =
      let x = scan_extended s edition k at ps e in
      stands_one k at ps x (stands k x.before x.earlier x.scanned)

  -- the verdict on an item that a scan comes to
  scan_verdict : (i at : ℕ) (ps : List Placed) → scan s edition i ≡ going at ps → Lowest s (item i) 1 (judge (item_tests edition ps) s (cut_at s at))
  scan_verdict i at ps e =
      let st = stands i at ps e in
      rw (st.offset_is, is) (item_verdict s i ps (scan_length s edition i at ps e) st.levels_are)

  -- an item that was passed is sound
  passed_sound : (k at : ℕ) (ps : List Placed) → scan s edition k ≡ going at ps → (j : ℕ) → j < k → Sound s (item j)
  passed_sound k at ps e j h =
      let x = scan_extended s edition j (offset_from at ps (suc j)) (take (suc j) ps) (scan_prefix s edition k at ps e (suc j) h) in
      let v = scan_verdict j x.before x.earlier x.scanned in
      let r = x.read in
      let z : judge (item_tests edition x.earlier) s (cut_at s x.before) ≡ 0 = ap (judge (item_tests edition x.earlier) s) r.whole ∙ r.sound in
      sound_of s (item j) (subst (Lowest s (item j) 1) z v)

-- What reading a sheet finds: its first fault, or that there is none.
abbrev pub Finding : List ℕ → SheetRead → Type 0
Finding s (opens edition ps) = Faultless s
Finding s (refused k offset) = FirstFault s k offset

module _ (s : List ℕ) (first-sound : Sound s first) (head : cut_at s 0 ≡ field head_tag header_length head_length head_next) where
  abbrev ed : ℕ
  ed = edition_in (head_content s)

  abbrev n : ℕ
  n = count_in (head_content s)

  -- a fault at item i
  item_finding : (k offset : ℕ) → Faulted s ed n k offset → FirstFault s k offset
  item_finding zero offset f = absurd (omega arith)
  item_finding (suc k) offset f =
      let i : ℕ = f.at_item in
      let v : Lowest s (item i) 1 (suc k) = subst (Lowest s (item i) 1) f.judged (scan_verdict s ed (edition_same s) head i offset f.read f.scanned) in
      record {
        place = item i;
        in_sheet = omega (arith, count_same s);
        cause = fault_of s (item i) k v;
        lowest = lowest_of s (item i) k v;
        first_at_fault = earlier i (omega (arith, count_same s)) f.read f.scanned;
        offset_is = (stands s ed (edition_same s) head i offset f.read f.scanned).offset_is;
      }
    where
      earlier : (i : ℕ) → i < item_count s → (ps : List Placed) → scan s ed i ≡ going offset ps
          → (p : Place) → InSheet s p → Before s p (item i) → Sound s p
      earlier i h ps e first m b = first-sound
      earlier i h ps e (item j) m b = passed_sound s ed (edition_same s) head i offset ps e j (omega arith)
      earlier i h ps e last m b = absurd (omega arith)
      earlier i h ps e after m b = absurd (omega arith)

  -- after all items
  module _ (at : ℕ) (ps : List Placed) (e : scan s ed n ≡ going at ps) where
    items_sound : (i : ℕ) → i < item_count s → Sound s (item i)
    items_sound i h = passed_sound s ed (edition_same s) head n at ps e i (omega (arith, count_same s))

    last_offset : at ≡ offset_of s last
    last_offset = (stands s ed (edition_same s) head n at ps e).offset_is ∙ ap (λ k. field_offset s (suc k)) (count_same s)

    last_judged : (k : ℕ) → judge last_tests s (cut_at s at) ≡ k → Lowest s last 1 k
    last_judged k j = subst (Lowest s last 1) (ap (λ o. judge last_tests s (cut_at s o)) (sym last_offset) ∙ j) (last_verdict s)

    last_finding : (k : ℕ) → judge last_tests s (cut_at s at) ≡ suc k → FirstFault s (suc k) at
    last_finding k j =
        record {
          place = last;
          in_sheet = tt;
          cause = fault_of s last k (last_judged (suc k) j);
          lowest = lowest_of s last k (last_judged (suc k) j);
          first_at_fault = earlier;
          offset_is = last_offset;
        }
      where
        earlier : (p : Place) → InSheet s p → Before s p last → Sound s p
        earlier first m b = first-sound
        earlier (item i) m b = items_sound i m
        earlier last m b = absurd (omega arith)
        earlier after m b = absurd (omega arith)

    end_finding : judge last_tests s (cut_at s at) ≡ 0 → Finding s (conclude ed (scan_end s (after_last s (cut_at s at)) ps))
    end_finding j = go (cut_at s at) refl j
      where
        earlier : judge last_tests s (cut_at s at) ≡ 0 → (p : Place) → InSheet s p → Before s p after → Sound s p
        earlier q first m b = first-sound
        earlier q (item i) m b = items_sound i m
        earlier q last m b = sound_of s last (last_judged 0 q)
        earlier q after m b = absurd (omega arith)

        end : judge last_tests s (cut_at s at) ≡ 0 → (b : Bool) → ltb (offset_of s after) (length s) ≡ b
            → Finding s (conclude ed (cond b (stopped 2 (offset_of s after)) (going (offset_of s after) ps)))
        end q true eb =
            record {
              place = after;
              in_sheet = tt;
              cause = fault_of s after 1 (after_verdict s true eb);
              lowest = lowest_of s after 1 (after_verdict s true eb);
              first_at_fault = earlier q;
              offset_is = refl;
            }
        end q false eb = everywhere
          where
            everywhere : (p : Place) → InSheet s p → Sound s p
            everywhere first m = first-sound
            everywhere (item i) m = items_sound i m
            everywhere last m = sound_of s last (last_judged 0 q)
            everywhere after m = sound_of s after (after_verdict s false eb)

        go : (c : Cut) → cut_at s at ≡ c → judge last_tests s c ≡ 0 → Finding s (conclude ed (scan_end s (after_last s c) ps))
        go absent ec q = absurd (omega arith)
        go short ec q = absurd (omega arith)
        go (field tag start len next) ec q =
            let f = (field_iff s at tag start len next).0 ec in
            let o = last_offset in
            let l : len ≡ len_at s (offset_of s last) = f.len_is ∙ ap (len_at s) o in
            let x : next ≡ offset_of s after = omega (arith, next_offset s (suc (item_count s))) in
            let jz : judge last_tests s (cut_at s at) ≡ 0 = ap (judge last_tests s) ec ∙ q in
            rw x (end jz (ltb (offset_of s after) (length s)) refl)

pub finding : (s : List ℕ) → Finding s (read_sheet s)
unfolding read_sheet scan_sheet
finding s = go (judge head_tests s (cut_at s 0)) refl
  where
    at_last : Sound s first → cut_at s 0 ≡ field head_tag header_length head_length head_next → (at : ℕ) (ps : List Placed)
        → scan s (edition_in (head_content s)) (count_in (head_content s)) ≡ going at ps
        → (v : ℕ) → judge last_tests s (cut_at s at) ≡ v
        → Finding s (conclude (edition_in (head_content s)) (go_on v at (scan_end s (after_last s (cut_at s at)) ps)))
    at_last f h at ps e zero q = end_finding s f h at ps e q
    at_last f h at ps e (suc v) q = last_finding s f h at ps e v q

    items : Sound s first → cut_at s 0 ≡ field head_tag header_length head_length head_next → (r : Scan) → scan s (edition_in (head_content s)) (count_in (head_content s)) ≡ r
        → Finding s (conclude (edition_in (head_content s)) (scan_last s r))
    items f h (stopped k o) e = item_finding s f h k o (scan_faulted s (edition_in (head_content s)) (count_in (head_content s)) k o e)
    items f h (going at ps) e = at_last f h at ps e (judge last_tests s (cut_at s at)) refl

    at_first : (k : ℕ) → judge head_tests s (cut_at s 0) ≡ suc k → FirstFault s (suc k) 0
    at_first k q =
        let v : Lowest s first 1 (suc k) = subst (Lowest s first 1) q (first_verdict s) in
        record {
          place = first;
          in_sheet = tt;
          cause = fault_of s first k v;
          lowest = lowest_of s first k v;
          first_at_fault = λ p m b. absurd (omega arith);
          offset_is = sym (first_offset s);
        }

    go : (v : ℕ) → judge head_tests s (cut_at s 0) ≡ v
        → Finding s (conclude (edition_in (head_content s)) (go_on v 0 (scan_last s (scan s (edition_in (head_content s)) (count_in (head_content s))))))
    go (suc k) q = at_first k q
    go zero q =
        items (sound_of s first (subst (Lowest s first 1) q (first_verdict s))) (head_read s q).head (scan s (edition_in (head_content s)) (count_in (head_content s))) refl

-- A sheet has one first fault at most.

same_place : (s : List ℕ) (p q : Place) → InSheet s p → InSheet s q → field_number (item_count s) p ≡ field_number (item_count s) q → p ≡ q
same_place s first first a b e = refl
same_place s first (item j) a b e = absurd (omega arith)
same_place s first last a b e = absurd (omega arith)
same_place s first after a b e = absurd (omega arith)
same_place s (item i) first a b e = absurd (omega arith)
same_place s (item i) (item j) a b e = let z : i ≡ j = omega arith in ap item z
same_place s (item i) last a b e = absurd (omega arith)
same_place s (item i) after a b e = absurd (omega arith)
same_place s last first a b e = absurd (omega arith)
same_place s last (item j) a b e = absurd (omega arith)
same_place s last last a b e = refl
same_place s last after a b e = absurd (omega arith)
same_place s after first a b e = absurd (omega arith)
same_place s after (item j) a b e = absurd (omega arith)
same_place s after last a b e = absurd (omega arith)
same_place s after after a b e = refl

pub first_fault_unique : (s : List ℕ) (k k' o o' : ℕ) → FirstFault s k o → FirstFault s k' o' → (k ≡ k') × (o ≡ o')
first_fault_unique s k k' o o' f g =
    places (dec_lt (field_number (item_count s) f.place) (field_number (item_count s) g.place))
    (dec_lt (field_number (item_count s) g.place) (field_number (item_count s) f.place))
  where
    numbers : f.place ≡ g.place → Dec (k < k') → Dec (k' < k) → k ≡ k'
    numbers e (yes h) d = absurd (g.lowest k h (subst (λ p. CauseAt s p k) e f.cause))
    numbers e (no h) (yes l) = absurd (f.lowest k' l (subst (λ p. CauseAt s p k') (sym e) g.cause))
    numbers e (no h) (no l) = omega arith

    places : Dec (Before s f.place g.place) → Dec (Before s g.place f.place) → (k ≡ k') × (o ≡ o')
    places (yes h) d = absurd (g.first_at_fault f.place f.in_sheet h k f.cause)
    places (no h) (yes l) = absurd (f.first_at_fault g.place g.in_sheet l k' g.cause)
    places (no h) (no l) =
        let e : f.place ≡ g.place = same_place s f.place g.place f.in_sheet g.in_sheet (omega arith) in
        (numbers e (dec_lt k k') (dec_lt k' k), f.offset_is ∙ ap (offset_of s) e ∙ sym g.offset_is)

-- Number k with an offset is given exactly if k is the lowest cause of the first field at fault, and the offset that field's.
pub refused_exactly : (s : List ℕ) (k offset : ℕ) → (read_sheet s ≡ refused k offset) ↔ FirstFault s k offset
refused_exactly s k offset = (λ e. subst (Finding s) e (finding s), λ f. go f (read_sheet s) refl (finding s))
  where
    go : FirstFault s k offset → (r : SheetRead) → read_sheet s ≡ r → Finding s r → read_sheet s ≡ refused k offset
    go f (opens edition ps) e g = absurd (g f.place f.in_sheet k f.cause)
    go f (refused k' o') e g =
        let u = first_fault_unique s k' k o' offset g f in
        e ∙ ap₂ refused u.0 u.1

-- A sheet opens exactly if no cause holds at any place.
pub opens_faultless : (s : List ℕ) → ((edition : ℕ) × (ps : List Placed) × (read_sheet s ≡ opens edition ps)) ↔ Faultless s
opens_faultless s = (λ o. subst (Finding s) o.2 (finding s), λ f. go f (read_sheet s) refl (finding s))
  where
    go : Faultless s → (r : SheetRead) → read_sheet s ≡ r → Finding s r → (edition : ℕ) × (ps : List Placed) × (read_sheet s ≡ opens edition ps)
    go f (opens edition ps) e g = (edition, ps, e)
    go f (refused k o) e g = absurd (f g.place g.in_sheet k g.cause)

-- the numbers of sheets are 1 to 7
pub refused_number : (s : List ℕ) (k offset : ℕ) → read_sheet s ≡ refused k offset → (1 ≤ k) × (k ≤ 7)
refused_number s k offset e = let f = (refused_exactly s k offset).0 e in cause_number s f.place k f.cause

-- Where the fields before a place are whole, its offset lies within the sheet or at its end.

field_within : (s : List ℕ) (m : ℕ) → ¬ NotWhole s (field_offset s m) → field_offset s (suc m) ≤ length s
field_within s m n = go (dec_le (field_offset s (suc m)) (length s))
  where
    go : Dec (field_offset s (suc m) ≤ length s) → field_offset s (suc m) ≤ length s
    go (yes h) = h
    go (no h) = absurd (n (inr (inl (omega (arith, next_offset s m)))))

place_within : (s : List ℕ) (p : Place) → InSheet s p → ((q : Place) → InSheet s q → Before s q p → Sound s q) → offset_of s p ≤ length s
place_within s first m f = omega (arith, first_offset s)
place_within s (item zero) m f = field_within s 0 (λ x. f first tt (omega arith) 1 (cause1 x))
place_within s (item (suc i)) m f = field_within s (suc i) (λ x. f (item i) (omega arith) (omega arith) 1 (cause1 x))
place_within s last m f = go (item_count s) refl
  where
    go : (n : ℕ) → item_count s ≡ n → field_offset s (suc n) ≤ length s
    go zero e = field_within s 0 (λ x. f first tt (omega arith) 1 (cause1 x))
    go (suc i) e = field_within s (suc i) (λ x. f (item i) (omega arith) (omega arith) 1 (cause1 x))
place_within s after m f = field_within s (suc (item_count s)) (λ x. f last tt (omega arith) 1 (cause1 x))

-- No offset lies past the sheet's end.
pub refused_offset : (s : List ℕ) (k offset : ℕ) → read_sheet s ≡ refused k offset → offset ≤ length s
refused_offset s k offset e =
    let f = (refused_exactly s k offset).0 e in
    omega (arith, f.offset_is, place_within s f.place f.in_sheet f.first_at_fault)

-- An absent field has number 1, and its offset is the sheet's length.
pub absent_refused : (s : List ℕ) (k offset : ℕ) → read_sheet s ≡ refused k offset → length s ≤ offset → (k ≡ 1) × (offset ≡ length s)
absent_refused s k offset e h =
    let f = (refused_exactly s k offset).0 e in
    let w = refused_offset s k offset e in
    (go f.place f.offset_is f.cause f.lowest, omega arith)
  where
    not_above : (p : Place) → CauseAt s p k → ((j : ℕ) → j < k → ¬ CauseAt s p j) → RunsPastOrAbsent s p → k ≡ 1
    not_above p c l x = one (dec_lt 1 k)
      where
        one : Dec (1 < k) → k ≡ 1
        one (yes b) = absurd (l 1 b (cause1 x))
        one (no b) = omega (arith, cause_number s p k c)

    trailing : (j : ℕ) → CauseAt s after j → offset_of s after < length s
    trailing j (cause1 x) = absurd x
    trailing j (cause2 x) = x
    trailing j (cause3 x) = absurd x
    trailing j (cause4 x) = absurd x
    trailing j (cause5 x) = absurd x
    trailing j (cause6 x) = absurd x
    trailing j (cause7 x) = absurd x

    go : (p : Place) → offset ≡ offset_of s p → CauseAt s p k → ((j : ℕ) → j < k → ¬ CauseAt s p j) → k ≡ 1
    go first o c l = not_above first c l (inr (inr (omega arith)))
    go (item i) o c l = not_above (item i) c l (inr (inr (omega arith)))
    go last o c l = not_above last c l (inr (inr (omega arith)))
    go after o c l = absurd (omega (arith, trailing k c))
