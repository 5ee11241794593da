-- A sheet of edition 1 with its edition number changed to 2 reads as before: the same items, or the same refusal. Assumes nothing.
use mathlib.Core.Path.{◌≡◌, refl, sym, ap, ap₂, ◌∙◌}
use mathlib.Core.Bool.{Bool, true, false, cond, ◌&&◌}
use mathlib.Core.List.{List, [], ◌∷◌}
use Prim.Native.Nat.{ℕ, zero, suc, ◌+◌, ◌-◌, ◌/◌, ◌%◌, ◌≤◌, ◌<◌}
use native.Mathlib.Omega.{arith}
use native.Mathlib.Nat.{add-zero}
use native.Mathlib.Decide.{dec_le, dec_lt, ℕ_discrete}
use lib.Dec.{eqb, leb}
use lib.ListN.{length, get_or, drop, set, length-set, length-take, length-drop, get_or-eq_default}
use lib.Seq.{lt-length-set, get_or-set_same, get_or-set_other, drop-set-lt, set-get_or, get_or-drop, drop-drop}
use borrow.Author.Tests.{le-leb, lt-leb, ne_eqb, eqb-false}
use Rattle.field.specs.Field.{Cut, absent, short, field, Bytes, header_length, le16, len_at, cut_at}
use Rattle.field.proofs.Cutting.{le16_of, le16_low, le16_high, Cutting, at_end, no_header, no_content, whole, cutting}
use Rattle.circuit.specs.Calls.{first_cause}
use Rattle.layout.specs.Layout.{LayoutItem, entry_field, figure_field, Layout, edition_at, head_length, head_next}
use Rattle.layout.specs.Layout.{edition_known, item_limit, count_allowed, spread_limit, spread_allowed, head_tag, figure_tag}
use Rattle.layout.specs.Content.{content_at, edition_in, count_in, rule_in, keep_in, spread_in, parent_count_in, parents_in, name_in, item_in}
use Rattle.layout.specs.Read.{Placed, rule_wrong, head_tests, item_tests, last_tests, judge, Scan, going, stopped, place_field, go_on, scan_item, scan, after_last}
use Rattle.layout.specs.Read.{scan_end, scan_last, scan_sheet, conclude, read_sheet}
use Rattle.layout.specs.Write.{write_sheet}
use Rattle.layout.specs.Causes.{item, field_offset, edition_of, item_count, tag_of, content_of}
use Rattle.layout.specs.Spreads.{holds_forget, NoForget}
use Rattle.layout.specs.Edition.{with_edition, reissued}
use Rattle.layout.proofs.Scan.{head_read}
use Rattle.layout.proofs.Causes.{whole_length, edition_same, count_same, stands}

-- What changing the edition does.

set_bytes : (l : List ℕ) (i a : ℕ) → a < 256 → Bytes l → Bytes (set l i a)
set_bytes [] i a h b k = b k
set_bytes (x ∷ xs) zero a h b zero = h
set_bytes (x ∷ xs) zero a h b (suc k) = b (suc k)
set_bytes (x ∷ xs) (suc i) a h b zero = b 0
set_bytes (x ∷ xs) (suc i) a h b (suc k) = set_bytes xs i a h (λ j. b (suc j)) k

module _ (edition : ℕ) (s : List ℕ) where
  pub edition_length : length (with_edition edition s) ≡ length s
  unfolding with_edition
  edition_length = length-set (set s _ _) _ _ ∙ length-set s _ _

  -- every other byte stays
  pub edition_other : (k : ℕ) → ¬ (k ≡ header_length + edition_at) → ¬ (k ≡ header_length + edition_at + 1) → get_or (with_edition edition s) k 0 ≡ get_or s k 0
  unfolding with_edition
  edition_other k a b = get_or-set_other (set s _ _) _ k _ 0 b ∙ get_or-set_other s _ k _ 0 a

  pub edition_after : drop head_next (with_edition edition s) ≡ drop head_next s
  unfolding with_edition
  edition_after = drop-set-lt head_next (set s _ _) _ _ (omega arith) ∙ drop-set-lt head_next s _ _ (omega arith)

  pub edition_count : item_count (with_edition edition s) ≡ item_count s
  edition_count = ap₂ le16 (edition_other 5 (λ e. omega arith) (λ e. omega arith)) (edition_other 6 (λ e. omega arith) (λ e. omega arith))

  -- the two bytes, where the sheet has them
  pub edition_low : header_length + edition_at < length s → get_or (with_edition edition s) (header_length + edition_at) 0 ≡ edition % 256
  unfolding with_edition
  edition_low h = get_or-set_other (set s _ _) _ _ _ 0 (λ e. omega arith) ∙ get_or-set_same s _ _ 0 h

  pub edition_high : header_length + edition_at + 1 < length s → get_or (with_edition edition s) (header_length + edition_at + 1) 0 ≡ edition / 256
  unfolding with_edition
  edition_high h = get_or-set_same (set s _ _) _ _ 0 (lt-length-set s _ _ h)

  pub edition_set : header_length + edition_at + 1 < length s → edition_of (with_edition edition s) ≡ edition
  edition_set h = ap₂ le16 (edition_low (omega arith)) (edition_high h) ∙ le16_of edition

  -- a number under 256 needs only the first, in a sheet that says an edition: what is absent counts as 0
  pub edition_said : edition < 256 → ¬ (edition_of s ≡ 0) → edition_of (with_edition edition s) ≡ edition
  edition_said small n = go (dec_lt 3 (length s)) (dec_lt 4 (length s))
    where
      go : Dec (3 < length s) → Dec (4 < length s) → edition_of (with_edition edition s) ≡ edition
      go h (yes k) = edition_set k
      go (yes h) (no k) =
          let high = get_or-eq_default (with_edition edition s) 0 {n = 4} (omega (arith, edition_length)) in
          ap₂ le16 (edition_low h) high ∙ omega arith
      go (no h) (no k) = absurd (n (ap₂ le16 (get_or-eq_default s 0 (omega arith)) (get_or-eq_default s 0 (omega arith))))

  -- bytes stay bytes
  pub edition_bytes : edition < 65_536 → Bytes s → Bytes (with_edition edition s)
  unfolding with_edition
  edition_bytes small b = set_bytes (set s _ _) _ _ (omega arith) (set_bytes s _ _ (omega arith) b)

-- a sheet with its own edition is the sheet
pub edition_own : (s : List ℕ) → get_or s (header_length + edition_at) 0 < 256 → with_edition (edition_of s) s ≡ s
unfolding with_edition
edition_own s h =
    rw (le16_low (get_or s 3 0) (get_or s 4 0) h, le16_high (get_or s 3 0) (get_or s 4 0) h, set-get_or s 3 0, set-get_or s 4 0)

pub edition_1_own : (s : List ℕ) → edition_of s ≡ 1 → with_edition 1 s ≡ s
edition_1_own s one = ap (λ e. with_edition e s) (sym one) ∙ edition_own s (omega arith)

-- a written sheet with its edition changed is what is written under that edition
pub edition_written : (edition : ℕ) (l : Layout) → with_edition edition (write_sheet l) ≡ write_sheet (record { edition = edition; items = l.items })
unfolding with_edition write_sheet
edition_written edition l = refl

-- Of the tests of an item the fifth alone looks at the edition: `SameRule e d it` where it finds the same in editions e and d. In editions 1
-- and 2 it does, but for a figure with spread 2.

-- the item of the field at an offset
abbrev pub field_at : List ℕ → ℕ → LayoutItem
field_at s at = item_in (get_or s at 0) (content_at s (at + header_length) (len_at s at))

abbrev pub SameRule : ℕ → ℕ → LayoutItem → Type 0
SameRule e d it = rule_wrong d it ≡ rule_wrong e it

spreads_1_2 : (spread : ℕ) → ¬ (spread ≡ 2) → spread_allowed 2 spread ≡ spread_allowed 1 spread
unfolding spread_allowed spread_limit
spreads_1_2 spread n = go (dec_le spread 1)
  where
    go : Dec (spread ≤ 1) → leb spread 1 ≡ leb spread 2
    go (yes h) = rw (le-leb spread 1 h, le-leb spread 2 (omega arith))
    go (no h) = rw (lt-leb spread 1 (omega arith), lt-leb spread 2 (omega arith))

-- a field of an item that does not hold it
rule_1_2 : (tag : ℕ) (content : List ℕ) → (eqb tag figure_tag && eqb (spread_in content) 2) ≡ false → SameRule 1 2 (item_in tag content)
unfolding item_in
rule_1_2 tag content e = go (eqb tag figure_tag) e
  where
    go : (b : Bool) → (b && eqb (spread_in content) 2) ≡ false
        → SameRule 1 2 (cond b (figure_field (rule_in content) (keep_in content) (spread_in content) (parents_in content (parent_count_in content)) (name_in content)) (entry_field content))
    go true h = rw (spreads_1_2 (spread_in content) (eqb-false (spread_in content) 2 h))
    go false h = refl

-- A scan of items stands after the first field.

abbrev pub Past : Scan → Type 0
Past (going at ps) = head_next ≤ at
Past (stopped k at) = Unit {0}

module _ (s : List ℕ) (edition : ℕ) where
  item_past : (r : Scan) → Past r → Past (scan_item s edition r)
  item_past (stopped k at) h = tt
  item_past (going at ps) h = go (cut_at s at) (cutting s at) (judge (item_tests edition ps) s (cut_at s at))
    where
      go : (c : Cut) → Cutting s at c → (v : ℕ) → Past (go_on v at (place_field s at ps c))
      go c x (suc v) = tt
      go absent (at_end x) zero = tt
      go short (no_header x y) zero = tt
      go short (no_content x y) zero = tt
      go (field tag start len next) (whole x) zero = omega arith

  pub scan_past : (k : ℕ) → Past (scan s edition k)
  unfolding scan
  scan_past zero = omega arith
  scan_past (suc k) = item_past (scan s edition k) (scan_past k)

-- what is cut is by the length of the sheet, and the tag and the length of the field
pub cut_agrees : (s t : List ℕ) (at : ℕ) → length t ≡ length s → get_or t at 0 ≡ get_or s at 0 → len_at t at ≡ len_at s at → cut_at t at ≡ cut_at s at
unfolding cut_at
cut_agrees s t at long tag len = rw (long, tag, len)

-- Two sheets of the same length, with the same bytes after the first field, and editions in which the items read have the same rules.
module _ (s t : List ℕ) (long : length t ≡ length s) (rest : drop head_next t ≡ drop head_next s) where
  pub after_same : (k : ℕ) → head_next ≤ k → drop k t ≡ drop k s
  after_same k h =
      let e : head_next + (k - head_next) ≡ k = omega arith in
      ap (λ j. drop j t) (sym e) ∙ sym (drop-drop (k - head_next) head_next t) ∙ ap (drop (k - head_next)) rest ∙ drop-drop (k - head_next) head_next s ∙ ap (λ j. drop j s) e

  byte_same : (k : ℕ) → head_next ≤ k → get_or t k 0 ≡ get_or s k 0
  byte_same k h = rw add-zero at (sym (get_or-drop k t 0 0) ∙ ap (λ l. get_or l 0 0) (after_same k h) ∙ get_or-drop k s 0 0)

  pub cut_same : (at : ℕ) → head_next ≤ at → cut_at t at ≡ cut_at s at
  cut_same at h = cut_agrees s t at long (byte_same at h) (ap₂ le16 (byte_same (at + 1) (omega arith)) (byte_same (at + 1 + 1) (omega arith)))

  module _ (e d : ℕ) where
    tests_same : (ps : List Placed) (tag : ℕ) (content : List ℕ) → SameRule e d (item_in tag content) → item_tests d ps tag content ≡ item_tests e ps tag content
    unfolding item_tests
    tests_same ps tag content same = rw same

    -- one item after the first field
    item_same : (r : Scan) → Past r → ((at : ℕ) (ps : List Placed) → r ≡ going at ps → SameRule e d (field_at s at)) → scan_item t d r ≡ scan_item s e r
    item_same (stopped k at) h same = refl
    item_same (going at ps) h same = rw (cut_same at h) (go (cut_at s at) (cutting s at))
      where
        go : (c : Cut) → Cutting s at c
            → go_on (judge (item_tests d ps) t c) at (place_field t at ps c) ≡ go_on (judge (item_tests e ps) s c) at (place_field s at ps c)
        go absent (at_end x) = refl
        go short (no_header x y) = refl
        go short (no_content x y) = refl
        go (field tag start len next) (whole x) =
            rw (after_same (at + header_length) (omega arith), tests_same ps tag (content_at s start len) (same at ps refl))

    -- any number of items
    pub scan_same : (k : ℕ) → ((j : ℕ) → j < k → (at : ℕ) (ps : List Placed) → scan s e j ≡ going at ps → SameRule e d (field_at s at)) → scan t d k ≡ scan s e k
    unfolding scan
    scan_same zero same = refl
    scan_same (suc k) same = rw (scan_same k (λ j h. same j (omega arith))) (item_same (scan s e k) (scan_past s e k) (same k (omega arith)))

  last_same : (r : Scan) → Past r → scan_last t r ≡ scan_last s r
  last_same (stopped k at) h = refl
  last_same (going at ps) h = rw (cut_same at h) (go (cut_at s at) (cutting s at))
    where
      go : (c : Cut) → Cutting s at c
          → go_on (judge last_tests t c) at (scan_end t (after_last t c) ps) ≡ go_on (judge last_tests s c) at (scan_end s (after_last s c) ps)
      go absent (at_end x) = refl
      go short (no_header x y) = refl
      go short (no_content x y) = refl
      go (field tag start len next) (whole x) = rw (after_same (at + header_length) (omega arith), long)

-- The first field and the whole sheet, whose edition is changed to d.

abbrev pub head_allowed : ℕ → ℕ → Bool
head_allowed edition n = edition_known edition && count_allowed edition n

-- of the first field's content edition and count are tested only where it is as long as it should be
pub head_cause : (tag : ℕ) (a b : List ℕ) → length a ≡ length b
    → (length b ≡ head_length → head_allowed (edition_in a) (count_in a) ≡ head_allowed (edition_in b) (count_in b))
    → first_cause (head_tests tag a) ≡ first_cause (head_tests tag b)
unfolding head_tests first_cause
head_cause tag a b l f = go (ℕ_discrete (length b) head_length)
  where
    go : Dec (length b ≡ head_length) → first_cause (head_tests tag a) ≡ first_cause (head_tests tag b)
    go (yes e) = rw (l, f e)
    go (no n) = rw (l, ne_eqb (length b) head_length n)

module _ (s : List ℕ) (d : ℕ) (said : edition_of (with_edition d s) ≡ d) where
  -- edition and count are both allowed, or both not
  pub head_same : head_allowed d (item_count s) ≡ head_allowed (edition_of s) (item_count s)
      → judge head_tests (with_edition d s) (cut_at (with_edition d s) 0) ≡ judge head_tests s (cut_at s 0)
  head_same allowed = rw cut (go (cut_at s 0) (cutting s 0))
    where
      byte : (k : ℕ) → k < header_length → get_or (with_edition d s) k 0 ≡ get_or s k 0
      byte k h = edition_other d s k (λ e. omega arith) (λ e. omega arith)

      cut : cut_at (with_edition d s) 0 ≡ cut_at s 0
      cut = cut_agrees s (with_edition d s) 0 (edition_length d s) (byte 0 (omega arith)) (ap₂ le16 (byte 1 (omega arith)) (byte 2 (omega arith)))

      go : (c : Cut) → Cutting s 0 c → judge head_tests (with_edition d s) c ≡ judge head_tests s c
      go absent (at_end x) = refl
      go short (no_header x y) = refl
      go short (no_content x y) = refl
      go (field tag start len next) (whole x) =
          let t : List ℕ = with_edition d s in
          head_cause tag (content_at t header_length len) (content_at s header_length len) (simp (length-take, length-drop, edition_length d s))
          (λ e. let n : len ≡ head_length = sym (whole_length s 0 x) ∙ e in
          rw (ap (content_at t header_length) n, ap (content_at s header_length) n, edition_same t, count_same t, edition_same s, count_same s, said, edition_count d s) allowed)

  pub reads_same : head_allowed d (item_count s) ≡ head_allowed (edition_of s) (item_count s)
      → (cut_at s 0 ≡ field head_tag header_length head_length head_next → scan (with_edition d s) d (item_count s) ≡ scan s (edition_of s) (item_count s))
      → read_sheet (with_edition d s) ≡ reissued d (read_sheet s)
  unfolding read_sheet scan_sheet
  reads_same allowed scans =
      let t : List ℕ = with_edition d s in
      rw (head_same allowed, edition_same t, count_same t, edition_same s, count_same s, said, edition_count d s)
      (judged (judge head_tests s (cut_at s 0)) refl)
    where
      ends : (r : Scan) → conclude d r ≡ reissued d (conclude (edition_of s) r)
      ends (going at ps) = refl
      ends (stopped k at) = refl

      judged : (v : ℕ) → judge head_tests s (cut_at s 0) ≡ v
          → conclude d (go_on v 0 (scan_last (with_edition d s) (scan (with_edition d s) d (item_count s))))
          ≡ reissued d (conclude (edition_of s) (go_on v 0 (scan_last s (scan s (edition_of s) (item_count s)))))
      judged (suc v) e = refl
      judged zero e =
          let n : ℕ = item_count s in
          let r : Scan = scan s (edition_of s) n in
          rw (scans (head_read s e).head, last_same s (with_edition d s) (edition_length d s) (edition_after d s) r (scan_past s (edition_of s) n))
          (ends (scan_last s r))

-- A sheet of edition 1 within its item limit, whose figures do not hold spread 2, faulty or not, reads as edition 2 as it does as edition 1.

pub counts_1_2 : (n : ℕ) → n ≤ item_limit 1 → head_allowed 2 n ≡ head_allowed 1 n
unfolding edition_known count_allowed item_limit
counts_1_2 n h = rw (le-leb n (item_limit 1) h, le-leb n (item_limit 2) (omega arith))

module _ (s : List ℕ) (one : edition_of s ≡ 1) where
  -- the items below n, where none of them holds it
  pub scans_1_2 : cut_at s 0 ≡ field head_tag header_length head_length head_next → (n : ℕ) → ((j : ℕ) → j < n → holds_forget s j ≡ false)
      → scan (with_edition 2 s) 2 n ≡ scan s 1 n
  scans_1_2 head n none =
      scan_same s (with_edition 2 s) (edition_length 2 s) (edition_after 2 s) 1 2 n
      (λ j h at ps e. let o : at ≡ field_offset s (suc j) = (stands s 1 (sym one) head j at ps e).offset_is in
      rw o (rule_1_2 (tag_of s (item j)) (content_of s (item j)) (none j h)))

  pub said_2 : edition_of (with_edition 2 s) ≡ 2
  said_2 = edition_said 2 s (omega arith) (λ z. omega arith)

  pub edition_1_to_2 : item_count s ≤ item_limit 1 → NoForget s → read_sheet (with_edition 2 s) ≡ reissued 2 (read_sheet s)
  edition_1_to_2 few none =
      reads_same s 2 said_2 (rw one (counts_1_2 (item_count s) few))
      (λ head. rw one (scans_1_2 head (item_count s) none))
