-- Laws of cutting bytes into fields. What `cut_at` gives is told by three equivalences, one for each variant, so that nobody else opens it;
-- and a field that was written is cut out as it was, whatever stands before and after it. Assumes nothing.
use mathlib.Core.Path.{◌≡◌, refl, sym, ap, ◌∙◌}
use mathlib.Core.List.{List, [], ◌∷◌, ◌++◌}
use mathlib.Core.Logic.{◌⊎◌, inl, inr, ⊎_elim, ◌↔◌}
use Prim.Native.Nat.{ℕ, zero, suc, ◌+◌, ◌/◌, ◌%◌, ◌≤◌, ◌<◌}
use native.Mathlib.Omega.{arith}
use native.Mathlib.Decide.{dec_le, dec_lt}
use native.Mathlib.Numerals.{add-one, add-two, add-three}
use lib.ListN.{length, get_or, take, drop, length-append, length-take, length-drop, take-append-drop}
use lib.Seq.{drop-cons, drop-drop, get_or-append_seam, get_or-append-add}
use mir.Syntax.{w8}
use mir.Val.{Fits}
use borrow.Author.Tests.{le-leb, lt-leb, lt-ltb, le-ltb}
use Rattle.field.specs.Bytes.{Bytes}
use Rattle.field.specs.Field.{Cut, absent, short, field, header_length, le16, len_at, cut_at, field_bytes}

-- what the rule for a slice of bytes gives, as `Bytes` has it
pub slice_bytes : (s : List ℕ) → ((i : ℕ) → Fits w8 (get_or s i 0)) → Bytes s
slice_bytes s h i = (h i).fits

-- Numbers of two bytes.

pub le16_small : (low high : ℕ) → low < 256 → high < 256 → le16 low high < 65536
le16_small low high l h = omega arith

pub le16_of : (n : ℕ) → le16 (n % 256) (n / 256) ≡ n
le16_of n = omega arith

pub le16_low : (low high : ℕ) → low < 256 → le16 low high % 256 ≡ low
le16_low low high l = omega arith

pub le16_high : (low high : ℕ) → low < 256 → le16 low high / 256 ≡ high
le16_high low high l = omega arith

-- The four ways in which a cut goes.

module _ (s : List ℕ) (at : ℕ) where
  pub cut_absent : length s ≤ at → cut_at s at ≡ absent
  unfolding cut_at
  cut_absent h = simp (le-leb (length s) at h)

  pub cut_no_header : at < length s → length s < at + header_length → cut_at s at ≡ short
  unfolding cut_at
  cut_no_header h k = simp (lt-leb (length s) at h, lt-ltb (length s) (at + header_length) k)

  pub cut_no_content : at + header_length ≤ length s → length s < at + header_length + len_at s at → cut_at s at ≡ short
  unfolding cut_at
  cut_no_content h k =
      simp (lt-leb (length s) at (omega arith), le-ltb (length s) (at + header_length) h, lt-ltb (length s) (at + header_length + len_at s at) k)

  pub cut_whole : at + header_length + len_at s at ≤ length s → cut_at s at ≡ field (get_or s at 0) (at + header_length) (len_at s at) (at + header_length + len_at s at)
  unfolding cut_at
  cut_whole h =
      simp (lt-leb (length s) at (omega arith), le-ltb (length s) (at + header_length) (omega arith), le-ltb (length s) (at + header_length + len_at s at) h)

  -- the same, with a name for the length
  pub cut_whole_at : (len : ℕ) → len ≡ len_at s at → at + header_length + len ≤ length s → cut_at s at ≡ field (get_or s at 0) (at + header_length) len (at + header_length + len)
  cut_whole_at len e h = rw e (cut_whole (rw e at h))

-- `Cutting s at c`: c is what is cut at the offset, and why
pub data Cutting (s : List ℕ) (at : ℕ) : Cut → Type 0 where
  at_end : length s ≤ at → Cutting s at absent
  no_header : at < length s → length s < at + header_length → Cutting s at short
  no_content : at + header_length ≤ length s → length s < at + header_length + len_at s at → Cutting s at short
  whole : at + header_length + len_at s at ≤ length s → Cutting s at (field (get_or s at 0) (at + header_length) (len_at s at) (at + header_length + len_at s at))

pub cutting : (s : List ℕ) (at : ℕ) → Cutting s at (cut_at s at)
cutting s at = outer (dec_le (length s) at)
  where
    content : at + header_length ≤ length s → Dec (at + header_length + len_at s at ≤ length s) → Cutting s at (cut_at s at)
    content h (yes k) = rw (cut_whole s at k) (whole k)
    content h (no k) = rw (cut_no_content s at h (omega arith)) (no_content h (omega arith))

    header : at < length s → Dec (at + header_length ≤ length s) → Cutting s at (cut_at s at)
    header h (yes k) = content k (dec_le (at + header_length + len_at s at) (length s))
    header h (no k) = rw (cut_no_header s at h (omega arith)) (no_header h (omega arith))

    outer : Dec (length s ≤ at) → Cutting s at (cut_at s at)
    outer (yes h) = rw (cut_absent s at h) (at_end h)
    outer (no h) = header (omega arith) (dec_le (at + header_length) (length s))

-- What each variant says.

-- a whole field: its numbers are these, and it lies within the bytes
pub record FieldAt (s : List ℕ) (at tag start len next : ℕ) : Type 0 where
  pub tag_is : tag ≡ get_or s at 0
  pub len_is : len ≡ len_at s at
  pub start_is : start ≡ at + header_length
  pub next_is : next ≡ start + len
  pub next_in : next ≤ length s

module _ (s : List ℕ) (at : ℕ) where
  pub absent_iff : cut_at s at ≡ absent ↔ length s ≤ at
  absent_iff = (go (cut_at s at) (cutting s at), cut_absent s at)
    where
      go : (c : Cut) → Cutting s at c → c ≡ absent → length s ≤ at
      go absent (at_end h) e = h
      go short (no_header h k) e = let z : ◌≡◌ {A = ℕ} 0 1 = cc in omega arith
      go short (no_content h k) e = let z : ◌≡◌ {A = ℕ} 0 1 = cc in omega arith
      go (field t b l n) (whole h) e = let z : ◌≡◌ {A = ℕ} 0 1 = cc in omega arith

  pub short_iff : cut_at s at ≡ short ↔ (at < length s) × (length s < at + header_length ⊎ length s < at + header_length + len_at s at)
  short_iff = (go (cut_at s at) (cutting s at), back)
    where
      go : (c : Cut) → Cutting s at c → c ≡ short → (at < length s) × (length s < at + header_length ⊎ length s < at + header_length + len_at s at)
      go absent (at_end h) e = let z : ◌≡◌ {A = ℕ} 0 1 = cc in absurd (omega arith)
      go short (no_header h k) e = (h, inl k)
      go short (no_content h k) e = (omega arith, inr k)
      go (field t b l n) (whole h) e = let z : ◌≡◌ {A = ℕ} 0 1 = cc in absurd (omega arith)

      content : at < length s → length s < at + header_length + len_at s at → Dec (length s < at + header_length) → cut_at s at ≡ short
      content h k (yes l) = cut_no_header s at h l
      content h k (no l) = cut_no_content s at (omega arith) k

      back : (at < length s) × (length s < at + header_length ⊎ length s < at + header_length + len_at s at) → cut_at s at ≡ short
      back p = ⊎_elim (cut_no_header s at p.0) (λ k. content p.0 k (dec_lt (length s) (at + header_length))) p.1

  module _ (tag start len next : ℕ) where
    pub field_iff : cut_at s at ≡ field tag start len next ↔ FieldAt s at tag start len next
    field_iff = (go (cut_at s at) (cutting s at), back)
      where
        go : (c : Cut) → Cutting s at c → c ≡ field tag start len next → FieldAt s at tag start len next
        go absent (at_end h) e = let z : ◌≡◌ {A = ℕ} 0 1 = cc in absurd (omega arith)
        go short (no_header h k) e = let z : ◌≡◌ {A = ℕ} 0 1 = cc in absurd (omega arith)
        go short (no_content h k) e = let z : ◌≡◌ {A = ℕ} 0 1 = cc in absurd (omega arith)
        go (field t b l n) (whole h) e =
            let et : t ≡ tag = cc in
            let eb : b ≡ start = cc in
            let el : l ≡ len = cc in
            let en : n ≡ next = cc in
            record { tag_is = sym et; len_is = sym el; start_is = sym eb; next_is = omega arith; next_in = omega arith }

        back : FieldAt s at tag start len next → cut_at s at ≡ field tag start len next
        back f =
            let n : next ≡ at + header_length + len_at s at = omega arith in
            cc (cut_whole s at (omega arith))

    -- its content is as long as it says
    pub content_length : FieldAt s at tag start len next → length (take len (drop start s)) ≡ len
    content_length f = simp (length-take, length-drop) (omega arith)

-- A field that was written is cut out as it was.

-- whatever stands before and after it; low and high are its length's two bytes
pub cut_written : (pre content post : List ℕ) (tag low high : ℕ) → le16 low high ≡ length content
    → cut_at (pre ++ ((tag ∷ low ∷ high ∷ content) ++ post)) (length pre) ≡ field tag (length pre + header_length) (length content) (length pre + header_length + length content)
cut_written pre content post tag low high e =
    let ys : List ℕ = tag ∷ low ∷ high ∷ content ++ post in
    let s : List ℕ = pre ++ ys in
    let l : get_or s (length pre + 1) 0 ≡ low = get_or-append-add pre ys 1 0 in
    let two : length pre + 1 + 1 ≡ length pre + 2 = omega arith in
    let h : get_or s (length pre + 1 + 1) 0 ≡ high = ap (λ n. get_or s n 0) two ∙ get_or-append-add pre ys 2 0 in
    (field_iff s (length pre) tag (length pre + header_length) (length content) (length pre + header_length + length content)).1
    (record {
      tag_is = sym (get_or-append_seam pre tag (low ∷ high ∷ content ++ post) 0);
      len_is = omega arith;
      start_is = refl;
      next_is = refl;
      next_in = omega (arith, length-append pre ys, length-append content post);
    })

pub cut_field_bytes : (pre content post : List ℕ) (tag : ℕ)
    → cut_at (pre ++ (field_bytes tag content ++ post)) (length pre) ≡ field tag (length pre + header_length) (length content) (length pre + header_length + length content)
cut_field_bytes pre content post tag = cut_written pre content post tag (length content % 256) (length content / 256) (le16_of (length content))

pub Bytes-field_bytes : (tag : ℕ) (content : List ℕ) → tag < 256 → length content < 65536 → Bytes content → Bytes (field_bytes tag content)
Bytes-field_bytes tag content t n b zero = t
Bytes-field_bytes tag content t n b (suc zero) = omega arith
Bytes-field_bytes tag content t n b (suc (suc zero)) = omega arith
Bytes-field_bytes tag content t n b (suc (suc (suc i))) = b i

-- The bytes are what stands before a field, its header, its content, and what stands after it.

header_drop : (s : List ℕ) (at : ℕ) → at + header_length ≤ length s → drop at s ≡ get_or s at 0 ∷ get_or s (at + 1) 0 ∷ get_or s (at + 2) 0 ∷ drop (at + header_length) s
header_drop s at h =
    rw (add-one, add-two, add-three, drop-cons s at 0 (omega arith), drop-cons s (suc at) 0 (omega arith), drop-cons s (suc (suc at)) 0 (omega arith))

module _ (s : List ℕ) (at tag start len next : ℕ) (f : FieldAt s at tag start len next) where
  pub cut_back : s ≡ take at s ++ ((tag ∷ get_or s (at + 1) 0 ∷ get_or s (at + 2) 0 ∷ take len (drop start s)) ++ drop next s)
  cut_back = cc (header_drop s at (omega arith), take-append-drop at s, take-append-drop len (drop start s), drop-drop len start s)

  pub cut_back_bytes : Bytes s → s ≡ take at s ++ (field_bytes tag (take len (drop start s)) ++ drop next s)
  cut_back_bytes b =
      let n = content_length s at tag start len next f in
      let two : at + 1 + 1 ≡ at + 2 = omega arith in
      let e : len ≡ le16 (get_or s (at + 1) 0) (get_or s (at + 2) 0) = cc in
      let l : length (take len (drop start s)) % 256 ≡ get_or s (at + 1) 0 = cc (le16_low (get_or s (at + 1) 0) (get_or s (at + 2) 0) (b (at + 1))) in
      let h : length (take len (drop start s)) / 256 ≡ get_or s (at + 2) 0 = cc (le16_high (get_or s (at + 1) 0) (get_or s (at + 2) 0) (b (at + 1))) in
      cc (cut_back)

-- The first field of a sheet of 5 items, cut out of its 7 bytes; a header and a content that run past the end; the end.

abbrev first : List ℕ
first = 1 ∷ 4 ∷ 0 ∷ 1 ∷ 0 ∷ 5 ∷ 0 ∷ []

first_cuts : (cut_at first 0 ≡ field 1 3 4 7) × (cut_at first 4 ≡ short) × (cut_at first 5 ≡ short) × (cut_at first 7 ≡ absent)
unfolding cut_at
first_cuts = (refl, refl, refl, refl)
