-- The index over the list of offsets: it is the index of the items, and it is written and compared entry by entry.
-- Assumes nothing.
use mathlib.Core.Path.{◌≡◌, refl, sym, ap, ap₂, ◌∙◌}
use mathlib.Core.Bool.{Bool, true, false, ◌&&◌, and_assoc}
use mathlib.Core.List.{List, [], ◌∷◌, ◌++◌, append_assoc}
use Prim.Native.Nat.{ℕ, zero, suc, ◌+◌, ◌*◌, ◌/◌, ◌%◌, ◌≤◌, ◌<◌}
use native.Mathlib.Omega.{arith}
use native.Mathlib.Numerals.{add-one}
use native.Mathlib.Nat.{mod-add-div}
use lib.Dec.{eqb}
use lib.ListN.{length, get_or, take, drop, drop_of_length-le}
use lib.Seq.{sets-eq, length-sets, take-suc, take_all, drop-cons, drop-drop}
use mir.Syntax.{w32}
use borrow.Rule.Slice.PartMut.{put_mid}
use Rattle.std.specs.Int.{to_le_bytes, from_le_bytes}
use Rattle.std.specs.List.{list_all, range_with_len}
use Rattle.std.proofs.lemmas.Nat.{le_bytes_4, from_le_bytes-to_le_bytes_4}
use Rattle.std.proofs.lemmas.Slice.{take-put_mid}
use borrow.Author.Tests.{eqb-true, eqb-false, eq-eqb}
use Rattle.layout.specs.Layout.{index_width}
use Rattle.layout.specs.Read.{Placed}
use Rattle.layout.specs.Write.{concat}
use Rattle.layout.specs.Index.{bytes32, index_bytes}
use Rattle.layout.specs.Opened.{items_of, offsets_of, Located}
use Rattle.item.specs.Offsets.{offset_bytes, same_bytes, four_at, put_offset}

-- The definition's bytes.
pub index_offsets : (ps : List Placed) → index_bytes ps ≡ offset_bytes (offsets_of ps)
unfolding index_bytes concat offset_bytes
index_offsets [] = refl
index_offsets (p ∷ ps) = ap (λ l. bytes32 p.offset ++ l) (index_offsets ps)

-- so those of the array of a sheet's offsets
pub located_index : (s offsets : List ℕ) → Located s offsets → offset_bytes (take (length (items_of s)) offsets) ≡ index_bytes (items_of s)
unfolding Located
located_index s offsets l = ap offset_bytes l ∙ sym (index_offsets (items_of s))

-- The equality of lists of bytes.
pub same_refl : (l : List ℕ) → same_bytes l l ≡ true
unfolding same_bytes
same_refl [] = refl
same_refl (a ∷ l) = rw (eq-eqb a a refl) (same_refl l)

pub same_equal : (l m : List ℕ) → same_bytes l m ≡ true → l ≡ m
unfolding same_bytes
same_equal [] [] e = refl
same_equal [] (b ∷ m) e = let z : ◌≡◌ {A = ℕ} 0 1 = cc in absurd (omega arith)
same_equal (a ∷ l) [] e = let z : ◌≡◌ {A = ℕ} 0 1 = cc in absurd (omega arith)
same_equal (a ∷ l) (b ∷ m) e = go (eqb a b) refl (same_equal l m) e
  where
    go : (t : Bool) → eqb a b ≡ t → (same_bytes l m ≡ true → l ≡ m) → (t && same_bytes l m) ≡ true → a ∷ l ≡ b ∷ m
    go true q ih e = ap₂ (λ x y. x ∷ y) (eqb-true a b q) (ih e)
    go false q ih e = let z : ◌≡◌ {A = ℕ} 0 1 = cc in absurd (omega arith)

-- two parts are compared one after the other
same_append : (xs us ys vs : List ℕ) → length xs ≡ length us → same_bytes (xs ++ ys) (us ++ vs) ≡ (same_bytes xs us && same_bytes ys vs)
unfolding same_bytes
same_append [] [] ys vs e = refl
same_append [] (u ∷ us) ys vs e = absurd (omega arith)
same_append (x ∷ xs) [] ys vs e = absurd (omega arith)
same_append (x ∷ xs) (u ∷ us) ys vs e =
    ap (λ t. eqb x u && t) (same_append xs us ys vs (omega arith)) ∙ sym (and_assoc (eqb x u) (same_bytes xs us) (same_bytes ys vs))

-- Writing: one more offset.
pub offsets_snoc : (l : List ℕ) (o : ℕ) → offset_bytes (l ++ (o ∷ [])) ≡ offset_bytes l ++ bytes32 o
unfolding offset_bytes
offsets_snoc [] o = refl
offsets_snoc (a ∷ l) o = ap (λ r. bytes32 a ++ r) (offsets_snoc l o)

-- the bytes copied over four of the index
pub put_is : (l ys : List ℕ) (at k o : ℕ) → ys ≡ bytes32 o → k ≡ index_width → at + index_width ≤ length l → put_mid at k l ys ≡ put_offset l at o
put_is l ys at k o e f h =
    rw (e, f)
    (ap (λ t. take at l ++ (bytes32 o ++ t)) (drop-drop index_width at l) ∙ sym (append_assoc (take at l) (bytes32 o) (drop (at + index_width) l))
    ∙ sym (sets-eq (bytes32 o) l at h))

pub put_length : (l : List ℕ) (at o : ℕ) → length (put_offset l at o) ≡ length l
put_length l at o = length-sets l at (bytes32 o)

put_take : (l : List ℕ) (at o : ℕ) → at + index_width ≤ length l → take (at + index_width) (put_offset l at o) ≡ take at l ++ bytes32 o
put_take l at o h =
    ap (take (at + index_width)) (sym (put_is l (bytes32 o) at index_width o refl refl h)) ∙ take-put_mid at index_width l (bytes32 o) (at + index_width) refl (omega arith)

pub write_next : (offsets l : List ℕ) (k : ℕ) → k < length offsets → index_width * k + index_width ≤ length l → take (index_width * k) l ≡ offset_bytes (take k offsets)
    → take (index_width * (k + 1)) (put_offset l (index_width * k) (get_or offsets k 0)) ≡ offset_bytes (take (k + 1) offsets)
write_next offsets l k h b inv =
    let e : index_width * (k + 1) ≡ index_width * k + index_width = omega arith in
    let o : ℕ = get_or offsets k 0 in
    let left : take (index_width * k + index_width) (put_offset l (index_width * k) o) ≡ offset_bytes (take k offsets) ++ bytes32 o =
    put_take l (index_width * k) o b ∙ ap (λ r. r ++ bytes32 o) inv in
    let right : take (k + 1) offsets ≡ take k offsets ++ (o ∷ []) = ap (λ n. take n offsets) (add-one k) ∙ take-suc offsets k 0 h in
    ap (λ n. take n (put_offset l (index_width * k) o)) e ∙ left ∙ sym (ap offset_bytes right ∙ offsets_snoc (take k offsets) o)

pub write_done : (offsets l : List ℕ) → length l ≡ index_width * length offsets
    → take (index_width * length offsets) l ≡ offset_bytes (take (length offsets) offsets) → l ≡ offset_bytes offsets
write_done offsets l e inv =
    sym (take_all (index_width * length offsets) l (omega arith)) ∙ inv ∙ ap offset_bytes (take_all (length offsets) offsets (omega arith))

-- Comparing: what is left decides.
drop_four : (l : List ℕ) (at : ℕ) → at + index_width ≤ length l → drop at l ≡ four_at l at ++ drop (at + index_width) l
drop_four l at h =
    let e₁ : at + 1 ≡ suc at = omega arith in
    let e₂ : at + 2 ≡ suc (suc at) = omega arith in
    let e₃ : at + 3 ≡ suc (suc (suc at)) = omega arith in
    let e₄ : at + index_width ≡ suc (suc (suc (suc at))) = omega arith in
    rw
    (e₁, e₂, e₃, e₄, ← drop-cons l (suc (suc (suc at))) 0 (omega arith), ← drop-cons l (suc (suc at)) 0 (omega arith), ← drop-cons l (suc at) 0 (omega arith))
    (drop-cons l at 0 (omega arith))

module _ (index offsets : List ℕ) (k : ℕ) (below : k < length offsets) (size : length index ≡ index_width * length offsets) where
  compared_step : same_bytes (drop (index_width * k) index) (offset_bytes (drop k offsets))
      ≡ (same_bytes (four_at index (index_width * k)) (bytes32 (get_or offsets k 0)) && same_bytes (drop (index_width * (k + 1)) index) (offset_bytes (drop (k + 1) offsets)))
  unfolding offset_bytes
  compared_step =
      let e : index_width * (k + 1) ≡ index_width * k + index_width = omega arith in
      let d : drop k offsets ≡ get_or offsets k 0 ∷ drop (k + 1) offsets = drop-cons offsets k 0 below ∙ ap (λ j. get_or offsets k 0 ∷ drop j offsets) (sym (add-one k)) in
      rw (drop_four index (index_width * k) (omega arith), d, e)
      (same_append (four_at index (index_width * k)) (bytes32 (get_or offsets k 0)) (drop (index_width * k + index_width) index) (offset_bytes (drop (k + 1) offsets)) refl)

module _ (index offsets : List ℕ) (size : length index ≡ index_width * length offsets) where
  -- whether entry k is the offset's
  abbrev pub entry_same : ℕ → Bool
  entry_same k = same_bytes (four_at index (index_width * k)) (bytes32 (get_or offsets k 0))

  pub compared : (m k : ℕ) → k + m ≡ length offsets → list_all entry_same (range_with_len k m) ≡ same_bytes (drop (index_width * k) index) (offset_bytes (drop k offsets))
  unfolding offset_bytes same_bytes
  compared zero k e =
      sym (ap₂ (λ x y. same_bytes x (offset_bytes y)) (drop_of_length-le index {i = index_width * k} (omega arith)) (drop_of_length-le offsets {i = k} (omega arith)))
  compared (suc m) k e =
      ap (λ t. entry_same k && t) (compared m (k + 1) (omega arith)) ∙ sym (compared_step index offsets k (omega arith) size)

-- Four bytes compared as one number.
join : (o m q₁ q₂ q₃ q₄ r₀ r₁ r₂ r₃ : ℕ) → r₀ + 256 * q₁ ≡ o → r₁ + 256 * q₂ ≡ q₁ → r₂ + 256 * q₃ ≡ q₂ → r₃ + 256 * q₄ ≡ q₃
    → m + 4294967296 * q₄ ≡ o → m ≡ r₀ + 256 * r₁ + 65536 * (r₂ + 256 * r₃)
join o m q₁ q₂ q₃ q₄ r₀ r₁ r₂ r₃ e₀ e₁ e₂ e₃ e = omega arith

parts : (o : ℕ) → o % 4294967296 ≡ o % 256 + 256 * (o / 256 % 256) + 65536 * (o / 65_536 % 256 + 256 * (o / 16_777_216 % 256))
parts o =
    let two : o / 256 / 256 ≡ o / 65_536 = omega arith in
    let three : o / 65_536 / 256 ≡ o / 16_777_216 = omega arith in
    let four : o / 16_777_216 / 256 ≡ o / 4294967296 = omega arith in
    let e₁ : o / 256 % 256 + 256 * (o / 65_536) ≡ o / 256 = omega (arith, mod-add-div (o / 256) 256) in
    let e₂ : o / 65_536 % 256 + 256 * (o / 16_777_216) ≡ o / 65_536 = omega (arith, mod-add-div (o / 65_536) 256) in
    let e₃ : o / 16_777_216 % 256 + 256 * (o / 4294967296) ≡ o / 16_777_216 = omega (arith, mod-add-div (o / 16_777_216) 256) in
    join o (o % 4294967296) (o / 256) (o / 65_536) (o / 16_777_216) (o / 4294967296) (o % 256) (o / 256 % 256) (o / 65_536 % 256) (o / 16_777_216 % 256) (mod-add-div o 256) e₁ e₂ e₃ (omega arith)

-- the bytes that std gives of the low part of an offset
four_bytes : (m a b c d : ℕ) → a < 256 → b < 256 → c < 256 → d < 256 → m ≡ a + 256 * b + 65536 * (c + 256 * d) → to_le_bytes w32 m ≡ a ∷ b ∷ c ∷ d ∷ []
four_bytes m a b c d ha hb hc hd e =
    let e₀ : m % 256 ≡ a = omega arith in
    let e₁ : m / 256 % 256 ≡ b = omega arith in
    let e₂ : m / 65_536 % 256 ≡ c = omega arith in
    let e₃ : m / 16_777_216 % 256 ≡ d = omega arith in
    ap₂ (λ x t. x ∷ t) e₀ (ap₂ (λ x t. x ∷ t) e₁ (ap₂ (λ x t. x ∷ t) e₂ (ap (λ x. x ∷ []) e₃)))

pub low_bytes : (o : ℕ) → to_le_bytes w32 (o % 4294967296) ≡ bytes32 o
low_bytes o =
    four_bytes (o % 4294967296) (o % 256) (o / 256 % 256) (o / 65_536 % 256) (o / 16_777_216 % 256) (omega arith) (omega arith) (omega arith) (omega arith) (parts o)

four_small : (l : List ℕ) (at : ℕ) → ((i : ℕ) → get_or l i 0 < 256) → (i : ℕ) → get_or (four_at l at) i 0 < 256
four_small l at small zero = small at
four_small l at small (suc zero) = small (at + 1)
four_small l at small (suc (suc zero)) = small (at + 2)
four_small l at small (suc (suc (suc zero))) = small (at + 3)
four_small l at small (suc (suc (suc (suc i)))) = omega arith

-- four bytes compared as one number, as std reads it
number_compared : (bs : List ℕ) (n o : ℕ) → length bs ≡ 4 → ((i : ℕ) → get_or bs i 0 < 256) → n ≡ from_le_bytes w32 bs
    → eqb n (o % 4294967296) ≡ same_bytes bs (bytes32 o)
number_compared bs n o four small read = go (eqb n (o % 4294967296)) refl (same_bytes bs (bytes32 o)) refl
  where
    go : (t : Bool) → eqb n (o % 4294967296) ≡ t → (u : Bool) → same_bytes bs (bytes32 o) ≡ u → t ≡ same_bytes bs (bytes32 o)
    go true e u f =
        let same : bs ≡ bytes32 o = sym (le_bytes_4 bs n four small read) ∙ ap (to_le_bytes w32) (eqb-true _ _ e) ∙ low_bytes o in
        rw same (sym (same_refl (bytes32 o)))
    go false e false f = sym f
    go false e true f =
        let same : bs ≡ to_le_bytes w32 (o % 4294967296) = same_equal bs (bytes32 o) f ∙ sym (low_bytes o) in
        absurd (eqb-false _ _ e (read ∙ ap (from_le_bytes w32) same ∙ from_le_bytes-to_le_bytes_4 (o % 4294967296) (omega arith)))

pub entry_compared : (l : List ℕ) (at n o : ℕ) → ((i : ℕ) → get_or l i 0 < 256) → n ≡ from_le_bytes w32 (four_at l at)
    → eqb n (o % 4294967296) ≡ same_bytes (four_at l at) (bytes32 o)
entry_compared l at n o small read = number_compared (four_at l at) n o refl (four_small l at small) read
