-- 02's job 10: an edition 1 sheet that opens and holds spread 2 is refused with 5 at the first figure that holds it when its edition becomes
-- 2 (`forget_refused`), and an edition 2 sheet that opens holds none (`none_in_2`). Assumes nothing.
use mathlib.Core.Path.{◌≡◌, refl, sym, ap, subst, ◌∙◌}
use mathlib.Core.Bool.{Bool, true, false, not, ◌&&◌}
use mathlib.Core.List.{List}
use mathlib.Core.Logic.{◌⊎◌, inl, inr}
use Prim.Native.Nat.{ℕ, zero, suc, ◌+◌, ◌-◌, ◌≤◌, ◌<◌}
use native.Mathlib.Omega.{arith}
use native.Mathlib.Decide.{ℕ_discrete}
use lib.Dec.{eqb}
use lib.ListN.{take, get_or}
use borrow.Author.Tests.{eqb-true}
use Rattle.field.specs.Field.{field, header_length, len_at, cut_at}
use Rattle.field.proofs.Cutting.{field_iff}
use Rattle.circuit.specs.Calls.{first_cause}
use Rattle.layout.specs.Layout.{figure_field, head_length, head_next, head_tag, figure_tag, item_limit, spread_limit, spread_allowed, rule_allowed, keep_allowed}
use Rattle.layout.specs.Content.{content_at, count_in, rule_in, keep_in, spread_in, parent_count_in, parents_in, name_in, item_in}
use Rattle.layout.specs.Read.{Placed, rule_wrong, head_tests, item_tests, judge, going, stopped, scan, head_content, scan_sheet, opens, refused, read_sheet}
use Rattle.layout.specs.Causes.{item, edition_of, item_count, offset_of, tag_of, content_of, CauseAt, cause5, Faultless}
use Rattle.layout.specs.Edition.{with_edition}
use Rattle.layout.specs.Spreads.{holds_forget, NoForget, FirstForget}
use Rattle.layout.proofs.Scan.{Passes, passes, and_left, and_right, opened, offset_from, scan_prefix, scan_item_lem, scan_stopped, allowed_limit, head_judged}
use Rattle.layout.proofs.Causes.{edition_same, count_same, stands, opens_faultless}
use Rattle.layout.proofs.Editions.{Past, scan_past, edition_length, edition_after, edition_count, cut_same, after_same, head_same, counts_1_2, scans_1_2, said_2}

-- a figure with spread 2 is wrong in edition 2
wrong_in_2 : (tag : ℕ) (content : List ℕ) → (eqb tag figure_tag && eqb (spread_in content) 2) ≡ true → rule_wrong 2 (item_in tag content) ≡ true
unfolding item_in spread_allowed spread_limit
wrong_in_2 tag content e = rw (and_left (eqb tag figure_tag) (eqb (spread_in content) 2) e) (go (and_right (eqb tag figure_tag) (eqb (spread_in content) 2) e))
  where
    third : (a b : Bool) → not (a && b && false) ≡ true
    third true true = refl
    third true false = refl
    third false b = refl

    go : eqb (spread_in content) 2 ≡ true
        → rule_wrong 2 (figure_field (rule_in content) (keep_in content) (spread_in content) (parents_in content (parent_count_in content)) (name_in content)) ≡ true
    go h = rw (eqb-true (spread_in content) 2 h) (third (rule_allowed (rule_in content) _) (keep_allowed (keep_in content)))

-- so its field, which has no lower cause, is given 5
judged_5 : (ps : List Placed) (tag : ℕ) (content : List ℕ) → Passes 1 ps tag content → (eqb tag figure_tag && eqb (spread_in content) 2) ≡ true
    → first_cause (item_tests 2 ps tag content) ≡ 5
unfolding item_tests first_cause
judged_5 ps tag content p e = rw (p.tag_fits, p.name_fits, wrong_in_2 tag content e)

module _ (s : List ℕ) (one : edition_of s ≡ 1) (sound : Faultless s) (i : ℕ) (first : FirstForget s i) where
  abbrev t : List ℕ
  t = with_edition 2 s

  -- the sheet opens: its first field, and its items
  record Read : Type 0 where
    head : cut_at s 0 ≡ field head_tag header_length head_length head_next
    judged : judge head_tests s (cut_at s 0) ≡ 0
    few : item_count s ≤ item_limit 1
    earlier : List Placed
    scanned : scan s 1 i ≡ going (offset_of s (item i)) earlier
    next : ℕ
    whole : cut_at s (offset_of s (item i)) ≡ field (tag_of s (item i)) (offset_of s (item i) + header_length) (len_at s (offset_of s (item i))) next
    passed : Passes 1 earlier (tag_of s (item i)) (content_of s (item i))

  is_read : Read
  is_read = go ((opens_faultless s).1 sound)
    where
      go : (edition : ℕ) × (ps : List Placed) × (read_sheet s ≡ opens edition ps) → Read
      go (edition, ps, reads) =
          let e : edition ≡ 1 = sym (opened s edition ps reads).edition_is ∙ edition_same s ∙ one in
          let o = opened s 1 ps (reads ∙ ap (λ d. opens d ps) e) in
          let n : ℕ = count_in (head_content s) in
          let all : scan s 1 n ≡ going o.at ps = o.scanned in
          let low : i < n = omega (arith, first.in_sheet, count_same s) in
          let before = scan_prefix s 1 n o.at ps all i (omega arith) in
          let at_i : offset_from o.at ps i ≡ offset_of s (item i) = (stands s 1 (sym one) o.head i _ _ before).offset_is in
          let r = (scan_item_lem s 1 n o.at ps all i low).read in
          let f = (field_iff s (offset_from o.at ps i) r.tag r.start r.len (offset_from o.at ps (suc i))).0 r.whole in
          let tag_is : r.tag ≡ tag_of s (item i) = f.tag_is ∙ ap (λ a. get_or s a 0) at_i in
          let start_is : r.start ≡ offset_of s (item i) + header_length = f.start_is ∙ ap (λ a. a + header_length) at_i in
          let len_is : r.len ≡ len_at s (offset_of s (item i)) = f.len_is ∙ ap (len_at s) at_i in
          record {
            head = o.head;
            judged = head_judged s (record { head = o.head; edition_fits = rw o.edition_is o.edition_fits; count_fits = rw o.edition_is o.count_fits });
            few = omega (arith, allowed_limit 1 n o.count_fits, count_same s);
            earlier = take i ps;
            scanned = rw at_i at before;
            next = offset_from o.at ps (suc i);
            whole = rw (at_i, tag_is, start_is, len_is) at r.whole;
            passed = rw (tag_is, start_is, len_is) at (passes 1 (take i ps) r.tag (content_at s r.start r.len) r.sound);
          }

  -- a scan in edition 2 stops there
  stops : (r : Read) → scan t 2 (suc i) ≡ stopped 5 (offset_of s (item i))
  unfolding scan
  stops r =
      let at : ℕ = offset_of s (item i) in
      let past : head_next ≤ at = subst Past r.scanned (scan_past s 1 i) in
      rw (
        scans_1_2 s one r.head i first.first,
        r.scanned,
        cut_same s t (edition_length 2 s) (edition_after 2 s) at past,
        r.whole,
        after_same s t (edition_length 2 s) (edition_after 2 s) (at + header_length) (omega arith),
        judged_5 r.earlier (tag_of s (item i)) (content_of s (item i)) r.passed first.holds,
      )

  pub forget_refused : read_sheet t ≡ refused 5 (offset_of s (item i))
  unfolding read_sheet scan_sheet
  forget_refused =
      let r = is_read in
      let n : ℕ = item_count s in
      let d : (n - suc i) + suc i ≡ n = omega (arith, first.in_sheet) in
      let stopped_n : scan t 2 n ≡ stopped 5 (offset_of s (item i)) = ap (scan t 2) (sym d) ∙ scan_stopped t 2 (suc i) (n - suc i) 5 (offset_of s (item i)) (stops r) in
      rw (edition_same t, count_same t, said_2 s one, edition_count 2 s, head_same s 2 (said_2 s one) (rw one (counts_1_2 n r.few)), r.judged, stopped_n)

-- In edition 2 a figure that holds it is at fault, so a sheet without a fault holds none.
pub forget_cause : (s : List ℕ) → edition_of s ≡ 2 → (i : ℕ) → holds_forget s i ≡ true → CauseAt s (item i) 5
forget_cause s two i e =
    let tag : tag_of s (item i) ≡ figure_tag = eqb-true _ figure_tag (and_left (eqb (tag_of s (item i)) figure_tag) _ e) in
    let spread : spread_in (content_of s (item i)) ≡ 2 = eqb-true _ 2 (and_right (eqb (tag_of s (item i)) figure_tag) _ e) in
    cause5 (tag, inr (inr (inr (two, spread))))

pub none_in_2 : (s : List ℕ) → edition_of s ≡ 2 → Faultless s → NoForget s
none_in_2 s two sound i low = go (holds_forget s i) refl
  where
    go : (b : Bool) → holds_forget s i ≡ b → b ≡ false
    go false e = refl
    go true e = absurd (sound (item i) low 5 (forget_cause s two i e))

-- Of the items below n, one is the first that holds it, or none does.
search : (s : List ℕ) (n : ℕ) → n ≤ item_count s → ((i : ℕ) × FirstForget s i) ⊎ ((j : ℕ) → j < n → holds_forget s j ≡ false)
search s zero h = inr (λ j l. absurd (omega arith))
search s (suc n) h = go (search s n (omega arith)) (holds_forget s n) refl
  where
    go : ((i : ℕ) × FirstForget s i) ⊎ ((j : ℕ) → j < n → holds_forget s j ≡ false) → (b : Bool) → holds_forget s n ≡ b
        → ((i : ℕ) × FirstForget s i) ⊎ ((j : ℕ) → j < suc n → holds_forget s j ≡ false)
    go (inl f) b e = inl f
    go (inr none) true e = inl (n, record { in_sheet = omega arith; holds = e; first = none })
    go (inr none) false e = inr (λ j l. which j l (ℕ_discrete j n))
      where
        which : (j : ℕ) → j < suc n → Dec (j ≡ n) → holds_forget s j ≡ false
        which j l (yes q) = ap (holds_forget s) q ∙ e
        which j l (no q) = none j (omega arith)

pub first_or_none : (s : List ℕ) → ((i : ℕ) × FirstForget s i) ⊎ NoForget s
first_or_none s = search s (item_count s) (omega arith)
