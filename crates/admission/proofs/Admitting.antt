-- The tests of what is lent and of the item, and the answer, from what the code's calls ensure. Assumes nothing.
use Prim.Native.Nat.{ℕ, zero, suc, ◌+◌, ◌*◌, ◌<◌}
use native.Mathlib.Omega.{arith}
use native.Mathlib.Numerals.{add-one}
use mathlib.Core.Path.{◌≡◌, refl, sym, ap, ap₂, ◌∙◌}
use mathlib.Core.Bool.{Bool, true, false, not, ◌&&◌, and_assoc}
use mathlib.Core.List.{List, [], ◌∷◌}
use lib.ListN.{length, take}
use borrow.Author.Tests.{eq-eqb, ne_eqb}
use Rattle.std.specs.Prelude.{Ok, Err}
use Rattle.std.specs.List.{list_all, range_with_len}
use Rattle.cause.specs.Cause.{number_of}
use Rattle.cause.specs.declared.Cause.{Cause}
use Rattle.cause.proofs.Numbers.{number_some}
use Rattle.circuit.specs.Sheet.{Sheet, size, item_at, is_figure}
use Rattle.circuit.specs.Table.{Table, Cell, upd, is_stored}
use Rattle.circuit.specs.Call.{Call}
use Rattle.circuit.specs.Calls.{Test, test, first_cause, tests, effect, no_item}
use Rattle.layout.specs.Opened.{items_of, placed_from, sheet_from, sheet_read, sheet_of, offsets_of, levels_of, Located}
use Rattle.layout.specs.Read as read
use Rattle.layout.specs.Read.{SheetRead, read_sheet}
use Rattle.sheet.specs.Check as check
use Rattle.sheet.specs.Check.{checked_of, read_so_far}
use Rattle.layout.specs.Layout.{index_width}
use Rattle.sheet.proofs.Located as checked
use Rattle.item.specs.declared.Kind.{Kind}
use Rattle.item.proofs.Located.{sheet_ordered}
use Rattle.item.specs.Offsets.{same_bytes, offset_bytes}
use Rattle.item.proofs.Offsets.{located_index}
use Rattle.field.specs.Bytes.{Bytes, over}
use Rattle.table.specs.Rows.{row, set_row, all_below}
use Rattle.table.specs.Record.{width, encode_cell, record_form}
use Rattle.table.specs.Bytes.{encode_table, decode_table, table_form, owed_true}
use Rattle.table.proofs.Rows.{below_same}
use Rattle.table.proofs.Tables.{encode_decode_table, encode_upd}
use Rattle.office.specs.Office.{lengths_off, index_wrong, table_wrong}
use Rattle.looking.specs.Pass.{Lent}
use Rattle.admission.specs.Admission.{items, refused, items_unless, measured_by, measured_of, admitted_of, call_lent, Scanned}
use Rattle.admission.proofs.Admission.{measured}
use Rattle.admission.specs.Answers.{Did, Left, wrong_item}

-- ---- the check's answer and the lengths

module _ (s : List ℕ) (a b : ℕ) where
  pub measured_refused : (k at : ℕ) → check.refused k at ≡ checked_of (read_sheet s) → refused k at ≡ measured_of s a b
  unfolding measured_of
  measured_refused k at e = rw (checked.refusal s k at e)

  module _ (edition count : ℕ) (e : check.opens edition count ≡ checked_of (read_sheet s)) where
    pub count_small : count < 65_536
    count_small = omega (arith, (checked.opening s edition count e).count_is, Rattle.item.proofs.Located.size_most s)

    measured_opens : (w : Bool) → lengths_off count a b ≡ w → items_unless (first_cause (test 8 w ∷ [])) count ≡ measured_of s a b
    unfolding measured_of
    measured_opens w h =
        let o = checked.opening s edition count e in
        rw (o.reads, ← o.items_count, h)

    pub measured_index : (a ≡ index_width * count → ⊥) → refused 8 0 ≡ measured_of s a b
    unfolding first_cause
    measured_index h = measured_opens true (rw (ne_eqb a (index_width * count) h))

    pub measured_table : a ≡ index_width * count → (b ≡ width * count → ⊥) → refused 8 0 ≡ measured_of s a b
    unfolding first_cause
    measured_table f h = measured_opens true (rw (eq-eqb a (index_width * count) f, ne_eqb b (width * count) h))

    pub measured_items : a ≡ index_width * count → b ≡ width * count → items count ≡ measured_of s a b
    unfolding first_cause
    measured_items f h = measured_opens false (rw (eq-eqb a (index_width * count) f, eq-eqb b (width * count) h))

-- what the check leaves in the arrays
pub scanned : {s offsets levels offsets' levels' : List ℕ} → offsets' ≡ over (offsets_of (read_so_far s)) offsets → levels' ≡ over (levels_of (read_so_far s)) levels
    → Scanned s offsets levels offsets' levels'
scanned {s} o l = record { found = record { offsets_are = o; located = checked.located s _ _ o }; levels_are = l }

-- ---- the form of the table, record by record

below_first : (p : ℕ → Bool) (n : ℕ) → all_below p (suc n) ≡ p 0 && all_below (λ i. p (i + 1)) n
unfolding all_below
below_first p zero = go (p 0)
  where
    go : (b : Bool) → true && b ≡ b && true
    go true = refl
    go false = refl
below_first p (suc n) =
    ap₂ (λ a b. a && b) (below_first p n) (ap p (sym (add-one n)))
    ∙ and_assoc (p 0) (all_below (λ i. p (i + 1)) n) (p (n + 1))

listed_from : (f : ℕ → Bool) (a n : ℕ) → list_all f (range_with_len a n) ≡ all_below (λ i. f (a + i)) n
unfolding all_below
listed_from f a zero = refl
listed_from f a (suc n) =
    let z : a ≡ a + 0 = omega arith in
    ap₂ (λ b c. b && c) (ap f z)
    (listed_from f (a + 1) n ∙ below_same (λ i. f (a + 1 + i)) (λ i. f (a + (i + 1))) n (λ i h. let e : a + 1 + i ≡ a + (i + 1) = omega arith in ap f e))
    ∙ sym (below_first (λ i. f (a + i)) n)

-- the numbers below n, one after another
pub listed_below : (f : ℕ → Bool) (n : ℕ) → list_all f (range_with_len 0 n) ≡ all_below f n
listed_below f n = listed_from f 0 n ∙ below_same (λ i. f (0 + i)) f n (λ i h. let e : 0 + i ≡ i = omega arith in ap f e)

-- the form of the records that the sheet's items have, by the kind of each
table_formed_by : (S : Sheet) (t : List ℕ) → list_all (λ k. record_form (is_figure (item_at S k)) (row width t k)) (range_with_len 0 (size S)) ≡ table_form S t
unfolding table_form
table_formed_by S t = listed_below (λ k. record_form (is_figure (item_at S k)) (row width t k)) (size S)

module _ (S : Sheet) (t : List ℕ) {r : Bool}
    (all : r ≡ list_all (λ k. record_form (is_figure (item_at S k)) (row width t k)) (range_with_len 0 (size S))) where
  pub formed_both : r ≡ true → {b : Bool} → b ≡ owed_true S t → b ≡ (table_form S t && owed_true S t)
  formed_both e o = o ∙ ap (λ w. w && owed_true S t) (sym e ∙ all ∙ table_formed_by S t)

  pub formed_not : r ≡ false → r ≡ (table_form S t && owed_true S t)
  formed_not e = e ∙ ap (λ w. w && owed_true S t) (sym e ∙ all ∙ table_formed_by S t)

-- ---- the tests of an item, and what a call gives

-- what the first two tests refuse, a call's tests refuse
pub first_two : (a b : Bool) (ts : List Test) (k : ℕ) → k ≡ first_cause (test 11 a ∷ test 12 b ∷ []) → (k ≡ 0 → ⊥) → first_cause (test 11 a ∷ test 12 b ∷ ts) ≡ k
unfolding first_cause
first_two true b ts k e h = sym e
first_two false true ts k e h = sym e
first_two false false ts k e h = absurd (h e)

pub past_two : (a b : Bool) (ts : List Test) → 0 ≡ first_cause (test 11 a ∷ test 12 b ∷ []) → first_cause (test 11 a ∷ test 12 b ∷ ts) ≡ first_cause ts
unfolding first_cause
past_two true b ts e = absurd (omega arith)
past_two false true ts e = absurd (omega arith)
past_two false false ts e = refl

module _ (S : Sheet) (x t : List ℕ) (c : Call) where
  refused_by : {A : Type 0} (cause : Cause) (k : ℕ) → number_of cause ≡ k → (k ≡ 0 → ⊥) → first_cause (tests S (decode_table t) c) ≡ k
      → Did {A = A} (call_lent S x t c) (Err cause) t
  refused_by cause zero n h e = absurd (h refl)
  refused_by cause (suc k) n h e = rw e (record { number_is = n; offset_is = refl; table_is = refl })

  -- a call that its own tests refuse
  pub refused_did : {A : Type 0} (cause : Cause) → first_cause (tests S (decode_table t) c) ≡ number_of cause → Did {A = A} (call_lent S x t c) (Err cause) t
  refused_did cause e = refused_by cause (number_of cause) refl (number_some cause) e

  -- A call whose tests begin with those of its item, figures or entries: refused by them, or past them.
  module _ (kind : Kind) (item : ℕ) (ts : List Test) (first : tests S (decode_table t) c ≡ test 11 (no_item S item) ∷ test 12 (wrong_item kind S item) ∷ ts) where
    pub item_refused : {A : Type 0} (cause : Cause) → number_of cause ≡ first_cause (test 11 (no_item S item) ∷ test 12 (wrong_item kind S item) ∷ [])
        → Did {A = A} (call_lent S x t c) (Err cause) t
    item_refused cause e =
        refused_did cause (ap first_cause first ∙ first_two (no_item S item) (wrong_item kind S item) ts (number_of cause) e (number_some cause))

    pub item_passed : 0 ≡ first_cause (test 11 (no_item S item) ∷ test 12 (wrong_item kind S item) ∷ []) → first_cause (tests S (decode_table t) c) ≡ first_cause ts
    item_passed e = ap first_cause first ∙ past_two (no_item S item) (wrong_item kind S item) ts e

-- a call that its own tests let pass
pub accepted_did : (S : Sheet) (x t t' : List ℕ) (c : Call) {A : Type 0} (a : A) → first_cause (tests S (decode_table t) c) ≡ 0
    → t' ≡ encode_table S (effect S (decode_table t) c).table → Did (call_lent S x t c) (Ok a) t'
accepted_did S x t t' c a e h = rw e (record { number_is = refl; offset_is = refl; table_is = h })

-- the bytes of a table that decodes to U, once its owed bytes are settled
pub left_settled : {s : List ℕ} {U : Table} {t' : List ℕ} → Left s U t' → (t'' : List ℕ) → t'' ≡ encode_table (sheet_of s) (decode_table t') → t'' ≡ encode_table (sheet_of s) U
left_settled {s} left t'' e = e ∙ ap (encode_table (sheet_of s)) left.table_is

-- the bytes of a table in form with true owed bytes
pub lent_encoded : {s t : List ℕ} → Lent s t → Bytes t → owed_true (sheet_of s) t ≡ true → encode_table (sheet_of s) (decode_table t) ≡ t
lent_encoded {s} {t} lent bytes owes = encode_decode_table (sheet_of s) t bytes lent.length_is lent.formed owes

-- what a store leaves that changes no owed byte
pub stored_encoded : {s t : List ℕ} → Lent s t → Bytes t → owed_true (sheet_of s) t ≡ true → (i : ℕ) (c : Cell) → i < size (sheet_of s)
    → is_stored c ≡ is_stored (decode_table t i) → set_row width t i (encode_cell c) ≡ encode_table (sheet_of s) (upd (decode_table t) i c)
stored_encoded {s} {t} lent bytes owes i c low stored =
    sym (encode_upd (sheet_of s) (sheet_ordered s) (decode_table t) i c low stored
    ∙ ap (λ l. set_row width l i (encode_cell c)) (lent_encoded lent bytes owes))

-- ---- admitting

module _ (s x t offsets : List ℕ) (n : ℕ) (e : items n ≡ measured_of s (length x) (length t)) (located : Located s offsets) where
  index_is : (m : Bool) → m ≡ same_bytes x (offset_bytes (take n offsets)) → index_wrong (items_of s) x ≡ not m
  index_is m h =
      let g = measured s x t n e in
      ap not (sym (h ∙ ap (same_bytes x) (ap (λ k. offset_bytes (take k offsets)) g.items_count ∙ located_index s offsets located)))

  admit_by : (a b : Bool) → index_wrong (items_of s) x ≡ a → table_wrong (sheet_of s) t ≡ b
      → items_unless (first_cause (test 8 false ∷ test 9 a ∷ test 10 b ∷ [])) n ≡ admitted_of s x t
  unfolding admitted_of measured_of items_of sheet_of first_cause
  admit_by a b f g = go (read_sheet s) refl e
    where
      by : (w : Bool) (m : ℕ) → items n ≡ items_unless (first_cause (test 8 w ∷ [])) m → (w ≡ false) × (n ≡ m)
      by true m q = let z : ◌≡◌ {A = ℕ} 0 1 = cc in absurd (omega arith)
      by false m q = (refl, cc)

      go : (r : SheetRead) → read_sheet s ≡ r → items n ≡ measured_by r (length x) (length t) → items_unless (first_cause (test 8 false ∷ test 9 a ∷ test 10 b ∷ [])) n ≡ admitted_of s x t
      go (read.refused j o) q y = let z : ◌≡◌ {A = ℕ} 0 1 = cc in absurd (omega arith)
      go (read.opens edition ps) q y =
          let w = by (lengths_off (length ps) (length x) (length t)) (length ps) y in
          let fa : index_wrong ps x ≡ a = ap (λ r. index_wrong (placed_from r) x) (sym q) ∙ f in
          let gb : table_wrong (sheet_read edition ps) t ≡ b = ap (λ r. table_wrong (sheet_from r) t) (sym q) ∙ g in
          rw (q, w.0, fa, gb, w.1)

  pub admit_index : (m : Bool) → m ≡ same_bytes x (offset_bytes (take n offsets)) → m ≡ false → refused 9 0 ≡ admitted_of s x t
  unfolding first_cause
  admit_index m h q = admit_by true (table_wrong (sheet_of s) t) (index_is m h ∙ ap not q) refl

  pub admit_table : (m : Bool) → m ≡ same_bytes x (offset_bytes (take n offsets)) → m ≡ true → (f : Bool) → f ≡ (table_form (sheet_of s) t && owed_true (sheet_of s) t) → f ≡ false
      → refused 10 0 ≡ admitted_of s x t
  unfolding first_cause
  admit_table m h q f g p = admit_by false true (index_is m h ∙ ap not q) (ap not (sym g ∙ p))

  pub admit_items : (m : Bool) → m ≡ same_bytes x (offset_bytes (take n offsets)) → m ≡ true → (f : Bool) → f ≡ (table_form (sheet_of s) t && owed_true (sheet_of s) t) → f ≡ true
      → items n ≡ admitted_of s x t
  unfolding first_cause
  admit_items m h q f g p = admit_by false false (index_is m h ∙ ap not q) (ap not (sym g ∙ p))

pub admit_refused : (s x t : List ℕ) (k at : ℕ) → refused k at ≡ measured_of s (length x) (length t) → refused k at ≡ admitted_of s x t
unfolding admitted_of measured_of first_cause
admit_refused s x t k at e = go (read_sheet s) refl e
  where
    by : (w a b : Bool) (m : ℕ) → refused k at ≡ items_unless (first_cause (test 8 w ∷ [])) m → refused k at ≡ items_unless (first_cause (test 8 w ∷ test 9 a ∷ test 10 b ∷ [])) m
    by true a b m q = q
    by false a b m q = let z : ◌≡◌ {A = ℕ} 0 1 = cc in absurd (omega arith)

    go : (r : SheetRead) → read_sheet s ≡ r → refused k at ≡ measured_by r (length x) (length t) → refused k at ≡ admitted_of s x t
    go (read.refused j o) q y = rw q y
    go (read.opens edition ps) q y = rw q (by (lengths_off (length ps) (length x) (length t)) (index_wrong ps x) (table_wrong (sheet_read edition ps) t) (length ps) y)
