-- Looking up and working out: what the code's steps leave is what the machine's look-up leaves. Assumes nothing.
use Prim.Native.Nat.{ℕ, ◌+◌, ◌*◌, ◌/◌, ◌%◌, ◌<◌, ◌≤◌}
use mathlib.Core.Path.{◌≡◌, refl, sym, ap, subst, ◌∙◌, fun_ext}
use mathlib.Core.Bool.{Bool, true, false, ◌||◌}
use mathlib.Core.List.{List}
use mathlib.Core.Option.{some}
use native.Mathlib.Omega.{arith}
use lib.Dec.{eqb}
use lib.ListN.{length, length-set}
use lib.Seq.{get_or-set_same, get_or-set_other}
use borrow.Author.Tests.{eq-eqb, eqb-true, eqb-false}
use Rattle.circuit.specs.Value.{well_formed, kind_of, number_of, of_parts}
use Rattle.circuit.specs.Sheet.{Sheet, Item, size, item_at, is_figure, kept_of, Ordered}
use Rattle.circuit.specs.Table.{Table, Cell, Mark, unk, held, upd, notice_if, mark_of, is_notice, is_stored}
use Rattle.circuit.specs.Machine.{Looked, looked, store_if, flagged, look_cell, look_up, work_out}
use Rattle.std.specs.Prelude as std
use Rattle.circuit.proofs.View.{view}
use Rattle.circuit.proofs.Fill.{Fill, Filling, stays, fills, Looks, upd_same, upd_cases, fill_view, look_right, work_right, look_up_is}
use Rattle.circuit.proofs.Memo.{remember, remember_fill, work_store}
use Rattle.layout.specs.Opened.{sheet_of}
use Rattle.item.proofs.Located.{sheet_ordered}
use Rattle.table.specs.Rows.{set_row}
use Rattle.table.specs.Record.{width, may_hold, encode_cell}
use Rattle.table.specs.Bytes.{decode_table, table_form, OwedKept, Holdable}
use Rattle.table.proofs.Tables.{decoded_holdable, decode_set_row, set_row_form, set_row-owed, owed_kept_refl, owed_kept_then, record_fits}
use Rattle.memo.specs.declared.Seen.{Seen}
use Rattle.memo.specs.Memo.{Found, found, seen_meaning, recall_meaning, bit, code_of, tag_of, found_in, Pass, no_note, note_of, note_at, remembered, noted, known_of, Right, NoneFrom}
use Rattle.circuit.proofs.Parts.{kind_small, of_own_parts}
use Rattle.looking.specs.Pass.{Lent, Leaves}
use Rattle.office.proofs.Holdable.{look_formed}

-- the table that is lent, by the machine's words
module _ {s t : List ℕ} (lent : Lent s t) where
  pub lent_holdable : Holdable (sheet_of s) (decode_table t)
  lent_holdable = decoded_holdable (sheet_of s) t lent.formed

  pub lent_fits : (i : ℕ) → i < size (sheet_of s) → width * i + width ≤ length t
  lent_fits i low = record_fits (sheet_of s) t i lent.length_is low

  -- an item that is not stored is a figure
  pub unstored_figure : (i : ℕ) (f : Bool) → i < size (sheet_of s) → decode_table t i ≡ unk f → is_figure (item_at (sheet_of s) i) ≡ true
  unstored_figure i f low e = go (is_figure (item_at (sheet_of s) i)) (rw e at (lent_holdable i low))
    where
      go : (b : Bool) → may_hold b (unk f) ≡ true → b ≡ true
      go true h = refl
      go false h = h

  -- an item whose look-up changes nothing
  leaves_known : {m : Pass} (i : ℕ) (f : Found) → i < size (sheet_of s) → Right (sheet_of s) (decode_table t) m
      → look_up (sheet_of s) (decode_table t) i ≡ looked (decode_table t) f.value f.flag
      → (b : ℕ) → i < b → Leaves s t m b (look_up (sheet_of s) (decode_table t) i) f t m
  leaves_known {m} i f low right is b over =
      record {
        value_is = ap (λ r. r.value) (sym is);
        flag_is = ap (λ r. r.flag) (sym is);
        value_formed = subst (λ v. well_formed v ≡ true) (ap (λ r. r.value) is) (look_formed (sheet_of s) (sheet_ordered s) (decode_table t) i low lent_holdable);
        table_is = ap (λ r. r.table) (sym is);
        owed_kept = owed_kept_refl t;
        formed = lent.formed;
        right = subst (λ T. Right (sheet_of s) T m) (ap (λ r. r.table) (sym is)) right;
        generation_is = refl;
        fresh = λ h. h;
      }

bit_small : (b : Bool) → bit b ≤ 1
bit_small true = omega arith
bit_small false = omega arith

bit_back : (b : Bool) → eqb (bit b) 1 ≡ b
bit_back true = refl
bit_back false = refl

code_small : (f : Found) → code_of f < 8
code_small f = omega (arith, kind_small f.value, bit_small f.flag)

-- a tag read back
tag_generation : (generation : ℕ) (f : Found) → tag_of generation f / 8 ≡ generation
tag_generation generation f = omega (arith, code_small f)

tag_code : (generation : ℕ) (f : Found) → tag_of generation f % 8 ≡ code_of f
tag_code generation f = omega (arith, code_small f)

code_found : (f : Found) → found_in (code_of f) (number_of f.value) ≡ f
code_found f =
    let k : code_of f / 2 ≡ kind_of f.value = omega (arith, bit_small f.flag) in
    let m : code_of f % 2 ≡ bit f.flag = omega (arith, bit_small f.flag) in
    ap (λ q. found (of_parts q (number_of f.value)) (eqb (code_of f % 2) 1)) k
    ∙ ap (λ q. found (of_parts (kind_of f.value) (number_of f.value)) (eqb q 1)) m
    ∙ ap (λ v. found v (eqb (bit f.flag) 1)) (of_own_parts f.value)
    ∙ ap (found f.value) (bit_back f.flag)

-- what is remembered after a store at i, there and elsewhere
remembered_here : (m : Pass) (i : ℕ) (f : Found) → i < length m.notes → remembered (noted m i f) i ≡ some f
unfolding remembered
remembered_here m i f room =
    rw (
      get_or-set_same m.notes i (note_of m.generation f) no_note room,
      eq-eqb (tag_of m.generation f / 8) m.generation (tag_generation m.generation f),
      tag_code m.generation f,
    )
    (ap some (code_found f))

remembered_elsewhere : (m : Pass) (i j : ℕ) (f : Found) → (j ≡ i → ⊥) → remembered (noted m i f) j ≡ remembered m j
unfolding remembered
remembered_elsewhere m i j f h = rw (get_or-set_other m.notes i j (note_of m.generation f) no_note h)

-- a memo with one item more
pub right_noted : (S : Sheet) (T : Table) (m : Pass) (i : ℕ) (f : Found) → i < size S → Right S T m → look_up S T i ≡ looked T f.value f.flag
    → Right S T (noted m i f)
right_noted S T m i f low memo is =
    record {
      room = rw (length-set m.notes i (note_of m.generation f)) memo.room;
      young = λ j. young j (eqb j i) refl;
      right = λ j g e. right j g (eqb j i) refl e;
    }
  where
    room : i < length m.notes
    room = omega (arith, memo.room)

    young : (j : ℕ) (b : Bool) → eqb j i ≡ b → (note_at (noted m i f) j).tag < 8 * (m.generation + 1)
    young j true e =
        rw (eqb-true j i e, get_or-set_same m.notes i (note_of m.generation f) no_note room) (omega (arith, code_small f))
    young j false e = rw (get_or-set_other m.notes i j (note_of m.generation f) no_note (eqb-false j i e)) (memo.young j)

    right : (j : ℕ) (g : Found) (b : Bool) → eqb j i ≡ b → remembered (noted m i f) j ≡ some g → look_up S T j ≡ looked T g.value g.flag
    right j g true e q =
        let same : j ≡ i = eqb-true j i e in
        let found_f : some f ≡ some g = sym (remembered_here m i f room) ∙ ap (remembered (noted m i f)) (sym same) ∙ q in
        let f_g : f ≡ g = cc in
        ap (look_up S T) same ∙ is ∙ ap (λ h. looked T h.value h.flag) f_g
    right j g false e q = memo.right j g (sym (remembered_elsewhere m i j f (eqb-false j i e)) ∙ q)

-- a memo stays right over a fill
pub right_fill : (S : Sheet) → Ordered S → (T U : Table) (m : Pass) → Fill S T U → Right S T m → Right S U m
right_fill S ordered T U m fill memo =
    record {
      room = memo.room;
      young = memo.young;
      right = λ j f e. remember_fill S ordered T U j f.value f.flag fill (memo.right j f e);
    }

-- Working an item out leaves its own cell.
work_own : (S : Sheet) → Ordered S → (T : Table) (i : ℕ) → (work_out S T i).table i ≡ T i
work_own S ordered T i =
    ap (λ r. r.table i) (ap (λ X. work_out S X i) (sym again) ∙ work_store S ordered T i (T i) i (omega arith))
    ∙ upd_same (work_out S T i).table i (T i)
  where
    again : upd T i (T i) ≡ T
    again = fun_ext λ j. upd_cases (λ k c. c ≡ T k) T i (T i) refl (λ k n. refl) j

-- An unstored item was worked out, which gave w. What is settled is f: the same, flagged too where the item has a notice.
module _ {s t : List ℕ} (lent : Lent s t) {m : Pass} {i : ℕ} {noticed : Bool} (low : i < size (sheet_of s))
    (unstored : decode_table t i ≡ unk noticed) {w : Found} {t₁ : List ℕ} {m₁ : Pass} (len : length t₁ ≡ length t)
    (worked : (b : ℕ) → i ≤ b → Leaves s t m b (work_out (sheet_of s) (decode_table t) i) w t₁ m₁)
    (f : Found) (found_is : f ≡ found w.value (w.flag || noticed)) where
  abbrev S : Sheet
  S = sheet_of s

  abbrev r : Looked
  r = work_out S (decode_table t) i

  abbrev cell : Cell
  cell = held f.value (notice_if f.flag)

  here : Leaves s t m i r w t₁ m₁
  here = worked i (omega arith)

  value_f : f.value ≡ r.value
  value_f = ap (λ x. x.value) found_is ∙ here.value_is

  flag_f : f.flag ≡ (r.flag || noticed)
  flag_f = ap (λ x. x.flag) found_is ∙ ap (λ x. x || noticed) here.flag_is

  formed_f : well_formed f.value ≡ true
  formed_f = ap (λ x. well_formed x.value) found_is ∙ here.value_formed

  looks_worked : (kept : Bool) → kept ≡ kept_of (item_at S i) → look_up S (decode_table t) i ≡ store_if kept i (looked r.table f.value f.flag)
  unfolding work_out
  looks_worked kept kept-is =
      look_up_is S (sheet_ordered s) (decode_table t) i
      ∙ ap (λ c. look_cell (look_up S) S (decode_table t) i c) unstored
      ∙ ap (λ k. store_if k i (flagged noticed r)) (sym kept-is)
      ∙ ap (λ v. store_if kept i (looked r.table v (r.flag || noticed))) (sym value_f)
      ∙ ap (λ x. store_if kept i (looked r.table f.value x)) (sym flag_f)

  -- the look-up leaves the table T' and the memo m₂
  leaves_settled : (T' : Table) → look_up S (decode_table t) i ≡ looked T' f.value f.flag
      → (t₂ : List ℕ) (m₂ : Pass) → decode_table t₂ ≡ T' → OwedKept t₁ t₂ → table_form S t₂ ≡ true → Right S T' m₂
      → m₂.generation ≡ m₁.generation → (b : ℕ) → (NoneFrom b m → NoneFrom b m₂)
      → Leaves s t m b (look_up S (decode_table t) i) f t₂ m₂
  leaves_settled T' is t₂ m₂ table_is owes formed right generation b fresh =
      record {
        value_is = ap (λ x. x.value) (sym is);
        flag_is = ap (λ x. x.flag) (sym is);
        value_formed = formed_f;
        table_is = table_is ∙ ap (λ x. x.table) (sym is);
        owed_kept = owed_kept_then t t₁ t₂ here.owed_kept owes;
        formed = formed;
        right = rw is right;
        generation_is = generation ∙ here.generation_is;
        fresh = fresh;
      }

  -- the item is kept: it is stored
  leaves_kept : true ≡ kept_of (item_at S i) → (b : ℕ) → i < b
      → Leaves s t m b (look_up S (decode_table t) i) f (set_row width t₁ i (encode_cell cell)) m₁
  leaves_kept kept-is b over =
      leaves_settled (upd r.table i cell) is (set_row width t₁ i (encode_cell cell)) m₁
      (decode_set_row t₁ i cell fits formed_f ∙ ap (λ X. upd X i cell) here.table_is)
      (set_row-owed t₁ i cell)
      (set_row_form S t₁ i cell (len ∙ lent.length_is) here.formed low (rw fig formed_f))
      (right_fill S (sheet_ordered s) r.table (upd r.table i cell) m₁ fill here.right)
      refl
      b
      (worked b (omega arith)).fresh
    where
      is : look_up S (decode_table t) i ≡ looked (upd r.table i cell) f.value f.flag
      is = looks_worked true kept-is

      fits : width * i + width ≤ length t₁
      fits = omega (arith, lent_fits lent i low)

      fig : is_figure (item_at S i) ≡ true
      fig = unstored_figure lent i noticed low unstored

      seen : Looks S (decode_table t) (view S (decode_table t) i) (look_up S (decode_table t) i)
      seen = look_right S (sheet_ordered s) (decode_table t) i

      same_view : view S r.table i ≡ view S (decode_table t) i
      same_view = fill_view S (sheet_ordered s) (decode_table t) r.table (work_right S (sheet_ordered s) (decode_table t) i).fill i

      viewed : cell ≡ held (view S r.table i).value (notice_if (view S r.table i).flag)
      viewed =
          ap (λ v. held v (notice_if f.flag)) (ap (λ x. x.value) (sym is) ∙ seen.value ∙ ap (λ x. x.value) (sym same_view))
          ∙ ap (λ x. held (view S r.table i).value (notice_if x)) (ap (λ x. x.flag) (sym is) ∙ seen.flag ∙ ap (λ x. x.flag) (sym same_view))

      fill : Fill S r.table (upd r.table i cell)
      fill =
          upd_cases (Filling S r.table) r.table i cell
          (fills noticed fig (work_own S (sheet_ordered s) (decode_table t) i ∙ unstored) viewed)
          (λ j n. stays refl)

  -- it is not kept: it is remembered
  leaves_remembered : false ≡ kept_of (item_at S i) → (b : ℕ) → i < b → Leaves s t m b (look_up S (decode_table t) i) f t₁ (noted m₁ i f)
  leaves_remembered kept-is b over =
      leaves_settled r.table is t₁ (noted m₁ i f)
      here.table_is
      (owed_kept_refl t₁)
      here.formed
      (right_noted S r.table m₁ i f low here.right again)
      refl
      b
      (λ h j over'. rw (get_or-set_other m₁.notes i j (note_of m₁.generation f) no_note (λ e. omega arith)) ((worked b (omega arith)).fresh h j over'))
    where
      is : look_up S (decode_table t) i ≡ looked r.table f.value f.flag
      is = looks_worked false kept-is

      again : look_up S r.table i ≡ looked r.table f.value f.flag
      again = subst (λ x. look_up S x.table i ≡ looked x.table x.value x.flag) is (remember S (sheet_ordered s) (decode_table t) i)

-- The same from what the code's calls ensure: what is known of the item.
module _ {s t : List ℕ} (lent : Lent s t) {m : Pass} {i : ℕ} (low : i < size (sheet_of s)) (right : Right (sheet_of s) (decode_table t) m)
    (recall : std.Option Seen) (knows : recall_meaning recall ≡ known_of (decode_table t i) (remembered m i)) where
  pub known_returns : (seen : Seen) → recall ≡ std.Some seen
      → (b : ℕ) → i < b → Leaves s t m b (look_up (sheet_of s) (decode_table t) i) (seen_meaning seen) t m
  known_returns seen e = leaves_known lent i (seen_meaning seen) low right (go (decode_table t i) refl (ap recall_meaning (sym e) ∙ knows))
    where
      go : (c : Cell) → decode_table t i ≡ c → some (seen_meaning seen) ≡ known_of c (remembered m i)
          → look_up (sheet_of s) (decode_table t) i ≡ looked (decode_table t) (seen_meaning seen).value (seen_meaning seen).flag
      go (held v mark) q h =
          let same : found v (is_notice mark) ≡ seen_meaning seen = cc in
          look_up_is (sheet_of s) (sheet_ordered s) (decode_table t) i
          ∙ ap (λ c. look_cell (look_up (sheet_of s)) (sheet_of s) (decode_table t) i c) q
          ∙ ap (λ f. looked (decode_table t) f.value f.flag) same
      go (unk f) q h = right.right i (seen_meaning seen) (sym h)

-- what is worked out and settled
module _ {s t : List ℕ} (lent : Lent s t) {i : ℕ} (low : i < size (sheet_of s)) (unstored : is_stored (decode_table t i) ≡ false)
    (noticed : Bool) (notices : noticed ≡ is_notice (mark_of (decode_table t i))) where
  unstored_unk : decode_table t i ≡ unk noticed
  unstored_unk = go (decode_table t i) unstored notices
    where
      own : (f : Bool) → is_notice (notice_if f) ≡ f
      own true = refl
      own false = refl

      go : (c : Cell) → is_stored c ≡ false → noticed ≡ is_notice (mark_of c) → c ≡ unk noticed
      go (held v m) h n = let bad : ◌≡◌ {A = ℕ} 0 1 = cc in absurd (omega arith)
      go (unk f) h n = ap unk (sym (n ∙ own f))

  pub worked_figure : is_figure (item_at (sheet_of s) i) ≡ true
  worked_figure = unstored_figure lent i noticed low unstored_unk

  -- what is settled: flagged too where the item has a notice; stored where it is kept, remembered where it is not
  module _ {m : Pass} (w : Found) (t₁ : List ℕ) (m₁ : Pass) (len : length t₁ ≡ length t)
      (worked : (b : ℕ) → i ≤ b → Leaves s t m b (work_out (sheet_of s) (decode_table t) i) w t₁ m₁) where
    abbrev settled : Found
    settled = found w.value (w.flag || noticed)

    pub kept_returns : (it : Item) → it ≡ item_at (sheet_of s) i → true ≡ kept_of it → (mark : Mark) → mark ≡ notice_if (w.flag || noticed)
        → (t₂ : List ℕ) → t₂ ≡ set_row width t₁ i (encode_cell (held w.value mark))
        → (b : ℕ) → i < b → Leaves s t m b (look_up (sheet_of s) (decode_table t) i) settled t₂ m₁
    kept_returns it is kept mark mark_is t₂ stored b over =
        rw (stored, mark_is) (leaves_kept lent low unstored_unk len worked settled refl (kept ∙ ap kept_of is) b over)

    pub remembered_returns : (it : Item) → it ≡ item_at (sheet_of s) i → false ≡ kept_of it → (m₂ : Pass) → m₂ ≡ noted m₁ i settled
        → (b : ℕ) → i < b → Leaves s t m b (look_up (sheet_of s) (decode_table t) i) settled t₁ m₂
    remembered_returns it is kept m₂ noted_is b over =
        rw noted_is (leaves_remembered lent low unstored_unk len worked settled refl (kept ∙ ap kept_of is) b over)
