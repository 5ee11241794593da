-- What the tests of what is lent say of every call: it is refused, or it is the machine's on a sheet and a table in form.
-- Assumes nothing.
use Prim.Native.Nat.{ℕ, ◌*◌, ◌≤◌}
use native.Mathlib.Omega.{arith}
use mathlib.Core.Path.{◌≡◌, refl, sym, ap, ap₂, ◌∙◌}
use mathlib.Core.Bool.{Bool, true, false, ◌&&◌}
use mathlib.Core.List.{List, [], ◌∷◌}
use mathlib.Core.Option.{none}
use lib.Dec.{eqb}
use lib.ListN.{length, take}
use lib.Seq.{take-take, length-take-le}
use borrow.Author.Tests.{eqb-true, not-false}
use Rattle.layout.specs.Layout.{index_width}
use Rattle.layout.specs.Room.{room_for}
use Rattle.circuit.specs.Sheet.{Sheet, size}
use Rattle.circuit.specs.Call.{Call, Opening}
use Rattle.circuit.specs.Calls.{Test, test, first_cause, tests, effect}
use Rattle.circuit.specs.Table.{opened}
use Rattle.circuit.proofs.RuleLaws.{and_left, and_right}
use Rattle.layout.specs.Read as read
use Rattle.layout.specs.Read.{SheetRead, read_sheet}
use Rattle.layout.specs.Opened.{items_of, sheet_read, sheet_from, placed_from, sheet_of, Located}
use Rattle.layout.specs.Index.{index_bytes}
use Rattle.item.proofs.Located.{sheet_size, size_room}
use Rattle.table.specs.Record.{width}
use Rattle.table.specs.Bytes.{encode_table, decode_table, table_form, owed_true, table_length}
use Rattle.office.specs.Office.{Given, results_lent, refusal, accepted, lengths_off, index_wrong, table_wrong, unless_refused, effect_on, call_on, open_on, keeping}
use Rattle.admission.specs.Admission.{items, refused, items_unless, measured_by, measured_of, admitted_by, admitted_of, call_lent}

-- the lengths, where they are right
lengths_right : (n a b : ℕ) → lengths_off n a b ≡ false → (a ≡ index_width * n) × (b ≡ width * n)
lengths_right n a b e =
    let h = not-false _ e in
    (eqb-true a (index_width * n) (and_left (eqb a (index_width * n)) (eqb b (width * n)) h), eqb-true b (width * n) (and_right (eqb a (index_width * n)) (eqb b (width * n)) h))

-- ---- an opening

pub refused_open : (how : Opening) (s x t : List ℕ) (k at : ℕ) → refused k at ≡ measured_of s (length x) (length t) → open_on how s (keeping x t) ≡ refusal k at [] (keeping x t)
unfolding open_on measured_of first_cause
refused_open how s x t k at e = go (read_sheet s) refl e
  where
    by : (b : Bool) (n : ℕ) (g : Given) → refused k at ≡ items_unless (first_cause (test 8 b ∷ [])) n
        → unless_refused (first_cause (test 8 b ∷ [])) [] (keeping x t) g ≡ refusal k at [] (keeping x t)
    by true n g q = let a : 8 ≡ k = cc in let o : 0 ≡ at = cc in ap₂ (λ i j. refusal i j [] (keeping x t)) a o
    by false n g q = let z : ◌≡◌ {A = ℕ} 0 1 = cc in absurd (omega arith)

    go : (r : SheetRead) → read_sheet s ≡ r → refused k at ≡ measured_by r (length x) (length t) → open_on how s (keeping x t) ≡ refusal k at [] (keeping x t)
    go (read.refused j o) q y = let a : j ≡ k = cc in let b : o ≡ at = cc in rw q (ap₂ (λ i p. refusal i p [] (keeping x t)) a b)
    go (read.opens edition ps) q y =
        rw q
        (by (lengths_off (length ps) (length x) (length t)) (length ps) (accepted none [] (keeping (index_bytes ps) (encode_table (sheet_read edition ps) (opened how (sheet_read edition ps))))) y)

pub record Measured (s x t : List ℕ) (n : ℕ) : Type 0 where
  pub count_is : n ≡ size (sheet_of s)
  pub items_count : n ≡ length (items_of s)
  pub index_length : length x ≡ index_width * n
  pub table_length_lem : length t ≡ width * n
  pub opening : (how : Opening) → open_on how s (keeping x t) ≡ accepted none [] (keeping (index_bytes (items_of s)) (encode_table (sheet_of s) (opened how (sheet_of s))))

pub measured : (s x t : List ℕ) (n : ℕ) → items n ≡ measured_of s (length x) (length t) → Measured s x t n
unfolding open_on measured_of first_cause items_of sheet_of
measured s x t n e = go (read_sheet s) refl e
  where
    by : (b : Bool) (m : ℕ) → items n ≡ items_unless (first_cause (test 8 b ∷ [])) m → (b ≡ false) × (n ≡ m)
    by true m q = let z : ◌≡◌ {A = ℕ} 0 1 = cc in absurd (omega arith)
    by false m q = (refl, cc)

    go : (r : SheetRead) → read_sheet s ≡ r → items n ≡ measured_by r (length x) (length t) → Measured s x t n
    go (read.refused j o) q y = let z : ◌≡◌ {A = ℕ} 0 1 = cc in absurd (omega arith)
    go (read.opens edition ps) q y =
        let f = by (lengths_off (length ps) (length x) (length t)) (length ps) y in
        let l = lengths_right (length ps) (length x) (length t) f.0 in
        let i : length (items_of s) ≡ length ps = ap (λ r. length (placed_from r)) q in
        record {
          count_is = f.1 ∙ sym (sheet_size s ∙ i);
          items_count = f.1 ∙ sym i;
          index_length = l.0 ∙ ap (λ m. index_width * m) (sym f.1);
          table_length_lem = l.1 ∙ ap (λ m. width * m) (sym f.1);
          opening = λ how. rw (q, f.0);
        }

-- ---- a call

pub refused_call : (s x t : List ℕ) (c : Call) (k at : ℕ) → refused k at ≡ admitted_of s x t → call_on s (keeping x t) c ≡ refusal k at (results_lent c) (keeping x t)
unfolding call_on admitted_of first_cause
refused_call s x t c k at e = go (read_sheet s) refl e
  where
    by : (a b d : Bool) (n : ℕ) (ts : List Test) (g : Given) → refused k at ≡ items_unless (first_cause (test 8 a ∷ test 9 b ∷ test 10 d ∷ [])) n
        → unless_refused (first_cause (test 8 a ∷ test 9 b ∷ test 10 d ∷ ts)) (results_lent c) (keeping x t) g ≡ refusal k at (results_lent c) (keeping x t)
    by true b d n ts g q = let a : 8 ≡ k = cc in let o : 0 ≡ at = cc in ap₂ (λ i j. refusal i j (results_lent c) (keeping x t)) a o
    by false true d n ts g q = let a : 9 ≡ k = cc in let o : 0 ≡ at = cc in ap₂ (λ i j. refusal i j (results_lent c) (keeping x t)) a o
    by false false true n ts g q = let a : 10 ≡ k = cc in let o : 0 ≡ at = cc in ap₂ (λ i j. refusal i j (results_lent c) (keeping x t)) a o
    by false false false n ts g q = let z : ◌≡◌ {A = ℕ} 0 1 = cc in absurd (omega arith)

    go : (r : SheetRead) → read_sheet s ≡ r → refused k at ≡ admitted_by r x t → call_on s (keeping x t) c ≡ refusal k at (results_lent c) (keeping x t)
    go (read.refused j o) q y = let a : j ≡ k = cc in let b : o ≡ at = cc in rw q (ap₂ (λ i p. refusal i p (results_lent c) (keeping x t)) a b)
    go (read.opens edition ps) q y =
        rw q (by (lengths_off (length ps) (length x) (length t)) (index_wrong ps x) (table_wrong (sheet_read edition ps) t) (length ps)
        (tests (sheet_read edition ps) (decode_table t) c) (effect_on (sheet_read edition ps) (keeping x t) (effect (sheet_read edition ps) (decode_table t) c)) y)

pub record AdmittedCall (s x t : List ℕ) (n : ℕ) : Type 0 where
  pub count_is : n ≡ size (sheet_of s)
  pub table_length_lem : length t ≡ table_length (sheet_of s)
  pub formed : table_form (sheet_of s) t ≡ true
  pub owes : owed_true (sheet_of s) t ≡ true
  pub call : (c : Call) → call_on s (keeping x t) c ≡ call_lent (sheet_of s) x t c

pub admitted : (s x t : List ℕ) (n : ℕ) → items n ≡ admitted_of s x t → AdmittedCall s x t n
unfolding call_on admitted_of first_cause sheet_of items_of
admitted s x t n e = go (read_sheet s) refl e
  where
    by : (a b d : Bool) (m : ℕ) → items n ≡ items_unless (first_cause (test 8 a ∷ test 9 b ∷ test 10 d ∷ [])) m
        → (a ≡ false) × (b ≡ false) × (d ≡ false) × (n ≡ m)
    by true b d m q = let z : ◌≡◌ {A = ℕ} 0 1 = cc in absurd (omega arith)
    by false true d m q = let z : ◌≡◌ {A = ℕ} 0 1 = cc in absurd (omega arith)
    by false false true m q = let z : ◌≡◌ {A = ℕ} 0 1 = cc in absurd (omega arith)
    by false false false m q = (refl, refl, refl, cc)

    go : (r : SheetRead) → read_sheet s ≡ r → items n ≡ admitted_by r x t → AdmittedCall s x t n
    go (read.refused j o) q y = let z : ◌≡◌ {A = ℕ} 0 1 = cc in absurd (omega arith)
    go (read.opens edition ps) q y =
        let f = by (lengths_off (length ps) (length x) (length t)) (index_wrong ps x) (table_wrong (sheet_read edition ps) t) (length ps) y in
        let l = lengths_right (length ps) (length x) (length t) f.0 in
        let i : length (items_of s) ≡ length ps = ap (λ r. length (placed_from r)) q in
        let m : size (sheet_of s) ≡ length ps = sheet_size s ∙ i in
        let S : sheet_of s ≡ sheet_read edition ps = ap sheet_from q in
        let X : Sheet = sheet_read edition ps in
        record {
          count_is = f.3 ∙ sym m;
          table_length_lem = l.1 ∙ ap (λ m. width * m) (sym m);
          formed = ap (λ S. table_form S t) S ∙ and_left (table_form X t) (owed_true X t) (not-false (table_form X t && owed_true X t) f.2);
          owes = ap (λ S. owed_true S t) S ∙ and_right (table_form X t) (owed_true X t) (not-false (table_form X t && owed_true X t) f.2);
          call = λ c. rw (q, f.0, f.1, f.2);
        }

-- What a sheet is made of: its bytes and the first n offsets of the array, once the tests found n items.
pub record Placed (s offsets : List ℕ) (n : ℕ) : Type 0 where
  pub within : n ≤ length offsets
  pub located : Located s (take n offsets)
  pub counted : length (take n offsets) ≡ size (sheet_of s)

pub placed : (s offsets : List ℕ) (n : ℕ) → n ≡ size (sheet_of s) → room_for s ≤ length offsets → Located s offsets → Placed s offsets n
unfolding Located
placed s offsets n e room l =
    let m : length (items_of s) ≡ n = sym (sheet_size s) ∙ sym e in
    let w : n ≤ length offsets = omega (arith, size_room s) in
    record {
      within = w;
      located = take-take (length (items_of s)) n offsets (omega arith) ∙ l;
      counted = length-take-le n offsets w ∙ e;
    }
