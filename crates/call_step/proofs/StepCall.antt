-- Step: its own tests, and what it leaves. Assumes nothing.
use Prim.Native.Nat.{ℕ, ◌≤◌, ◌<◌, ◌+◌, ◌*◌}
use mathlib.Core.Path.{◌≡◌, refl, sym, ap, ◌∙◌}
use mathlib.Core.Bool.{Bool, true, false, cond, not}
use mathlib.Core.List.{List, [], ◌∷◌}
use lib.ListN.{length, get_or}
use borrow.Author.Tests.{lt-leb}
use Rattle.std.specs.Prelude.{Ok, Err}
use Rattle.cause.specs.declared.Cause.{Cause}
use Rattle.cause.specs.Cause.{number_of}
use Rattle.cause.proofs.Numbers.{number_some}
use Rattle.circuit.specs.Sheet.{Sheet, size}
use Rattle.circuit.specs.Table.{Table, Cell, unmarked, refresh, notice, unk, held, is_marked, is_notice, mark_of}
use Rattle.circuit.specs.Owed.{owed}
use Rattle.circuit.specs.Machine.{tell, clear_mark, step_cell, step_item}
use Rattle.circuit.specs.Ascending.{tell_by}
use Rattle.circuit.proofs.CalledOn.{tell_by_lem}
use Rattle.circuit.proofs.StepOwed.{step_owed}
use Rattle.circuit.specs.Call.{step}
use Rattle.circuit.specs.Calls.{test, first_cause, tests, effect, no_item, no_mark}
use Rattle.field.specs.Bytes.{Bytes}
use Rattle.layout.specs.Opened.{sheet_of}
use Rattle.item.proofs.Located.{sheet_ordered}
use Rattle.table.specs.Rows.{row}
use Rattle.table.specs.Record.{width, owed_in}
use Rattle.table.specs.Bytes.{encode_table, decode_table, owed_true, OwedKept}
use Rattle.table.proofs.Tables.{encoded_kept}
use Rattle.owing.specs.Owing.{says_owed, OwedIs}
use Rattle.owing.proofs.Passing.{code_owes}
use Rattle.looking.specs.Pass.{Lent}
use Rattle.memo.specs.Memo.{Pass}
use Rattle.admission.specs.Admission.{call_lent}
use Rattle.admission.specs.Answers.{Did, Left}
use Rattle.admission.proofs.Admitting.{refused_did, accepted_did}
use Rattle.stepping.specs.Stepping.{Steps}
use Rattle.stepping.proofs.Starting.{copied_owed}

-- ---- the tests

-- a refusal by the first test
pub first_refused : (a b : Bool) (cause : Cause) → number_of cause ≡ first_cause (test 11 a ∷ []) → number_of cause ≡ first_cause (test 11 a ∷ test 14 b ∷ [])
unfolding first_cause
first_refused true b cause e = e
first_refused false b cause e = absurd (number_some cause e)

abbrev mark_at : Bool → ℕ
mark_at true = 0
mark_at false = 14

-- an item of the sheet is tested for its mark
pub mark_tested : (S : Sheet) (T : Table) {item i : ℕ} → (i ≡ item) × (i < size S) → (b bv : Bool) → b ≡ is_marked (T i) → b ≡ bv
    → mark_at bv ≡ first_cause (test 11 (no_item S item) ∷ test 14 (no_mark T item) ∷ [])
unfolding first_cause
mark_tested S T {item} {i} found b bv e q =
    rw (← found.0, lt-leb (size S) i found.1) (go bv ∙ ap (λ w. cond (not w) 14 0) (sym q ∙ e))
  where
    go : (w : Bool) → mark_at w ≡ cond (not w) 14 0
    go true = refl
    go false = refl

-- ---- the table

-- what an array of owed bytes says of an item
owes_owed : (s t bytes : List ℕ) → OwedIs (sheet_of s) (decode_table t) bytes → (c : ℕ) → c < size (sheet_of s) → says_owed bytes c ≡ owed (sheet_of s) (decode_table t) c
owes_owed s t bytes is c low = rw (is.byte_is c low) (code_owes (owed (sheet_of s) (decode_table t) c))

-- the step of a notice
noticed_step : (S : Sheet) (T : Table) (i : ℕ) → is_notice (mark_of (T i)) ≡ true → step_item S T i ≡ clear_mark (tell S T i) i
unfolding step_item
noticed_step S T i e = go (T i) e
  where
    go : (c : Cell) → is_notice (mark_of c) ≡ true → step_cell S T i c ≡ clear_mark (tell S T i) i
    go (unk true) q = refl
    go (unk false) q = absurd (cc q)
    go (held v unmarked) q = absurd (cc q)
    go (held v refresh) q = absurd (cc q)
    go (held v notice) q = refl

-- what it leaves that tells by such an array
pub left_noticed : (s t bytes : List ℕ) (i : ℕ) → Lent s t → owed_true (sheet_of s) t ≡ true → size (sheet_of s) ≤ length bytes
    → ((i : ℕ) → i < length bytes → width * i + width ≤ length t → get_or bytes i 0 ≡ owed_in (row width t i)) → i < size (sheet_of s) → is_notice (mark_of (decode_table t i)) ≡ true
    → {generation : ℕ} {t' : List ℕ} {memo' : Pass} → Steps s t generation (clear_mark (tell_by (says_owed bytes) (sheet_of s) (decode_table t) i) i) t' memo'
    → Left s (step_item (sheet_of s) (decode_table t) i) t'
left_noticed s t bytes i lent owes room same low noticed steps =
    let told = tell_by_lem (sheet_of s) (sheet_ordered s) (decode_table t) (says_owed bytes) (owes_owed s t bytes (copied_owed s t bytes owes lent.length_is room same)) i low in
    record {
      table_is = steps.table_is ∙ ap (λ U. clear_mark U i) told ∙ sym (noticed_step (sheet_of s) (decode_table t) i noticed);
      formed = steps.formed;
    }

-- neither the owed bytes nor what is owed have changed
step_encoded : (s t t' : List ℕ) (i : ℕ) → Lent s t → owed_true (sheet_of s) t ≡ true → Left s (step_item (sheet_of s) (decode_table t) i) t'
    → OwedKept t t' → Bytes t' → length t' ≡ length t → t' ≡ encode_table (sheet_of s) (step_item (sheet_of s) (decode_table t) i)
step_encoded s t t' i lent owes left kept bytes len =
    sym (encoded_kept (sheet_of s) t t' owes kept same bytes (len ∙ lent.length_is) left.formed) ∙ ap (encode_table (sheet_of s)) left.table_is
  where
    same : (j : ℕ) → owed (sheet_of s) (decode_table t') j ≡ owed (sheet_of s) (decode_table t) j
    same j = ap (λ T. owed (sheet_of s) T j) left.table_is ∙ step_owed (sheet_of s) (sheet_ordered s) (decode_table t) i j

pub step_refused : (S : Sheet) (x t : List ℕ) (item : ℕ) (cause : Cause) → number_of cause ≡ first_cause (test 11 (no_item S item) ∷ test 14 (no_mark (decode_table t) item) ∷ [])
    → Did {A = Unit {0}} (call_lent S x t (step item)) (Err cause) t
unfolding tests
step_refused S x t item cause e = refused_did S x t (step item) cause (sym e)

pub step_done : {s t : List ℕ} → Lent s t → owed_true (sheet_of s) t ≡ true → (x : List ℕ) {item i : ℕ} → i ≡ item
    → 0 ≡ first_cause (test 11 (no_item (sheet_of s) item) ∷ test 14 (no_mark (decode_table t) item) ∷ [])
    → (t' : List ℕ) → Left s (step_item (sheet_of s) (decode_table t) i) t' → OwedKept t t' → Bytes t' → length t' ≡ length t
    → Did (call_lent (sheet_of s) x t (step item)) (Ok (tt {0})) t'
unfolding tests effect
step_done {s} {t} lent owes x {item} {i} is tested t' left kept bytes len =
    accepted_did (sheet_of s) x t t' (step item) (tt {0}) (sym tested)
    (step_encoded s t t' i lent owes left kept bytes len ∙ ap (λ j. encode_table (sheet_of s) (step_item (sheet_of s) (decode_table t) j)) is)
