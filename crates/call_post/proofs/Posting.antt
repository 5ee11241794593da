-- Post: its own tests, and what it stores. Assumes nothing.
use Prim.Native.Nat.{ℕ, ◌<◌}
use mathlib.Core.Path.{◌≡◌, refl, sym, ap, ◌∙◌}
use mathlib.Core.Bool.{true, false, cond}
use mathlib.Core.List.{List, [], ◌∷◌}
use mathlib.Core.Option as math
use native.Mathlib.Omega.{arith}
use lib.IntN.{ℤ}
use Rattle.std.specs.Prelude.{Ok, Err, Option, Some, None}
use Rattle.std.specs.Option.{ok_or}
use Rattle.cause.specs.Cause.{number_of}
use Rattle.cause.specs.declared.Cause.{Cause}
use Rattle.cause.specs.declared.Cause.TheVariants.{Amount}
use Rattle.circuit.specs.Value.{Value}
use Rattle.circuit.specs.Sheet.{size, item_at, is_figure}
use Rattle.circuit.specs.Machine.{post_cell}
use Rattle.circuit.specs.Call.{post}
use Rattle.circuit.specs.Calls.{Test, test, first_cause, tests, effect, no_item, not_postable, is_none, posted_value, posting_of, store_postings}
use Rattle.layout.specs.Opened.{sheet_of}
use Rattle.field.specs.Bytes.{Bytes}
use Rattle.value.specs.Meaning.{meaning, parts_meaning}
use Rattle.value.specs.declared.Value as code
use Rattle.item.specs.declared.Kind.TheVariants.{Entry}
use Rattle.table.specs.Rows.{row, set_row}
use Rattle.table.specs.Record.{width, encode_cell, decode_cell}
use Rattle.table.specs.Bytes.{encode_table, decode_table, owed_true}
use Rattle.looking.specs.Pass.{Lent}
use Rattle.admission.specs.Admission.{call_lent}
use Rattle.admission.specs.Answers.{Did, wrong_item}
use Rattle.admission.proofs.Admitting.{item_refused, item_passed, refused_did, accepted_did}
use Rattle.posting.proofs.Posting.{posting_encoded}

module _ (s t x : List ℕ) (item kind : ℕ) (z : ℤ) where
  -- the tests of the item
  abbrev item_tests : List Test
  item_tests = test 11 (no_item (sheet_of s) item) ∷ test 12 (wrong_item Entry (sheet_of s) item) ∷ []

  pub post_item : {A : Type 0} (k : Cause) → number_of k ≡ first_cause item_tests → Did {A = A} (call_lent (sheet_of s) x t (post item kind z)) (Err k) t
  unfolding tests
  post_item k e = item_refused (sheet_of s) x t (post item kind z) Entry item (test 13 (not_postable kind z) ∷ []) refl k e

  module _ (passed : 0 ≡ first_cause item_tests) where
    -- the test of the value
    value_test : (v : math.Option Value) → v ≡ posted_value kind z → first_cause (tests (sheet_of s) (decode_table t) (post item kind z)) ≡ cond (is_none v) 13 0
    unfolding tests first_cause
    value_test v e =
        item_passed (sheet_of s) x t (post item kind z) Entry item (test 13 (not_postable kind z) ∷ []) refl passed
        ∙ ap (λ o. cond (is_none o) 13 0) (sym e)

    pub post_value : {A : Type 0} → math.none ≡ posted_value kind z → Did {A = A} (call_lent (sheet_of s) x t (post item kind z)) (Err Amount) t
    post_value e = refused_did (sheet_of s) x t (post item kind z) Amount (value_test math.none e)

    pub post_stored : {A : Type 0} (a : A) → Lent s t → Bytes t → owed_true (sheet_of s) t ≡ true → item < size (sheet_of s)
        → is_figure (item_at (sheet_of s) item) ≡ false → (v : Value) → math.some v ≡ posted_value kind z → (t' : List ℕ)
        → t' ≡ set_row width t item (encode_cell (post_cell (decode_cell (row width t item)) v)) → Did (call_lent (sheet_of s) x t (post item kind z)) (Ok a) t'
    unfolding effect store_postings
    post_stored a lent bytes owes low entry v e t' g =
        accepted_did (sheet_of s) x t t' (post item kind z) a (value_test (math.some v) e)
        (posting_encoded lent bytes owes item low entry v t' g ∙ ap (λ o. encode_table (sheet_of s) (store_postings (decode_table t) (posting_of item o))) e)

-- what the value of a post is, by the result that is made of it
pub none_posted : {k : Cause} {m : math.Option Value} (v : Option code.Value) → parts_meaning v ≡ m → Err k ≡ ok_or v Amount → (k ≡ Amount) × (math.none ≡ m)
none_posted None e h = (cc, e)
none_posted (Some v) e h = let bad : ◌≡◌ {A = ℕ} 0 1 = cc in absurd (omega arith)

pub some_posted : {w : code.Value} {m : math.Option Value} (v : Option code.Value) → parts_meaning v ≡ m → Ok w ≡ ok_or v Amount → math.some (meaning w) ≡ m
some_posted {w} None e h = let bad : ◌≡◌ {A = ℕ} 0 1 = cc in absurd (omega arith)
some_posted {w} (Some v) e h = let q : w ≡ v = cc in ap (λ u. math.some (meaning u)) q ∙ e
