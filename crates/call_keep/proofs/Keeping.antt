-- Keep and drop: their own tests; a figure is looked up, and stored; a drop stores a cell. Assumes nothing.
use Prim.Native.Nat.{ℕ, ◌<◌}
use mathlib.Core.Path.{◌≡◌, refl, sym, ap, ap₂, ◌∙◌}
use mathlib.Core.Bool.{Bool, true}
use mathlib.Core.List.{List, [], ◌∷◌}
use lib.ListN.{length}
use Rattle.std.specs.Prelude.{Ok, Err}
use Rattle.cause.specs.Cause.{number_of}
use Rattle.cause.specs.declared.Cause.{Cause}
use Rattle.circuit.specs.Value.{Value, well_formed}
use Rattle.circuit.specs.Sheet.{size, item_at, is_figure}
use Rattle.circuit.specs.Table.{Cell, Mark, unk, held, upd, value_in, notice_if}
use Rattle.circuit.specs.Machine.{look_up, keep_figure, keep_cell, drop_figure, drop_cell}
use Rattle.circuit.specs.Call.{keep, drop}
use Rattle.circuit.specs.Calls.{Test, test, first_cause, tests, effect, no_item}
use Rattle.layout.specs.Opened.{sheet_of}
use Rattle.item.specs.declared.Kind.TheVariants.{Figure}
use Rattle.table.specs.Rows.{row, set_row}
use Rattle.table.specs.Record.{width, encode_cell, may_hold, decode_cell}
use Rattle.table.specs.Bytes.{encode_table, decode_table, table_form, table_length}
use Rattle.table.proofs.Tables.{decode_set_row, set_row_form, record_fits, figure_may}
use Rattle.memo.specs.Memo.{Found, Pass}
use Rattle.looking.specs.Pass.{Lent, Leaves}
use Rattle.admission.specs.Admission.{call_lent}
use Rattle.admission.specs.Answers.{Did, Left, wrong_item}
use Rattle.admission.proofs.Admitting.{item_refused, item_passed, accepted_did, left_settled}

-- ---- keeping

module _ {s t : List ℕ} (lent : Lent s t) (i : ℕ) (low : i < size (sheet_of s)) where
  -- a figure that is not stored is looked up, and stored
  pub kept_unk : is_figure (item_at (sheet_of s) i) ≡ true → (f : Bool) → decode_table t i ≡ unk f → {m m' : Pass} {b : ℕ} (g : Found) (t₁ t₂ : List ℕ)
      → Leaves s t m b (look_up (sheet_of s) (decode_table t) i) g t₁ m' → length t₁ ≡ length t
      → (k : Mark) → k ≡ notice_if g.flag → t₂ ≡ set_row width t₁ i (encode_cell (held g.value k))
      → Left s (keep_figure (sheet_of s) (decode_table t) i) t₂
  unfolding keep_figure
  kept_unk fig f is g t₁ t₂ l len k mark e =
      let n : length t₁ ≡ table_length (sheet_of s) = len ∙ lent.length_is in
      let fits = record_fits (sheet_of s) t₁ i n low in
      let holds : may_hold (is_figure (item_at (sheet_of s) i)) (held g.value k) ≡ true = rw fig l.value_formed in
      record {
        table_is =
            ap decode_table e ∙ decode_set_row t₁ i (held g.value k) fits l.value_formed
            ∙ ap₂ (λ T c. upd T i c) l.table_is (ap₂ held l.value_is (mark ∙ ap notice_if l.flag_is))
            ∙ sym (ap (keep_cell (sheet_of s) (decode_table t) i) is);
        formed = ap (table_form (sheet_of s)) e ∙ set_row_form (sheet_of s) t₁ i (held g.value k) n l.formed low holds;
      }

  -- what is stored stays
  pub kept_held : (v : Value) (m : Mark) → decode_table t i ≡ held v m → Left s (keep_figure (sheet_of s) (decode_table t) i) t
  unfolding keep_figure
  kept_held v m e = record { table_is = sym (ap (keep_cell (sheet_of s) (decode_table t) i) e); formed = lent.formed }

-- ---- dropping

-- a dropped cell holds no number
dropped_formed : (c : Cell) → well_formed (value_in (drop_cell c)) ≡ true
dropped_formed (unk f) = refl
dropped_formed (held v m) = refl

-- what a drop stores
pub drop_left : {s t : List ℕ} → Lent s t → (i : ℕ) → i < size (sheet_of s) → is_figure (item_at (sheet_of s) i) ≡ true → (t₁ : List ℕ) (c : Cell)
    → c ≡ drop_cell (decode_cell (row width t i)) → t₁ ≡ set_row width t i (encode_cell c) → Left s (drop_figure (decode_table t) i) t₁
unfolding drop_figure
drop_left {s} {t} lent i low figure t₁ c f g =
    let d : Cell = drop_cell (decode_table t i) in
    let formed : well_formed (value_in d) ≡ true = dropped_formed (decode_table t i) in
    let stored : t₁ ≡ set_row width t i (encode_cell d) = g ∙ ap (λ y. set_row width t i (encode_cell y)) f in
    record {
      table_is = ap decode_table stored ∙ decode_set_row t i d (record_fits (sheet_of s) t i lent.length_is low) formed;
      formed =
          ap (table_form (sheet_of s)) stored
          ∙ set_row_form (sheet_of s) t i d lent.length_is lent.formed low (figure_may (item_at (sheet_of s) i) d figure formed);
    }

-- ---- the calls, whose tests are those of a figure

module _ (s t x : List ℕ) (item : ℕ) where
  abbrev item_tests : List Test
  item_tests = test 11 (no_item (sheet_of s) item) ∷ test 12 (wrong_item Figure (sheet_of s) item) ∷ []

  pub keep_item : {A : Type 0} (k : Cause) → number_of k ≡ first_cause item_tests → Did {A = A} (call_lent (sheet_of s) x t (keep item)) (Err k) t
  unfolding tests
  keep_item k e = item_refused (sheet_of s) x t (keep item) Figure item [] refl k e

  pub drop_item : {A : Type 0} (k : Cause) → number_of k ≡ first_cause item_tests → Did {A = A} (call_lent (sheet_of s) x t (drop item)) (Err k) t
  unfolding tests
  drop_item k e = item_refused (sheet_of s) x t (drop item) Figure item [] refl k e

  module _ (passed : 0 ≡ first_cause item_tests) where
    pub keep_done : {A : Type 0} (a : A) (t₁ t₂ : List ℕ) → Left s (keep_figure (sheet_of s) (decode_table t) item) t₁
        → t₂ ≡ encode_table (sheet_of s) (decode_table t₁) → Did (call_lent (sheet_of s) x t (keep item)) (Ok a) t₂
    unfolding tests first_cause effect
    keep_done a t₁ t₂ l settled =
        accepted_did (sheet_of s) x t t₂ (keep item) a (item_passed (sheet_of s) x t (keep item) Figure item [] refl passed) (left_settled l t₂ settled)

    pub drop_done : {A : Type 0} (a : A) (t₁ t₂ : List ℕ) → Left s (drop_figure (decode_table t) item) t₁
        → t₂ ≡ encode_table (sheet_of s) (decode_table t₁) → Did (call_lent (sheet_of s) x t (drop item)) (Ok a) t₂
    unfolding tests first_cause effect
    drop_done a t₁ t₂ l settled =
        accepted_did (sheet_of s) x t t₂ (drop item) a (item_passed (sheet_of s) x t (drop item) Figure item [] refl passed) (left_settled l t₂ settled)
