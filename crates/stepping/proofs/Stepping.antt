-- A step, from what the code's calls ensure. Assumes nothing.
use Prim.Native.Nat.{ℕ, ◌+◌, ◌<◌}
use native.Mathlib.Omega.{arith}
use mathlib.Core.Path.{◌≡◌, refl, sym, ap, subst, ◌∙◌}
use mathlib.Core.Bool.{Bool, true, false}
use mathlib.Core.List.{List}
use lib.ListN.{length}
use Rattle.circuit.specs.Value.{Value}
use Rattle.circuit.specs.Sheet.{Sheet, size, item_at, is_figure}
use Rattle.circuit.specs.Table.{Table, Cell, Mark, unmarked, refresh, notice, unk, held, value_in, mark_of, is_notice}
use Rattle.circuit.specs.Machine.{work_out, renewed, clear_cell, clear_mark, step_cell, step_item}
use Rattle.circuit.specs.Ascending.{tell_by, step_cell_by, step_by}
use Rattle.circuit.proofs.Fill.{upd_same}
use Rattle.layout.specs.Opened.{sheet_of}
use Rattle.item.proofs.Located.{sheet_ordered}
use Rattle.table.specs.Rows.{set_row}
use Rattle.table.specs.Record.{width, encode_cell, may_hold}
use Rattle.table.specs.Bytes.{decode_table, Holdable}
use denote.Enum.Bare.{sameb}
use Rattle.table.specs.contracts.Mark.{the_type}
use Rattle.table.specs.declared.Mark.{Mark as Coded}
use Rattle.table.specs.declared.Mark.TheVariants.{Unmarked, Refresh, Notice}
use Rattle.table.specs.Meaning.{mark_meaning}
use Rattle.table.proofs.Records.{holds-well_formed}
use Rattle.table.proofs.Tables.{decode_set_row, set_row_form, set_row-owed, owed_kept_refl, owed_kept_then, decoded_holdable, record_fits}
use Rattle.memo.specs.Memo.{Pass, Right}
use Rattle.looking.specs.Pass.{Lent}
use Rattle.telling.specs.Telling.{Moves, Renewable}
use Rattle.stepping.specs.Stepping.{Ready, Steps, begun}
use Rattle.office.proofs.Holdable.{refreshed_figure, clear_holdable}
use Rattle.looking.proofs.Looking.{lent_holdable}
use Rattle.telling.proofs.Renewing.{remembered_below}

-- a generation begins with nothing remembered
pub ready_memo : {s : List ℕ} {memo : Pass} → Ready s memo → (T : Table) → Right (sheet_of s) T memo
ready_memo {s} {memo} ready T =
    record {
      room = ready.room;
      young = λ j. omega (arith, ready.older j (omega arith));
      right = λ j f e. let low : j < 0 = remembered_below memo 0 j f ready.older e in absurd (omega arith);
    }

-- where a generation may begin, so may the next
pub ready_next : {s : List ℕ} (memo : Pass) (generation : ℕ) → Ready s (begun memo generation) → Ready s (begun memo (generation + 1))
ready_next memo generation ready = record { room = ready.room; older = λ j h. omega (arith, ready.older j h) }

-- the next generation may begin after one that is right
ready_after : {s : List ℕ} {U : Table} (memo : Pass) (generation : ℕ) → memo.generation ≡ generation → Right (sheet_of s) U memo → Ready s (begun memo (generation + 1))
ready_after memo generation is right = record { room = right.room; older = λ j h. omega (arith, right.young j) }

-- the children are told, and the mark is cleared
pub clear_steps : {s t t₁ : List ℕ} {memo₁ : Pass} {generation n i : ℕ} (U : Table) → i < size (sheet_of s) → length t₁ ≡ Rattle.table.specs.Bytes.table_length (sheet_of s)
    → Moves s t generation n U t₁ memo₁ → (t₂ : List ℕ) → t₂ ≡ set_row width t₁ i (encode_cell (clear_cell (decode_table t₁ i)))
    → Steps s t generation (clear_mark U i) t₂ memo₁
unfolding clear_mark
clear_steps {s} {t} {t₁} {memo₁} {generation} {n} {i} U low len moves t₂ e =
    record {
      table_is =
          ap decode_table e
          ∙ decode_set_row t₁ i (clear_cell (decode_table t₁ i)) (record_fits (sheet_of s) t₁ i len low) formed
          ∙ ap (λ T. Rattle.circuit.specs.Table.upd T i (clear_cell (T i))) moves.table_is;
      owed_kept = owed_kept_then t t₁ t₂ moves.owed_kept (rw e (set_row-owed t₁ i (clear_cell (decode_table t₁ i))));
      formed = rw e (set_row_form (sheet_of s) t₁ i (clear_cell (decode_table t₁ i)) len moves.formed low may);
      ready = ready_after memo₁ generation moves.generation_is moves.right;
    }
  where
    holds : Holdable (sheet_of s) (decode_table t₁)
    holds = decoded_holdable (sheet_of s) t₁ moves.formed

    may : may_hold (is_figure (item_at (sheet_of s) i)) (clear_cell (decode_table t₁ i)) ≡ true
    may =
        subst (λ c. may_hold (is_figure (item_at (sheet_of s) i)) c ≡ true) (upd_same (decode_table t₁) i (clear_cell (decode_table t₁ i)))
        (clear_holdable (sheet_of s) (sheet_ordered s) (decode_table t₁) i holds i low)

    formed : Rattle.circuit.specs.Value.well_formed (value_in (clear_cell (decode_table t₁ i))) ≡ true
    formed = holds-well_formed (is_figure (item_at (sheet_of s) i)) (clear_cell (decode_table t₁ i)) may

-- what the test for a refresh says of the mark
mark_refresh : (m : Coded) → sameb the_type m Refresh ≡ true → mark_meaning m ≡ refresh
mark_refresh Unmarked e = let bad : ◌≡◌ {A = ℕ} 0 1 = cc in absurd (omega arith)
mark_refresh Refresh e = refl
mark_refresh Notice e = let bad : ◌≡◌ {A = ℕ} 0 1 = cc in absurd (omega arith)

-- without a refresh or a notice there is no mark
mark_none : (m : Coded) → sameb the_type m Refresh ≡ false → is_notice (mark_meaning m) ≡ false → mark_meaning m ≡ unmarked
mark_none Unmarked e quiet = refl
mark_none Refresh e quiet = let bad : ◌≡◌ {A = ℕ} 0 1 = cc in absurd (omega arith)
mark_none Notice e quiet = let bad : ◌≡◌ {A = ℕ} 0 1 = cc in absurd (omega arith)

module _ {s t : List ℕ} {memo : Pass} {i : ℕ} (lent : Lent s t) (ready : Ready s memo) (low : i < size (sheet_of s)) where
  steps_by : (c : Cell) → c ≡ decode_table t i → (U : Table) → step_cell (sheet_of s) (decode_table t) i c ≡ U → {t₂ : List ℕ} {memo₂ : Pass}
      → Steps s t memo.generation U t₂ memo₂ → Steps s t memo.generation (step_item (sheet_of s) (decode_table t) i) t₂ memo₂
  unfolding step_item
  steps_by c e U q {t₂} {memo₂} steps = subst (λ X. Steps s t memo.generation X t₂ memo₂) (sym (ap (step_cell (sheet_of s) (decode_table t) i) (sym e) ∙ q)) steps

  stays : (c : Cell) → c ≡ decode_table t i → step_cell (sheet_of s) (decode_table t) i c ≡ decode_table t → Steps s t memo.generation (step_item (sheet_of s) (decode_table t) i) t memo
  stays c e q =
      steps_by c e (decode_table t) q
      (record { table_is = refl; owed_kept = owed_kept_refl t; formed = lent.formed; ready = ready_next memo memo.generation ready })

  pub step_unnoticed : (noticed : Bool) → unk noticed ≡ decode_table t i → is_notice (mark_of (decode_table t i)) ≡ false
      → Steps s t memo.generation (step_item (sheet_of s) (decode_table t) i) t memo
  step_unnoticed true e quiet = let bad : ◌≡◌ {A = ℕ} 0 1 = cc (ap (λ c. is_notice (mark_of c)) e, quiet) in absurd (omega arith)
  step_unnoticed false e quiet = stays (unk false) e refl

  module _ (v : Value) (m : Coded) (e : held v (mark_meaning m) ≡ decode_table t i) where
    pub step_unmarked : sameb the_type m Refresh ≡ false → is_notice (mark_of (decode_table t i)) ≡ false
        → Steps s t memo.generation (step_item (sheet_of s) (decode_table t) i) t memo
    step_unmarked other quiet =
        stays (held v unmarked) (ap (held v) (sym (mark_none m other (ap (λ c. is_notice (mark_of c)) e ∙ quiet))) ∙ e) refl

    pub refresh_renewable : sameb the_type m Refresh ≡ true → Renewable s t i v
    refresh_renewable same =
        let holds_refresh : held v refresh ≡ decode_table t i = ap (held v) (sym (mark_refresh m same)) ∙ e in
        record {
          low = low;
          figured =
              refreshed_figure (is_figure (item_at (sheet_of s) i)) v
              (subst (λ c. may_hold (is_figure (item_at (sheet_of s) i)) c ≡ true) (sym holds_refresh) (lent_holdable lent i low));
          mark = refresh;
          holds = sym holds_refresh;
        }

    pub step_refresh : sameb the_type m Refresh ≡ true → {t₂ : List ℕ} {memo₂ : Pass}
        → Moves s t memo.generation i (renewed i v unmarked (work_out (sheet_of s) (decode_table t) i)) t₂ memo₂
        → Steps s t memo.generation (step_item (sheet_of s) (decode_table t) i) t₂ memo₂
    step_refresh same {t₂} {memo₂} moves =
        steps_by (held v refresh) (ap (held v) (sym (mark_refresh m same)) ∙ e) _ refl
        (record { table_is = moves.table_is; owed_kept = moves.owed_kept; formed = moves.formed; ready = ready_after memo₂ memo.generation moves.generation_is moves.right })

-- the step of a notice, and of an item without one, by what is owed
module _ (w : ℕ → Bool) (S : Sheet) (T : Table) (i : ℕ) where
  noticed_step : is_notice (mark_of (T i)) ≡ true → step_by w S T i ≡ clear_mark (tell_by w S T i) i
  unfolding step_by
  noticed_step e = go (T i) e
    where
      go : (c : Cell) → is_notice (mark_of c) ≡ true → step_cell_by w S T i c ≡ clear_mark (tell_by w S T i) i
      go (unk true) q = refl
      go (unk false) q = let bad : ◌≡◌ {A = ℕ} 0 1 = cc in absurd (omega arith)
      go (held v unmarked) q = let bad : ◌≡◌ {A = ℕ} 0 1 = cc in absurd (omega arith)
      go (held v refresh) q = let bad : ◌≡◌ {A = ℕ} 0 1 = cc in absurd (omega arith)
      go (held v notice) q = refl

  unnoticed_step : is_notice (mark_of (T i)) ≡ false → step_by w S T i ≡ step_item S T i
  unfolding step_by step_item
  unnoticed_step e = go (T i) e
    where
      go : (c : Cell) → is_notice (mark_of c) ≡ false → step_cell_by w S T i c ≡ step_cell S T i c
      go (unk true) q = let bad : ◌≡◌ {A = ℕ} 0 1 = cc in absurd (omega arith)
      go (unk false) q = refl
      go (held v unmarked) q = refl
      go (held v refresh) q = refl
      go (held v notice) q = let bad : ◌≡◌ {A = ℕ} 0 1 = cc in absurd (omega arith)

module _ (w : ℕ → Bool) (s t : List ℕ) (i : ℕ) {generation : ℕ} (b : Bool) (tests : b ≡ is_notice (mark_of (decode_table t i))) where
  pub steps_noticed : b ≡ true → {t₂ : List ℕ} {memo₂ : Pass} → Steps s t generation (clear_mark (tell_by w (sheet_of s) (decode_table t) i) i) t₂ memo₂
      → Steps s t generation (step_by w (sheet_of s) (decode_table t) i) t₂ memo₂
  steps_noticed e {t₂} {memo₂} steps =
      subst (λ U. Steps s t generation U t₂ memo₂) (sym (noticed_step w (sheet_of s) (decode_table t) i (sym tests ∙ e))) steps

  pub steps_unnoticed : b ≡ false → {t₂ : List ℕ} {memo₂ : Pass} → Steps s t generation (step_item (sheet_of s) (decode_table t) i) t₂ memo₂
      → Steps s t generation (step_by w (sheet_of s) (decode_table t) i) t₂ memo₂
  steps_unnoticed e {t₂} {memo₂} steps =
      subst (λ U. Steps s t generation U t₂ memo₂) (sym (unnoticed_step w (sheet_of s) (decode_table t) i (sym tests ∙ e))) steps
