-- Showing the items of a board: the loop's invariant, and what it leaves. Assumes nothing.
use Prim.Native.Nat.{ℕ, zero, suc, ◌+◌, ◌*◌, ◌≤◌, ◌<◌}
use native.Mathlib.Omega.{arith}
use native.Mathlib.Numerals.{add-one}
use mathlib.Core.Path.{◌≡◌, refl, sym, ap, subst, ◌∙◌}
use mathlib.Core.List.{List, [], ◌∷◌, ◌++◌}
use lib.ListN.{length, get_or, length-append}
use lib.Seq.{length-sets}
use Rattle.circuit.specs.Value.{Value, kind_of, number_of}
use Rattle.circuit.specs.Sheet.{size}
use Rattle.circuit.specs.Table.{Table}
use Rattle.circuit.specs.Board.{result_width, listed}
use Rattle.circuit.specs.Machine.{Looked, Gathered, gather, look_up}
use Rattle.layout.specs.Opened.{sheet_of}
use Rattle.field.specs.Bytes.{over}
use Rattle.table.specs.Rows.{set_row}
use Rattle.table.specs.Bytes.{decode_table}
use Rattle.office.specs.Office.{result_of, results_of}
use Rattle.memo.specs.Memo.{Found, Pass, Right}
use Rattle.looking.specs.Pass.{Lent, Leaves}
use Rattle.looking.proofs.Gathering.{gather_to, gather_all}
use Rattle.call_board.specs.Showing.{Listed, Shown}
use Rattle.call_board.proofs.Lists.{item_within_lem, results_more, results_all}

-- what is gathered from the first k items of the list, since the table t₀
abbrev pub so_far : List ℕ → List ℕ → List ℕ → ℕ → Gathered
so_far s items t₀ k = gather_to (look_up (sheet_of s)) (decode_table t₀) (listed items) k

-- as many values as look-ups
gathered_count : (look : Table → ℕ → Looked) (T : Table) (ps : List ℕ) (k : ℕ) → length (gather_to look T ps k).values ≡ k
unfolding gather_to
gathered_count look T ps zero = refl
gathered_count look T ps (suc k) =
    length-append (gather_to look T ps k).values ((look (gather_to look T ps k).table (get_or ps k 0)).value ∷ [])
    ∙ omega (arith, gathered_count look T ps k)

-- The loop's invariant, since the table t₀ and the results results₀: the first k items are looked up, and their results written over
-- the front.
pub record Showing (s items t₀ results₀ : List ℕ) (k : ℕ) (t : List ℕ) (memo : Pass) (results : List ℕ) : Type 0 where
  pub lent : Lent s t
  pub right : Right (sheet_of s) (decode_table t) memo
  pub within : k ≤ length (listed items)
  pub table_is : decode_table t ≡ (so_far s items t₀ k).table
  pub results_length : length results ≡ length results₀
  pub results_are : results ≡ over (results_of (so_far s items t₀ k).values) results₀

-- no item is looked up yet
pub showing_start : {s items t results : List ℕ} {memo : Pass} → Lent s t → Right (sheet_of s) (decode_table t) memo → Showing s items t results 0 t memo results
unfolding gather_to results_of
showing_start lent right =
    record {
      lent = lent;
      right = right;
      within = omega arith;
      table_is = refl;
      results_length = refl;
      results_are = refl;
    }

module _ {s items t₀ results₀ : List ℕ} (lists : Listed s items results₀) {k : ℕ} {t : List ℕ} {memo : Pass} {results : List ℕ}
    (inv : Showing s items t₀ results₀ k t memo results) where
  module _ (more : k < length (listed items)) where
    -- the item is the sheet's
    pub showing_low : (i : ℕ) → i ≡ get_or (listed items) k 0 → i < size (sheet_of s)
    showing_low i e = rw e (item_within_lem (sheet_of s) (listed items) lists.within k more)

    -- the results have room for its result
    pub showing_room : result_width * k + result_width ≤ length results
    showing_room = omega (arith, inv.results_length, lists.room)

    -- one item more
    pub showing_next : (i : ℕ) → i ≡ get_or (listed items) k 0 → {b : ℕ} {f : Found} {t' : List ℕ} {memo' : Pass} {results' : List ℕ} → length t' ≡ length t
        → Leaves s t memo b (look_up (sheet_of s) (decode_table t) i) f t' memo'
        → results' ≡ set_row result_width results k (result_of (kind_of f.value) (number_of f.value)) → Showing s items t₀ results₀ (k + 1) t' memo' results'
    unfolding gather_to
    showing_next i e {b} {f} {t'} {memo'} {results'} len looks stored =
        record {
          lent = record { length_is = len ∙ inv.lent.length_is; formed = looks.formed };
          right = subst (λ T. Right (sheet_of s) T memo') (sym looks.table_is) looks.right;
          within = omega arith;
          table_is = looks.table_is ∙ ap (λ r. r.table) is ∙ ap (λ g. g.table) step;
          results_length = ap length stored ∙ length-sets results (result_width * k) (result_of (kind_of f.value) (number_of f.value)) ∙ inv.results_length;
          results_are =
              stored ∙ ap (λ l. set_row result_width l k (result_of (kind_of f.value) (number_of f.value))) inv.results_are
              ∙ results_more values f.value k results₀ (gathered_count (look_up (sheet_of s)) (decode_table t₀) (listed items) k) (omega (arith, lists.room))
              ∙ ap (λ v. over (results_of (values ++ (v ∷ []))) results₀) (looks.value_is ∙ ap (λ r. r.value) is)
              ∙ ap (λ g. over (results_of g.values) results₀) step;
        }
      where
        values : List Value
        values = (so_far s items t₀ k).values

        is : look_up (sheet_of s) (decode_table t) i ≡ look_up (sheet_of s) (so_far s items t₀ k).table (get_or (listed items) k 0)
        is = ap (λ T. look_up (sheet_of s) T i) inv.table_is ∙ ap (look_up (sheet_of s) (so_far s items t₀ k).table) e

        step : so_far s items t₀ (suc k) ≡ so_far s items t₀ (k + 1)
        step = ap (so_far s items t₀) (sym (add-one k))

  -- no item is left
  pub showing_done : length (listed items) ≤ k → Shown s (gather (look_up (sheet_of s)) (decode_table t₀) (listed items)) results t
  showing_done h =
      record {
        results_are =
            inv.results_are ∙ ap (λ g. over (results_of g.values) results₀) is ∙ results_all _ results₀ (lists.room ∙ ap (λ n. result_width * n) (sym count));
        table_is = inv.table_is ∙ ap (λ g. g.table) is;
        formed = inv.lent.formed;
      }
    where
      all : k ≡ length (listed items)
      all = omega (arith, inv.within)

      is : so_far s items t₀ k ≡ gather (look_up (sheet_of s)) (decode_table t₀) (listed items)
      is = ap (so_far s items t₀) all ∙ gather_all (look_up (sheet_of s)) (decode_table t₀) (listed items)

      count : length (gather (look_up (sheet_of s)) (decode_table t₀) (listed items)).values ≡ length (listed items)
      count = ap (λ g. length g.values) (sym is) ∙ gathered_count (look_up (sheet_of s)) (decode_table t₀) (listed items) k ∙ all
