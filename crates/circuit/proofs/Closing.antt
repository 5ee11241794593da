-- The season-close run, on any table. After it every item of the sheet holds the fresh office's value under the entries that the table
-- held, without a mark (`close_at`): so the table has the invariant and is well formed. What the run does to a figure is 01's working
-- out (`close_works`). Assumes that the sheet is ordered.
use Prim.Native.Nat.{ℕ, zero, suc, ◌<◌, ◌≤◌}
use native.Mathlib.Omega.{arith}
use mathlib.Core.Path.{◌≡◌, refl, sym, ap, subst, ◌∙◌}
use mathlib.Core.Bool.{true, false}
use mathlib.Core.Logic.{inl, inr}
use mathlib.Core.List.{List, [], ◌∷◌, map}
use Rattle.circuit.specs.Value.{Value, null}
use Rattle.circuit.specs.Circuit.{Listed}
use Rattle.circuit.specs.Sheet.{Sheet, Item, entry, figure, size, item_at, is_figure, parents, parents_of, evaluate, Ordered, Entries}
use Rattle.circuit.specs.Table.{Table, unmarked, held, is_marked, value_in, cell_form}
use Rattle.circuit.specs.Machine.{looked, gathered, gather, rule_on, work_out_by, look_cell, look_up, work_out}
use Rattle.circuit.specs.Closing.{closed_value, close_item, close_below, close_all}
use Rattle.circuit.specs.Fresh.{give, give_item}
use Rattle.circuit.specs.Words.{Formed, Quiet, Holds}
use Rattle.circuit.proofs.Solution.{map_listed, give_equation, give_solves, entry_value, figure_value, figure_below}
use Rattle.circuit.proofs.View.{never, seen, view, view_at}
use Rattle.circuit.proofs.Fill.{upd_other, upd_cases, look_up_is}
use Rattle.circuit.proofs.Invariant.{Invariant, exact}

-- the run leaves the cells that it has not reached
pub close_above : (S : Sheet) (T : Table) (k j : ℕ) → k ≤ j → close_below S T k j ≡ T j
unfolding close_below close_item
close_above S T zero j high = refl
close_above S T (suc k) j high =
    upd_other (close_below S T k) k _ j (λ e. omega arith) ∙ close_above S T k j (omega arith)

module _ (S : Sheet) (ordered : Ordered S) (E : Entries) (T : Table) (holds : Holds S T E) where
  -- item k, where the items below it hold the fresh office's values
  close_value : (k : ℕ) → k < size S → ((p : ℕ) → p < k → close_below S T k p ≡ held (give S E p) unmarked)
      → closed_value S (close_below S T k) k ≡ give S E k
  unfolding closed_value
  close_value k low lower = by_item (item_at S k) refl ∙ sym (give_equation S ordered E k)
    where
      U : Table
      U = close_below S T k

      by_item : (it : Item) → item_at S k ≡ it → evaluate it (value_in (U k)) (map (λ p. value_in (U p)) (parents_of it)) ≡ give_item (give S E) it (E k)
      by_item entry e = ap value_in (close_above S T k k (omega arith)) ∙ holds k low (ap is_figure e)
      by_item (figure op kept spread ps) e =
          ap (evaluate (figure op kept spread ps) null)
          (map_listed ps (λ p l. ap value_in (lower p (ordered k p (subst (λ it. Listed p (parents_of it)) (sym e) l)))))

  -- an item that the run has passed
  pub close_below_lem : (k : ℕ) → k ≤ size S → (j : ℕ) → j < k → close_below S T k j ≡ held (give S E j) unmarked
  unfolding close_below close_item
  close_below_lem zero bound = λ j low. absurd (omega arith)
  close_below_lem (suc k) bound =
      upd_cases (λ j c. j < suc k → c ≡ held (give S E j) unmarked) (close_below S T k) k _
      (λ l. ap (λ v. held v unmarked) (close_value k (omega arith) (close_below_lem k (omega arith))))
      (λ j other l. close_below_lem k (omega arith) j (omega arith))

  -- each item holds the fresh office's value, and no mark
  pub close_at : (j : ℕ) → j < size S → close_all S T j ≡ held (give S E j) unmarked
  unfolding close_all
  close_at j low = close_below_lem (size S) (omega arith) j low

  pub close_quiet : Quiet S (close_all S T)
  close_quiet j low = ap is_marked (close_at j low)

  close_view : (j : ℕ) → j < size S → view S (close_all S T) j ≡ seen (give S E j) false
  close_view j low = view_at S ordered (close_all S T) j (close_at j low)

  -- a figure holds its rule's result on what its parents hold
  pub close_invariant : Invariant S (close_all S T)
  close_invariant k fig v m e =
      exact (ap value_in (sym e ∙ close_at k low) ∙ figure_value S E (give_solves S ordered E) k low fig ∙ ap (evaluate (item_at S k) null) (sym parents_are))
    where
      low : k < size S
      low = figure_below S k fig

      parents_are : map (λ p. (view S (close_all S T) p).value) (parents S k) ≡ map (give S E) (parents S k)
      parents_are = map_listed (parents S k) (λ p l. ap (λ s. s.value) (close_view p (omega (arith, low, ordered k p l))))

  pub close_formed : Formed S (close_all S T)
  close_formed j low = ap (cell_form (item_at S j)) (close_at j low) ∙ form (item_at S j) (give S E j)
    where
      form : (it : Item) (v : Value) → cell_form it (held v unmarked) ≡ true
      form entry v = refl
      form (figure op kept spread ps) v = refl

  -- the entries hold what they held
  pub close_holds : Holds S (close_all S T) E
  close_holds j low e = ap value_in (close_at j low) ∙ entry_value S E (give_solves S ordered E) j low e

-- Working a figure out looks its parents up. Where each of them is stored without a notice, nothing is changed and nothing flagged.
module _ (S : Sheet) (ordered : Ordered S) where
  gather_stored : (T : Table) (ps : List ℕ) → ((p : ℕ) → Listed p ps → (v : Value) × (T p ≡ held v unmarked))
      → gather (look_up S) T ps ≡ gathered T (map (λ p. value_in (T p)) ps) false
  unfolding gather
  gather_stored T [] stored = refl
  gather_stored T (p ∷ ps) stored = rw (first, gather_stored T ps (λ q l. stored q (inr l)))
    where
      first : look_up S T p ≡ looked T (value_in (T p)) false
      first =
          let cell = (stored p (inl refl)).1 in
          look_up_is S ordered T p ∙ ap (look_cell (look_up S) S T p) cell ∙ ap (λ c. looked T (value_in c) false) (sym cell)

  -- what the run does to figure k is 01's working out, from the table as the run has left it so far
  pub close_works : (T : Table) (k : ℕ) → k < size S → is_figure (item_at S k) ≡ true
      → let U : Table = close_below S T k in work_out S U k ≡ looked U (closed_value S U k) false
  unfolding work_out work_out_by closed_value
  close_works T k low fig = by_item (item_at S k) refl fig
    where
      U : Table
      U = close_below S T k

      stored : gather (look_up S) U (parents S k) ≡ gathered U (map (λ p. value_in (U p)) (parents S k)) false
      stored =
          gather_stored U (parents S k)
          (λ p l. (_, close_below_lem S ordered (λ i. value_in (T i)) T (λ i b e. refl) k (omega arith) p (ordered k p l)))

      by_item : (it : Item) → item_at S k ≡ it → is_figure it ≡ true
          → rule_on (item_at S k) (gather (look_up S) U (parents S k)) ≡ looked U (evaluate (item_at S k) (value_in (U k)) (map (λ p. value_in (U p)) (parents S k))) false
      by_item entry e f = never (cc)
      by_item (figure op kept spread ps) e f = rw (stored, e)
