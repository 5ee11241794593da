-- When a look-up gives the solution under the values that the table's entries hold: with no figure stored, whatever the
-- marks (`bare_look`), and with the invariant and no mark (`quiet_look`). Assumes that the sheet is ordered and the table
-- well formed.
use Prim.Native.Nat.{ℕ, ◌<◌}
use native.Mathlib.Omega.{arith}
use mathlib.Core.Path.{◌≡◌, refl, sym, ap, ◌∙◌}
use mathlib.Core.Bool.{Bool, true, false}
use mathlib.Core.List.{map}
use Rattle.circuit.specs.Value.{Value, null}
use Rattle.circuit.specs.Circuit.{IsSolution}
use Rattle.circuit.specs.Sheet.{Sheet, Item, entry, figure, size, item_at, is_figure, parents, evaluate, Ordered, Entries, circuit_of}
use Rattle.circuit.specs.Table.{Table, Cell, Mark, refresh, unk, held, is_marked, value_in, is_stored, cell_form}
use Rattle.circuit.specs.Machine.{look_up}
use Rattle.circuit.specs.Words.{Formed, Quiet, Holds, Bare}
use Rattle.circuit.proofs.Solution.{map_listed, entry_value, figure_value}
use Rattle.circuit.proofs.View.{never, view, result, strong, any_none, view_at}
use Rattle.circuit.proofs.Fill.{look_right}
use Rattle.circuit.proofs.Invariant.{Justified, exact, due, awaits, Invariant}
use Rattle.circuit.proofs.CatchUp.{quiet_flag}

-- each stored figure holds what its parents give
abbrev pub Exact : Sheet → Table → Type 0
Exact S T = (k : ℕ) → k < size S → is_figure (item_at S k) ≡ true → (v : Value) (m : Mark) → T k ≡ held v m → v ≡ (result S T k).value

module _ (S : Sheet) (ordered : Ordered S) where
  -- with the invariant and no mark, each stored figure holds what its parents give
  pub quiet_exact : (T : Table) → Invariant S T → Quiet S T → Exact S T
  quiet_exact T invariant quiet k l fig v m e = go (invariant k fig v m e)
    where
      go : Justified S T k v m → v ≡ (result S T k).value
      go (exact q) = q
      go (due q) =
          let s : is_marked (held v refresh) ≡ false = rw (e, q) at (quiet k l) in never (cc)
      go (awaits f) =
          let n : (result S T k).flag ≡ false
          = any_none (view S T) (parents S k) (λ p o. quiet_flag S ordered T (size S) quiet p (omega (arith, ordered k p o))) in
          never (cc)

module _ (S : Sheet) (ordered : Ordered S) (E : Entries) (values : ℕ → Value) (solves : IsSolution (circuit_of S) E values) where
  -- then every look-up gives the solution
  pub exact_solution : (T : Table) → Formed S T → Holds S T E → Exact S T → (i : ℕ) → i < size S
      → (view S T i).value ≡ values i
  exact_solution T formed holds exactly = strong (λ i. i < size S → (view S T i).value ≡ values i) rise
    where
      rise : (i : ℕ) → ((p : ℕ) → p < i → p < size S → (view S T p).value ≡ values p) → i < size S
          → (view S T i).value ≡ values i
      rise i lower low = by_item (is_figure (item_at S i)) refl
        where
          parents_given : map (λ p. (view S T p).value) (parents S i) ≡ map values (parents S i)
          parents_given =
              map_listed (parents S i)
              (λ p m. let o : p < i = ordered i p m in lower p o (omega arith))

          -- an entry has the value that it holds
          at_entry : (it : Item) (c : Cell) → is_figure it ≡ false → T i ≡ c → cell_form it c ≡ true → value_in c ≡ E i
              → values i ≡ E i → (view S T i).value ≡ values i
          at_entry entry (unk f) k e form h s = never (cc)
          at_entry entry (held v m) k e form h s = ap (λ s. s.value) (view_at S ordered T i e) ∙ h ∙ sym s
          at_entry (figure op kept spread ps) c k e form h s = never (cc)

          -- a figure has what its rule gives
          given : is_figure (item_at S i) ≡ true → (result S T i).value ≡ values i
          given k = ap (evaluate (item_at S i) null) parents_given ∙ sym (figure_value S E solves i low k)

          at_figure : is_figure (item_at S i) ≡ true → (c : Cell) → T i ≡ c → (view S T i).value ≡ values i
          at_figure k (held v m) e = ap (λ s. s.value) (view_at S ordered T i e) ∙ exactly i low k v m e ∙ given k
          at_figure k (unk f) e = ap (λ s. s.value) (view_at S ordered T i e) ∙ given k

          by_item : (b : Bool) → is_figure (item_at S i) ≡ b → (view S T i).value ≡ values i
          by_item true k = at_figure k (T i) refl
          by_item false k = at_entry (item_at S i) (T i) k refl (formed i low) (holds i low k) (entry_value S E solves i low k)

  -- with no figure stored, whatever the marks, a look-up gives the solution
  pub bare_look : (T : Table) → Formed S T → Holds S T E → Bare S T → (i : ℕ) → i < size S → (look_up S T i).value ≡ values i
  bare_look T formed holds bare i low = (look_right S ordered T i).value ∙ exact_solution T formed holds none i low
    where
      none : Exact S T
      none k l fig v m e =
          let s : is_stored (held v m) ≡ false = rw e at (bare k l fig) in never (cc)

  -- with the invariant and no mark too
  pub quiet_look : (T : Table) → Invariant S T → Formed S T → Holds S T E → Quiet S T → (i : ℕ) → i < size S
      → (look_up S T i).value ≡ values i
  quiet_look T invariant formed holds quiet i low =
      (look_right S ordered T i).value ∙ exact_solution T formed holds (quiet_exact S ordered T invariant quiet) i low
