-- What does not depend on the figures' spreads: which items are figures, what is owed, looking up and working out, and so the invariant of a
-- table (`coherent_respread`), which is that of the proofs (`coherent_invariant`). Assumes nothing, or that the sheet is ordered where it
-- says so.
use Prim.Native.Nat.{ℕ, zero, suc}
use mathlib.Core.Path.{◌≡◌, refl, sym, ap, ◌∙◌}
use mathlib.Core.Logic.{◌⊎◌, inl, inr}
use mathlib.Core.Bool.{true}
use mathlib.Core.List.{map}
use lib.ListN.{length-map, get_or-map}
use Rattle.circuit.specs.Value.{null}
use Rattle.circuit.specs.Sheet.{Sheet, Item, defer, entry, figure, size, item_at, is_figure, kept_of, parents_of, parents, evaluate, Ordered}
use Rattle.circuit.specs.Table.{Table, Cell, refresh, unk, held}
use Rattle.circuit.specs.Owed.{owed_for, owed}
use Rattle.circuit.specs.Machine.{Looked, looked, Gathered, gather, rule_on, work_out_by, look_cell, look_for, look_up, work_out}
use Rattle.circuit.specs.Words.{Coherent}
use Rattle.circuit.proofs.Fill.{gather_ext, work_right}
use Rattle.circuit.proofs.Owed.{any_same}
use Rattle.circuit.proofs.Invariant.{Justified, exact, due, awaits, Invariant}

-- an item whatever its spread is
abbrev pub spreadless : Item → Item
spreadless entry = entry
spreadless (figure op keep spread ps) = figure op keep defer ps

-- what does not look at it
abbrev Spreadless : {A : Type 0} → (Item → A) → Type 0
Spreadless f = (it : Item) → f (spreadless it) ≡ f it

figure_spreadless : Spreadless is_figure
figure_spreadless entry = refl
figure_spreadless (figure op keep spread ps) = refl

kept_spreadless : Spreadless kept_of
kept_spreadless entry = refl
kept_spreadless (figure op keep spread ps) = refl

parents_spreadless : Spreadless parents_of
parents_spreadless entry = refl
parents_spreadless (figure op keep spread ps) = refl

evaluate_spreadless : Spreadless (λ it. evaluate it null)
evaluate_spreadless entry = refl
evaluate_spreadless (figure op keep spread ps) = refl

-- Two sheets that differ in their figures' spreads only.
module _ (S R : Sheet) (alike : map spreadless R ≡ map spreadless S) where
  pub size_respread : size R ≡ size S
  size_respread = sym (length-map R spreadless) ∙ ap size alike ∙ length-map S spreadless

  item_respread : (k : ℕ) → spreadless (item_at R k) ≡ spreadless (item_at S k)
  item_respread k = sym (get_or-map spreadless R k entry) ∙ ap (λ l. item_at l k) alike ∙ get_or-map spreadless S k entry

  of_item : {A : Type 0} (f : Item → A) → Spreadless f → (k : ℕ) → f (item_at R k) ≡ f (item_at S k)
  of_item f same k = sym (same (item_at R k)) ∙ ap f (item_respread k) ∙ same (item_at S k)

  pub figure_respread : (k : ℕ) → is_figure (item_at R k) ≡ is_figure (item_at S k)
  figure_respread = of_item is_figure figure_spreadless

  pub parents_respread : (k : ℕ) → parents R k ≡ parents S k
  parents_respread = of_item parents_of parents_spreadless

  owed_for_respread : (T : Table) (fuel i : ℕ) → owed_for fuel R T i ≡ owed_for fuel S T i
  unfolding owed_for
  owed_for_respread T zero i = refl
  owed_for_respread T (suc fuel) i =
      rw size_respread
      (any_same _ _ (size S) (λ c l. rw (parents_respread c, owed_for_respread T fuel c)))

  pub owed_respread : (T : Table) (i : ℕ) → owed R T i ≡ owed S T i
  unfolding owed
  owed_respread T i = rw size_respread (owed_for_respread T (size S) i)

  work_ext : (look find : Table → ℕ → Looked) → ((T : Table) (p : ℕ) → look T p ≡ find T p) → (T : Table) (i : ℕ)
      → work_out_by look R T i ≡ work_out_by find S T i
  unfolding work_out_by
  work_ext look find same T i =
      ap (λ ps. rule_on (item_at R i) (gather look T ps)) (parents_respread i)
      ∙ ap (rule_on (item_at R i)) (gather_ext look find (parents S i) (λ U p l. same U p) T)
      ∙ ap (λ f. looked g.table (f g.values) g.flag) (of_item (λ it. evaluate it null) evaluate_spreadless i)
    where
      g : Gathered
      g = gather find T (parents S i)

  look_for_respread : (fuel : ℕ) (T : Table) (i : ℕ) → look_for fuel R T i ≡ look_for fuel S T i
  unfolding look_for
  look_for_respread zero T i = refl
  look_for_respread (suc fuel) T i = go (λ U p. look_for_respread fuel U p) (T i)
    where
      go : ((U : Table) (p : ℕ) → look_for fuel R U p ≡ look_for fuel S U p) → (c : Cell) → look_cell (look_for fuel R) R T i c ≡ look_cell (look_for fuel S) S T i c
      go same (held v m) = refl
      go same (unk f) = rw (of_item kept_of kept_spreadless i, work_ext (look_for fuel R) (look_for fuel S) same T i)

  look_respread : (T : Table) (i : ℕ) → look_up R T i ≡ look_up S T i
  unfolding look_up
  look_respread T i = look_for_respread (suc i) T i

  pub work_respread : (T : Table) (i : ℕ) → work_out R T i ≡ work_out S T i
  unfolding work_out
  work_respread T i = work_ext (look_up R) (look_up S) look_respread T i

  -- so one has the invariant where the other has it
  pub coherent_respread : (T : Table) → Coherent S T → Coherent R T
  coherent_respread T coherent k fig v m e = rw (work_respread T k) (coherent k (sym (figure_respread k) ∙ fig) v m e)

-- The invariant of the proofs.
module _ (S : Sheet) (ordered : Ordered S) (T : Table) where
  pub coherent_invariant : Coherent S T → Invariant S T
  coherent_invariant coherent k fig v m e = go (coherent k fig v m e)
    where
      go : ((work_out S T k).value ≡ v) ⊎ (m ≡ refresh) ⊎ ((work_out S T k).flag ≡ true) → Justified S T k v m
      go (inl q) = exact (sym q ∙ (work_right S ordered T k).value)
      go (inr (inl q)) = due q
      go (inr (inr q)) = awaits (sym (work_right S ordered T k).flag ∙ q)

  pub invariant_coherent : Invariant S T → Coherent S T
  invariant_coherent invariant k fig v m e = go (invariant k fig v m e)
    where
      go : Justified S T k v m → ((work_out S T k).value ≡ v) ⊎ (m ≡ refresh) ⊎ ((work_out S T k).flag ≡ true)
      go (exact q) = inl ((work_right S ordered T k).value ∙ sym q)
      go (due q) = inr (inl q)
      go (awaits q) = inr (inr ((work_right S ordered T k).flag ∙ q))
