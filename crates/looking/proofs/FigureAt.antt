-- A figure, where its parents are read and its rule is applied. Working out rests on it, from look-ups and in the season-close run.
-- Assumes nothing.
use Prim.Native.Nat.{ℕ, ◌<◌, ◌≤◌}
use mathlib.Core.Path.{◌≡◌, ap, ◌∙◌}
use mathlib.Core.Bool.{true}
use mathlib.Core.List.{List}
use native.Mathlib.Omega.{arith}
use lib.ListN.{length, get_or}
use Rattle.circuit.specs.Value.{Value}
use Rattle.circuit.specs.Rules.{max_parents}
use Rattle.circuit.specs.Sheet.{Item, size, item_at, is_figure, parents, parents_of, evaluate}
use Rattle.layout.specs.Opened.{sheet_of}
use Rattle.item.specs.Item.{Evaluated, CountRead}
use Rattle.item.proofs.Located.{sheet_ordered}
use Rattle.children.proofs.Linking.{place_below}
use Rattle.value.specs.Meaning.{meaning}

-- item i, which was read, is a figure with `count` parents
pub record FigureAt (s : List ℕ) (i : ℕ) (it : Item) (count : ℕ) : Type 0 where
  pub low : i < size (sheet_of s)
  pub figured : is_figure (item_at (sheet_of s) i) ≡ true
  pub item_is : it ≡ item_at (sheet_of s) i
  pub count_is : count ≡ length (parents (sheet_of s) i)
  pub count_most : count ≤ max_parents

pub figure_at : {s : List ℕ} {i : ℕ} → i < size (sheet_of s) → is_figure (item_at (sheet_of s) i) ≡ true → (it : Item) → it ≡ item_at (sheet_of s) i
    → (count : ℕ) → CountRead it count → FigureAt s i it count
figure_at {s} {i} low figured it is count read =
    record {
      low = low;
      figured = figured;
      item_is = is;
      count_is = read.count_is ∙ ap (λ x. length (parents_of x)) is;
      count_most = read.at_most;
    }

module _ {s : List ℕ} {i : ℕ} {it : Item} {count : ℕ} (here : FigureAt s i it count) where
  pub figure_parents : parents_of it ≡ parents (sheet_of s) i
  figure_parents = ap parents_of here.item_is

  pub parent_below : (k p : ℕ) → p ≡ get_or (parents_of it) k 0 → k < count → p < i
  parent_below k p e more =
      rw (e ∙ ap (λ ps. get_or ps k 0) figure_parents) (place_below (sheet_of s) (sheet_ordered s) i k (omega (arith, here.count_is)))

  -- what its rule gives on the parents' values is the machine's
  pub figure_evaluated : {vs : List Value} {r : Rattle.value.specs.declared.Value.Value} → Evaluated it vs r
      → (own : Value) → meaning r ≡ evaluate (item_at (sheet_of s) i) own vs
  figure_evaluated {vs} given own = given.value_is own ∙ ap (λ x. evaluate x own vs) here.item_is
