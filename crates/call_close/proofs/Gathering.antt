-- Working a figure out in the season-close run: the loop over its parents gathers the values in their records. (Apart from looking's
-- Gathering, which gathers by look-ups that change the table; FigureAt serves both.) Assumes nothing.
use Prim.Native.Nat.{ℕ, ◌+◌, ◌*◌, ◌<◌, ◌≤◌}
use mathlib.Core.Path.{◌≡◌, refl, sym, ap, ◌∙◌}
use mathlib.Core.Bool.{true}
use mathlib.Core.List.{List, [], ◌∷◌, ◌++◌, map, map-append}
use native.Mathlib.Omega.{arith}
use native.Mathlib.Numerals.{add-one}
use lib.ListN.{length, get_or, set, take, length-set}
use lib.Seq.{take-suc, take-length}
use Rattle.circuit.specs.Value.{Value}
use Rattle.circuit.specs.WellFormed.{all_well_formed}
use Rattle.circuit.specs.Rules.{max_parents}
use Rattle.circuit.specs.Sheet.{Item, size, item_at, is_figure, parents, parents_of, evaluate}
use Rattle.circuit.specs.Table.{value_in}
use Rattle.circuit.specs.Closing.{closed_value}
use Rattle.layout.specs.Opened.{sheet_of}
use Rattle.item.specs.Item.{Evaluated, CountRead}
use Rattle.item.proofs.Located.{sheet_ordered}
use Rattle.value.specs.declared.Value as code
use Rattle.value.specs.Meaning.{meaning, meanings}
use Rattle.value.proofs.Parents.{meanings_store}
use Rattle.table.specs.Record.{width}
use Rattle.table.specs.Bytes.{decode_table}
use Rattle.table.proofs.Tables.{record_fits, decoded_holdable, holdable_well_formed}
use Rattle.office.proofs.Holdable.{all_formed}
use Rattle.looking.specs.Pass.{Lent}
use Rattle.looking.proofs.FigureAt.{FigureAt, figure_at, figure_parents, parent_below, figure_evaluated}

-- the value in the record of an item
abbrev value_at : List ℕ → ℕ → Value
value_at t p = value_in (decode_table t p)

-- The loop's invariant, for item i with `count` parents: the values of the first k are gathered.
pub record Gathering (s t : List ℕ) (i : ℕ) (it : Item) (count k : ℕ) (vs : List code.Value) : Type 0 where
  pub lent : Lent s t
  pub figure : FigureAt s i it count
  pub room : length vs ≡ max_parents
  pub values_are : meanings (take k vs) ≡ map (value_at t) (take k (parents (sheet_of s) i))

pub gathering_start : {s t : List ℕ} {i : ℕ} → Lent s t → i < size (sheet_of s) → is_figure (item_at (sheet_of s) i) ≡ true
    → (it : Item) → it ≡ item_at (sheet_of s) i → (count : ℕ) → CountRead it count → (vs : List code.Value) → length vs ≡ max_parents → Gathering s t i it count 0 vs
gathering_start lent low figured it it_is count read vs room =
    record { lent = lent; figure = figure_at low figured it it_is count read; room = room; values_are = refl }

module _ {s t : List ℕ} {i : ℕ} {it : Item} {count k : ℕ} {vs : List code.Value} (inv : Gathering s t i it count k vs) where
  abbrev ps : List ℕ
  ps = parents (sheet_of s) i

  -- the record of a parent
  pub gathering_fits : (p : ℕ) → p ≡ get_or (parents_of it) k 0 → k < count → width * p + width ≤ length t
  gathering_fits p e more =
      let below = parent_below inv.figure k p e more in
      record_fits (sheet_of s) t p inv.lent.length_is (omega (arith, below, inv.figure.low))

  -- one parent more
  pub gathering_next : (p : ℕ) → p ≡ get_or (parents_of it) k 0 → k < count → (v : code.Value) → meaning v ≡ value_at t p
      → Gathering s t i it count (k + 1) (set vs k v)
  gathering_next p e more v value =
      record {
        lent = inv.lent;
        figure = inv.figure;
        room = length-set vs k v ∙ inv.room;
        values_are =
            meanings_store vs k v (omega (arith, inv.room, inv.figure.count_most))
            ∙ ap (λ us. us ++ (meaning v ∷ [])) inv.values_are
            ∙ ap (λ u. map (value_at t) (take k ps) ++ (u ∷ [])) (value ∙ ap (value_at t) (sym place)) ∙ sym taken;
      }
    where
      place : get_or ps k 0 ≡ p
      place = sym (e ∙ ap (λ qs. get_or qs k 0) (figure_parents inv.figure))

      taken : map (value_at t) (take (k + 1) ps) ≡ map (value_at t) (take k ps) ++ (value_at t (get_or ps k 0) ∷ [])
      taken =
          ap (λ n. map (value_at t) (take n ps)) (add-one k)
          ∙ ap (map (value_at t)) (take-suc ps k 0 (omega (arith, inv.figure.count_is)))
          ∙ map-append (value_at t) (take k ps) (get_or ps k 0 ∷ [])

  module _ (all : k ≡ count) where
    -- no parent is left
    gathered : meanings (take count vs) ≡ map (value_at t) ps
    gathered =
        ap (λ n. meanings (take n vs)) (sym all) ∙ inv.values_are ∙ ap (λ n. map (value_at t) (take n ps)) (all ∙ inv.figure.count_is)
        ∙ ap (map (value_at t)) (take-length ps)

    pub gathering_formed : all_well_formed (meanings (take count vs)) ≡ true
    gathering_formed =
        ap all_well_formed gathered
        ∙ all_formed (value_at t) ps
        (λ p l.
        holdable_well_formed (sheet_of s) (decode_table t) (decoded_holdable (sheet_of s) t inv.lent.formed) p
        (omega (arith, sheet_ordered s i p l, inv.figure.low)))

    -- the figure is worked out
    pub gathering_done : (r : code.Value) → Evaluated it (meanings (take count vs)) r → meaning r ≡ closed_value (sheet_of s) (decode_table t) i
    unfolding closed_value
    gathering_done r given =
        figure_evaluated inv.figure given (value_at t i) ∙ ap (evaluate (item_at (sheet_of s) i) (value_at t i)) gathered
