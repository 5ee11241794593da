-- A step changes nothing of what is owed (`step_owed`), nor does catching up (`caught_owed`): what they store leaned already, and what was
-- stored stays stored. Assumes that the sheet is ordered.
use Prim.Native.Nat.{ℕ, zero, suc, ◌*◌}
use mathlib.Core.Path.{◌≡◌, refl, sym, ◌∙◌}
use mathlib.Core.Bool.{true, false}
use mathlib.Core.Option.{Option, none, some}
use Rattle.circuit.specs.Value.{Value}
use Rattle.circuit.specs.Sheet.{Sheet, size, Ordered}
use Rattle.circuit.specs.Table.{Table, Cell, unmarked, refresh, notice, unk, held, is_stored}
use Rattle.circuit.specs.Owed.{owed}
use Rattle.circuit.specs.Machine.{work_out, renewed, tell, clear_cell, clear_mark, step_cell, step_item, lowest_marked, step_lowest, catch_up_in, catch_up}
use Rattle.circuit.proofs.Fill.{upd_cases}
use Rattle.circuit.proofs.Owed.{Within, stored_leans, owed_same, within_refl}
use Rattle.circuit.proofs.Tell.{TellsOne, renews_one}
use Rattle.circuit.proofs.CalledOn.{one_within, one_stored, below_within, below_stored}

cleared : (c : Cell) → is_stored (clear_cell c) ≡ is_stored c
cleared (unk f) = refl
cleared (held v m) = refl

-- clearing a mark changes nothing of what is stored
clear_stored : (T : Table) (i j : ℕ) → is_stored (clear_mark T i j) ≡ is_stored (T j)
unfolding clear_mark
clear_stored T i = upd_cases (λ j c. is_stored c ≡ is_stored (T j)) T i (clear_cell (T i)) (cleared (T i)) (λ j n. refl)

module _ (S : Sheet) (ordered : Ordered S) where
  -- what U stores leaned in T, and U stores what T does
  pub record Leant (T U : Table) : Type 0 where
    pub within : Within S T U
    pub stored : (j : ℕ) → is_stored (T j) ≡ true → is_stored (U j) ≡ true

  leant_owed : (T U : Table) → Leant T U → (k : ℕ) → owed S U k ≡ owed S T k
  leant_owed T U l k = sym (owed_same S ordered T U l.within (λ j s. stored_leans (U j) (owed S U j) (l.stored j s)) k)

  leant_refl : (T : Table) → Leant T T
  leant_refl T = record { within = within_refl S T; stored = λ j s. s }

  tell_leant : (T : Table) (i : ℕ) → Leant T (clear_mark (tell S T i) i)
  unfolding tell
  tell_leant T i =
      let U : Table = tell S T i in
      record {
        within = λ j s. below_within S ordered T i (size S) j (sym (clear_stored U i j) ∙ s);
        stored = λ j s. clear_stored U i j ∙ below_stored S ordered T i (size S) j s;
      }

  renew_leant : (T : Table) (i : ℕ) (v : Value) → T i ≡ held v refresh → Leant T (renewed i v unmarked (work_out S T i))
  renew_leant T i v e =
      let U : Table = renewed i v unmarked (work_out S T i) in
      let one : TellsOne S T i U = renews_one S ordered T i v refresh unmarked e refl in
      record { within = one_within S ordered T U i one; stored = one_stored S ordered T U i one }

  pub step_leant : (T : Table) (i : ℕ) → Leant T (step_item S T i)
  unfolding step_item
  step_leant T i = go (T i) refl
    where
      go : (c : Cell) → T i ≡ c → Leant T (step_cell S T i c)
      go (unk true) e = tell_leant T i
      go (unk false) e = leant_refl T
      go (held v unmarked) e = leant_refl T
      go (held v refresh) e = renew_leant T i v e
      go (held v notice) e = tell_leant T i

  pub step_owed : (T : Table) (i k : ℕ) → owed S (step_item S T i) k ≡ owed S T k
  step_owed T i k = leant_owed T (step_item S T i) (step_leant T i) k

  caught_in : (fuel : ℕ) (T : Table) (k : ℕ) → owed S (catch_up_in fuel S T) k ≡ owed S T k
  unfolding catch_up_in
  caught_in zero T k = refl
  caught_in (suc fuel) T k = go (lowest_marked T (size S)) (λ U. caught_in fuel U k)
    where
      go : (o : Option ℕ) → ((U : Table) → owed S (catch_up_in fuel S U) k ≡ owed S U k) → owed S (step_lowest (catch_up_in fuel S) S T o) k ≡ owed S T k
      go none rest = refl
      go (some i) rest = rest (step_item S T i) ∙ step_owed T i k

  pub caught_owed : (T : Table) (k : ℕ) → owed S (catch_up S T) k ≡ owed S T k
  unfolding catch_up
  caught_owed T k = caught_in (2 * size S) T k
