-- Words of 01's "Two offices" (no mark stands, dropped, accepted) and of catching up (stepping until none is marked), what a table's
-- entries hold, and the invariant. Assumes nothing.
use Rattle.std.specs.Prelude.{ℕ, ◌<◌, ◌≡◌, Bool, true, false, ◌||◌, ◌⊎◌, List, [], ◌∷◌}
use Rattle.std.proofs.Math.Option.{none, some}
use Rattle.circuit.specs.Value.{Value}
use Rattle.circuit.specs.Sheet.{Sheet, Entries, size, item_at, is_figure}
use Rattle.circuit.specs.Table.{Table, Mark, refresh, held, is_stored, is_marked, cell_form, value_in}
use Rattle.circuit.specs.Machine.{work_out, step_item, lowest_marked}
use Rattle.circuit.specs.Ascending.{step_by}
use Rattle.circuit.specs.Call.{Call}
use Rattle.circuit.specs.Calls.{perform, drops}

-- the table is well formed for the sheet: each entry is stored, without refresh
abbrev pub Formed : Sheet → Table → Type 0
Formed S T = (i : ℕ) → i < size S → cell_form (item_at S i) (T i) ≡ true

-- 01's "no mark stands"
abbrev pub Quiet : Sheet → Table → Type 0
Quiet S T = (i : ℕ) → i < size S → is_marked (T i) ≡ false

-- 01's "step the lowest marked item until none is marked", from one table to another, without a bound
pub data CaughtUp (S : Sheet) : Table → Table → Type 0 where
  still : {T : Table} → lowest_marked T (size S) ≡ none → CaughtUp S T T
  stepped : {T U : Table} (i : ℕ) → lowest_marked T (size S) ≡ some i → CaughtUp S (step_item S T i) U → CaughtUp S T U

-- the same, where w says what counts as owed; with w true of every item it is catching up as it was before 02's job 5
pub data CaughtUpBy (w : ℕ → Bool) (S : Sheet) : Table → Table → Type 0 where
  still_by : {T : Table} → lowest_marked T (size S) ≡ none → CaughtUpBy w S T T
  stepped_by : {T U : Table} (i : ℕ) → lowest_marked T (size S) ≡ some i → CaughtUpBy w S (step_by w S T i) U → CaughtUpBy w S T U

-- the entries of the table hold E
abbrev pub Holds : Sheet → Table → Entries → Type 0
Holds S T E = (i : ℕ) → i < size S → is_figure (item_at S i) ≡ false → value_in (T i) ≡ E i

-- The invariant of a table: what a stored figure holds is what working it out gives, or is to be refreshed, or working it out is flagged.
abbrev pub Coherent : Sheet → Table → Type 0
Coherent S T =
    (k : ℕ) → is_figure (item_at S k) ≡ true → (v : Value) (m : Mark) → T k ≡ held v m
    → ((work_out S T k).value ≡ v) ⊎ (m ≡ refresh) ⊎ ((work_out S T k).flag ≡ true)

-- no figure is stored
abbrev pub Bare : Sheet → Table → Type 0
Bare S T = (i : ℕ) → i < size S → is_figure (item_at S i) ≡ true → is_stored (T i) ≡ false

-- 01's "dropped": some drop of the list names k
unfoldable pub dropped_in : List Call → ℕ → Bool
dropped_in [] k = false
dropped_in (c ∷ cs) k = drops c k || dropped_in cs k

-- each call of the list is accepted: it gives number 0
abbrev pub AllAccepted : Sheet → Table → List Call → Type 0
AllAccepted S T [] = Unit {0}
AllAccepted S T (c ∷ cs) = ((perform S T c).number ≡ 0) × AllAccepted S (perform S T c).table cs
