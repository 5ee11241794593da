-- 02's job 7, its words: a sequence of accepted steps, a table with no mark left, and steps in whatever order. Assumes nothing.
use Rattle.std.specs.Prelude.{ℕ, zero, suc, ◌*◌, ◌^◌, ◌<◌, ◌≤◌, ◌≡◌, true, List, [], ◌∷◌, map, ◌↔◌, length}
use Rattle.circuit.specs.Value.{Value}
use Rattle.circuit.specs.Circuit.{Listed}
use Rattle.circuit.specs.Sheet.{Sheet, size, item_at, is_figure}
use Rattle.circuit.specs.Machine.{look_up}
use Rattle.circuit.specs.Call.{keep, step, ask, close}
use Rattle.layout.specs.Layout.{level_limit}
use Rattle.layout.specs.Opened.{sheet_of}
use Rattle.table.specs.Rows.{row}
use Rattle.table.specs.Record.{width, kind_in, mark_in}
use Rattle.table.specs.Bytes.{decode_table}
use Rattle.office.specs.Office.{Office, call_on, run_on}
use Rattle.office.specs.Demand2Words.{answer_of, reading, reading_in, entries_in, OnlySolution, Stores, Gives, HasCells, NoMarkStands}
use Rattle.office.specs.Demand3Words.{board_after}

-- ---- steps end

-- item i of the sheet has a mark
abbrev pub MarkStands : Sheet → List ℕ → ℕ → Type 0
MarkStands S t i = (i < size S) × (¬ (mark_in (row width t i) ≡ 0))

-- 02's "a sequence of accepted steps and nothing else", of the items is: each is accepted on what the last one left
abbrev pub AcceptedSteps : List ℕ → Office → List ℕ → Type 0
AcceptedSteps s o [] = Unit {0}
AcceptedSteps s o (i ∷ is) = ((call_on s o (step i)).number ≡ 0) × AcceptedSteps s (call_on s o (step i)).after is

-- what an office keeps after it
abbrev pub after_steps : List ℕ → Office → List ℕ → Office
after_steps s o is = run_on s o (map step is)

-- So many rounds over the items of a screen: in each a step of every item that it shows, in its order. The step of an item without a mark is
-- refused, and changes nothing.
abbrev pub after_rounds : List ℕ → Office → List ℕ → ℕ → Office
after_rounds s o screen zero = o
after_rounds s o screen (suc r) = after_rounds s (after_steps s o screen) screen r

-- each step is of the lowest marked item: no item below it has a mark
abbrev pub LowestFirst : List ℕ → Office → List ℕ → Type 0
LowestFirst s o [] = Unit {0}
LowestFirst s o (i ∷ is) = ((j : ℕ) → j < i → mark_in (row width o.table j) ≡ 0) × LowestFirst s (call_on s o (step i)).after is

-- "Starting from any accepted table of a sheet with n items, a sequence of accepted steps and nothing else is shorter than 4 to the
-- power n, whichever marked items are picked."
pub record StepsEnd (s : List ℕ) (o : Office) : Type 0 where
  pub shorter : (is : List ℕ) → AcceptedSteps s o is → length is < 4 ^ size (sheet_of s)
  -- shorter than that still
  pub closer : (is : List ℕ) → AcceptedSteps s o is → length is < 3 ^ size (sheet_of s)
  -- lowest first, two steps an item are enough
  pub lowest_first : (is : List ℕ) → AcceptedSteps s o is → LowestFirst s o is → length is ≤ 2 * size (sheet_of s)
  -- in rounds over a screen that shows every item, in whatever order, two rounds for each level are enough: 130
  pub rounds : (screen : List ℕ) → ((i : ℕ) → i < size (sheet_of s) → Listed i screen)
      → NoMarkStands (sheet_of s) (after_rounds s o screen (2 * suc level_limit)).table
  -- any marked item can be picked, and no other
  pub picked : (is : List ℕ) → AcceptedSteps s o is → (i : ℕ)
      → ((call_on s (after_steps s o is) (step i)).number ≡ 0) ↔ MarkStands (sheet_of s) (after_steps s o is).table i
  -- so where no step is accepted any more, no mark stands
  pub ended : (is : List ℕ) → AcceptedSteps s o is → ((i : ℕ) → ¬ ((call_on s (after_steps s o is) (step i)).number ≡ 0))
      → NoMarkStands (sheet_of s) (after_steps s o is).table
  -- and from wherever a sequence has come to, there are steps that lead there
  pub arrives : (is : List ℕ) → AcceptedSteps s o is
      → let p : Office = after_steps s o is in (js : List ℕ) × AcceptedSteps s p js × NoMarkStands (sheet_of s) (after_steps s p js).table

-- ---- quiet is right

-- "When no mark is left on a table written by the engine alone since opening, each lookup gives the solution": at an office that keeps p, and
-- on whose table no mark stands.
pub record QuietRight (s : List ℕ) (p : Office) : Type 0 where
  pub values : ℕ → Value
  -- under the entries that the table holds
  pub solution : OnlySolution (sheet_of s) (entries_in p.table) values
  pub looked_up_lem : (i : ℕ) → i < size (sheet_of s) → (look_up (sheet_of s) (decode_table p.table) i).value ≡ values i
  -- what is stored holds it
  pub stored : (i : ℕ) → i < size (sheet_of s) → ¬ (kind_in (row width p.table i) ≡ 0) → Stores p.table i (values i)
  -- an ask gives it, a keep stores it, a board shows it
  pub gives : Gives s p values
  -- an ask steps nothing: it leaves what looking the item up leaves
  pub steps_nothing : (i : ℕ) → i < size (sheet_of s)
      → HasCells (sheet_of s) (call_on s p (ask i)).after.table (look_up (sheet_of s) (decode_table p.table) i).table
  -- and a keep brings no mark
  pub keeps_quiet : (i : ℕ) → i < size (sheet_of s) → is_figure (item_at (sheet_of s) i) ≡ true → NoMarkStands (sheet_of s) (call_on s p (keep i)).after.table

-- ---- any order arrives

-- Steps of the items is, in this order, at an office that keeps p. Some may be refused, which changes nothing.
pub record AnyOrder (s : List ℕ) (p : Office) (is : List ℕ) : Type 0 where
  -- Wherever the steps are left off, asks, boards and a season-close run are those of the start: nothing is lost.
  pub asks : (i : ℕ) → answer_of (call_on s (after_steps s p is) (ask i)) ≡ answer_of (call_on s p (ask i))
  pub boards : (items results : List ℕ) → board_after s p (map step is) items results ≡ board_after s p [] items results
  pub closes : (call_on s (after_steps s p is) close).after ≡ (call_on s p close).after
  -- Where they end with no mark standing, the table is right, and every reading is that of an ask at the start: what is looked up, and what is
  -- stored.
  pub right : NoMarkStands (sheet_of s) (after_steps s p is).table → QuietRight s (after_steps s p is)
  pub looked_up_lem : NoMarkStands (sheet_of s) (after_steps s p is).table → (i : ℕ) → i < size (sheet_of s)
      → reading (look_up (sheet_of s) (decode_table (after_steps s p is).table) i).value ≡ answer_of (call_on s p (ask i))
  pub stored : NoMarkStands (sheet_of s) (after_steps s p is).table → (i : ℕ) → i < size (sheet_of s) → ¬ (kind_in (row width (after_steps s p is).table i) ≡ 0)
      → reading_in (after_steps s p is).table i ≡ answer_of (call_on s p (ask i))
