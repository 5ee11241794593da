-- What stepping and catching up are lent below the refusals, and what they leave. Assumes nothing.
use Rattle.std.specs.Prelude.{ℕ, ◌+◌, ◌≤◌, ◌≡◌, Bool, true, List, length}
use Rattle.circuit.specs.Sheet.{Sheet, size}
use Rattle.circuit.specs.Table.{Table}
use Rattle.circuit.specs.Ascending.{step_marked_by}
use Rattle.layout.specs.Opened.{sheet_of}
use Rattle.table.specs.Bytes.{decode_table, table_form, owed_true, OwedKept}
use Rattle.children.specs.Children.{Family, Kept}
use Rattle.memo.specs.Memo.{Pass, pass, NoneFrom}
use Rattle.looking.specs.Pass.{Lent}

-- A memo at the start of its generation: there is room for each item, and nothing of the generation or a later one is remembered.
pub record Ready (s : List ℕ) (memo : Pass) : Type 0 where
  pub room : size (sheet_of s) ≤ length memo.notes
  pub older : NoneFrom 0 memo

-- the memo where another generation begins
abbrev pub begun : Pass → ℕ → Pass
begun memo generation = pass memo.notes generation

-- What the steps of a call are lent, once what is lent is admitted: a table in form whose owed bytes are true, an array that those fit
-- into, a memo at the start of a generation, and child lists that are built already or empty.
pub record Prepared (s t owed : List ℕ) (memo : Pass) (children : Family) : Type 0 where
  pub lent : Lent s t
  pub owes : owed_true (sheet_of s) t ≡ true
  pub owed_room : size (sheet_of s) ≤ length owed
  pub ready : Ready s memo
  pub kept : Kept (sheet_of s) children

-- an item stepped while it is marked, twice at most
abbrev pub step_twice_by : (ℕ → Bool) → Sheet → Table → ℕ → Table
step_twice_by called S T i = step_marked_by called S (step_marked_by called S T i) i

-- After a step of the table t: it is U, in form and with its owed bytes as they were, and the next generation may begin.
pub record Steps (s t : List ℕ) (generation : ℕ) (U : Table) (t' : List ℕ) (memo' : Pass) : Type 0 where
  pub table_is : decode_table t' ≡ U
  pub owed_kept : OwedKept t t'
  pub formed : table_form (sheet_of s) t' ≡ true
  pub ready : Ready s (begun memo' (generation + 1))
