-- What the openings promise: the answer, index and table afterwards are those of the definitions. Assumes nothing.
use Rattle.std.specs.Prelude.{ℕ, ◌≡◌, Bool, true, false, List, Result}
use Rattle.circuit.specs.Value.{null}
use Rattle.circuit.specs.Table.{Cell, unk, held, unmarked}
use Rattle.circuit.specs.Call.{bare, full}
use Rattle.circuit.specs.Call as circuit
use Rattle.cause.specs.Cause.{fault_number, fault_offset}
use Rattle.cause.specs.declared.Fault.{Fault}
use Rattle.office.specs.Office.{Given}
use Rattle.admission.specs.declared.Answer.{Answer}
use Rattle.call_open.specs.declared.Opening.{Opening}
use Rattle.call_open.specs.declared.Opening.TheVariants.{Bare, Full}

-- an opening's answer, and index and table afterwards
pub record Opened (g : Given) (r : Answer) (x t : List ℕ) : Type 0 where
  pub number_is : r.number ≡ g.number
  pub offset_is : r.offset ≡ g.offset
  pub index_is : x ≡ g.after.index
  pub table_is : t ≡ g.after.table

-- the same, where the opening is done or refused
pub record Opens {A : Type 0} (g : Given) (r : Result A Fault) (x t : List ℕ) : Type 0 where
  pub number_is : fault_number r ≡ g.number
  pub offset_is : fault_offset r ≡ g.offset
  pub index_is : x ≡ g.after.index
  pub table_is : t ≡ g.after.table

-- which opening
abbrev pub opening_by : Opening → circuit.Opening
opening_by Bare = bare
opening_by Full = full

-- the cell of an opened table: by which opening, and whether the item is a figure
abbrev pub first_cell : circuit.Opening → Bool → Cell
first_cell full figure = held null unmarked
first_cell bare true = unk false
first_cell bare false = held null unmarked
