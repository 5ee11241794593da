-- What the calls promise: the answer and the table afterwards are those of the definitions. Assumes nothing.
use Rattle.std.specs.Prelude.{ℕ, ◌≡◌, Bool, true, List, Result}
use Rattle.cause.specs.Cause.{number_in, fault_number, fault_offset}
use Rattle.cause.specs.declared.Cause.{Cause}
use Rattle.cause.specs.declared.Fault.{Fault}
use Rattle.circuit.specs.Sheet.{Sheet}
use Rattle.circuit.specs.Table.{Table}
use Rattle.circuit.specs.Calls.{not_entry, not_figure}
use Rattle.layout.specs.Opened.{sheet_of}
use Rattle.table.specs.Bytes.{decode_table, table_form}
use Rattle.office.specs.Office.{Given}
use Rattle.item.specs.declared.Kind.{Kind}
use Rattle.item.specs.declared.Kind.TheVariants.{Entry, Figure}
use Rattle.admission.specs.declared.Answer.{Answer}

-- the answer that tells a refusal or none
abbrev pub answer_of : {A : Type 0} → Result A Fault → Answer
answer_of r = record { number = fault_number r; offset = fault_offset r }

-- a call's answer, and the table afterwards
pub record Answered (g : Given) (r : Answer) (t : List ℕ) : Type 0 where
  pub number_is : r.number ≡ g.number
  pub offset_is : r.offset ≡ g.offset
  pub table_is : t ≡ g.after.table

-- What a call's own tests and its effect give, once what is lent is admitted: no cause of theirs has an offset.
pub record Did {A : Type 0} (g : Given) (r : Result A Cause) (t : List ℕ) : Type 0 where
  pub number_is : number_in r ≡ g.number
  pub offset_is : 0 ≡ g.offset
  pub table_is : t ≡ g.after.table

-- what the whole call gives, before its answer is made of it
pub record Tried {A : Type 0} (g : Given) (r : Result A Fault) (t : List ℕ) : Type 0 where
  pub number_is : fault_number r ≡ g.number
  pub offset_is : fault_offset r ≡ g.offset
  pub table_is : t ≡ g.after.table

-- a table in form that decodes to T
pub record Left (s : List ℕ) (T : Table) (t : List ℕ) : Type 0 where
  pub table_is : decode_table t ≡ T
  pub formed : table_form (sheet_of s) t ≡ true

-- 12, for a call that takes figures or for one that takes entries
abbrev pub wrong_item : Kind → Sheet → ℕ → Bool
wrong_item Figure S i = not_figure S i
wrong_item Entry S i = not_entry S i
