-- What an ask promises: the answer and the table afterwards are those of the definitions. Assumes nothing.
use Rattle.std.specs.Prelude.{ℕ, ◌≡◌, true, List, ℤ, pos, Result, Ok, Err}
use Rattle.cause.specs.declared.Cause.{Cause}
use Rattle.cause.specs.declared.Fault.{Fault}
use Rattle.cause.specs.Cause.{fault_number, fault_offset}
use Rattle.circuit.specs.Value as circuit
use Rattle.circuit.specs.Value.{kind_of, number_of}
use Rattle.circuit.specs.Machine.{Looked}
use Rattle.value.specs.declared.Value.{Value}
use Rattle.value.specs.Meaning.{meaning}
use Rattle.layout.specs.Opened.{sheet_of}
use Rattle.table.specs.Bytes.{decode_table, table_form}
use Rattle.office.specs.Office.{Given}
use Rattle.admission.specs.Answers.{Did, Tried}
use Rattle.call_ask.specs.declared.Reading.{Reading}

-- an ask's answer, and the table afterwards
pub record Asked (g : Given) (r : Reading) (t : List ℕ) : Type 0 where
  pub number_is : r.number ≡ g.number
  pub offset_is : r.offset ≡ g.offset
  pub kind_is : r.kind ≡ g.kind
  pub value_is : r.value ≡ g.value
  pub table_is : t ≡ g.after.table

-- a look-up's value with the table that it leaves, in form
pub record LookedUp (s : List ℕ) (r : Looked) (v : circuit.Value) (t : List ℕ) : Type 0 where
  pub value_is : v ≡ r.value
  pub table_is : decode_table t ≡ r.table
  pub formed : table_form (sheet_of s) t ≡ true

-- the kind and the number of a value, 0 and 0 where there is none
abbrev pub kind_in : {E : Type 0} → Result Value E → ℕ
kind_in (Ok v) = kind_of (meaning v)
kind_in (Err e) = 0

abbrev pub value_in : {E : Type 0} → Result Value E → ℤ
value_in (Ok v) = number_of (meaning v)
value_in (Err e) = pos 0

-- what an ask gives on what was admitted, with the value of an accepted one
pub record Valued (g : Given) (r : Result Value Cause) (t : List ℕ) : Type 0 where
  pub did : Did g r t
  pub kind_is : kind_in r ≡ g.kind
  pub value_is : value_in r ≡ g.value

-- and what it gives with the tests of what is lent
pub record TriedValue (g : Given) (r : Result Value Fault) (t : List ℕ) : Type 0 where
  pub tried : Tried g r t
  pub kind_is : kind_in r ≡ g.kind
  pub value_is : value_in r ≡ g.value

-- the reading of an ask
pub record ReadingOf (given : Result Value Fault) (r : Reading) : Type 0 where
  pub number_is : r.number ≡ fault_number given
  pub offset_is : r.offset ≡ fault_offset given
  pub kind_is : r.kind ≡ kind_in given
  pub value_is : r.value ≡ value_in given
