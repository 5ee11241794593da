-- What a board promises: the answer, the results and the table afterwards are those of the definitions. Assumes nothing.
use Rattle.std.specs.Prelude.{ℕ, ◌*◌, ◌≡◌, true, false, List, length, Result}
use Rattle.cause.specs.declared.Cause.{Cause}
use Rattle.cause.specs.declared.Fault.{Fault}
use Rattle.circuit.specs.Board.{result_width, listed}
use Rattle.circuit.specs.Calls.{some_no_item}
use Rattle.circuit.specs.Machine.{Gathered}
use Rattle.layout.specs.Opened.{sheet_of}
use Rattle.table.specs.Bytes.{decode_table, table_form}
use Rattle.office.specs.Office.{Given, results_of}
use Rattle.admission.specs.Answers.{Did, Tried}
use Rattle.admission.specs.declared.Answer.{Answer}

-- a board's answer, and the results and the table afterwards
pub record BoardShown (g : Given) (r : Answer) (results t : List ℕ) : Type 0 where
  pub number_is : r.number ≡ g.number
  pub offset_is : r.offset ≡ g.offset
  pub results_are : results ≡ g.results
  pub table_is : t ≡ g.after.table

-- what a board gives and leaves on what was admitted
pub record BoardDid (g : Given) (r : Result Unit Cause) (results t : List ℕ) : Type 0 where
  pub did : Did g r t
  pub results_are : results ≡ g.results

-- and what it gives and leaves with the tests of what is lent
pub record BoardTried (g : Given) (r : Result Unit Fault) (results t : List ℕ) : Type 0 where
  pub tried : Tried g r t
  pub results_are : results ≡ g.results

-- every item of the list is the sheet's, and the results have room for each and no more
pub record Listed (s items results : List ℕ) : Type 0 where
  pub within : some_no_item (sheet_of s) (listed items) ≡ false
  pub room : length results ≡ result_width * length (listed items)

-- the results of the values gathered, and the table that their look-ups leave, in form
pub record Shown (s : List ℕ) (g : Gathered) (results t : List ℕ) : Type 0 where
  pub results_are : results ≡ results_of g.values
  pub table_is : decode_table t ≡ g.table
  pub formed : table_form (sheet_of s) t ≡ true
