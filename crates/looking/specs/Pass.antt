-- What looking up and working out are lent below the refusals, and what they leave: the result and the table are the
-- machine's, and the memo stays right. Assumes nothing.
use Rattle.std.specs.Prelude.{ℕ, ◌≡◌, true, List, length}
use Rattle.circuit.specs.Value.{well_formed}
use Rattle.circuit.specs.Machine.{Looked}
use Rattle.layout.specs.Opened.{sheet_of}
use Rattle.table.specs.Bytes.{decode_table, table_form, table_length, OwedKept}
use Rattle.memo.specs.Memo.{Found, Pass, Right, NoneFrom}

-- a table of the sheet, in form
pub record Lent (s t : List ℕ) : Type 0 where
  pub length_is : length t ≡ table_length (sheet_of s)
  pub formed : table_form (sheet_of s) t ≡ true

-- What a look-up (or working out) leaves, which on the table t gives r by the machine: the value and the flag, the table
-- with its owed bytes as they were, and the memo; where nothing was remembered at or above b, nothing is.
pub record Leaves (s t : List ℕ) (m : Pass) (b : ℕ) (r : Looked) (f : Found) (t' : List ℕ) (m' : Pass) : Type 0 where
  pub value_is : f.value ≡ r.value
  pub flag_is : f.flag ≡ r.flag
  pub value_formed : well_formed f.value ≡ true
  pub table_is : decode_table t' ≡ r.table
  pub owed_kept : OwedKept t t'
  pub formed : table_form (sheet_of s) t' ≡ true
  pub right : Right (sheet_of s) r.table m'
  pub generation_is : m'.generation ≡ m.generation
  pub fresh : NoneFrom b m → NoneFrom b m'
