-- What renewing and telling are lent below the refusals, and what they leave. Assumes nothing.
use Rattle.std.specs.Prelude.{ℕ, ◌<◌, ◌≤◌, ◌≡◌, true, List, length}
use Rattle.circuit.specs.Value.{Value}
use Rattle.circuit.specs.Sheet.{Sheet, Spread, defer, renew, size, item_at, is_figure}
use Rattle.circuit.specs.Table.{Table, Mark, unmarked, refresh, notice, held}
use Rattle.layout.specs.Opened.{sheet_of}
use Rattle.table.specs.Bytes.{decode_table, table_form, OwedKept}
use Rattle.owing.specs.Owing.{says_owed}
use Rattle.children.specs.Children.{Family, Linked}
use Rattle.memo.specs.Memo.{Pass, Right, NoneFrom}
use Rattle.telling.specs.declared.Told.{Told}
use Rattle.telling.specs.declared.Told.TheVariants.{Refreshes, Renews}

-- The table t becomes U, in form and with its owed bytes as they were, and in the memo, which stays in its generation, nothing is
-- remembered at or above b.
pub record Moves (s t : List ℕ) (generation b : ℕ) (U : Table) (t' : List ℕ) (memo' : Pass) : Type 0 where
  pub table_is : decode_table t' ≡ U
  pub owed_kept : OwedKept t t'
  pub formed : table_form (sheet_of s) t' ≡ true
  pub generation_is : memo'.generation ≡ generation
  pub right : Right (sheet_of s) U memo'
  pub fresh : NoneFrom b memo'

-- What telling the children of item i is lent: an array of what is owed, and the child lists of the sheet, if the array says that i is
-- owed. If it does not, nobody is told, and the lists need not be built.
pub record Telling (S : Sheet) (family : Family) (bytes : List ℕ) (i : ℕ) : Type 0 where
  pub low : i < size S
  pub room : size S ≤ length bytes
  pub linked : says_owed bytes i ≡ true → Linked S family.lists.heads family.lists.links

-- item i is a figure of the sheet, and its record holds v
pub record Renewable (s t : List ℕ) (i : ℕ) (v : Value) : Type 0 where
  pub low : i < size (sheet_of s)
  pub figured : is_figure (item_at (sheet_of s) i) ≡ true
  pub mark : Mark
  pub holds : decode_table t i ≡ held v mark

-- what a stored child does when it is told, by its spread and its mark
abbrev pub told_by : Spread → Mark → Told
told_by defer unmarked = Refreshes
told_by defer refresh = Refreshes
told_by defer notice = Renews
told_by renew m = Renews
