-- The tests of what is lent, by which a call is admitted with the count of the sheet's items or refused: of the sheet and of
-- the lengths (1 to 8), which are all the tests of an opening, and of the index and the table (9 and 10). Assumes nothing.
use Rattle.std.specs.Prelude.{ℕ, zero, suc, ◌≡◌, ◌<◌, List, [], ◌∷◌, length, Result, Ok, Err, IfOk}
use Rattle.cause.specs.Cause.{number_of}
use Rattle.cause.specs.declared.Cause.{Cause}
use Rattle.cause.specs.declared.Fault.{Fault}
use Rattle.circuit.specs.Sheet.{Sheet, size}
use Rattle.circuit.specs.Call.{Call}
use Rattle.circuit.specs.Calls.{Test, test, first_cause, tests, effect}
use Rattle.layout.specs.Read as read
use Rattle.layout.specs.Read.{Placed, SheetRead, read_sheet}
use Rattle.layout.specs.Opened.{sheet_read, sheet_of, offsets_of, Located, levels_of}
use Rattle.field.specs.Bytes.{over}
use Rattle.sheet.specs.Check.{read_so_far}
use Rattle.item.specs.declared.Sheet as code
use Rattle.table.specs.Bytes.{decode_table}
use Rattle.office.specs.Office.{Given, results_lent, unless_refused, effect_on, lengths_off, index_wrong, table_wrong, keeping}

-- what the tests give: how many items the sheet has, or the number and the offset of the first cause
pub data Admitted : Type 0 where
  items : (n : ℕ) → Admitted
  refused : (number offset : ℕ) → Admitted

-- what the code gives for it
abbrev pub admitted_meaning : Result ℕ Fault → Admitted
admitted_meaning (Ok n) = items n
admitted_meaning (Err f) = refused (number_of f.cause) f.offset

-- n items, unless a cause holds
abbrev pub items_unless : ℕ → ℕ → Admitted
items_unless zero n = items n
items_unless (suc k) n = refused (suc k) 0

-- 1 to 8, by the lengths of index and table
abbrev pub measured_by : SheetRead → ℕ → ℕ → Admitted
measured_by (read.refused k at) a b = refused k at
measured_by (read.opens edition ps) a b = items_unless (first_cause (test 8 (lengths_off (length ps) a b) ∷ [])) (length ps)

unfoldable pub measured_of : List ℕ → ℕ → ℕ → Admitted
measured_of s a b = measured_by (read_sheet s) a b

-- 1 to 10
abbrev pub lent_tests : Sheet → List Placed → List ℕ → List ℕ → List Test
lent_tests S ps x t =
    test 8 (lengths_off (length ps) (length x) (length t)) ∷ test 9 (index_wrong ps x) ∷ test 10 (table_wrong S t) ∷ []

abbrev pub admitted_by : SheetRead → List ℕ → List ℕ → Admitted
admitted_by (read.refused k at) x t = refused k at
admitted_by (read.opens edition ps) x t = items_unless (first_cause (lent_tests (sheet_read edition ps) ps x t)) (length ps)

unfoldable pub admitted_of : List ℕ → List ℕ → List ℕ → Admitted
admitted_of s x t = admitted_by (read_sheet s) x t

-- the sheet of what is lent, with all its items, where no cause holds; the first that does
pub record AllAdmitted (s x t S : List ℕ) : Type 0 where
  pub sheet_is : S ≡ s
  pub admitted : admitted_of s x t ≡ items (size (sheet_of s))

abbrev pub Admits : List ℕ → List ℕ → List ℕ → Result code.Sheet Fault → Type 0
Admits s x t (Ok S) = AllAdmitted s x t S
Admits s x t (Err f) = admitted_of s x t ≡ refused (number_of f.cause) f.offset

-- a call on what was admitted: refused by its own tests only
abbrev pub call_lent : Sheet → List ℕ → List ℕ → Call → Given
call_lent S x t c =
    unless_refused (first_cause (tests S (decode_table t) c)) (results_lent c) (keeping x t) (effect_on S (keeping x t) (effect S (decode_table t) c))

-- what a test of an item gives where the item passes: its number, which is one of the sheet's
abbrev pub ItemOf : List ℕ → ℕ → Result ℕ Cause → Type 0
ItemOf s item r = IfOk r (λ i. (i ≡ item) × (i < size (sheet_of s)))

-- What the tests leave in the scratch array of offsets: those of the items that were read, over what was there. Of a sheet that opens they
-- are those of all its items.
pub record Found (s offsets offsets' : List ℕ) : Type 0 where
  pub offsets_are : offsets' ≡ over (offsets_of (read_so_far s)) offsets
  pub located : Located s offsets'

-- and the tests of a sheet in that of levels
pub record Scanned (s offsets levels offsets' levels' : List ℕ) : Type 0 where
  pub found : Found s offsets offsets'
  pub levels_are : levels' ≡ over (levels_of (read_so_far s)) levels
