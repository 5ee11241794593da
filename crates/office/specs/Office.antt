-- The openings and the calls on lent bytes, with all their refusals: what each gives, and what index, table and a board's results
-- hold afterwards. The exported functions and the day program cite these definitions. Assumes nothing.
use Rattle.std.specs.Prelude.{ℕ, zero, suc, ◌*◌, Bool, not, ◌&&◌, List, [], ◌∷◌, ◌++◌, eqb, ℤ, pos, length}
use Rattle.std.proofs.Math.Option.{Option, none, some}
use Rattle.circuit.specs.Value.{Value, kind_of, number_of}
use Rattle.circuit.specs.Sheet.{Sheet}
use Rattle.circuit.specs.Call.{Call, post, keep, drop, step, ask, board, close, swap, Opening}
use Rattle.circuit.specs.Calls.{Test, test, first_cause, tests, Outcome, effect}
use Rattle.circuit.specs.Table.{opened}
use Rattle.layout.specs.Read.{Placed, SheetRead, opens, refused, read_sheet}
use Rattle.layout.specs.Opened.{sheet_read}
use Rattle.layout.specs.Index.{index_width, index_bytes}
use Rattle.item.specs.Offsets.{same_bytes}
use Rattle.word.specs.Word.{bytes64}
use Rattle.table.specs.Record.{width}
use Rattle.table.specs.Bytes.{encode_table, decode_table, table_form, owed_true}

-- What an office keeps from call to call: the index and the table.
pub record Office : Type 0 where
  pub index : List ℕ
  pub table : List ℕ

abbrev pub keeping : List ℕ → List ℕ → Office
keeping x t = record { index = x; table = t }

-- the list of results that a call is lent: only a board is lent one
abbrev pub results_lent : Call → List ℕ
results_lent (post i kind z) = []
results_lent (keep i) = []
results_lent (drop i) = []
results_lent (step i) = []
results_lent (ask i) = []
results_lent (board items results) = results
results_lent close = []
results_lent (swap giver taker quantity) = []

-- A value in a list of results: its kind (1 byte) and its number (8 bytes), as in the table.
abbrev pub result_of : ℕ → ℤ → List ℕ
result_of kind z = kind ∷ bytes64 z

unfoldable pub results_of : List Value → List ℕ
results_of [] = []
results_of (v ∷ vs) = result_of (kind_of v) (number_of v) ++ results_of vs

-- What a call gives: its number and offset, the kind and the number of an accepted ask's value (0 and 0 otherwise), what the list
-- of results holds afterwards, and what the office keeps.
pub record Given : Type 0 where
  pub number : ℕ
  pub offset : ℕ
  pub kind : ℕ
  pub value : ℤ
  pub results : List ℕ
  pub after : Office

-- a refusal leaves everything lent as it was: the results, and what the office keeps
abbrev pub refusal : ℕ → ℕ → List ℕ → Office → Given
refusal k at results o = record { number = k; offset = at; kind = 0; value = pos 0; results = results; after = o }

abbrev pub kind_read : Option Value → ℕ
kind_read none = 0
kind_read (some v) = kind_of v

abbrev pub number_read : Option Value → ℤ
number_read none = pos 0
number_read (some v) = number_of v

-- an accepted call: number 0 and offset 0, with the value of an ask, or those of a board
abbrev pub accepted : Option Value → List Value → Office → Given
accepted v vs o = record { number = 0; offset = 0; kind = kind_read v; value = number_read v; results = results_of vs; after = o }

-- 8: index not 4n bytes, or table not 11n
abbrev pub lengths_off : ℕ → ℕ → ℕ → Bool
lengths_off n index table = not (eqb index (index_width * n) && eqb table (width * n))

abbrev pub lengths_wrong : List Placed → List ℕ → List ℕ → Bool
lengths_wrong ps x t = lengths_off (length ps) (length x) (length t)

-- 9: index not as opening writes it
abbrev pub index_wrong : List Placed → List ℕ → Bool
index_wrong ps x = not (same_bytes x (index_bytes ps))

-- 10: table breaks its form, or a number its range, or an owed byte is false
abbrev pub table_wrong : Sheet → List ℕ → Bool
table_wrong S t = not (table_form S t && owed_true S t)

-- the tests of an opening, after the sheet has been read
abbrev pub opening_tests : List Placed → Office → List Test
opening_tests ps o = test 8 (lengths_wrong ps o.index o.table) ∷ []

-- the tests of a call, after the sheet has been read: those of what is lent, then its own
abbrev pub call_tests : Sheet → List Placed → Office → Call → List Test
call_tests S ps o c =
    test 8 (lengths_wrong ps o.index o.table)
    ∷ test 9 (index_wrong ps o.index)
    ∷ test 10 (table_wrong S o.table)
    ∷ tests S (decode_table o.table) c

-- refused by the first cause, else what is given there
abbrev pub unless_refused : ℕ → List ℕ → Office → Given → Given
unless_refused zero results o given = given
unless_refused (suc k) results o given = refusal (suc k) 0 results o

-- the call on the decoded table: the index stays, and its table is encoded
abbrev pub effect_on : Sheet → Office → Outcome → Given
effect_on S o e = accepted e.reading e.shown (keeping o.index (encode_table S e.table))

abbrev pub call_read : SheetRead → Office → Call → Given
call_read (refused k at) o c = refusal k at (results_lent c) o
call_read (opens edition ps) o c =
    unless_refused (first_cause (call_tests (sheet_read edition ps) ps o c)) (results_lent c) o
    (effect_on (sheet_read edition ps) o (effect (sheet_read edition ps) (decode_table o.table) c))

-- a call on a sheet s, at an office that keeps o
unfoldable pub call_on : List ℕ → Office → Call → Given
call_on s o c = call_read (read_sheet s) o c

-- an opening, bare or full: the index and the table of the sheet
abbrev pub open_read : Opening → SheetRead → Office → Given
open_read how (refused k at) o = refusal k at [] o
open_read how (opens edition ps) o =
    unless_refused (first_cause (opening_tests ps o)) [] o
    (accepted none [] (keeping (index_bytes ps) (encode_table (sheet_read edition ps) (opened how (sheet_read edition ps)))))

unfoldable pub open_on : Opening → List ℕ → Office → Given
open_on how s o = open_read how (read_sheet s) o

-- what an office keeps after a list of calls on its sheet: each call gets what the last one left
unfoldable pub run_on : List ℕ → Office → List Call → Office
run_on s o [] = o
run_on s o (c ∷ cs) = run_on s (call_on s o c).after cs
