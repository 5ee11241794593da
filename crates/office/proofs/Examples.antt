-- For each number from 1 to 14, and for 17 and 18, an input that is given it, and calls that are accepted, also on tables that the engine has not
-- written. By computation. Assumes nothing.
use Prim.Native.Nat.{ℕ, zero, suc, ◌+◌, ◌-◌}
use native.Mathlib.Omega.{arith}
use mathlib.Core.Bool.{Bool, true, ◌&&◌}
use lib.Dec.{ltb}
use borrow.Author.Tests.{ltb-true}
use Rattle.circuit.proofs.Examples.{machine}
use Rattle.circuit.proofs.RuleLaws.{and_left, and_right}
use Rattle.field.specs.Field.{Bytes}
use mathlib.Core.Path.{◌≡◌, refl, ap}
use mathlib.Core.List.{List, [], ◌∷◌, ◌++◌, map}
use mathlib.Core.Option.{none}
use lib.IntN.{ℤ, pos, negsuc}
use lib.ListN.{replicate}
use Rattle.word.specs.Word.{le_at, le_bytes, bytes64}
use Rattle.circuit.specs.Value.{limit, in_range, parts_of}
use Rattle.circuit.specs.Call.{Call, post, keep, drop, step, ask, board, close, swap, bare, full}
use Rattle.circuit.specs.Board.{listed, lists_off}
use Rattle.circuit.specs.Swap.{no_swap, results_beyond, sum_below}
use Rattle.layout.specs.Opened.{sheet_of}
use Rattle.office.specs.SwapWords.{sum_in}
use Rattle.circuit.specs.Calls.{first_cause, tests, some_no_item, posted_value, effect}
use Rattle.circuit.specs.Sheet.{Sheet, member}
use Rattle.circuit.specs.Table.{Table}
use Rattle.layout.specs.Layout.{spread_meant, machine_item}
use Rattle.layout.specs.Read.{refused, read_sheet}
use Rattle.layout.specs.Write.{concat, write_sheet}
use Rattle.layout.specs.Index.{index_bytes}
use Rattle.layout.proofs.Examples.{reading, writing, example_bytes, head, entry_a, end, figure_of, chain, gives_1, gives_2, gives_3, gives_4, gives_5, gives_6, gives_7}
use Rattle.table.specs.Rows.{rows_below, all_below}
use Rattle.table.specs.Record.{encode_cell, decode_cell, codes_form, number_form, record_form}
use Rattle.table.specs.Bytes.{encode_table, table_form, owed_true}
use Rattle.circuit.specs.Owed.{any_below, owed_for, owed}
use Rattle.item.specs.Offsets.{same_bytes}
use Rattle.office.specs.Office.{Office, keeping, Given, results_of, refusal, accepted, call_read, call_on, open_read, open_on, run_on}
use Rattle.office.specs.Demand1Words.{Invocation, opening, calling, serve, results_lent_to, FitsArguments, Gets}
use Rattle.office.specs.Demand2Words.{Answer, answer_of}

-- a sheet with a fault: each request gives the fault's number and offset
pub sheet_refused : (r : Invocation) (s : List ℕ) (kept : Office) (k at : ℕ) → read_sheet s ≡ refused k at → serve r s kept ≡ refusal k at (results_lent_to r) kept
unfolding open_on call_on
sheet_refused (opening o) s kept k at e = ap (λ q. open_read o q kept) e
sheet_refused (calling c) s kept k at e = ap (λ q. call_read q kept c) e

-- the numbers 1 to 7, by sheets with such a fault
pub sheets_refused : (r : Invocation) (kept : Office)
    → ((serve r [] kept).number ≡ 1)
    × ((serve r entry_a kept).number ≡ 2)
    × ((serve r (1 ∷ 2 ∷ 0 ∷ 1 ∷ 0 ∷ []) kept).number ≡ 3)
    × ((serve r (head 0 ++ end) kept).number ≡ 4)
    × ((serve r (head 2 ++ entry_a ++ figure_of 2 0 0 0) kept).number ≡ 5)
    × ((serve r (head 2 ++ entry_a ++ figure_of 1 0 0 1 ++ end) kept).number ≡ 6)
    × ((serve r (write_sheet (chain 65)) kept).number ≡ 7)
sheets_refused r kept = (
  ap (λ g. g.number) (sheet_refused r _ kept 1 0 gives_1.0),
  ap (λ g. g.number) (sheet_refused r _ kept 2 0 gives_2.0),
  ap (λ g. g.number) (sheet_refused r _ kept 3 0 gives_3.0),
  ap (λ g. g.number) (sheet_refused r _ kept 4 0 gives_4.1),
  ap (λ g. g.number) (sheet_refused r _ kept 5 11 gives_5.1),
  ap (λ g. g.number) (sheet_refused r _ kept 6 11 gives_6),
  ap (λ g. g.number) (sheet_refused r _ kept 7 651 gives_7),
)

-- The example sheet's index, and the tables that its openings write.
unfoldable pub example_index : List ℕ
example_index = 7 ∷ 0 ∷ 0 ∷ 0 ∷ 11 ∷ 0 ∷ 0 ∷ 0 ∷ 15 ∷ 0 ∷ 0 ∷ 0 ∷ 19 ∷ 0 ∷ 0 ∷ 0 ∷ 31 ∷ 0 ∷ 0 ∷ 0 ∷ []

abbrev pub zeros8 : List ℕ
zeros8 = 0 ∷ 0 ∷ 0 ∷ 0 ∷ 0 ∷ 0 ∷ 0 ∷ 0 ∷ []

abbrev pub null_record : List ℕ
null_record = 1 ∷ 0 ∷ zeros8

abbrev pub unk_record : List ℕ
unk_record = 0 ∷ 0 ∷ zeros8

-- a record with its owed byte
abbrev pub unowed : List ℕ → List ℕ
unowed r = r ++ 0 ∷ []

abbrev pub owing : List ℕ → List ℕ
owing r = r ++ 1 ∷ []

unfoldable pub bare_table : List ℕ
bare_table = unowed null_record ++ unowed null_record ++ unowed null_record ++ unowed unk_record ++ unowed unk_record

-- every item but the last has a child
unfoldable pub full_table : List ℕ
full_table = owing null_record ++ owing null_record ++ owing null_record ++ owing null_record ++ unowed null_record

-- to unfold these is to unfold all that a table's form and encoding compute with, and all that the calls do
unfoldable pub tabling : Sheet → Table → List ℕ
unfolding table_form owed_true owed owed_for any_below member encode_table rows_below all_below encode_cell decode_cell codes_form number_form record_form le_at le_bytes limit in_range
tabling S T = encode_table S T

unfoldable pub calls : List ℕ → Office → Call → Given
unfolding call_on open_on reading tabling concat same_bytes index_bytes tests first_cause listed lists_off some_no_item results_of posted_value parts_of no_swap results_beyond effect spread_meant machine_item
calls s kept c = call_on s kept c

-- the openings write this index and these tables
pub example_opens : (open_on bare example_bytes (keeping example_index full_table) ≡ accepted none [] (keeping example_index bare_table))
    × (open_on full example_bytes (keeping example_index bare_table) ≡ accepted none [] (keeping example_index full_table))
unfolding calls example_bytes example_index bare_table full_table
example_opens = (refl, refl)

-- Tables with one record that breaks its form, or its range.
abbrev at_limit : List ℕ
at_limit = bytes64 (pos limit)

abbrev at_lowest : List ℕ
at_lowest = bytes64 (negsuc (limit - 1))

abbrev above_limit : List ℕ
above_limit = bytes64 (pos (limit + 1))

abbrev below_limit : List ℕ
below_limit = bytes64 (negsuc limit)

abbrev first_is : List ℕ → List ℕ
first_is r = unowed r ++ unowed null_record ++ unowed null_record ++ unowed unk_record ++ unowed unk_record

-- the last item UNK, or stored, so that all the others are owed
abbrev last_is : List ℕ → List ℕ
last_is r = unowed null_record ++ unowed null_record ++ unowed null_record ++ unowed unk_record ++ unowed r

abbrev last_stored : List ℕ → List ℕ
last_stored r = owing null_record ++ owing null_record ++ owing null_record ++ owing unk_record ++ unowed r

-- the bare table with the owed byte o of the first item, and of the last
abbrev first_owes : ℕ → List ℕ
first_owes o = (null_record ++ o ∷ []) ++ unowed null_record ++ unowed null_record ++ unowed unk_record ++ unowed unk_record

abbrev last_owes : ℕ → List ℕ
last_owes o = unowed null_record ++ unowed null_record ++ unowed null_record ++ unowed unk_record ++ (unk_record ++ o ∷ [])

-- the last item stored, where the owed byte of its UNK parent is o; and where that is 1 but the first item's is o
abbrev parent_owes : ℕ → List ℕ
parent_owes o = owing null_record ++ owing null_record ++ owing null_record ++ (unk_record ++ o ∷ []) ++ unowed null_record

abbrev through_owes : ℕ → List ℕ
through_owes o = (null_record ++ o ∷ []) ++ owing null_record ++ owing null_record ++ owing unk_record ++ unowed null_record

-- ten bytes a record, as before 02's job 5
abbrev ten_wide : List ℕ
ten_wide = null_record ++ null_record ++ null_record ++ unk_record ++ unk_record

-- a request on an index and a table, with the example sheet, and the number given
pub record Lent : Type 0 where
  pub request : Invocation
  pub kept : Office
  pub number : ℕ

abbrev lend : Invocation → List ℕ → List ℕ → ℕ → Lent
lend r x t k = record { request = r; kept = keeping x t; number = k }

abbrev lend_table : Call → List ℕ → ℕ → Lent
lend_table c t k = lend (calling c) example_index t k

-- For each number from 8 to 14, for 17, and for 0. Where several causes hold, the number of the first test.
unfoldable pub examples : List Lent
examples =
    lend (opening bare) [] [] 8
    ∷ lend (opening full) example_index unk_record 8
    ∷ lend (opening full) (0 ∷ example_index) bare_table 8
    ∷ lend (calling (ask 9)) unk_record bare_table 8
    ∷ lend (opening bare) example_index ten_wide 8
    ∷ lend_table (ask 0) ten_wide 8
    ∷ lend (calling (ask 9)) (31 ∷ 0 ∷ 0 ∷ 0 ∷ 11 ∷ 0 ∷ 0 ∷ 0 ∷ 15 ∷ 0 ∷ 0 ∷ 0 ∷ 19 ∷ 0 ∷ 0 ∷ 0 ∷ 31 ∷ 0 ∷ 0 ∷ 0 ∷ []) (first_is unk_record) 9
    ∷ lend (calling (step 0)) (7 ∷ 0 ∷ 0 ∷ 0 ∷ 11 ∷ 0 ∷ 0 ∷ 0 ∷ 15 ∷ 0 ∷ 0 ∷ 0 ∷ 19 ∷ 0 ∷ 0 ∷ 0 ∷ 31 ∷ 0 ∷ 0 ∷ 1 ∷ []) bare_table 9
    ∷ lend_table (ask 9) (first_is unk_record) 10
    ∷ lend_table (ask 9) (first_is (2 ∷ 0 ∷ zeros8)) 10
    ∷ lend_table (ask 9) (first_is (1 ∷ 1 ∷ zeros8)) 10
    ∷ lend_table (ask 9) (last_is (0 ∷ 1 ∷ zeros8)) 10
    ∷ lend_table (ask 9) (last_stored (4 ∷ 0 ∷ zeros8)) 10
    ∷ lend_table (ask 9) (last_is (0 ∷ 3 ∷ zeros8)) 10
    ∷ lend_table (ask 9) (last_stored (1 ∷ 0 ∷ at_limit)) 10
    ∷ lend_table (ask 9) (last_stored (3 ∷ 0 ∷ above_limit)) 10
    ∷ lend_table (ask 9) (last_stored (3 ∷ 0 ∷ below_limit)) 10
    ∷ lend_table (ask 9) (first_owes 1) 10
    ∷ lend_table (ask 9) (first_owes 2) 10
    ∷ lend_table (ask 9) (last_owes 1) 10
    ∷ lend_table (ask 9) (last_owes 255) 10
    ∷ lend_table (ask 9) (parent_owes 0) 10
    ∷ lend_table (ask 9) (through_owes 0) 10
    ∷ lend_table close (through_owes 2) 10
    ∷ lend_table (ask 4) (through_owes 1) 0
    ∷ lend_table (ask 4) (parent_owes 1) 0
    ∷ lend_table (ask 5) bare_table 11
    ∷ lend_table (keep 5) bare_table 11
    ∷ lend_table (drop 5) bare_table 11
    ∷ lend_table (step 5) bare_table 11
    ∷ lend_table (post 5 2 (pos 0)) bare_table 11
    ∷ lend_table (post 3 2 (pos 0)) bare_table 12
    ∷ lend_table (keep 2) bare_table 12
    ∷ lend_table (drop 2) bare_table 12
    ∷ lend_table (post 2 0 (pos 0)) bare_table 13
    ∷ lend_table (post 2 2 (pos 0)) bare_table 13
    ∷ lend_table (post 2 1 (pos 1)) bare_table 13
    ∷ lend_table (post 2 3 (pos (limit + 1))) bare_table 13
    ∷ lend_table (post 2 3 (negsuc limit)) bare_table 13
    ∷ lend_table (step 0) bare_table 14
    ∷ lend_table (step 4) (last_stored (2 ∷ 0 ∷ zeros8)) 14
    ∷ lend_table (board (0 ∷ []) []) bare_table 17
    ∷ lend_table (board [] (0 ∷ [])) bare_table 17
    ∷ lend_table (board (9 ∷ 0 ∷ []) zeros8) bare_table 17
    ∷ lend_table (board (9 ∷ 0 ∷ []) (0 ∷ 0 ∷ zeros8)) bare_table 17
    ∷ lend_table (board (replicate 130 9) (replicate 585 0)) bare_table 17
    ∷ lend_table (board (0 ∷ []) []) (first_is unk_record) 10
    ∷ lend_table (board (5 ∷ 0 ∷ []) (0 ∷ zeros8)) bare_table 11
    ∷ lend_table (board (4 ∷ 0 ∷ 0 ∷ 1 ∷ []) (0 ∷ 0 ∷ zeros8 ++ zeros8)) bare_table 11
    ∷ lend_table (board (replicate 128 9) (replicate 576 0)) bare_table 11
    ∷ lend_table (board (replicate 128 0) (replicate 576 0)) bare_table 0
    ∷ lend_table (board [] []) bare_table 0
    ∷ lend (calling close) unk_record (first_is unk_record) 8
    ∷ lend_table close (last_is (0 ∷ 1 ∷ zeros8)) 10
    ∷ lend_table close (last_stored (3 ∷ 1 ∷ at_limit)) 0
    ∷ lend_table (swap 0 0 (pos 0)) (first_is unk_record) 10
    ∷ lend_table (swap 5 3 (pos 0)) bare_table 11
    ∷ lend_table (swap 3 5 (pos 0)) bare_table 11
    ∷ lend_table (swap 5 5 (pos 1)) bare_table 11
    ∷ lend_table (swap 3 0 (pos 0)) bare_table 12
    ∷ lend_table (swap 0 4 (pos 0)) bare_table 12
    ∷ lend_table (swap 4 4 (pos 1)) bare_table 12
    ∷ lend_table (swap 0 0 (pos (limit + 1))) bare_table 18
    ∷ lend_table (swap 0 1 (pos 0)) (first_is (3 ∷ 0 ∷ at_lowest)) 18
    ∷ lend_table (swap 0 1 (negsuc 0)) bare_table 18
    ∷ lend_table (swap 0 1 (negsuc 9_223_372_036_854_775_807)) bare_table 18
    ∷ lend_table (swap 0 1 (pos (limit + 1))) bare_table 13
    ∷ lend_table (swap 0 1 (pos 9_223_372_036_854_775_807)) (first_is (3 ∷ 0 ∷ at_lowest)) 13
    ∷ lend_table (swap 0 1 (pos 1)) (first_is (3 ∷ 0 ∷ at_lowest)) 13
    ∷ lend_table (swap 1 0 (pos 1)) (first_is (3 ∷ 0 ∷ at_limit)) 13
    ∷ lend_table (swap 1 0 (pos limit)) (first_is (3 ∷ 0 ∷ at_lowest)) 0
    ∷ lend_table (swap 0 1 (pos limit)) (first_is (3 ∷ 0 ∷ at_limit)) 0
    ∷ lend_table (swap 0 1 (pos limit)) bare_table 0
    ∷ lend (opening bare) example_index bare_table 0
    ∷ lend_table (post 2 1 (pos 0)) bare_table 0
    ∷ lend_table (post 2 3 (pos limit)) bare_table 0
    ∷ lend_table (post 2 3 (negsuc (limit - 1))) bare_table 0
    ∷ lend_table (keep 3) bare_table 0
    ∷ lend_table (drop 4) (last_stored (3 ∷ 1 ∷ at_limit)) 0
    ∷ lend_table (drop 4) (last_stored (3 ∷ 1 ∷ at_lowest)) 0
    ∷ lend_table (step 4) (last_stored (3 ∷ 1 ∷ at_limit)) 0
    ∷ lend_table (ask 4) bare_table 0
    ∷ []

pub examples_given : map (λ e. (serve e.request example_bytes e.kept).number) examples ≡ map (λ e. e.number) examples
unfolding calls examples example_bytes example_index bare_table
examples_given = refl

-- bytes, by a test that is computed
unfoldable pub all_bytes : List ℕ → Bool
all_bytes [] = true
all_bytes (b ∷ bs) = ltb b 256 && all_bytes bs

pub bytes_by : (s : List ℕ) → all_bytes s ≡ true → Bytes s
unfolding all_bytes
bytes_by [] e i = omega arith
bytes_by (b ∷ bs) e zero = ltb-true b 256 (and_left (ltb b 256) (all_bytes bs) e)
bytes_by (b ∷ bs) e (suc i) = bytes_by bs (and_right (ltb b 256) (all_bytes bs) e) i

-- asks for item 0 that are given a number, on a sheet without index and table
refused_ask : (s : List ℕ) (k : ℕ) → all_bytes s ≡ true → (serve (calling (ask 0)) s (keeping [] [])).number ≡ k → Gets k
refused_ask s k b e =
    record {
      request = calling (ask 0);
      sheet = s;
      office = keeping [] [];
      lendable = record { sheet = bytes_by s b; index = λ i. omega arith; table = λ i. omega arith; arguments = omega arith };
      given = e;
    }

-- calls on the example sheet
called : (c : Call) (x t : List ℕ) (k : ℕ) → FitsArguments (calling c) → all_bytes example_bytes ≡ true → all_bytes x ≡ true → all_bytes t ≡ true
    → (serve (calling c) example_bytes (keeping x t)).number ≡ k → Gets k
called c x t k fits a b d e =
    record {
      request = calling c;
      sheet = example_bytes;
      office = keeping x t;
      lendable = record { sheet = bytes_by example_bytes a; index = bytes_by x b; table = bytes_by t d; arguments = fits };
      given = e;
    }

-- Each of the numbers 1 to 14 is given, and 17 and 18.
pub each_given : Gets 1 × Gets 2 × Gets 3 × Gets 4 × Gets 5 × Gets 6 × Gets 7 × Gets 8 × Gets 9 × Gets 10 × Gets 11 × Gets 12 × Gets 13 × Gets 14 × Gets 17 × Gets 18
unfolding calls writing all_bytes example_bytes example_index bare_table
each_given =
    let sheets = sheets_refused (calling (ask 0)) (keeping [] []) in (
      refused_ask [] 1 refl sheets.0,
      refused_ask entry_a 2 refl sheets.1,
      refused_ask (1 ∷ 2 ∷ 0 ∷ 1 ∷ 0 ∷ []) 3 refl sheets.2,
      refused_ask (head 0 ++ end) 4 refl sheets.3,
      refused_ask (head 2 ++ entry_a ++ figure_of 2 0 0 0) 5 refl sheets.4,
      refused_ask (head 2 ++ entry_a ++ figure_of 1 0 0 1 ++ end) 6 refl sheets.5,
      refused_ask (write_sheet (chain 65)) 7 refl sheets.6,
      called (ask 0) example_index unk_record 8 (omega arith) refl refl refl refl,
      called (ask 0) (zeros8 ++ zeros8 ++ (0 ∷ 0 ∷ 0 ∷ 0 ∷ [])) bare_table 9 (omega arith) refl refl refl refl,
      called (ask 0) example_index (first_is unk_record) 10 (omega arith) refl refl refl refl,
      called (ask 9) example_index bare_table 11 (omega arith) refl refl refl refl,
      called (drop 0) example_index bare_table 12 (omega arith) refl refl refl refl,
      called (post 0 2 (pos 0)) example_index bare_table 13 (omega arith, omega arith, record { sfits = omega arith }) refl refl refl refl,
      called (step 0) example_index bare_table 14 (omega arith) refl refl refl refl,
      called (board (9 ∷ []) []) example_index bare_table 17 (bytes_by (9 ∷ []) refl, bytes_by [] refl) refl refl refl refl,
      called (swap 0 0 (pos 1)) example_index bare_table 18 (omega arith, omega arith, record { sfits = omega arith }) refl refl refl refl,
    )

-- the answers of a list of calls
unfoldable pub answers : List ℕ → Office → List Call → List Answer
answers s kept [] = []
answers s kept (c ∷ cs) = let g : Given = call_on s kept c in answer_of g ∷ answers s g.after cs

abbrev pub answer : ℕ → ℕ → ℤ → Answer
answer number kind value = record { number = number; offset = 0; kind = kind; value = value }

-- the day of the example
pub example_day_lem : answers example_bytes (keeping example_index bare_table) (post 0 3 (pos 1000) ∷ post 1 3 (pos 300) ∷ ask 4 ∷ post 2 3 (negsuc 199) ∷ ask 4 ∷ drop 0 ∷ ask 9 ∷ [])
    ≡ answer 0 0 (pos 0) ∷ answer 0 0 (pos 0) ∷ answer 0 3 (pos 700) ∷ answer 0 0 (pos 0) ∷ answer 0 3 (pos 500) ∷ answer 12 0 (pos 0) ∷ answer 11 0 (pos 0) ∷ []
unfolding calls machine answers example_bytes example_index bare_table
example_day_lem = refl

-- a board of B, A and B again, after its two posts: kind 3 each, 700, 1000 and 700
pub example_board : (call_on example_bytes (run_on example_bytes (keeping example_index bare_table) (post 0 3 (pos 1000) ∷ post 1 3 (pos 300) ∷ []))
    (board (4 ∷ 0 ∷ 0 ∷ 0 ∷ 4 ∷ 0 ∷ []) (replicate 27 9))).results
    ≡ (3 ∷ 188 ∷ 2 ∷ 0 ∷ 0 ∷ 0 ∷ 0 ∷ 0 ∷ 0 ∷ 3 ∷ 232 ∷ 3 ∷ 0 ∷ 0 ∷ 0 ∷ 0 ∷ 0 ∷ 0 ∷ 3 ∷ 188 ∷ 2 ∷ 0 ∷ 0 ∷ 0 ∷ 0 ∷ 0 ∷ 0 ∷ [])
unfolding calls machine run_on example_bytes example_index bare_table
example_board = refl

-- A season-close run on a table in form that the engine has not written: an entry with a notice, a figure whose number is stale and that
-- is to be refreshed, and a figure with a notice and nothing stored. Afterwards A is 1000, L is 300, S is NULL, T is 1000 and B is 700.
pub example_close : call_on example_bytes
    (keeping example_index
    (owing (3 ∷ 2 ∷ bytes64 (pos 1000)) ++ unowed (3 ∷ 0 ∷ bytes64 (pos 300)) ++ owing null_record ++ unowed (3 ∷ 1 ∷ bytes64 (pos 9)) ++ unowed (0 ∷ 2 ∷ zeros8))) close
    ≡ accepted none [] (keeping example_index
    (owing (3 ∷ 0 ∷ bytes64 (pos 1000)) ++ owing (3 ∷ 0 ∷ bytes64 (pos 300)) ++ owing null_record ++ owing (3 ∷ 0 ∷ bytes64 (pos 1000)) ++ unowed (3 ∷ 0 ∷ bytes64 (pos 700))))
unfolding calls machine example_bytes example_index
example_close = refl

-- A swap of 40 from A, which holds 1000, to L, which is NULL, and back again: A and L hold what they held, L's NULL now 0, both with notice.
pub example_swap : run_on example_bytes (keeping example_index bare_table) (post 0 3 (pos 1000) ∷ swap 0 1 (pos 40) ∷ [])
    ≡ keeping example_index
    (unowed (3 ∷ 2 ∷ bytes64 (pos 960)) ++ unowed (3 ∷ 2 ∷ bytes64 (pos 40)) ++ unowed null_record ++ unowed unk_record ++ unowed unk_record)
unfolding calls machine run_on example_bytes example_index bare_table
example_swap = refl

pub example_swap_back : run_on example_bytes (keeping example_index bare_table) (post 0 3 (pos 1000) ∷ swap 0 1 (pos 40) ∷ swap 1 0 (pos 40) ∷ [])
    ≡ keeping example_index
    (unowed (3 ∷ 2 ∷ bytes64 (pos 1000)) ++ unowed (3 ∷ 2 ∷ bytes64 (pos 0)) ++ unowed null_record ++ unowed unk_record ++ unowed unk_record)
unfolding calls machine run_on example_bytes example_index bare_table
example_swap_back = refl

-- The sum of the entries: of 1000, -200 and NULL it is 800, whatever the figures hold, and a swap leaves it.
pub example_sum : (sum_in example_bytes (run_on example_bytes (keeping example_index bare_table) (post 0 3 (pos 1000) ∷ post 2 3 (negsuc 199) ∷ ask 4 ∷ [])).table ≡ pos 800)
    × (sum_in example_bytes (run_on example_bytes (keeping example_index bare_table) (post 0 3 (pos 1000) ∷ post 2 3 (negsuc 199) ∷ ask 4 ∷ swap 0 1 (pos 40) ∷ [])).table ≡ pos 800)
unfolding calls machine run_on example_bytes example_index bare_table sheet_of sum_below
example_sum = (refl, refl)

-- A chain of sums: entry A, figures B, C and D of the item before each; B and C renew, D defers.
unfoldable pub chain_bytes : List ℕ
chain_bytes =
    0x01 ∷ 0x04 ∷ 0x00 ∷ 0x01 ∷ 0x00 ∷ 0x04 ∷ 0x00
    ∷ 0x02 ∷ 0x01 ∷ 0x00 ∷ 0x41
    ∷ 0x03 ∷ 0x07 ∷ 0x00 ∷ 0x01 ∷ 0x01 ∷ 0x01 ∷ 0x01 ∷ 0x00 ∷ 0x00 ∷ 0x42
    ∷ 0x03 ∷ 0x07 ∷ 0x00 ∷ 0x01 ∷ 0x01 ∷ 0x01 ∷ 0x01 ∷ 0x01 ∷ 0x00 ∷ 0x43
    ∷ 0x03 ∷ 0x07 ∷ 0x00 ∷ 0x01 ∷ 0x01 ∷ 0x00 ∷ 0x01 ∷ 0x02 ∷ 0x00 ∷ 0x44
    ∷ 0x04 ∷ 0x00 ∷ 0x00 ∷ []

-- a table for it that others wrote: C and D hold what no parent gave them
unfoldable pub foreign : Office
foreign =
    keeping (7 ∷ 0 ∷ 0 ∷ 0 ∷ 11 ∷ 0 ∷ 0 ∷ 0 ∷ 21 ∷ 0 ∷ 0 ∷ 0 ∷ 31 ∷ 0 ∷ 0 ∷ 0 ∷ [])
    (owing (3 ∷ 2 ∷ bytes64 (pos 1)) ++ owing (1 ∷ 2 ∷ zeros8) ++ owing (3 ∷ 0 ∷ bytes64 (pos 1)) ++ unowed (3 ∷ 2 ∷ bytes64 (pos 2)))

-- It is accepted, and there the order of steps can be read: D is 2, and 1 after a step of B.
pub foreign_order : (answers chain_bytes foreign (ask 3 ∷ []) ≡ answer 0 3 (pos 2) ∷ [])
    × (answers chain_bytes foreign (step 1 ∷ ask 3 ∷ []) ≡ answer 0 0 (pos 0) ∷ answer 0 3 (pos 1) ∷ [])
unfolding calls machine answers chain_bytes foreign
foreign_order = (refl, refl)
