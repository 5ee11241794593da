-- The three demands of document 01, with 02's board, season-close run, owed bytes, choice and swap, a record for each, in its order; and a
-- record each of 02's job 7, that catching up always finishes, of its job 8, swaps as one act, of its job 9, that an edition more changes no
-- reading, and of its job 10, that forget is retired. They are demands on `open_on` and `call_on` (Office), which the contracts of the exported
-- functions cite: a function gives and leaves exactly what these say, for all lent bytes. That every call ends and touches only what it was
-- lent is proved of each function by the language. Assumes nothing.
use Rattle.std.specs.Prelude.{ℕ, ◌*◌, ◌≤◌, ◌<◌, ◌≡◌, true, List, ◌↔◌, ℤ, pos, length}
use Rattle.circuit.specs.Value.{Value, limit, kind_of, number_of, well_formed}
use Rattle.circuit.specs.Sheet.{size}
use Rattle.circuit.specs.Equations.{Equations}
use Rattle.circuit.specs.Call.{Call, drop, board, close, swap, Opening, bare}
use Rattle.circuit.specs.Calls.{drops}
use Rattle.circuit.specs.Table.{Table}
use Rattle.circuit.specs.Words.{Coherent}
use Rattle.circuit.specs.Fresh.{blank}
use Rattle.field.specs.Field.{Bytes}
use Rattle.layout.specs.Layout.{item_limit, machine_sheet}
use Rattle.layout.specs.Opened.{sheet_of}
use Rattle.layout.specs.Causes.{Place, item, edition_of, item_count, InSheet, Before, offset_of, CauseAt, Sound, Faultless}
use Rattle.layout.specs.Spreads.{holds_forget, NoForget, FirstForget, DifferInSpreads, without_forget, Zeroes}
use Rattle.table.specs.Bytes.{decode_table}
use Rattle.layout.specs.Edition.{with_edition}
use Rattle.office.specs.Office.{Office, result_of, call_on, open_on, run_on}
use Rattle.office.specs.Demand1Words.{Invocation, serve, results_lent_to, causes_of, First, ByNumber, Lowest, Refused, NoCause, Gets}
use Rattle.office.specs.Demand1Words.{former_width, AcceptedUnder, AcceptedLent, BoardRefuses, CloseRefuses, SwapRefuses, SheetWords}
use Rattle.office.specs.Demand2Words.{FollowsLayout, Writes, NoneStored, OnlySolution, entries_in, Gives, NoMarkStands, ListWords, ResultWords, CallsLeave}
use Rattle.office.specs.FinishWords.{StepsEnd, QuietRight, AnyOrder}
use Rattle.office.specs.SwapWords.{Swapping, swaps_of, sum_in, SwapFollows, CountsAsPosts}
use Rattle.office.specs.EditionWords.{Reissuable, SameAcross, AsksRight}
use Rattle.office.specs.Demand3Words.{postings_on, ask_after, fresh_entries, fresh_from, SameAnswers, Retains, RetainsPost, CountsAsAsks, ClosesRight, OfficeAccepted}

-- Demand 1. Each fault is refused by its number and nothing else is, and a refused call changes no lent byte.
pub record Refuses : Type 0 where
  -- a number and an offset are given exactly if the number's cause is the first that holds
  pub given : (r : Invocation) (s : List ℕ) (o : Office) (k offset : ℕ) → ¬ (k ≡ 0)
      → (((serve r s o).number ≡ k) × ((serve r s o).offset ≡ offset)) ↔ Refused s o r k offset
  -- number 0 exactly if no cause holds, and then offset 0
  pub accepted : (r : Invocation) (s : List ℕ) (o : Office) → ((serve r s o).number ≡ 0) ↔ NoCause s o r
  pub offset_0 : (r : Invocation) (s : List ℕ) (o : Office) → (serve r s o).number ≡ 0 → (serve r s o).offset ≡ 0
  -- a refusal leaves every lent byte as it was, and gives no value
  pub left : (r : Invocation) (s : List ℕ) (o : Office) → ¬ ((serve r s o).number ≡ 0)
      → ((serve r s o).after ≡ o) × ((serve r s o).results ≡ results_lent_to r)
  pub no_value : (r : Invocation) (s : List ℕ) (o : Office) → ¬ ((serve r s o).number ≡ 0)
      → ((serve r s o).kind ≡ 0) × ((serve r s o).value ≡ pos 0)
  -- of the openings, 01's five calls and the season-close run: after the sheet the lowest number wins
  pub lowest : (r : Invocation) → ByNumber r → (s : List ℕ) (o : Office) (k : ℕ) → First (causes_of s o r) k ↔ Lowest (causes_of s o r) k
  -- of a board: 17 comes after 10 and before 11
  pub boards : (s : List ℕ) (o : Office) (items results : List ℕ) → BoardRefuses s o items results
  -- of a season-close run: 1 to 10, and no others
  pub closes : (s : List ℕ) (o : Office) → CloseRefuses s o
  -- of a swap: 18 comes after 12 and before 13
  pub swaps : (s : List ℕ) (o : Office) (giver taker : ℕ) (quantity : ℤ) → SwapRefuses s o giver taker quantity
  -- what is accepted under a range with a lower limit, every other cause the same, is accepted
  pub older : (most : ℕ) → most ≤ limit → (s : List ℕ) (o : Office) → AcceptedUnder most s o → AcceptedLent s o
  -- 02's "old tables are opened anew": a table of the former width is given 8 by every opening and call, if the sheet has no fault
  pub former : (r : Invocation) (s : List ℕ) (o : Office) → Faultless s → length o.table ≡ former_width * size (sheet_of s)
      → ((serve r s o).number ≡ 8) × ((serve r s o).offset ≡ 0)
  -- each number has its cause (15 is the printer's, printer/specs/Causes, and 16 and 19 the day program's, day_meaning/specs/Causes)
  pub each : Gets 1 × Gets 2 × Gets 3 × Gets 4 × Gets 5 × Gets 6 × Gets 7 × Gets 8 × Gets 9 × Gets 10 × Gets 11 × Gets 12 × Gets 13 × Gets 14 × Gets 17 × Gets 18
  -- the sheet's words in the causes are those of its bytes
  pub words : (s : List ℕ) → Faultless s → SheetWords s

-- Demand 2. A sheet opens exactly if it follows the layout; a figure worked out with nothing stored is the circuit's solution;
-- every call leaves exactly the table that 01 and 02 describe, and a board the results that 02 describes.
pub record Means : Type 0 where
  -- a sheet that is lent with an index and a table of 4 and 11 bytes an item
  pub opens : (how : Opening) (s : List ℕ) (o : Office) → Bytes s → ((open_on how s o).number ≡ 0) ↔ FollowsLayout s o
  -- what the openings write; the circuit is the layout's, and a sheet has one layout only
  pub writes : (how : Opening) (s : List ℕ) (o : Office) (f : FollowsLayout s o) → Writes how f.layout (open_on how s o)
  pub circuit : (s : List ℕ) (o : Office) (f : FollowsLayout s o) → sheet_of s ≡ machine_sheet f.layout
  pub only : (s : List ℕ) (o p : Office) (f : FollowsLayout s o) (g : FollowsLayout s p) → f.layout ≡ g.layout
  -- the calls accept what an opening wrote, and bare no figure is stored
  pub lent : (how : Opening) (s : List ℕ) (o : Office) → FollowsLayout s o → AcceptedLent s (open_on how s o).after
  pub unstored : (s : List ℕ) (o : Office) → FollowsLayout s o → NoneStored s (open_on bare s o).after.table
  -- of each accepted table with no figure stored
  pub solution : (s : List ℕ) (o : Office) → AcceptedLent s o → NoneStored s o.table
      → (values : ℕ → Value) × OnlySolution (sheet_of s) (entries_in o.table) values × Gives s o values
  -- of each accepted table
  pub leaves : (s : List ℕ) (o : Office) → Bytes o.table → AcceptedLent s o → CallsLeave s o
  -- the items of a board's list are those of its bytes
  pub lists : (items : List ℕ) → ListWords items
  -- a result holds the kind and the number of its value
  pub results : (v : Value) → well_formed v ≡ true → ResultWords (result_of (kind_of v) (number_of v)) (kind_of v) (number_of v)
  -- looking up, working out, catching up and the fresh office as 01 has them, telling as 01 has it with 02's job 5, what the rules make of
  -- OUT and NULL as 01 has it with 02's job 6, and owed and the season-close run as 02 has them
  pub equations : Equations

-- Demand 3, about whole lists of calls.
pub record Agrees : Type 0 where
  -- Two offices open the same sheet, each bare or full, and call what they like; the postings that accepted calls made are the same, in the
  -- same order. Then every ask and every board agrees, and is what the fresh office gives that is fed either list; every swap gets the same
  -- number and makes the same postings; and closed, both keep the same bytes.
  pub agree : (s : List ℕ) (o p : Office) (first second : Opening)
      → (open_on first s o).number ≡ 0 → (open_on second s p).number ≡ 0
      → (cs ds : List Call) → postings_on s (open_on first s o).after cs ≡ postings_on s (open_on second s p).after ds
      → SameAnswers s (open_on first s o).after cs (open_on second s p).after ds
  -- And after a quiet table and one accepted post, what that entry does not lead to stays stored with its value.
  pub retained : (s : List ℕ) (o : Office) (how : Opening) → (open_on how s o).number ≡ 0 → RetainsPost s (open_on how s o).after
  -- After a quiet table and any call, a swap too, so does what none of the entries posted to leads to.
  pub retained_any : (s : List ℕ) (o : Office) (how : Opening) → (open_on how s o).number ≡ 0 → Retains s (open_on how s o).after
  -- A call drops a figure exactly if it is a drop that names it.
  pub dropped : (c : Call) (k : ℕ) → (drops c k ≡ true) ↔ (c ≡ drop k)
  -- In a list of calls an accepted board counts as the asks for its items.
  pub counts : (s : List ℕ) (o : Office) → Bytes o.table → (items results : List ℕ) → (call_on s o (board items results)).number ≡ 0
      → (cs : List Call) → CountsAsAsks s o items results cs
  -- On any table that the engine alone has written since opening, a season-close run agrees with an ask for each item, and leaves what
  -- catching up and then keeping every figure leaves.
  pub closes : (s : List ℕ) (o : Office) (how : Opening) → (open_on how s o).number ≡ 0
      → (cs : List Call) → ClosesRight (sheet_of s) s (run_on s (open_on how s o).after cs)
  -- 02's "later calls go on from its table", on any accepted table: whatever list follows the run, every ask gives what the fresh office
  -- gives that began with the entries which the table held.
  pub goes_on : (s : List ℕ) (o : Office) → Bytes o.table → AcceptedLent s o
      → (cs : List Call) (i : ℕ) → ask_after s (call_on s o close).after cs i ≡ fresh_from s (entries_in o.table) (call_on s o close).after cs i
  -- no list leads to a refusal of index or table
  pub never_refused : (s : List ℕ) (o : Office) (how : Opening) → (open_on how s o).number ≡ 0
      → (cs : List Call) → OfficeAccepted s (open_on how s o).after cs

-- 02's job 7: catching up always finishes.
pub record Finishes : Type 0 where
  -- from any accepted table, also one that no engine wrote
  pub steps_end : (s : List ℕ) (o : Office) → AcceptedLent s o → StepsEnd s o
  -- after any list of calls since an opening that leaves no mark standing
  pub quiet_right : (s : List ℕ) (o : Office) (how : Opening) → (open_on how s o).number ≡ 0
      → (cs : List Call) → let p : Office = run_on s (open_on how s o).after cs in NoMarkStands (sheet_of s) p.table → QuietRight s p
  -- on any table that the engine alone has written since opening
  pub any_order : (s : List ℕ) (o : Office) (how : Opening) → (open_on how s o).number ≡ 0
      → (cs : List Call) (is : List ℕ) → AnyOrder s (run_on s (open_on how s o).after cs) is

-- 02's job 8: swaps as one act.
pub record Swaps : Type 0 where
  -- "Over any sequence of swaps alone the exact sum of all entries, NULL as 0, is unchanged": refused ones included, from any table, also one
  -- that no engine wrote.
  pub sum_kept : (s : List ℕ) (o : Office) (xs : List Swapping) → sum_in s (run_on s o (swaps_of xs)).table ≡ sum_in s o.table
  -- after any list of calls since an opening
  pub follows : (s : List ℕ) (o : Office) (how : Opening) → (open_on how s o).number ≡ 0
      → (cs : List Call) → let begin : Office = (open_on how s o).after in
      (giver taker : ℕ) (quantity : ℤ) → SwapFollows s (run_on s begin cs) (fresh_entries s blank begin cs) giver taker quantity
  -- in a list of calls an accepted swap counts as its two posts
  pub counts : (s : List ℕ) (o : Office) (giver taker : ℕ) (quantity : ℤ) → (call_on s o (swap giver taker quantity)).number ≡ 0
      → (cs : List Call) → CountsAsPosts s o giver taker quantity cs

-- 02's job 9: "an edition 1 sheet with its edition number changed to 2 gives the same readings", and its job 10: "Changing the edition to 2
-- keeps the readings of sheets without spread 2".
pub record Editions : Type 0 where
  -- every opening and call, on any index and table, gives the same, and leaves the same bytes
  pub same : (s : List ℕ) → Reissuable s → (r : Invocation) (o : Office) → serve r (with_edition 2 s) o ≡ serve r s o
  -- every list of calls leaves the same bytes, and makes the same postings
  pub lists : (s : List ℕ) → Reissuable s → (o : Office) (cs : List Call) → run_on (with_edition 2 s) o cs ≡ run_on s o cs
  pub postings : (s : List ℕ) → Reissuable s → (o : Office) (cs : List Call) → postings_on (with_edition 2 s) o cs ≡ postings_on s o cs
  -- the circuit is the same
  pub circuit : (s : List ℕ) → Reissuable s → sheet_of (with_edition 2 s) ≡ sheet_of s
  -- Demand 3 for two offices, one of which holds the sheet under edition 1 and the other under edition 2
  pub agree : (s : List ℕ) → Reissuable s → let t : List ℕ = with_edition 2 s in (o p : Office) (first second : Opening)
      → (open_on first s o).number ≡ 0 → (open_on second t p).number ≡ 0
      → (cs ds : List Call) → postings_on s (open_on first s o).after cs ≡ postings_on t (open_on second t p).after ds
      → SameAcross s (open_on first s o).after cs t (open_on second t p).after ds

-- 02's job 10: forget is retired. Two offices' sameness, what stays stored and the limit on steps are said above of every sheet that opens, so
-- of those with spread 2 too.
pub record Retires : Type 0 where
  -- "Edition 2 sheets that hold it get refusal 5": a figure of a sheet of edition 2 that holds it is at fault; where no field before it is, and its
  -- own has no lower cause, every opening and call gives 5 with its offset
  pub none_in_2 : (s : List ℕ) → edition_of s ≡ 2 → Faultless s → NoForget s
  pub given_5 : (s : List ℕ) → edition_of s ≡ 2 → (i : ℕ) → i < item_count s → holds_forget s i ≡ true
      → ((p : Place) → InSheet s p → Before s p (item i) → Sound s p) → ((k : ℕ) → k < 5 → ¬ CauseAt s (item i) k)
      → (r : Invocation) (o : Office) → ((serve r s o).number ≡ 5) × ((serve r s o).offset ≡ offset_of s (item i))
  -- Of a sheet of edition 1 without a fault, with its edition changed to 2: every opening and call gives 5 with an offset exactly if that is
  -- the offset of the first figure that holds spread 2.
  pub refused : (s : List ℕ) → edition_of s ≡ 1 → Faultless s → (r : Invocation) (o : Office) (offset : ℕ)
      → (((serve r (with_edition 2 s) o).number ≡ 5) × ((serve r (with_edition 2 s) o).offset ≡ offset)) ↔ ((i : ℕ) × FirstForget s i × (offset ≡ offset_of s (item i)))
  -- "Edition 1 sheets that hold it still open and are treated as spread 0": the sheet with 0 in place of each spread 2, faulty or not, gives
  -- the same answer to every opening and call, on any index and table, and leaves the same bytes.
  pub zeroed : (s : List ℕ) → Zeroes s (without_forget s)
  pub treated : (s : List ℕ) → edition_of s ≡ 1 → (r : Invocation) (o : Office) → serve r (without_forget s) o ≡ serve r s o
  pub treated_lists : (s : List ℕ) → edition_of s ≡ 1 → (o : Office) (cs : List Call) → run_on (without_forget s) o cs ≡ run_on s o cs
  pub treated_postings : (s : List ℕ) → edition_of s ≡ 1 → (o : Office) (cs : List Call) → postings_on (without_forget s) o cs ≡ postings_on s o cs
  pub treated_circuit : (s : List ℕ) → edition_of s ≡ 1 → sheet_of (without_forget s) ≡ sheet_of s
  -- and so does that sheet with its edition changed to 2
  pub migrates : (s : List ℕ) → edition_of s ≡ 1 → item_count s ≤ item_limit 1
      → (r : Invocation) (o : Office) → serve r (with_edition 2 (without_forget s)) o ≡ serve r s o
  -- Demand 3 for two offices, one of which holds the sheet as it was and the other with 0
  pub agree : (s : List ℕ) → edition_of s ≡ 1 → let t : List ℕ = without_forget s in (o p : Office) (first second : Opening)
      → (open_on first s o).number ≡ 0 → (open_on second t p).number ≡ 0
      → (cs ds : List Call) → postings_on s (open_on first s o).after cs ≡ postings_on t (open_on second t p).after ds
      → SameAcross s (open_on first s o).after cs t (open_on second t p).after ds
  -- Older tables. Two sheets without a fault that differ in spread bytes only accept the same index and table, and have the invariant on the
  -- same tables.
  pub accept : (s t : List ℕ) → DifferInSpreads s t → Faultless s → Faultless t → (o : Office) → AcceptedLent s o ↔ AcceptedLent t o
  pub coherent : (s t : List ℕ) → DifferInSpreads s t → Faultless s → Faultless t → (T : Table) → Coherent (sheet_of s) T ↔ Coherent (sheet_of t) T
  -- every table that the engine alone has written since opening has it
  pub written : (s : List ℕ) (o : Office) (how : Opening) → (open_on how s o).number ≡ 0
      → (cs : List Call) → Coherent (sheet_of s) (decode_table (run_on s (open_on how s o).after cs).table)
  -- from every accepted table that has it, each ask is right
  pub right : (s : List ℕ) (o : Office) → Bytes o.table → AcceptedLent s o → Coherent (sheet_of s) (decode_table o.table) → AsksRight s o

pub record Demands : Type 0 where
  pub refuses : Refuses
  pub means : Means
  pub agrees : Agrees
  pub finishes : Finishes
  pub swaps : Swaps
  pub editions : Editions
  pub retires : Retires
