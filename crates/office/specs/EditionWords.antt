-- The words of 02's jobs 9 and 10: the sheets whose edition may be changed, and two offices that hold sheets of which each call makes the
-- same. Assumes nothing.
use Rattle.std.specs.Prelude.{ℕ, ◌≤◌, ◌<◌, ◌≡◌, List, ℤ}
use Rattle.circuit.specs.Value.{Value}
use Rattle.circuit.specs.Sheet.{size}
use Rattle.circuit.specs.Call.{Call, ask, close, swap}
use Rattle.layout.specs.Layout.{item_limit}
use Rattle.layout.specs.Opened.{sheet_of}
use Rattle.layout.specs.Causes.{edition_of, item_count}
use Rattle.layout.specs.Spreads.{NoForget}
use Rattle.office.specs.Office.{Office, call_on, run_on}
use Rattle.office.specs.Demand2Words.{answer_of, reading, entries_in, OnlySolution}
use Rattle.office.specs.Demand3Words.{made_on, ask_after, board_after, fresh_from}

-- A sheet of edition 1 that edition 2 does not treat otherwise: it has no more items than edition 1 may have, which edition 2 may, and no
-- figure with spread 2, which edition 2 may not have. It may have any other fault.
pub record Reissuable (s : List ℕ) : Type 0 where
  pub edition_1 : edition_of s ≡ 1
  pub few : item_count s ≤ item_limit 1
  pub no_forget : NoForget s

-- The office o with the sheet s, after the list cs, and the office p with the sheet t, after the list ds: every ask and every board agrees,
-- every swap gets the same number and makes the same postings, and a season-close run leaves both with the same bytes.
pub record SameAcross (s : List ℕ) (o : Office) (cs : List Call) (t : List ℕ) (p : Office) (ds : List Call) : Type 0 where
  pub asks : (i : ℕ) → ask_after s o cs i ≡ ask_after t p ds i
  pub boards : (items results : List ℕ) → board_after s o cs items results ≡ board_after t p ds items results
  pub swaps : (giver taker : ℕ) (quantity : ℤ) → let c : Call = swap giver taker quantity in
      ((call_on s (run_on s o cs) c).number ≡ (call_on t (run_on t p ds) c).number) × (made_on s (run_on s o cs) c ≡ made_on t (run_on t p ds) c)
  pub closes : (call_on s (run_on s o cs) close).after ≡ (call_on t (run_on t p ds) close).after

-- From what the office keeps, o, an ask gives the solution under the entries that its table holds, and after any list of calls what the fresh
-- office gives that began with these entries.
pub record AsksRight (s : List ℕ) (o : Office) : Type 0 where
  pub solves : (values : ℕ → Value) × OnlySolution (sheet_of s) (entries_in o.table) values
      × ((i : ℕ) → i < size (sheet_of s) → answer_of (call_on s o (ask i)) ≡ reading (values i))
  pub goes_on : (cs : List Call) (i : ℕ) → ask_after s o cs i ≡ fresh_from s (entries_in o.table) o cs i
