-- Demand 3, its words: lists of calls at an office, the postings they make, what the fresh office answers, what stays stored, and what a
-- season-close run agrees with. Assumes nothing.
use Rattle.std.specs.Prelude.{ℕ, ◌<◌, ◌≤◌, ◌≡◌, Bool, true, false, not, List, [], ◌∷◌, ◌++◌, map, ◌⊎◌, eqb, ℤ}
use Rattle.std.proofs.Math.Option.{Option, none, some}
use Rattle.circuit.specs.Value.{Value}
use Rattle.circuit.specs.Circuit.{Listed, LeadsTo}
use Rattle.circuit.specs.Sheet.{Sheet, Entries, size, item_at, is_figure, circuit_of}
use Rattle.circuit.specs.Call.{Call, post, step, ask, board, close, swap, Posting, posted_to}
use Rattle.circuit.specs.Board.{listed, lists_wrong}
use Rattle.circuit.specs.Calls.{postings_by, if_accepted}
use Rattle.circuit.specs.Closing.{keep_every}
use Rattle.circuit.specs.Fresh.{Event, fed, blank, hear_all, fresh_ask, fresh_asks}
use Rattle.circuit.specs.Words.{dropped_in}
use Rattle.layout.specs.Opened.{sheet_of}
use Rattle.table.specs.Rows.{row}
use Rattle.table.specs.Record.{width, kind_in, number_in}
use Rattle.office.specs.Office.{Office, Given, call_on, run_on, kind_read, number_read, results_of}
use Rattle.office.specs.Demand1Words.{AcceptedLent}
use Rattle.office.specs.Demand2Words.{Answer, answer_of, entries_in, NoMarkStands, reading_in}

-- The postings that a call makes at an office that keeps o, each an entry and a value: those that it posts (`postings_by`, by the values that
-- the table's entries hold), if it is accepted. 01's "accepted": the call gives number 0.
abbrev pub made_on : List ℕ → Office → Call → List Posting
made_on s o c = if_accepted (call_on s o c).number (postings_by (entries_in o.table) c)

-- the postings that the accepted calls of a list make, in order
unfoldable pub postings_on : List ℕ → Office → List Call → List Posting
postings_on s o [] = []
postings_on s o (c ∷ cs) = made_on s o c ++ postings_on s (call_on s o c).after cs

-- what the fresh office is fed of a list of calls: of a swap the postings that it made, of any other call the arguments
unfoldable pub events_on : List ℕ → Office → List Call → List Event
events_on s o [] = []
events_on s o (c ∷ cs) = fed c (made_on s o c) ++ events_on s (call_on s o c).after cs

-- the answer to an ask for i after a list of calls
abbrev pub ask_after : List ℕ → Office → List Call → ℕ → Answer
ask_after s o cs i = answer_of (call_on s (run_on s o cs) (ask i))

-- What the fresh office gives as an ask's answer: number 0 with the value, or number 11 where it gives none.
abbrev pub number_for : Option Value → ℕ
number_for none = 11
number_for (some v) = 0

abbrev pub fresh_answer : Option Value → Answer
fresh_answer v = record { number = number_for v; offset = 0; kind = kind_read v; value = number_read v }

-- the values that the fresh office holds, which began with the entries E, and is fed the sheet and a list of calls at an office that keeps o
abbrev pub fresh_entries : List ℕ → Entries → Office → List Call → Entries
fresh_entries s E o cs = hear_all (sheet_of s) E (events_on s o cs)

abbrev pub fresh_from : List ℕ → Entries → Office → List Call → ℕ → Answer
fresh_from s E o cs i = fresh_answer (fresh_ask (sheet_of s) (fresh_entries s E o cs) i)

-- since an opening
abbrev pub fresh_after : List ℕ → Office → List Call → ℕ → Answer
fresh_after s o cs i = fresh_from s blank o cs i

-- an ask for i at the offices o and p, after the lists cs and ds
pub record SameReading (s : List ℕ) (o : Office) (cs : List Call) (p : Office) (ds : List Call) (i : ℕ) : Type 0 where
  pub same : ask_after s o cs i ≡ ask_after s p ds i
  pub fresh : ask_after s o cs i ≡ fresh_after s o cs i
  pub fresh_other : ask_after s p ds i ≡ fresh_after s p ds i

-- What a board answers: its number and offset, and what the list of results holds afterwards.
pub record Shown : Type 0 where
  pub number : ℕ
  pub offset : ℕ
  pub results : List ℕ

abbrev pub shown : ℕ → List ℕ → Shown
shown k results = record { number = k; offset = 0; results = results }

-- a board after a list of calls
abbrev pub board_after : List ℕ → Office → List Call → List ℕ → List ℕ → Shown
board_after s o cs items results =
    let g : Given = call_on s (run_on s o cs) (board items results) in
    record { number = g.number; offset = g.offset; results = g.results }

-- What the fresh office gives as a board's answer: number 17 where the lists are wrong (the lengths are the arguments'; 17 itself is
-- fixed by demand 1), 11 where it gives no value for one of the items, both with the results as lent; else number 0 with the values.
abbrev pub fresh_shown : Bool → Option (List Value) → List ℕ → Shown
fresh_shown true vs results = shown 17 results
fresh_shown false none results = shown 11 results
fresh_shown false (some vs) results = shown 0 (results_of vs)

abbrev pub fresh_board : List ℕ → Office → List Call → List ℕ → List ℕ → Shown
fresh_board s o cs items results =
    fresh_shown (lists_wrong items results) (fresh_asks (sheet_of s) (fresh_entries s blank o cs) (listed items)) results

-- a board with the same bytes lent at the offices o and p, after the lists cs and ds
pub record SameBoard (s : List ℕ) (o : Office) (cs : List Call) (p : Office) (ds : List Call) (items results : List ℕ) : Type 0 where
  pub same : board_after s o cs items results ≡ board_after s p ds items results
  pub fresh : board_after s o cs items results ≡ fresh_board s o cs items results
  pub fresh_other : board_after s p ds items results ≡ fresh_board s p ds items results

-- a swap with the same arguments at the offices o and p, after the lists cs and ds: it gets the same number and makes the same postings
pub record SameSwap (s : List ℕ) (o : Office) (cs : List Call) (p : Office) (ds : List Call) (c : Call) : Type 0 where
  pub number : (call_on s (run_on s o cs) c).number ≡ (call_on s (run_on s p ds) c).number
  pub made : made_on s (run_on s o cs) c ≡ made_on s (run_on s p ds) c

-- every ask, every board and every swap; and a season-close run leaves both offices with the same bytes
pub record SameAnswers (s : List ℕ) (o : Office) (cs : List Call) (p : Office) (ds : List Call) : Type 0 where
  pub asks : (i : ℕ) → SameReading s o cs p ds i
  pub boards : (items results : List ℕ) → SameBoard s o cs p ds items results
  pub swaps : (giver taker : ℕ) (quantity : ℤ) → SameSwap s o cs p ds (swap giver taker quantity)
  pub closes : (call_on s (run_on s o cs) close).after ≡ (call_on s (run_on s p ds) close).after

-- 01's "stored": the kind is not 0
abbrev pub stored_in : List ℕ → ℕ → Bool
stored_in t k = not (eqb (kind_in (row width t k)) 0)

-- Figure k, stored in the table t, stays stored with its value in the table u, which the list ds left: unless a drop of the list
-- names it, it is stored; and where it is stored, its kind and number are those it had.
pub record StaysStored (t : List ℕ) (ds : List Call) (u : List ℕ) (k : ℕ) : Type 0 where
  pub stored : dropped_in ds k ≡ false → stored_in u k ≡ true
  pub value : stored_in u k ≡ true → (kind_in (row width u k) ≡ kind_in (row width t k)) × (number_in (row width u k) ≡ number_in (row width t k))

-- At an office: after a list of calls no mark stands, a call c is made, and a list without a posting follows, which catches up in whole,
-- in part or not at all. Then every stored figure that none of the entries posted to by c leads to stays stored with its value.
abbrev pub Retains : List ℕ → Office → Type 0
Retains s o =
    (cs : List Call) → let p : Office = run_on s o cs in NoMarkStands (sheet_of s) p.table
    → (c : Call) (ds : List Call) → let q : Office = (call_on s p c).after in postings_on s q ds ≡ []
    → (k : ℕ) → k < size (sheet_of s) → is_figure (item_at (sheet_of s) k) ≡ true
    → ((e : ℕ) → Listed e (posted_to (made_on s p c)) → LeadsTo (circuit_of (sheet_of s)) e k → ⊥)
    → stored_in p.table k ≡ true → StaysStored p.table (c ∷ ds) (run_on s q ds).table k

-- The sentence of demand 3, the case of one post: a post to e is accepted, and e does not lead to the figure.
abbrev pub RetainsPost : List ℕ → Office → Type 0
RetainsPost s o =
    (cs : List Call) → let p : Office = run_on s o cs in NoMarkStands (sheet_of s) p.table
    → (e kind : ℕ) (z : ℤ) → let g : Given = call_on s p (post e kind z) in g.number ≡ 0
    → (ds : List Call) → postings_on s g.after ds ≡ []
    → (k : ℕ) → k < size (sheet_of s) → is_figure (item_at (sheet_of s) k) ≡ true → (LeadsTo (circuit_of (sheet_of s)) e k → ⊥)
    → stored_in p.table k ≡ true → StaysStored p.table ds (run_on s g.after ds).table k

-- 02's "For the two offices an accepted board counts as those asks": with either at the front of a list, the same postings are made,
-- and the office keeps the same afterwards.
pub record CountsAsAsks (s : List ℕ) (o : Office) (items results : List ℕ) (cs : List Call) : Type 0 where
  pub posts : postings_on s o (board items results ∷ cs) ≡ postings_on s o (map ask (listed items) ++ cs)
  pub keeps : run_on s o (board items results ∷ cs) ≡ run_on s o (map ask (listed items) ++ cs)

-- A season-close run at an office that keeps p; S is the sheet's items, sheet_of s.
pub record ClosesRight (S : Sheet) (s : List ℕ) (p : Office) : Type 0 where
  pub accepted : (call_on s p close).number ≡ 0
  -- 02's "It agrees with an ask for each item", made before the run and after it
  pub before : (i : ℕ) → i < size S → answer_of (call_on s p (ask i)) ≡ reading_in (call_on s p close).after.table i
  pub after : (i : ℕ) → i < size S → answer_of (call_on s (call_on s p close).after (ask i)) ≡ reading_in (call_on s p close).after.table i
  -- It leaves what catching up and then keeping every figure, lowest first, leaves. Catching up may be any list of calls that makes
  -- no posting and after which no mark stands.
  pub keeps : (ds : List Call) → postings_on s p ds ≡ [] → NoMarkStands S (run_on s p ds).table
      → run_on s (run_on s p ds) (keep_every S) ≡ (call_on s p close).after
  -- Some steps are such a list.
  pub catches : (is : List ℕ) × (postings_on s p (map step is) ≡ []) × NoMarkStands S (run_on s p (map step is)).table

-- At an office, whatever was called before, index and table are accepted, and a call is given 0, or 11 or more.
pub record OfficeAccepted (s : List ℕ) (o : Office) (cs : List Call) : Type 0 where
  pub accepted : AcceptedLent s (run_on s o cs)
  pub numbers : (c : Call) → let g : Given = call_on s (run_on s o cs) c in (g.number ≡ 0) ⊎ (11 ≤ g.number)
