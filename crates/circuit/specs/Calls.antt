-- The calls with their refusals, on a sheet and a table that were accepted, and lists of calls. The refusals of sheets, indexes
-- and tables need bytes, and join above. Assumes nothing.
use Rattle.std.specs.Prelude.{ℕ, zero, suc, Bool, true, false, cond, not, ◌||◌, List, [], ◌∷◌, ◌++◌, eqb, ℤ}
use Rattle.std.proofs.Math.Option.{Option, none, some}
use Rattle.circuit.specs.Value.{Value, parts_of}
use Rattle.circuit.specs.Sheet.{Sheet, Entries, item_at, is_figure, beyond}
use Rattle.circuit.specs.Table.{Table, entries_of, is_marked}
use Rattle.circuit.specs.Call.{Call, post, keep, drop, step, ask, board, close, swap, Posting, posting}
use Rattle.circuit.specs.Board.{listed, lists_wrong}
use Rattle.circuit.specs.Swap.{no_swap, results_beyond, swap_postings}
use Rattle.circuit.specs.Closing.{close_all}
use Rattle.circuit.specs.Machine.{Looked, Gathered, gather, store_posting, keep_figure, drop_figure, step_item, catch_up, look_up}

-- The value of a posted kind and number, in form, and not OUT, which cannot be posted; none is refused (13).
unfoldable pub posted_value : ℕ → ℤ → Option Value
posted_value kind z = cond (eqb kind 2) none (parts_of kind z)

abbrev pub is_none : {A : Type 0} → Option A → Bool
is_none none = true
is_none (some a) = false

-- the causes, by their numbers
abbrev pub no_item : Sheet → ℕ → Bool
no_item S i = beyond S i

-- an item of the list is n or more
unfoldable pub some_no_item : Sheet → List ℕ → Bool
some_no_item S [] = false
some_no_item S (i ∷ is) = no_item S i || some_no_item S is

abbrev pub not_entry : Sheet → ℕ → Bool
not_entry S i = is_figure (item_at S i)

abbrev pub not_figure : Sheet → ℕ → Bool
not_figure S i = not (is_figure (item_at S i))

abbrev pub not_postable : ℕ → ℤ → Bool
not_postable kind z = is_none (posted_value kind z)

abbrev pub no_mark : Table → ℕ → Bool
no_mark T i = not (is_marked (T i))

-- a refusal's number with its test
pub record Test : Type 0 where
  pub number : ℕ
  pub holds : Bool

abbrev pub test : ℕ → Bool → Test
test k b = record { number = k; holds = b }

-- the number of the first test that holds, or 0
unfoldable pub first_cause : List Test → ℕ
first_cause [] = 0
first_cause (t ∷ ts) = cond t.holds t.number (first_cause ts)

-- the tests of a swap, by the values that the entries hold: 11 and 12 of either item, then 18, then 13
abbrev pub swap_tests : Sheet → Entries → ℕ → ℕ → ℤ → List Test
swap_tests S E giver taker quantity =
    test 11 (no_item S giver || no_item S taker)
    ∷ test 12 (not_entry S giver || not_entry S taker)
    ∷ test 18 (no_swap giver taker quantity)
    ∷ test 13 (results_beyond E giver taker quantity)
    ∷ []

-- the tests of a call, in their order
unfoldable pub tests : Sheet → Table → Call → List Test
tests S T (post i kind z) = test 11 (no_item S i) ∷ test 12 (not_entry S i) ∷ test 13 (not_postable kind z) ∷ []
tests S T (keep i) = test 11 (no_item S i) ∷ test 12 (not_figure S i) ∷ []
tests S T (drop i) = test 11 (no_item S i) ∷ test 12 (not_figure S i) ∷ []
tests S T (step i) = test 11 (no_item S i) ∷ test 14 (no_mark T i) ∷ []
tests S T (ask i) = test 11 (no_item S i) ∷ []
tests S T (board items results) = test 17 (lists_wrong items results) ∷ test 11 (some_no_item S (listed items)) ∷ []
tests S T close = []
tests S T (swap giver taker quantity) = swap_tests S (entries_of T) giver taker quantity

-- what a call gives: its number, the value of an accepted ask, the values of an accepted board, and the table afterwards
pub record Outcome : Type 0 where
  pub number : ℕ
  pub reading : Option Value
  pub shown : List Value
  pub table : Table

abbrev pub outcome : ℕ → Option Value → Table → Outcome
outcome k v T = record { number = k; reading = v; shown = []; table = T }

abbrev pub posting_of : ℕ → Option Value → List Posting
posting_of i none = []
posting_of i (some v) = posting i v ∷ []

-- What a call posts if it is accepted, by the values that the entries hold: a post one posting, also of an equal value; a swap two; the
-- other calls none.
abbrev pub postings_by : Entries → Call → List Posting
postings_by E (post i kind z) = posting_of i (posted_value kind z)
postings_by E (keep i) = []
postings_by E (drop i) = []
postings_by E (step i) = []
postings_by E (ask i) = []
postings_by E (board items results) = []
postings_by E close = []
postings_by E (swap giver taker quantity) = swap_postings E giver taker quantity

-- postings are stored one after the other
unfoldable pub store_postings : Table → List Posting → Table
store_postings T [] = T
store_postings T (p ∷ ps) = store_postings (store_posting T p.entry p.value) ps

-- a call that does nothing but post
abbrev pub posts : Table → Call → Outcome
posts T c = outcome 0 none (store_postings T (postings_by (entries_of T) c))

abbrev pub reading_of : Looked → Outcome
reading_of r = outcome 0 (some r.value) r.table

abbrev pub shown_of : Gathered → Outcome
shown_of g = record { number = 0; reading = none; shown = g.values; table = g.table }

-- A board: "Catching up is done once, then the items are looked up in list order", each on the table that the one before it left;
-- "for an empty list nothing changes at all".
abbrev pub show_items : Sheet → Table → List ℕ → Outcome
show_items S T [] = outcome 0 none T
show_items S T (i ∷ is) = shown_of (gather (look_up S) (catch_up S T) (i ∷ is))

-- the call itself, where no cause holds
unfoldable pub effect : Sheet → Table → Call → Outcome
effect S T (post i kind z) = posts T (post i kind z)
effect S T (keep i) = outcome 0 none (keep_figure S T i)
effect S T (drop i) = outcome 0 none (drop_figure T i)
effect S T (step i) = outcome 0 none (step_item S T i)
effect S T (ask i) = reading_of (look_up S (catch_up S T) i)
effect S T (board items results) = show_items S T (listed items)
effect S T close = outcome 0 none (close_all S T)
effect S T (swap giver taker quantity) = posts T (swap giver taker quantity)

abbrev pub effect_unless : ℕ → Sheet → Table → Call → Outcome
effect_unless zero S T c = effect S T c
effect_unless (suc k) S T c = outcome (suc k) none T

-- a call: refused by its first cause, or accepted with number 0
unfoldable pub perform : Sheet → Table → Call → Outcome
perform S T c = effect_unless (first_cause (tests S T c)) S T c

-- the table after a list of calls
unfoldable pub run : Sheet → Table → List Call → Table
run S T [] = T
run S T (c ∷ cs) = run S (perform S T c).table cs

abbrev pub if_accepted : ℕ → List Posting → List Posting
if_accepted zero ps = ps
if_accepted (suc k) ps = []

-- The postings that a call makes: those that it posts, if it is accepted, that is, gives number 0.
unfoldable pub postings_made : Sheet → Table → Call → List Posting
postings_made S T c = if_accepted (perform S T c).number (postings_by (entries_of T) c)

-- the postings that a list of calls makes, in order
unfoldable pub postings : Sheet → Table → List Call → List Posting
postings S T [] = []
postings S T (c ∷ cs) = postings_made S T c ++ postings S (perform S T c).table cs

-- the figure k is named by a call that drops
abbrev pub drops : Call → ℕ → Bool
drops (post i kind z) k = false
drops (keep i) k = false
drops (drop i) k = eqb k i
drops (step i) k = false
drops (ask i) k = false
drops (board items results) k = false
drops close k = false
drops (swap giver taker quantity) k = false
