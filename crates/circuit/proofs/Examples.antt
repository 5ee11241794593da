-- Worked cases, computed by the definitions: a chain of two figures that is caught up in part, and closed; a figure that its own
-- telling stores; a stored NULL; a guarded share; steps on a ladder and on a pair; the example day; a swap of NULL.
-- Assumes nothing.
use Prim.Native.Nat.{ℕ}
use mathlib.Core.Path.{◌≡◌, refl}
use mathlib.Core.Bool.{Bool, true, false}
use mathlib.Core.List.{List, [], ◌∷◌, map}
use mathlib.Core.Option.{Option, none, some}
use lib.IntN.{pos, negsuc}
use Rattle.circuit.specs.Value.{Value, null, out, num, in_range, limit, parts_of}
use Rattle.circuit.specs.Rules.{sum, difference, share, choice, apply, numbers, total, any_out, whole}
use Rattle.circuit.specs.Sheet.{Sheet, entry, figure, defer, renew, member}
use Rattle.circuit.specs.Table.{Table, unk, held, unmarked, notice, open_bare, open_full}
use Rattle.circuit.specs.Machine.{Looked, gather, work_out_by, look_for, look_up, work_out, store_posting, keep_figure, drop_figure, tell_child, tell_below, tell, clear_mark, step_item, lowest_marked}
use Rattle.circuit.specs.Machine.{catch_up_in, catch_up}
use Rattle.circuit.specs.Owed.{any_below, owed_for, owed}
use Rattle.circuit.specs.Call.{Call, post, keep, drop, step, ask, close, swap}
use Rattle.circuit.specs.Closing.{closed_value, close_item, close_below, close_all}
use Rattle.circuit.specs.Calls.{Outcome, Test, perform, run, tests, first_cause, effect, posted_value, store_postings}
use Rattle.circuit.specs.Swap.{no_swap, results_beyond}
use Rattle.circuit.specs.Words.{AllAccepted}
use Rattle.circuit.proofs.Steps.{EachLowest}

-- to unfold these is to unfold all that looking up and the season-close run compute with, and all that the calls do
unfoldable pub looking : Sheet → Table → ℕ → Looked
unfolding look_up look_for work_out work_out_by gather apply numbers total any_out whole in_range limit member
looking S T i = look_up S T i

unfoldable pub closing : Sheet → Table → Table
unfolding close_all close_below close_item closed_value
closing S T = close_all S T

unfoldable pub owing : Sheet → Table → ℕ → Bool
unfolding owed owed_for any_below
owing S T i = owed S T i

unfoldable pub testing : Sheet → Table → Call → List Test
unfolding tests first_cause posted_value parts_of no_swap results_beyond
testing S T c = tests S T c

unfoldable pub machine : Sheet → Table → Call → Outcome
unfolding looking closing owing testing perform effect keep_figure drop_figure store_posting store_postings step_item tell tell_below tell_child clear_mark catch_up catch_up_in lowest_marked
machine S T c = perform S T c

-- an entry, a figure that sums it, and a figure that sums the first; neither is kept, both defer
unfoldable pub chain : Sheet
chain = entry ∷ figure sum false defer (0 ∷ []) ∷ figure sum false defer (1 ∷ []) ∷ []

unfoldable pub chain_calls : List Call
chain_calls = post 0 3 (pos 1) ∷ keep 2 ∷ post 0 3 (pos 6) ∷ step 0 ∷ keep 1 ∷ []

unfoldable pub chain_table : Table
chain_table = run chain (open_bare chain) chain_calls

-- Figure 1 is 6 and carries notice still, so that the next ask for figure 2 gives 6 and not 1.
pub chain_kept : chain_table 1 ≡ held (num (pos 6)) notice
unfolding machine chain chain_calls chain_table run
chain_kept = refl

pub chain_read : (perform chain chain_table (ask 2)).reading ≡ some (num (pos 6))
unfolding machine chain chain_calls chain_table run
chain_read = refl

-- With nothing stored, the step of entry 0 passes figure 1 over; once figure 2 is stored, figure 1 is owed, and gets notice.
pub chain_passed : (run chain (open_bare chain) (post 0 3 (pos 1) ∷ step 0 ∷ []) 1 ≡ unk false)
    × (run chain (open_bare chain) (post 0 3 (pos 1) ∷ keep 2 ∷ step 0 ∷ []) 1 ≡ unk true)
unfolding machine chain run
chain_passed = (refl, refl)

-- A season-close run stores 6 in both figures, the stale one too, and no mark is left.
pub chain_closed : ((perform chain chain_table close).table 0 ≡ held (num (pos 6)) unmarked)
    × ((perform chain chain_table close).table 1 ≡ held (num (pos 6)) unmarked) × ((perform chain chain_table close).table 2 ≡ held (num (pos 6)) unmarked)
unfolding machine chain chain_calls chain_table run
chain_closed = (refl, refl, refl)

-- entry 0, figure 1 = sum of item 0, kept; figure 2 = sum of item 1, which renews
unfoldable pub kept_chain : Sheet
kept_chain = entry ∷ figure sum true defer (0 ∷ []) ∷ figure sum false renew (1 ∷ []) ∷ []

-- Figure 1 is UNK with notice, entry 0 carries notice, and telling the stored figure 2 looks figure 1 up.
unfoldable pub kept_calls : List Call
kept_calls = post 0 3 (pos 1) ∷ keep 2 ∷ drop 1 ∷ step 0 ∷ post 0 3 (pos 3) ∷ step 1 ∷ []

-- The telling stores figure 1, and its mark is cleared after that.
pub kept_cleared : run kept_chain (open_bare kept_chain) kept_calls 1 ≡ held (num (pos 3)) unmarked
unfolding machine kept_chain kept_calls run
kept_cleared = refl

-- Figure 2 is kept while figure 1 holds NULL. Working that stored NULL out again would store 5 in figure 2, and 5 would be read
-- at the end.
unfoldable pub null_calls : List Call
null_calls = post 0 3 (pos 5) ∷ step 0 ∷ drop 2 ∷ keep 2 ∷ post 0 1 (pos 0) ∷ step 0 ∷ step 1 ∷ []

pub null_read : (perform chain (run chain (open_full chain) null_calls) (ask 2)).reading ≡ some null
unfolding machine chain null_calls run
null_read = refl

-- a guarded share: entry 0 is shared by entry 1 in figure 2, which is kept; figure 4 is figure 2 if entry 3 is above 0, and else entry 0
unfoldable pub guarded : Sheet
guarded =
    entry ∷ entry ∷ figure share true defer (0 ∷ 1 ∷ []) ∷ entry ∷ figure choice false defer (3 ∷ 2 ∷ 0 ∷ []) ∷ []

-- the ten-thousandths are mistyped, and the guard is shut
unfoldable pub guarded_table : Table
guarded_table = run guarded (open_bare guarded) (post 0 3 (pos 600) ∷ post 1 3 (pos 10_001) ∷ post 3 3 (pos 0) ∷ ask 4 ∷ [])

-- The choice reads 600, though the share is OUT; the share, which was not picked, was looked up too and is stored. Picked, it is the
-- result.
pub guard_holds : ((perform guarded guarded_table (ask 4)).reading ≡ some (num (pos 600)))
    × (guarded_table 2 ≡ held out unmarked) × (guarded_table 4 ≡ unk false)
    × ((perform guarded (run guarded guarded_table (post 3 3 (pos 1) ∷ [])) (ask 4)).reading ≡ some out)
unfolding machine guarded guarded_table run
guard_holds = (refl, refl, refl, refl)

-- entry 0, and three figures that each sum all the items below them
unfoldable pub ladder : Sheet
ladder =
    entry ∷ figure sum true defer (0 ∷ []) ∷ figure sum true defer (0 ∷ 1 ∷ []) ∷ figure sum true defer (0 ∷ 1 ∷ 2 ∷ []) ∷ []

unfoldable pub ladder_table : Table
ladder_table = run ladder (open_full ladder) (post 0 3 (pos 1) ∷ [])

-- The order of the steps counts for their number: in one order 15 are accepted, and with the lowest marked item each time 7. Both end with no mark
-- left, and with 4 in figure 3.
unfoldable pub down_steps : List ℕ
down_steps = 0 ∷ 3 ∷ 3 ∷ 2 ∷ 2 ∷ 3 ∷ 3 ∷ 1 ∷ 1 ∷ 3 ∷ 3 ∷ 2 ∷ 2 ∷ 3 ∷ 3 ∷ []

unfoldable pub up_steps : List ℕ
up_steps = 0 ∷ 1 ∷ 1 ∷ 2 ∷ 2 ∷ 3 ∷ 3 ∷ []

pub ladder_down_lem : AllAccepted ladder ladder_table (map step down_steps)
unfolding machine ladder ladder_table down_steps run
ladder_down_lem = (refl, (refl, (refl, (refl, (refl, (refl, (refl, (refl, (refl, (refl, (refl, (refl, (refl, (refl, (refl, tt)))))))))))))))

pub ladder_up_lem : EachLowest ladder ladder_table up_steps
unfolding machine ladder ladder_table up_steps run
ladder_up_lem = (refl, (refl, (refl, (refl, (refl, (refl, (refl, tt)))))))

unfoldable pub ladder_down : Table
ladder_down = run ladder ladder_table (map step down_steps)

unfoldable pub ladder_up : Table
ladder_up = run ladder ladder_table (map step up_steps)

pub ladder_ends : (lowest_marked ladder_down 4 ≡ none) × (lowest_marked ladder_up 4 ≡ none)
unfolding machine ladder ladder_table down_steps up_steps ladder_down ladder_up run
ladder_ends = (refl, refl)

pub ladder_same : (ladder_down 3 ≡ held (num (pos 4)) unmarked) × (ladder_up 3 ≡ held (num (pos 4)) unmarked)
unfolding machine ladder ladder_table down_steps up_steps ladder_down ladder_up run
ladder_same = (refl, refl)

-- an entry and a figure that sums it, stored and marked refresh, when the entry is posted to again
unfoldable pub pair : Sheet
pair = entry ∷ figure sum true defer (0 ∷ []) ∷ []

unfoldable pub pair_table : Table
pair_table = run pair (open_full pair) (post 0 3 (pos 1) ∷ step 0 ∷ post 0 3 (pos 2) ∷ [])

-- Four steps on two items, so a sequence need not be shorter than 2^n.
pub pair_steps : AllAccepted pair pair_table (map step (1 ∷ 1 ∷ 0 ∷ 1 ∷ []))
unfolding machine pair pair_table run
pair_steps = (refl, (refl, (refl, (refl, tt))))

-- the example sheet: entries 0, 1, 2; figure 3 = sum of items 0 and 2, kept; figure 4 = item 3 minus item 1
unfoldable pub day_sheet : Sheet
day_sheet =
    entry ∷ entry ∷ entry ∷ figure sum true defer (0 ∷ 2 ∷ []) ∷ figure difference false defer (3 ∷ 1 ∷ []) ∷ []

unfoldable pub day_calls : List Call
day_calls =
    post 0 3 (pos 1000) ∷ post 1 3 (pos 300) ∷ ask 4 ∷ post 2 3 (negsuc 199) ∷ ask 4 ∷ drop 0 ∷ ask 9 ∷ []

-- the numbers and readings of a list of calls
pub record Line : Type 0 where
  pub number : ℕ
  pub reading : Option Value

abbrev pub line : ℕ → Option Value → Line
line k v = record { number = k; reading = v }

unfoldable pub lines : Sheet → Table → List Call → List Line
lines S T [] = []
lines S T (c ∷ cs) = line (perform S T c).number (perform S T c).reading ∷ lines S (perform S T c).table cs

pub day_lines : lines day_sheet (open_bare day_sheet) day_calls
    ≡ line 0 none ∷ line 0 none ∷ line 0 (some (num (pos 700))) ∷ line 0 none ∷ line 0 (some (num (pos 500))) ∷ line 12 none ∷ line 11 none ∷ []
unfolding machine day_sheet day_calls lines
day_lines = refl

-- A swap between two entries that hold NULL, which counts as 0; what is lost is gained. And back again: both hold 0.
unfoldable pub two_entries : Sheet
two_entries = entry ∷ entry ∷ []

unfoldable pub swapped_once : Table
swapped_once = run two_entries (open_bare two_entries) (swap 0 1 (pos 3) ∷ [])

pub swap_of_null : ((perform two_entries (open_bare two_entries) (swap 0 1 (pos 3))).number ≡ 0)
    × (swapped_once 0 ≡ held (num (negsuc 2)) notice)
    × (swapped_once 1 ≡ held (num (pos 3)) notice)
unfolding machine two_entries swapped_once run
swap_of_null = (refl, refl, refl)

pub swap_back : (run two_entries swapped_once (swap 1 0 (pos 3) ∷ []) 0 ≡ held (num (pos 0)) notice)
    × (run two_entries swapped_once (swap 1 0 (pos 3) ∷ []) 1 ≡ held (num (pos 0)) notice)
unfolding machine two_entries swapped_once run
swap_back = (refl, refl)
