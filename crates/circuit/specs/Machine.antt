-- 01's "Calls", on a table that is well formed: looking up, working out, storing a posting, keeping, dropping, telling,
-- stepping and catching up. Two of them recurse with a bound; Equations has them without. The refusals stand in Calls.
-- Assumes nothing.
use Rattle.std.specs.Prelude.{ℕ, zero, suc, ◌*◌, Bool, true, false, cond, ◌||◌, List, [], ◌∷◌}
use Rattle.std.proofs.Math.Option.{Option, none, some}
use Rattle.circuit.specs.Value.{Value, null, same}
use Rattle.circuit.specs.Sheet.{Sheet, Item, Spread, defer, renew, size, item_at, parents, kept_of, spread_of, is_child, evaluate}
use Rattle.circuit.specs.Table.{Table, Cell, Mark, unmarked, refresh, notice, unk, held, upd, is_notice, notice_if, is_marked}
use Rattle.circuit.specs.Owed.{owed}

-- what looking up or working out an item gives: the table afterwards, the value, and whether it is flagged
pub record Looked : Type 0 where
  pub table : Table
  pub value : Value
  pub flag : Bool

abbrev pub looked : Table → Value → Bool → Looked
looked T v f = record { table = T; value = v; flag = f }

-- several items looked up one after the other: the values in order, flagged if any item was
pub record Gathered : Type 0 where
  pub table : Table
  pub values : List Value
  pub flag : Bool

abbrev pub gathered : Table → List Value → Bool → Gathered
gathered T vs f = record { table = T; values = vs; flag = f }

abbrev pub and_then : Looked → Gathered → Gathered
and_then r g = gathered g.table (r.value ∷ g.values) (r.flag || g.flag)

-- the items ps looked up in their listed order, each on the table that the one before it left
unfoldable pub gather : (Table → ℕ → Looked) → Table → List ℕ → Gathered
gather look T [] = gathered T [] false
gather look T (p ∷ ps) = and_then (look T p) (gather look (look T p).table ps)

abbrev pub rule_on : Item → Gathered → Looked
rule_on it g = looked g.table (evaluate it null g.values) g.flag

-- Working out figure i: its parents are looked up and its rule applied. It is flagged if any parent was.
unfoldable pub work_out_by : (Table → ℕ → Looked) → Sheet → Table → ℕ → Looked
work_out_by look S T i = rule_on (item_at S i) (gather look T (parents S i))

-- the result is stored at i, with mark notice if it is flagged
abbrev pub store_result : ℕ → Looked → Table
store_result i r = upd r.table i (held r.value (notice_if r.flag))

abbrev pub store_if : Bool → ℕ → Looked → Looked
store_if true i r = looked (store_result i r) r.value r.flag
store_if false i r = r

-- flagged also where f is true
abbrev pub flagged : Bool → Looked → Looked
flagged f r = looked r.table r.value (r.flag || f)

-- Looking up, by the item's cell: what is stored is given, with the flag of a notice; an UNK figure is worked out, its own
-- notice flags it too, and the result is stored where the figure is kept.
abbrev pub look_cell : (Table → ℕ → Looked) → Sheet → Table → ℕ → Cell → Looked
look_cell look S T i (held v m) = looked T v (is_notice m)
look_cell look S T i (unk f) = store_if (kept_of (item_at S i)) i (flagged f (work_out_by look S T i))

-- Looking up and working out call each other up the circuit; the first argument bounds how far. As parents have lower
-- numbers, i + 1 is enough for item i.
unfoldable pub look_for : ℕ → Sheet → Table → ℕ → Looked
look_for zero S T i = looked T null false
look_for (suc fuel) S T i = look_cell (look_for fuel S) S T i (T i)

-- 01's "looking up"
unfoldable pub look_up : Sheet → Table → ℕ → Looked
look_up S T i = look_for (suc i) S T i

-- 01's "working out"
unfoldable pub work_out : Sheet → Table → ℕ → Looked
work_out S T i = work_out_by (look_up S) S T i

-- The storing of a posting: an equal value changes nothing, any other is stored with mark notice.
abbrev pub post_cell : Cell → Value → Cell
post_cell (unk f) v = held v notice
post_cell (held w m) v = cond (same w v) (held w m) (held v notice)

unfoldable pub store_posting : Table → ℕ → Value → Table
store_posting T e v = upd T e (post_cell (T e) v)

-- Keep: a figure that is not stored is looked up and stored, whatever its keep byte.
abbrev pub keep_cell : Sheet → Table → ℕ → Cell → Table
keep_cell S T i (unk f) = store_result i (look_up S T i)
keep_cell S T i (held v m) = T

unfoldable pub keep_figure : Sheet → Table → ℕ → Table
keep_figure S T i = keep_cell S T i (T i)

-- Drop: nothing stays stored, and a refresh turns into a notice.
abbrev pub dropped_mark : Mark → Bool
dropped_mark unmarked = false
dropped_mark refresh = true
dropped_mark notice = true

abbrev pub drop_cell : Cell → Cell
drop_cell (unk f) = unk f
drop_cell (held v m) = unk (dropped_mark m)

unfoldable pub drop_figure : Table → ℕ → Table
drop_figure T i = upd T i (drop_cell (T i))

-- A figure that holds v was worked out anew: an equal result leaves v, with mark m, and a different one is stored with
-- notice.
abbrev pub renewed : ℕ → Value → Mark → Looked → Table
renewed i v m r = upd r.table i (cond (same v r.value) (held v m) (held r.value notice))

-- a refresh is cleared, a notice stays
abbrev pub refresh_cleared : Mark → Mark
refresh_cleared unmarked = unmarked
refresh_cleared refresh = unmarked
refresh_cleared notice = notice

abbrev pub renew_child : Sheet → Table → ℕ → Value → Mark → Table
renew_child S T c v m = renewed c v (refresh_cleared m) (work_out S T c)

-- a stored child that defers: a refresh, or, where a notice stands, the same as renew
abbrev pub defer_child : Sheet → Table → ℕ → Value → Mark → Table
defer_child S T c v unmarked = upd T c (held v refresh)
defer_child S T c v refresh = upd T c (held v refresh)
defer_child S T c v notice = renew_child S T c v notice

abbrev pub tell_stored : Spread → Sheet → Table → ℕ → Value → Mark → Table
tell_stored defer S T c v m = defer_child S T c v m
tell_stored renew S T c v m = renew_child S T c v m

-- an UNK child that is called on gets notice; another is passed over
abbrev pub tell_unk : Bool → Table → ℕ → Table
tell_unk true T c = upd T c (unk true)
tell_unk false T c = T

abbrev pub tell_cell : Bool → Sheet → Table → ℕ → Cell → Table
tell_cell called S T c (unk f) = tell_unk called T c
tell_cell called S T c (held v m) = tell_stored (spread_of (item_at S c)) S T c v m

-- Telling one child: an UNK child is called on if it is owed, by the table as it then is; a stored one goes by its spread.
unfoldable pub tell_child : Sheet → Table → ℕ → Table
tell_child S T c = tell_cell (owed S T c) S T c (T c)

abbrev pub tell_if : Bool → Sheet → Table → ℕ → Table
tell_if true S T c = tell_child S T c
tell_if false S T c = T

-- the children of i below k are told, lowest first, once each
unfoldable pub tell_below : Sheet → ℕ → Table → ℕ → Table
tell_below S i T zero = T
tell_below S i T (suc k) = tell_if (is_child S i k) S (tell_below S i T k) k

-- 01's "telling": all the children of i
unfoldable pub tell : Sheet → Table → ℕ → Table
tell S T i = tell_below S i T (size S)

abbrev pub clear_cell : Cell → Cell
clear_cell (unk f) = unk false
clear_cell (held v m) = held v unmarked

unfoldable pub clear_mark : Table → ℕ → Table
clear_mark T i = upd T i (clear_cell (T i))

-- Step, by the cell of the item. Refresh: worked out anew from its parents, and the mark is cleared, or a new value is
-- stored with notice. Notice: the children are told, and then the mark is cleared. No mark: nothing.
abbrev pub step_mark : Sheet → Table → ℕ → Value → Mark → Table
step_mark S T i v unmarked = T
step_mark S T i v refresh = renewed i v unmarked (work_out S T i)
step_mark S T i v notice = clear_mark (tell S T i) i

abbrev pub step_cell : Sheet → Table → ℕ → Cell → Table
step_cell S T i (unk true) = clear_mark (tell S T i) i
step_cell S T i (unk false) = T
step_cell S T i (held v m) = step_mark S T i v m

unfoldable pub step_item : Sheet → Table → ℕ → Table
step_item S T i = step_cell S T i (T i)

-- the lowest marked item below k, if there is one
abbrev pub or_next : Option ℕ → Bool → ℕ → Option ℕ
or_next (some i) m k = some i
or_next none true k = some k
or_next none false k = none

unfoldable pub lowest_marked : Table → ℕ → Option ℕ
lowest_marked T zero = none
lowest_marked T (suc k) = or_next (lowest_marked T k) (is_marked (T k)) k

-- 01's "catching up" within an ask, and 02's within a board: the lowest marked item is stepped until none is marked. The number
-- bounds how often; that no item is marked afterwards shows that it never is the reason to stop.
abbrev pub step_lowest : (Table → Table) → Sheet → Table → Option ℕ → Table
step_lowest next S T none = T
step_lowest next S T (some i) = next (step_item S T i)

unfoldable pub catch_up_in : ℕ → Sheet → Table → Table
catch_up_in zero S T = T
catch_up_in (suc fuel) S T = step_lowest (catch_up_in fuel S) S T (lowest_marked T (size S))

unfoldable pub catch_up : Sheet → Table → Table
catch_up S T = catch_up_in (2 * size S) S T
