-- 01's fresh office, a plain machine beside the engine. It is fed the sheet, the calls' arguments and the postings that a
-- later request's call makes (02's swap does), and nothing else from an index or work table: nothing here names a cell or a table,
-- or what a call of the engine tests or does; 11 and 12 are read off the sheet. Assumes nothing.
use Rattle.std.specs.Prelude.{ℕ, zero, suc, Bool, cond, not, ◌&&◌, ◌||◌, List, [], ◌∷◌, map, eqb, leb, ℤ, nat_abs}
use Rattle.std.proofs.Math.Option.{Option, none, some}
use Rattle.circuit.specs.Value.{Value, null, num, limit}
use Rattle.circuit.specs.Rules.{apply}
use Rattle.circuit.specs.Sheet.{Sheet, Item, entry, figure, item_at, is_figure, beyond, Entries}
use Rattle.circuit.specs.Call.{Call, post, keep, drop, step, ask, board, close, swap, Posting}

-- what it is fed besides the sheet: a call's arguments, or a posting that a later request's call makes
pub data Event : Type 0 where
  called : Call → Event
  posted : Posting → Event

-- What it is fed of a call that made the postings ps: of a swap these postings alone, of any other call the arguments alone.
abbrev pub fed : Call → List Posting → List Event
fed (post i kind z) ps = called (post i kind z) ∷ []
fed (keep i) ps = called (keep i) ∷ []
fed (drop i) ps = called (drop i) ∷ []
fed (step i) ps = called (step i) ∷ []
fed (ask i) ps = called (ask i) ∷ []
fed (board items results) ps = called (board items results) ∷ []
fed close ps = called close ∷ []
fed (swap giver taker quantity) ps = map posted ps

-- Its state is one value for each entry (`Entries`), all NULL at an opening.
abbrev pub blank : Entries
blank = λ i. null

abbrev pub set_entry : Entries → ℕ → Value → Entries
set_entry E e v = λ j. cond (eqb j e) v (E j)

-- Cause 13 does not hold: the kind is 1 and the number 0, or the kind is 3 and the number within the range.
unfoldable pub postable : ℕ → ℤ → Bool
postable kind z = (eqb kind 1 && eqb (nat_abs z) 0) || (eqb kind 3 && leb (nat_abs z) limit)

-- what is posted then: NULL for kind 1, else the number
abbrev pub posted_as : ℕ → ℤ → Value
posted_as kind z = cond (eqb kind 1) null (num z)

-- A post has cause 11 (item n or more), 12 (a figure) or 13.
unfoldable pub has_cause : Sheet → ℕ → ℕ → ℤ → Bool
has_cause S i kind z = beyond S i || (is_figure (item_at S i) || not (postable kind z))

-- A post with a cause changes nothing; any other sets its entry to what was posted. Keep, drop, step, ask, board and close
-- change nothing, refused or not. A swap's arguments, which it is not fed, would change nothing. A posting that a later request's call
-- makes sets its entry, whatever the value or the entry.
unfoldable pub hear : Sheet → Entries → Event → Entries
hear S E (called (post i kind z)) = cond (has_cause S i kind z) E (set_entry E i (posted_as kind z))
hear S E (called (keep i)) = E
hear S E (called (drop i)) = E
hear S E (called (step i)) = E
hear S E (called (ask i)) = E
hear S E (called (board items results)) = E
hear S E (called close) = E
hear S E (called (swap giver taker quantity)) = E
hear S E (posted p) = set_entry E p.entry p.value

unfoldable pub hear_all : Sheet → Entries → List Event → Entries
hear_all S E [] = E
hear_all S E (e ∷ es) = hear_all S (hear S E e) es

-- for an entry the value held, for a figure its rule applied to what is given for the parents, in their listed order
abbrev pub give_item : (ℕ → Value) → Item → Value → Value
give_item give entry v = v
give_item give (figure op kept spread ps) v = apply op (map give ps)

-- The first argument bounds how far up the circuit the parents go. As parents have lower numbers, i + 1 is enough for item
-- i; the equations without a bound stand in Equations.
unfoldable pub give_for : ℕ → Sheet → Entries → ℕ → Value
give_for zero S E i = null
give_for (suc fuel) S E i = give_item (give_for fuel S E) (item_at S i) (E i)

unfoldable pub give : Sheet → Entries → ℕ → Value
give S E i = give_for (suc i) S E i

-- asked for an item: for item n or more no value
unfoldable pub fresh_ask : Sheet → Entries → ℕ → Option Value
fresh_ask S E i = cond (beyond S i) none (some (give S E i))

-- asked for the items of a board one after another: their values, or none where one of them is n or more
abbrev pub values_with : Option Value → Option (List Value) → Option (List Value)
values_with none vs = none
values_with (some v) none = none
values_with (some v) (some vs) = some (v ∷ vs)

unfoldable pub fresh_asks : Sheet → Entries → List ℕ → Option (List Value)
fresh_asks S E [] = some []
fresh_asks S E (i ∷ is) = values_with (fresh_ask S E i) (fresh_asks S E is)
