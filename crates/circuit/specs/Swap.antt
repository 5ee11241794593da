-- 02's swap, by the values that the entries hold: "the first loses it, the second gains it, NULL counting as 0". The results are exact,
-- whatever the quantity. Assumes nothing.
use Rattle.std.specs.Prelude.{ℕ, zero, suc, Bool, cond, not, ◌&&◌, ◌||◌, List, [], ◌∷◌, eqb, ℤ, pos, ◌+ℤ◌, ◌-ℤ◌}
use Rattle.std.specs.Int.Signed.{lt_z}
use Rattle.circuit.specs.Value.{Value, num, in_range, number_of}
use Rattle.circuit.specs.Sheet.{Sheet, Entries, size, item_at, is_figure}
use Rattle.circuit.specs.Call.{Posting, posting}

-- "NULL counting as 0": a value's number, which is 0 unless the value is a number (an entry is never OUT)
abbrev pub counted : Value → ℤ
counted v = number_of v

-- what the giver is left with, and what the taker comes to
abbrev pub left_with : Entries → ℕ → ℤ → ℤ
left_with E giver quantity = counted (E giver) -ℤ quantity

abbrev pub comes_to : Entries → ℕ → ℤ → ℤ
comes_to E taker quantity = counted (E taker) +ℤ quantity

-- 18: "one entry on both sides or a quantity under 1"
unfoldable pub no_swap : ℕ → ℕ → ℤ → Bool
no_swap giver taker quantity = eqb giver taker || lt_z quantity (pos 1)

-- 13: either result is beyond the range
unfoldable pub results_beyond : Entries → ℕ → ℕ → ℤ → Bool
results_beyond E giver taker quantity = not (in_range (left_with E giver quantity) && in_range (comes_to E taker quantity))

-- its two postings, "the giver first"
abbrev pub swap_postings : Entries → ℕ → ℕ → ℤ → List Posting
swap_postings E giver taker quantity =
    posting giver (num (left_with E giver quantity)) ∷ posting taker (num (comes_to E taker quantity)) ∷ []

-- "the exact sum of all entries, NULL as 0": of those below k, and of all
unfoldable pub sum_below : Sheet → Entries → ℕ → ℤ
sum_below S E zero = pos 0
sum_below S E (suc k) = sum_below S E k +ℤ cond (is_figure (item_at S k)) (pos 0) (counted (E k))

abbrev pub sum_of : Sheet → Entries → ℤ
sum_of S E = sum_below S E (size S)
