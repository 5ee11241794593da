-- What a swap's functions give: the cause of its items, and its results or that either is beyond the range. Assumes nothing.
use Rattle.std.specs.Prelude.{ℕ, ◌<◌, ◌≡◌, false, cond, ◌&&◌, ◌||◌, [], ◌∷◌, ℤ, ◌+ℤ◌, ◌-ℤ◌, Option, Some, None}
use Rattle.circuit.specs.Value.{Value, in_range}
use Rattle.circuit.specs.Sheet.{Sheet, size, item_at, is_figure}
use Rattle.circuit.specs.Swap.{counted}
use Rattle.circuit.specs.Calls.{test, first_cause, no_item, not_entry}
use Rattle.call_swap.specs.declared.Results.{Results}

-- 11 of either item, then 12 of either
abbrev pub items_cause : Sheet → ℕ → ℕ → ℕ
items_cause S giver taker = first_cause (test 11 (no_item S giver || no_item S taker) ∷ test 12 (not_entry S giver || not_entry S taker) ∷ [])

-- two items of the sheet that are entries, by their numbers
pub record Entries (S : Sheet) (giver taker i j : ℕ) : Type 0 where
  pub giver_is : i ≡ giver
  pub taker_is : j ≡ taker
  pub giver_low : i < size S
  pub taker_low : j < size S
  pub giver_entry : is_figure (item_at S i) ≡ false
  pub taker_entry : is_figure (item_at S j) ≡ false

-- what the giver is left with and what the taker comes to, or that either is beyond the range
pub data Swapped : Type 0 where
  within : ℤ → ℤ → Swapped
  beyond : Swapped

abbrev pub results_meaning : Option Results → Swapped
results_meaning (Some r) = within r.left r.come
results_meaning None = beyond

-- "the first loses it, the second gains it, NULL counting as 0", by the values that the two hold
abbrev pub swap_results : Value → Value → ℤ → Swapped
swap_results giver taker quantity =
    let left : ℤ = counted giver -ℤ quantity in
    let come : ℤ = counted taker +ℤ quantity in
    cond (in_range left && in_range come) (within left come) beyond
