-- 02's job 8, its words: sequences of swaps alone and the sum of the entries, what a swap's answer and postings follow from, and what it counts
-- as for the two offices. Assumes nothing.
use Rattle.std.specs.Prelude.{ℕ, ◌≡◌, List, [], ◌∷◌, map, ◌↔◌, ℤ, ◌+ℤ◌, ◌-ℤ◌}
use Rattle.circuit.specs.Value.{num}
use Rattle.circuit.specs.Sheet.{Entries}
use Rattle.circuit.specs.Call.{Call, post, swap, posting}
use Rattle.circuit.specs.Swap.{counted, sum_of}
use Rattle.layout.specs.Opened.{sheet_of}
use Rattle.office.specs.Office.{Office, call_on, run_on}
use Rattle.office.specs.Demand1Words.{swap_causes, numbers_in, First, NoneHolds}
use Rattle.office.specs.Demand2Words.{entries_in}
use Rattle.office.specs.Demand3Words.{made_on, postings_on}

-- ---- the sum

-- a swap's arguments
pub record Swapping : Type 0 where
  pub giver : ℕ
  pub taker : ℕ
  pub quantity : ℤ

-- a sequence of swaps alone
abbrev pub swaps_of : List Swapping → List Call
swaps_of xs = map (λ x. swap x.giver x.taker x.quantity) xs

-- "the exact sum of all entries, NULL as 0", of a table
abbrev pub sum_in : List ℕ → List ℕ → ℤ
sum_in s t = sum_of (sheet_of s) (entries_in t)

-- ---- what a swap follows from

-- A swap at an office that keeps p, where the fresh office holds the entries E: its answer and its postings follow from its arguments and
-- these values, NULL as 0. So a wrong swap cannot agree with the fresh office, which is fed the postings of swaps.
pub record SwapFollows (s : List ℕ) (p : Office) (E : Entries) (giver taker : ℕ) (quantity : ℤ) : Type 0 where
  -- it is refused with number k exactly if this number's cause is the first that holds, and accepted exactly if none does
  pub refused : (k : ℕ) → ¬ (k ≡ 0)
      → ((call_on s p (swap giver taker quantity)).number ≡ k) ↔ First (swap_causes (sheet_of s) (λ i. counted (E i)) giver taker quantity) k
  pub accepted : ((call_on s p (swap giver taker quantity)).number ≡ 0) ↔ NoneHolds (swap_causes (sheet_of s) (λ i. counted (E i)) giver taker quantity)
  pub offset_0 : (call_on s p (swap giver taker quantity)).offset ≡ 0
  -- the giver's value less the quantity, the taker's plus it
  pub made : (call_on s p (swap giver taker quantity)).number ≡ 0
      → made_on s p (swap giver taker quantity) ≡ posting giver (num (counted (E giver) -ℤ quantity)) ∷ posting taker (num (counted (E taker) +ℤ quantity)) ∷ []
  pub none_made : ¬ ((call_on s p (swap giver taker quantity)).number ≡ 0) → made_on s p (swap giver taker quantity) ≡ []

-- ---- what a swap counts as

-- the two posts of a swap at an office that keeps o: the giver's, and then the taker's
abbrev pub posts_of : Office → ℕ → ℕ → ℤ → List Call → List Call
posts_of o giver taker quantity cs =
    post giver 3 (numbers_in o.table giver -ℤ quantity) ∷ post taker 3 (numbers_in o.table taker +ℤ quantity) ∷ cs

-- 02's "For the two offices a swap counts as its two postings": with either at the front of a list, the same postings are made, and the
-- office keeps the same afterwards.
pub record CountsAsPosts (s : List ℕ) (o : Office) (giver taker : ℕ) (quantity : ℤ) (cs : List Call) : Type 0 where
  pub posts : postings_on s o (swap giver taker quantity ∷ cs) ≡ postings_on s o (posts_of o giver taker quantity cs)
  pub keeps : run_on s o (swap giver taker quantity ∷ cs) ≡ run_on s o (posts_of o giver taker quantity cs)
