-- A call with its arguments as given, a posting, and an opening: what is handed in. What a call tests and does stands in
-- Calls. Assumes nothing.
use Rattle.std.specs.Prelude.{ℕ, List, map, ℤ}
use Rattle.circuit.specs.Value.{Value}

-- 01's five calls: the item, and of a post the kind and the number. 02's board: the bytes of its list of items, and of its list
-- of results as they are lent. 02's season-close run has no arguments. 02's swap: the giving entry, the taking entry and the quantity.
pub data Call : Type 0 where
  post : ℕ → ℕ → ℤ → Call
  keep drop step ask : ℕ → Call
  board : List ℕ → List ℕ → Call
  close : Call
  swap : ℕ → ℕ → ℤ → Call

-- a posting: an entry, and the value that it is set to
pub record Posting : Type 0 where
  pub entry : ℕ
  pub value : Value

abbrev pub posting : ℕ → Value → Posting
posting e v = record { entry = e; value = v }

-- the entries that are posted to
abbrev pub posted_to : List Posting → List ℕ
posted_to ps = map (λ p. p.entry) ps

-- 01's two openings
pub data Opening : Type 0 where
  bare full : Opening
