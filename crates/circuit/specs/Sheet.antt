-- 01's "sheet" as the machine sees it: its items in order. Assumes nothing.
use Rattle.std.specs.Prelude.{ℕ, zero, suc, ◌<◌, Bool, true, false, ◌||◌, not, List, [], ◌∷◌, eqb, leb, length, get_or}
use Rattle.circuit.specs.Value.{Value, null}
use Rattle.circuit.specs.Rules.{Operation, apply}
use Rattle.circuit.specs.Circuit.{Circuit, Listed}

-- what a stored figure does when a parent's change is told
pub data Spread : Type 0 where
  defer renew : Spread

pub data Item : Type 0 where
  entry : Item
  -- its operation, whether it is kept (the keep byte is 1), its spread, its parents
  figure : Operation → Bool → Spread → List ℕ → Item

abbrev pub Sheet : Type 0
Sheet = List Item

-- n, the item count
abbrev pub size : Sheet → ℕ
size S = length S

-- the item of a number; an entry beyond the sheet, where nothing is asked of it
abbrev pub item_at : Sheet → ℕ → Item
item_at S i = get_or S i entry

abbrev pub is_figure : Item → Bool
is_figure entry = false
is_figure (figure op keep spread ps) = true

abbrev pub parents_of : Item → List ℕ
parents_of entry = []
parents_of (figure op keep spread ps) = ps

abbrev pub kept_of : Item → Bool
kept_of entry = false
kept_of (figure op keep spread ps) = keep

abbrev pub spread_of : Item → Spread
spread_of entry = defer
spread_of (figure op keep spread ps) = spread

abbrev pub parents : Sheet → ℕ → List ℕ
parents S i = parents_of (item_at S i)

-- each parent is a lower item number
abbrev pub Ordered : Sheet → Type 0
Ordered S = (i p : ℕ) → Listed p (parents S i) → p < i

-- item number n or more
abbrev pub beyond : Sheet → ℕ → Bool
beyond S i = leb (size S) i

unfoldable pub member : ℕ → List ℕ → Bool
member i [] = false
member i (p ∷ ps) = eqb i p || member i ps

-- c is a child of i: it lists i as a parent
abbrev pub is_child : Sheet → ℕ → ℕ → Bool
is_child S i c = member i (parents S c)

-- The values that the entries hold, by item number.
abbrev pub Entries : Type 0
Entries = ℕ → Value

-- an item's value by its parents' values: an entry has the value it holds
abbrev pub evaluate : Item → Value → List Value → Value
evaluate entry held vs = held
evaluate (figure op keep spread ps) held vs = apply op vs

-- the numbers below n
abbrev pub numbers_below : ℕ → List ℕ
numbers_below zero = []
numbers_below (suc n) = n ∷ numbers_below n

-- The circuit of a sheet: its items are the numbers below n, its inputs are the entries, and a figure's function is its
-- rule. (An entry has no function; what stands for it here is never used.) The inputs' values are those that the entries
-- hold: `IsSolution (circuit_of S) E values`.
abbrev pub circuit_of : Sheet → Circuit ℕ Value
circuit_of S =
    record {
      items = numbers_below (size S);
      parents = parents S;
      is_input = λ i. not (is_figure (item_at S i));
      rule = λ i. evaluate (item_at S i) null;
    }
