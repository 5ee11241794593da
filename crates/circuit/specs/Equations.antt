-- Looking up, working out, catching up and the fresh office recurse with a bound on the depth or on the number of steps,
-- which 01 does not have, and owed has one that 02 does not have. Here are their equations without a bound, those of telling and of the
-- season-close run, and what the rules make of OUT and NULL, in the papers' words, for every sheet whose parents have lower numbers, every
-- table and every item. Proved in proofs/Equations. Assumes nothing.
use Rattle.std.specs.Prelude.{ℕ, suc, ◌<◌, ◌≤◌, ◌≡◌, ◌⊎◌, ◌↔◌, Bool, true, false, ◌||◌, List, [], ◌∷◌, ◌++◌, map, ℤ, pos}
use Rattle.std.proofs.Math.Option.{none, some}
use Rattle.std.specs.Int.Signed.{lt_z}
use Rattle.circuit.specs.Value.{Value, null, out, num}
use Rattle.circuit.specs.Rules.{Operation, sum, choice, apply}
use Rattle.circuit.specs.Sheet.{Sheet, Item, Spread, defer, renew, entry, figure, size, item_at, parents, kept_of, spread_of, Ordered, Entries, circuit_of}
use Rattle.circuit.specs.Table.{Table, Cell, Mark, unmarked, refresh, notice, unk, held, upd, is_stored, value_in, is_notice, notice_if, is_marked}
use Rattle.circuit.specs.Owed.{owed}
use Rattle.circuit.specs.Machine.{Looked, looked, Gathered, gathered, gather, look_up, work_out, refresh_cleared, tell_child, tell_below, tell, step_item, lowest_marked, catch_up}
use Rattle.circuit.specs.Closing.{close_below, close_all}
use Rattle.circuit.specs.Circuit.{Listed, LeadsTo}
use Rattle.circuit.specs.Fresh.{give, fresh_ask}
use Rattle.circuit.specs.Words.{Quiet, CaughtUp, CaughtUpBy}

-- What the rules make of OUT and NULL parents. 01's "Any OUT parent gives OUT" is said of every rule but choice, since 02's job 6.
pub record OutAndNull : Type 0 where
  pub any_out : (op : Operation) → ¬ (op ≡ choice) → (before after : List Value) → apply op (before ++ (out ∷ after)) ≡ out
  -- Choice: "a first parent that is OUT gives OUT, NULL gives NULL, and otherwise the picked parent's value is the result, OUT and NULL
  -- included."
  pub first_out : (b c : Value) → apply choice (out ∷ b ∷ c ∷ []) ≡ out
  pub first_null : (b c : Value) → apply choice (null ∷ b ∷ c ∷ []) ≡ null
  pub picks_second : (z : ℤ) (b c : Value) → lt_z (pos 0) z ≡ true → apply choice (num z ∷ b ∷ c ∷ []) ≡ b
  pub picks_third : (z : ℤ) (b c : Value) → lt_z (pos 0) z ≡ false → apply choice (num z ∷ b ∷ c ∷ []) ≡ c
  -- NULL alone gives NULL, by every rule; so the NULLs of a full opening are right
  pub all_null : (op : Operation) (ps : List ℕ) → apply op (map (λ p. null) ps) ≡ null

-- an item whatever its rule is, and a cell whatever its value is
abbrev pub ruleless : Item → Item
ruleless entry = entry
ruleless (figure op keep spread ps) = figure sum keep spread ps

abbrev pub valueless : Cell → Cell
valueless (unk f) = unk f
valueless (held v m) = held null m

-- 01's "looking up" and "working out". `gather (look_up S) T ps` looks the items ps up, one after the other.
pub record LookingUp (S : Sheet) (T : Table) : Type 0 where
  -- Looking up a stored item gives its value, flagged if its mark is notice. The table is left.
  pub stored : (i : ℕ) (v : Value) (m : Mark) → T i ≡ held v m → look_up S T i ≡ looked T v (is_notice m)
  -- Looking up an UNK figure looks up its parents in their listed order and applies the rule. It is flagged if any parent
  -- was, or if its own mark is notice. With keep 0 nothing more is stored.
  pub passed : (i : ℕ) (own : Bool) (op : Operation) (spread : Spread) (ps : List ℕ)
      → item_at S i ≡ figure op false spread ps → T i ≡ unk own
      → let g : Gathered = gather (look_up S) T ps in
      look_up S T i ≡ looked g.table (apply op g.values) (g.flag || own)
  -- With keep 1 the result is stored, and if flagged the mark becomes notice.
  pub kept : (i : ℕ) (own : Bool) (op : Operation) (spread : Spread) (ps : List ℕ)
      → item_at S i ≡ figure op true spread ps → T i ≡ unk own
      → let g : Gathered = gather (look_up S) T ps in
      let value : Value = apply op g.values in
      let flag : Bool = g.flag || own in
      look_up S T i ≡ looked (upd g.table i (held value (notice_if flag))) value flag
  -- Working out a figure looks up its parents in their listed order and applies the rule. It is flagged if any parent was.
  pub worked : (i : ℕ) (op : Operation) (keep : Bool) (spread : Spread) (ps : List ℕ)
      → item_at S i ≡ figure op keep spread ps
      → let g : Gathered = gather (look_up S) T ps in
      work_out S T i ≡ looked g.table (apply op g.values) g.flag
  -- of no items
  pub none_gathered : gather (look_up S) T [] ≡ gathered T [] false
  -- of an item and the rest, which are looked up on the table that the first left
  pub next_gathered : (p : ℕ) (ps : List ℕ)
      → let r : Looked = look_up S T p in
      let g : Gathered = gather (look_up S) r.table ps in
      gather (look_up S) T (p ∷ ps) ≡ gathered g.table (r.value ∷ g.values) (r.flag || g.flag)
  -- Every parent is looked up, also what a choice does not pick: it is stored afterwards if it was, or if its keep byte is 1.
  pub each_parent : (i p : ℕ) → Listed p (parents S i) → is_stored ((work_out S T i).table p) ≡ (is_stored (T p) || kept_of (item_at S p))
  -- What is stored and flagged does not depend on the rules: on a sheet R that is S but for its figures' rules, the same cells are
  -- stored, with the same marks.
  pub whatever_rules : (R : Sheet) → ((k : ℕ) → ruleless (item_at R k) ≡ ruleless (item_at S k)) → (i : ℕ)
      → ((k : ℕ) → valueless ((look_up R T i).table k) ≡ valueless ((look_up S T i).table k)) × ((look_up R T i).flag ≡ (look_up S T i).flag)

-- a child makes its parent owed: it "is stored, or is UNK and itself owed", where w says what is owed
abbrev pub Leaning : (ℕ → Bool) → Table → ℕ → Type 0
Leaning w T c = (is_stored (T c) ≡ true) ⊎ ((is_stored (T c) ≡ false) × (w c ≡ true))

abbrev pub SomeChild : (ℕ → Bool) → Sheet → Table → ℕ → Type 0
SomeChild w S T i = (c : ℕ) × (Listed i (parents S c) × Leaning w T c)

-- 02's "owed": "1 if some child is stored, or is UNK and itself owed; else 0".
pub record Owing (S : Sheet) (T : Table) : Type 0 where
  pub some_child_lem : (i : ℕ) → (owed S T i ≡ true) ↔ SomeChild (owed S T) S T i
  -- this says it of no other
  pub only : (w : ℕ → Bool) → ((i : ℕ) → (w i ≡ true) ↔ SomeChild w S T i) → (i : ℕ) → w i ≡ owed S T i
  -- an item is owed exactly if it leads to one that is stored
  pub leads : (i : ℕ) → (owed S T i ≡ true) ↔ ((k : ℕ) × (LeadsTo (circuit_of S) i k × (is_stored (T k) ≡ true)))
  -- Telling goes by the table as it then is; what is owed then is what was at the start.
  pub when_told : (i k j : ℕ) → owed S (tell_below S i T k) j ≡ owed S T j
  -- where i is not owed, telling changes nothing
  pub none_called : (i : ℕ) → owed S T i ≡ false → tell S T i ≡ T
  -- A step changes nothing of what is owed, nor does catching up: what they store was owed already, and nothing that is stored is dropped.
  pub stepped : (i k : ℕ) → owed S (step_item S T i) k ≡ owed S T k
  pub caught_up : (k : ℕ) → owed S (catch_up S T) k ≡ owed S T k

-- 01's "telling" a child c, with 02's job 5, by its cell and its spread; `r` is what working it out gives.
pub record TellingChild (S : Sheet) (T : Table) (c : ℕ) : Type 0 where
  -- An UNK child gets notice if it is owed, and is passed over if it is not.
  pub calls_on : (f : Bool) → T c ≡ unk f → owed S T c ≡ true → tell_child S T c ≡ upd T c (unk true)
  pub passes_over : (f : Bool) → T c ≡ unk f → owed S T c ≡ false → tell_child S T c ≡ T
  -- Defer sets refresh, unless its mark is notice, when it acts as renew.
  pub defers : (v : Value) (m : Mark) → T c ≡ held v m → spread_of (item_at S c) ≡ defer → is_notice m ≡ false
      → tell_child S T c ≡ upd T c (held v refresh)
  pub renews : (v : Value) (m : Mark) → T c ≡ held v m
      → (spread_of (item_at S c) ≡ renew) ⊎ ((spread_of (item_at S c) ≡ defer) × (is_notice m ≡ true))
      → let r : Looked = work_out S T c in
      -- Renew works it out; if different, store it with notice; if equal, clear a refresh and let a notice be.
      ((r.value ≡ v) → tell_child S T c ≡ upd r.table c (held v (refresh_cleared m)))
      × ((¬ (r.value ≡ v)) → tell_child S T c ≡ upd r.table c (held r.value notice))

-- Telling goes over the children, lowest first, once each: the children of i below k, and then item k if it is one.
pub record Telling (S : Sheet) (i : ℕ) (T : Table) : Type 0 where
  pub all : tell S T i ≡ tell_below S i T (size S)
  pub none_told : tell_below S i T 0 ≡ T
  pub child_told : (k : ℕ) → Listed i (parents S k) → tell_below S i T (suc k) ≡ tell_child S (tell_below S i T k) k
  pub passed_over : (k : ℕ) → ¬ Listed i (parents S k) → tell_below S i T (suc k) ≡ tell_below S i T k

-- 02's season-close run goes over the items once, lowest first: the items below k, and then item k, which is stored without a mark.
-- An entry keeps its value. A figure is worked out, in 01's sense, from the table as the run has left it so far; its parents' cells are
-- written already, so looking them up stores nothing and flags nothing, and the result is the rule's on the values in them.
pub record Closing (S : Sheet) (T : Table) : Type 0 where
  pub all : close_all S T ≡ close_below S T (size S)
  pub none_closed : close_below S T 0 ≡ T
  pub entry_closed : (k : ℕ) → item_at S k ≡ entry → close_below S T (suc k) ≡ upd (close_below S T k) k (held (value_in (T k)) unmarked)
  pub figure_closed : (k : ℕ) (op : Operation) (keep : Bool) (spread : Spread) (ps : List ℕ) → item_at S k ≡ figure op keep spread ps
      → let U : Table = close_below S T k in
      let value : Value = apply op (map (λ p. value_in (U p)) ps) in
      (close_below S T (suc k) ≡ upd U k (held value unmarked)) × (work_out S U k ≡ looked U value false)

-- What the fresh office gives, with the entries E as its state.
pub record FreshGives (S : Sheet) (E : Entries) : Type 0 where
  -- asked for an item of the sheet it gives a value
  pub given : (i : ℕ) → i < size S → fresh_ask S E i ≡ some (give S E i)
  -- for an entry the value held
  pub of_entry : (i : ℕ) → item_at S i ≡ entry → give S E i ≡ E i
  -- for a figure, the figure's rule applied to what it gives for the parents, in their listed order
  pub of_figure : (i : ℕ) (op : Operation) (keep : Bool) (spread : Spread) (ps : List ℕ)
      → item_at S i ≡ figure op keep spread ps → give S E i ≡ apply op (map (give S E) ps)
  -- for item n or more, no value
  pub of_none : (i : ℕ) → size S ≤ i → fresh_ask S E i ≡ none

-- item i is below n and marked, and no item below it is
pub record MarkedFirst (T : Table) (n i : ℕ) : Type 0 where
  pub below : i < n
  pub marked : is_marked (T i) ≡ true
  pub first : (j : ℕ) → j < i → is_marked (T j) ≡ false

-- The lowest marked item is what it is called: there is none exactly if no item below n is marked.
pub record LowestFound (T : Table) (n : ℕ) : Type 0 where
  pub no_item : (lowest_marked T n ≡ none) ↔ ((i : ℕ) → i < n → is_marked (T i) ≡ false)
  pub item : (i : ℕ) → (lowest_marked T n ≡ some i) ↔ MarkedFirst T n i

-- Catching up: "step the lowest marked item until none is marked" (`CaughtUp`) leads to this table and to no other, and no
-- mark stands on it. Whatever counts as owed besides (`CaughtUpBy`), it leads to the same table and to no other: also if all items do, as
-- before 02's job 5.
pub record CatchingUp (S : Sheet) (T : Table) : Type 0 where
  pub reached : CaughtUp S T (catch_up S T)
  pub only : (U : Table) → CaughtUp S T U → U ≡ catch_up S T
  pub quiet : Quiet S (catch_up S T)
  pub reached_by : (w : ℕ → Bool) → ((c : ℕ) → owed S T c ≡ true → w c ≡ true) → CaughtUpBy w S T (catch_up S T)
  pub only_by : (w : ℕ → Bool) → ((c : ℕ) → owed S T c ≡ true → w c ≡ true) → (U : Table) → CaughtUpBy w S T U → U ≡ catch_up S T

pub record Equations : Type 0 where
  pub out_and_null : OutAndNull
  pub looking : (S : Sheet) → Ordered S → (T : Table) → LookingUp S T
  pub owing : (S : Sheet) → Ordered S → (T : Table) → Owing S T
  pub telling_child : (S : Sheet) (T : Table) (c : ℕ) → TellingChild S T c
  pub telling : (S : Sheet) (i : ℕ) (T : Table) → Telling S i T
  pub closing : (S : Sheet) → Ordered S → (T : Table) → Closing S T
  pub fresh : (S : Sheet) → Ordered S → (E : Entries) → FreshGives S E
  pub lowest : (T : Table) (n : ℕ) → LowestFound T n
  pub catching : (S : Sheet) → Ordered S → (T : Table) → CatchingUp S T
