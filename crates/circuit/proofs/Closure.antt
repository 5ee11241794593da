-- What telling, stepping and catching up keep: a property of tables that looking up, working out and storing at some items
-- keep. Assumes nothing.
use Prim.Native.Nat.{ℕ, zero, suc, ◌<◌, ◌*◌}
use mathlib.Core.Path.{◌≡◌, refl}
use mathlib.Core.Bool.{Bool, true, false, ◌||◌, or-true}
use mathlib.Core.Logic.{◌⊎◌, inl, inr}
use mathlib.Core.List.{List, [], ◌∷◌}
use mathlib.Core.Option.{Option, none, some}
use native.Mathlib.Omega.{arith}
use lib.Dec.{eqb, ltb}
use lib.ListN.{get_or-eq_default}
use borrow.Author.Tests.{eqb-true, eq-eqb, ltb-true, ltb-false}
use Rattle.circuit.specs.Value.{Value, same}
use Rattle.circuit.specs.Circuit.{Listed}
use Rattle.circuit.specs.Sheet.{Sheet, entry, Spread, defer, renew, size, item_at, parents, spread_of, is_child, member}
use Rattle.circuit.specs.Table.{Table, Cell, Mark, unmarked, refresh, notice, unk, held, upd, is_marked}
use Rattle.circuit.specs.Owed.{owed}
use Rattle.circuit.specs.Machine.{work_out, tell_child, tell_cell, tell_stored, tell_if, tell_below, tell, clear_mark, step_item, step_cell, renewed}
use Rattle.circuit.specs.Machine.{or_next, lowest_marked, step_lowest, catch_up_in, catch_up}

-- a member of the list is listed
pub member_listed : (i : ℕ) (ps : List ℕ) → member i ps ≡ true → Listed i ps
unfolding member
member_listed i [] e = absurd (omega (arith, bad))
  where
    bad : ◌≡◌ {A = ℕ} 0 1
    bad = cc e
member_listed i (p ∷ ps) e = go (eqb i p) refl e (member_listed i ps)
  where
    go : (b : Bool) → eqb i p ≡ b → b || member i ps ≡ true → (member i ps ≡ true → Listed i ps) → (i ≡ p) ⊎ Listed i ps
    go true q e' rest = inl (eqb-true i p q)
    go false q e' rest = inr (rest e')

-- and a listed one is a member
pub listed_member : (i : ℕ) (ps : List ℕ) → Listed i ps → member i ps ≡ true
unfolding member
listed_member i [] l = absurd l
listed_member i (p ∷ ps) (inl e) = rw (eq-eqb i p e)
listed_member i (p ∷ ps) (inr l) = rw (listed_member i ps l) (or-true (eqb i p))

-- a figure lists a parent only within the sheet
pub parent_within : (S : Sheet) (i c : ℕ) → Listed i (parents S c) → c < size S
parent_within S i c l = go (ltb c (size S)) refl
  where
    go : (b : Bool) → ltb c (size S) ≡ b → c < size S
    go true e = ltb-true c (size S) e
    go false e = absurd (rw (get_or-eq_default S entry {n = c} (ltb-false c (size S) e)) at l)

-- the item that is found lowest is below the bound, and marked
pub lowest_marked_lem : (T : Table) (k i : ℕ) → lowest_marked T k ≡ some i → (i < k) × (is_marked (T i) ≡ true)
unfolding lowest_marked
lowest_marked_lem T zero i e = absurd (omega (arith, bad))
  where
    bad : ◌≡◌ {A = ℕ} 0 1
    bad = cc e
lowest_marked_lem T (suc k) i e = go (lowest_marked T k) (is_marked (T k)) refl e (λ q. lowest_marked_lem T k i q)
  where
    go : (o : Option ℕ) (m : Bool) → is_marked (T k) ≡ m → or_next o m k ≡ some i
        → (o ≡ some i → (i < k) × (is_marked (T i) ≡ true)) → (i < suc k) × (is_marked (T i) ≡ true)
    go (some j) true q e' rest = (omega (arith, (rest e').0), (rest e').1)
    go (some j) false q e' rest = (omega (arith, (rest e').0), (rest e').1)
    go none true q e' rest =
        let same : k ≡ i = cc in
        (omega arith, rw same at q)
    go none false q e' rest =
        let bad : ◌≡◌ {A = ℕ} 0 1 = cc in
        absurd (omega arith)

-- Stores are allowed at the items of a class; looking up and working out keep the property.
pub record Closed (S : Sheet) (Here : ℕ → Type 0) (P : Table → Type 0) : Type 0 where
  pub works : (T : Table) (i : ℕ) → i < size S → P T → P (work_out S T i).table
  pub stores : (T : Table) (i : ℕ) (c : Cell) → Here i → P T → P (upd T i c)

module _ (S : Sheet) (Here : ℕ → Type 0) (P : Table → Type 0) (closed : Closed S Here P) where
  renewed_closed : (T : Table) (c : ℕ) (v : Value) (m : Mark) → c < size S → Here c → P T → P (renewed c v m (work_out S T c))
  renewed_closed T c v m low here h = closed.stores (work_out S T c).table c _ here (closed.works T c low h)

  tell_stored-closed : (spread : Spread) (T : Table) (c : ℕ) (v : Value) (m : Mark) → c < size S → Here c → P T
      → P (tell_stored spread S T c v m)
  tell_stored-closed defer T c v unmarked low here h = closed.stores T c _ here h
  tell_stored-closed defer T c v refresh low here h = closed.stores T c _ here h
  tell_stored-closed defer T c v notice low here h = renewed_closed T c v notice low here h
  tell_stored-closed renew T c v m low here h = renewed_closed T c v _ low here h

  pub tell_child-closed : (T : Table) (c : ℕ) → c < size S → Here c → P T → P (tell_child S T c)
  unfolding tell_child
  tell_child-closed T c low here h = go (owed S T c) (T c)
    where
      go : (b : Bool) (x : Cell) → P (tell_cell b S T c x)
      go true (unk f) = closed.stores T c _ here h
      go false (unk f) = h
      go b (held v m) = tell_stored-closed (spread_of (item_at S c)) T c v m low here h

  tell_below-closed : (i : ℕ) → ((c : ℕ) → Listed i (parents S c) → Here c) → (T : Table) (k : ℕ) → suc k < suc (suc (size S)) → P T
      → P (tell_below S i T k)
  unfolding tell_below
  tell_below-closed i children T zero low h = h
  tell_below-closed i children T (suc k) low h =
      go (is_child S i k) refl (tell_below-closed i children T k (omega arith) h)
    where
      go : (b : Bool) → is_child S i k ≡ b → P (tell_below S i T k) → P (tell_if b S (tell_below S i T k) k)
      go true e r =
          tell_child-closed (tell_below S i T k) k (omega arith) (children k (member_listed i (parents S k) e)) r
      go false e r = r

  pub tell_closed : (i : ℕ) → ((c : ℕ) → Listed i (parents S c) → Here c) → (T : Table) → P T → P (tell S T i)
  unfolding tell
  tell_closed i children T h = tell_below-closed i children T (size S) (omega arith) h

  -- a step of an item of the class, with its children in the class
  pub step_closed : (i : ℕ) → i < size S → Here i → ((c : ℕ) → Listed i (parents S c) → Here c) → (T : Table) → P T
      → P (step_item S T i)
  unfolding step_item clear_mark
  step_closed i low here children T h = go (T i)
    where
      told : P (clear_mark (tell S T i) i)
      told = closed.stores (tell S T i) i _ here (tell_closed i children T h)

      go : (x : Cell) → P (step_cell S T i x)
      go (unk true) = told
      go (unk false) = h
      go (held v unmarked) = h
      go (held v refresh) = renewed_closed T i v unmarked low here h
      go (held v notice) = told

-- what each step of a marked item keeps, catching up keeps
pub catch_up-closed : (S : Sheet) (P : Table → Type 0)
    → ((T : Table) (i : ℕ) → i < size S → is_marked (T i) ≡ true → P T → P (step_item S T i))
    → (T : Table) → P T → P (catch_up S T)
unfolding catch_up catch_up_in
catch_up-closed S P steps T h = within (2 * size S) T h
  where
    by_lowest : (fuel : ℕ) → ((U : Table) → P U → P (catch_up_in fuel S U)) → (U : Table) → P U
        → (o : Option ℕ) → lowest_marked U (size S) ≡ o → P (step_lowest (catch_up_in fuel S) S U o)
    by_lowest fuel rest U h_u none e = h_u
    by_lowest fuel rest U h_u (some i) e =
        rest (step_item S U i) (steps U i (lowest_marked_lem U (size S) i e).0 (lowest_marked_lem U (size S) i e).1 h_u)

    within : (fuel : ℕ) (U : Table) → P U → P (catch_up_in fuel S U)
    within zero U h_u = h_u
    within (suc fuel) U h_u = by_lowest fuel (λ W h_w. within fuel W h_w) U h_u (lowest_marked U (size S)) refl
