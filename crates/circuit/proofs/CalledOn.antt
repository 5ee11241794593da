-- Which children telling calls on. In one telling, what is owed stays what it was at the start (`told_owed`), so
-- that it may go by what was owed at its start (`tell_by_lem`); where the item is not owed it tells nobody (`tell_unowed`); and it leaves nothing
-- leaning that did not (`below_within`), and stored what was (`below_stored`). Assumes that the sheet is ordered.
use Prim.Native.Nat.{ℕ, zero, suc, ◌<◌, ◌≤◌}
use native.Mathlib.Omega.{arith}
use mathlib.Core.Path.{◌≡◌, refl, sym, ap, ◌∙◌}
use mathlib.Core.Bool.{Bool, true, false}
use Rattle.circuit.specs.Value.{same}
use Rattle.circuit.specs.Circuit.{Listed}
use Rattle.circuit.specs.Sheet.{Sheet, size, parents, is_child, Ordered}
use Rattle.circuit.specs.Table.{Table, Cell, unk, held, is_stored}
use Rattle.circuit.specs.Owed.{owed}
use Rattle.circuit.specs.Machine.{tell_cell, tell_child, tell_if, tell_below, tell}
use Rattle.circuit.specs.Ascending.{tell_child_by, tell_if_by, tell_below_by, tell_where, tell_by}
use Rattle.circuit.proofs.View.{never}
use Rattle.circuit.proofs.Fill.{upd_cases, Filling, stays, fills}
use Rattle.circuit.proofs.Closure.{member_listed}
use Rattle.circuit.proofs.Owed.{Within, stored_leans, owed_child, owed_same, within_refl, within_upd, within_trans}
use Rattle.circuit.proofs.Tell.{TellsOne, tells_one}

-- a fill leaves stored what was
pub filled_stored : {S : Sheet} {T : Table} {j : ℕ} {c : Cell} → Filling S T j c → is_stored (T j) ≡ true → is_stored c ≡ true
filled_stored (stays e) s = rw e s
filled_stored (fills f k e h) s = rw h

module _ (S : Sheet) (ordered : Ordered S) where
  -- ---- one telling

  -- telling a child leaves nothing leaning that did not
  pub one_within : (T U : Table) (c : ℕ) → TellsOne S T c U → Within S T U
  one_within T U c one = rw one.after (within_upd S T one.between c one.cell one.leant one.within)

  -- and leaves stored what was
  pub one_stored : (T U : Table) (c : ℕ) → TellsOne S T c U → (j : ℕ) → is_stored (T j) ≡ true → is_stored (U j) ≡ true
  one_stored T U c one =
      rw one.after
      (upd_cases (λ j x. is_stored (T j) ≡ true → is_stored x ≡ true) one.between c one.cell one.stored (λ j n. filled_stored (one.fill j)))

  pub below_within : (T : Table) (i k : ℕ) → Within S T (tell_below S i T k)
  unfolding tell_below
  below_within T i zero = within_refl S T
  below_within T i (suc k) = go (is_child S i k) (below_within T i k)
    where
      U : Table
      U = tell_below S i T k

      go : (b : Bool) → Within S T U → Within S T (tell_if b S U k)
      go true h = within_trans S ordered T U (tell_child S U k) h (one_within U (tell_child S U k) k (tells_one S ordered U k))
      go false h = h

  pub below_stored : (T : Table) (i k j : ℕ) → is_stored (T j) ≡ true → is_stored (tell_below S i T k j) ≡ true
  unfolding tell_below
  below_stored T i zero j s = s
  below_stored T i (suc k) j s = go (is_child S i k) (below_stored T i k j s)
    where
      U : Table
      U = tell_below S i T k

      go : (b : Bool) → is_stored (U j) ≡ true → is_stored (tell_if b S U k j) ≡ true
      go true h = one_stored U (tell_child S U k) k (tells_one S ordered U k) j h
      go false h = h

  -- what is owed while the children are told
  pub told_owed : (T : Table) (i k j : ℕ) → owed S (tell_below S i T k) j ≡ owed S T j
  told_owed T i k j =
      let U : Table = tell_below S i T k in
      sym (owed_same S ordered T U (below_within T i k) (λ l s. stored_leans (U l) (owed S U l) (below_stored T i k l s)) j)

  below_by : (T : Table) (i k : ℕ) → tell_below_by (owed S T) S i T k ≡ tell_below S i T k
  unfolding tell_below tell_below_by tell_child tell_child_by
  below_by T i zero = refl
  below_by T i (suc k) = ap (λ X. tell_if_by (is_child S i k) (owed S T k) S X k) (below_by T i k) ∙ go (is_child S i k)
    where
      U : Table
      U = tell_below S i T k

      go : (b : Bool) → tell_if_by b (owed S T k) S U k ≡ tell_if b S U k
      go true = ap (λ o. tell_cell o S U k (U k)) (sym (told_owed T i k k))
      go false = refl

  -- where i is not owed, nobody is told
  below_unowed : (T : Table) (i k : ℕ) → owed S T i ≡ false → tell_below S i T k ≡ T
  unfolding tell_below tell_child
  below_unowed T i zero o = refl
  below_unowed T i (suc k) o = ap (λ X. tell_if (is_child S i k) S X k) (below_unowed T i k o) ∙ go (is_child S i k) refl
    where
      child : Listed i (parents S k) → (c : Cell) (b : Bool) → T k ≡ c → owed S T k ≡ b → tell_cell b S T k c ≡ T
      child l (held v m) b e h = let up : owed S T i ≡ true = owed_child S ordered T i k l (rw e) in never (cc)
      child l (unk f) true e h = let up : owed S T i ≡ true = owed_child S ordered T i k l (rw (e, h)) in never (cc)
      child l (unk f) false e h = refl

      go : (b : Bool) → is_child S i k ≡ b → tell_if b S T k ≡ T
      go true e = child (member_listed i (parents S k) e) (T k) (owed S T k) refl refl
      go false e = refl

  pub tell_unowed : (T : Table) (i : ℕ) → owed S T i ≡ false → tell S T i ≡ T
  unfolding tell
  tell_unowed T i o = below_unowed T i (size S) o

  -- by functions that agree on the sheet's items
  below_ext : (T : Table) (v w : ℕ → Bool) → ((c : ℕ) → c < size S → v c ≡ w c) → (i k : ℕ) → k ≤ size S → tell_below_by v S i T k ≡ tell_below_by w S i T k
  unfolding tell_below_by
  below_ext T v w same i zero l = refl
  below_ext T v w same i (suc k) l = rw (below_ext T v w same i k (omega arith), same k l)

  -- a telling by what is owed at its start
  pub tell_by_lem : (T : Table) (w : ℕ → Bool) → ((c : ℕ) → c < size S → w c ≡ owed S T c) → (i : ℕ) → i < size S → tell_by w S T i ≡ tell S T i
  unfolding tell_by tell
  tell_by_lem T w same i low = rw (same i low) (go (owed S T i) refl)
    where
      go : (b : Bool) → owed S T i ≡ b → tell_where b w S T i ≡ tell S T i
      go true o = below_ext T w (owed S T) same i (size S) (omega arith) ∙ below_by T i (size S)
      go false o = sym (tell_unowed T i o)
