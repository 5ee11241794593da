-- Telling the children of an item, clearing its mark, and so every step keep the invariant. While the children are told
-- the item's own mark stands; afterwards each child is UNK with notice, or has mark refresh, or holds what its parents
-- give, or was passed over (`Told`). So whatever leaned on the item's mark leans on a child's, and the mark may go: a stored
-- figure does not look through a child that is not owed. Assumes that the sheet is ordered, where it says so.
use Prim.Native.Nat.{ℕ, zero, suc, ◌<◌, ◌≤◌}
use native.Mathlib.Omega.{arith}
use mathlib.Core.Path.{◌≡◌, refl, sym, ap, ◌∙◌}
use mathlib.Core.Logic.{◌⊎◌, inl, inr, ◌≢◌}
use mathlib.Core.Bool.{Bool, true, false, cond, or-true, or-false}
use lib.Dec.{eqb}
use borrow.Author.Tests.{eqb-true, eqb-false}
use Rattle.circuit.specs.Value.{Value, null, same}
use Rattle.circuit.specs.Circuit.{Listed}
use Rattle.circuit.specs.Sheet.{Sheet, Item, Spread, defer, renew, size, item_at, parents_of, parents, spread_of, is_child, evaluate, Ordered}
use Rattle.circuit.specs.Table.{Table, Cell, Mark, unmarked, refresh, notice, unk, held, upd, is_stored, is_notice, notice_if, mark_of}
use Rattle.circuit.specs.Owed.{owed, leans}
use Rattle.circuit.specs.Machine.{Looked, work_out, renewed, refresh_cleared, tell_stored, tell_cell, tell_child, tell_if, tell_below, tell, clear_cell, clear_mark, step_cell, step_item}
use Rattle.circuit.proofs.Solution.{map_listed}
use Rattle.circuit.proofs.RuleLaws.{same_true}
use Rattle.circuit.proofs.View.{never, Seen, Flagged, seen_cell, view, result, strong, any_true, any_find, view_is, view_at, result_below}
use Rattle.circuit.proofs.Fill.{upd_same, upd_other, upd_self, notice_is, Filling, stays, fills, Fill, fill_refl, fill_result, Looks, work_right}
use Rattle.circuit.proofs.Invariant.{Justified, exact, due, awaits, Invariant, Change, unchanged, remarked, noticed, changes_kept, store_changes, renewed_changes}
use Rattle.circuit.proofs.Closure.{member_listed, listed_member, parent_within}
use Rattle.circuit.proofs.Owed.{Within, stored_leans, false_before, within_refl, within_upd, within_owed, work_within, parent_leans}

-- how the cell x of a told child c stands
pub data Told (S : Sheet) (T : Table) (c : ℕ) (x : Cell) : Type 0 where
  waiting : x ≡ unk true → Told S T c x
  refreshed : (v : Value) → x ≡ held v refresh → Told S T c x
  current : (v : Value) (m : Mark) → x ≡ held v m → v ≡ (result S T c).value → Told S T c x
  passed : is_stored x ≡ false → owed S T c ≡ false → Told S T c x

-- A telling of one child: a fill, and then a store of a told cell. What it stores leaned already, and what was stored stays stored.
pub record TellsOne (S : Sheet) (T : Table) (c : ℕ) (U : Table) : Type 0 where
  pub between : Table
  pub cell : Cell
  pub fill : Fill S T between
  pub change : Change S T c cell
  pub told : Told S T c cell
  pub within : Within S T between
  pub leant : is_stored cell ≡ true → leans S T c ≡ true
  pub stored : is_stored (T c) ≡ true → is_stored cell ≡ true
  pub after : U ≡ upd between c cell

cleared_notice : (m : Mark) → is_notice (refresh_cleared m) ≡ is_notice m
cleared_notice unmarked = refl
cleared_notice refresh = refl
cleared_notice notice = refl

module _ (S : Sheet) (ordered : Ordered S) where
  pub renews_one : (T : Table) (c : ℕ) (v : Value) (m n : Mark) → T c ≡ held v m → is_notice n ≡ is_notice m
      → TellsOne S T c (renewed c v n (work_out S T c))
  renews_one T c v m n e q =
      record {
        between = r.table;
        cell = cond (same v r.value) (held v n) (held r.value notice);
        fill = right.fill;
        change = rw (upd_same r.table c (cond (same v r.value) (held v n) (held r.value notice))) at (renewed_changes S ordered T c v m n e q c);
        told = go (same v r.value) refl;
        within = work_within S ordered T c leant T (within_refl S T);
        leant = λ s. leant;
        stored = λ s. either (same v r.value);
        after = refl;
      }
    where
      r : Looked
      r = work_out S T c

      leant : leans S T c ≡ true
      leant = rw e

      right : Looks S T (result S T c) r
      right = work_right S ordered T c

      either : (b : Bool) → is_stored (cond b (held v n) (held r.value notice)) ≡ true
      either true = refl
      either false = refl

      go : (b : Bool) → same v r.value ≡ b → Told S T c (cond b (held v n) (held r.value notice))
      go true h = current v n refl (same_true v r.value h ∙ right.value)
      go false h = current r.value notice refl right.value

  defers_one : (T : Table) (c : ℕ) (v : Value) (m : Mark) → T c ≡ held v m → is_notice m ≡ false
      → TellsOne S T c (upd T c (held v refresh))
  defers_one T c v m e q =
      record {
        between = T;
        cell = held v refresh;
        fill = fill_refl S T;
        change = remarked v m refresh e refl (sym q) (λ k. due refl);
        told = refreshed v refl;
        within = within_refl S T;
        leant = λ s. rw e;
        stored = λ s. refl;
        after = refl;
      }

  notices_one : (T : Table) (c : ℕ) (f : Bool) → T c ≡ unk f → TellsOne S T c (upd T c (unk true))
  notices_one T c f e =
      record {
        between = T;
        cell = unk true;
        fill = fill_refl S T;
        change = noticed refl;
        told = waiting refl;
        within = within_refl S T;
        leant = λ s. never (cc);
        stored = λ s. rw e at s;
        after = refl;
      }

  passes_one : (T : Table) (c : ℕ) (f : Bool) → T c ≡ unk f → owed S T c ≡ false → TellsOne S T c T
  passes_one T c f e o =
      record {
        between = T;
        cell = T c;
        fill = fill_refl S T;
        change = unchanged refl;
        told = passed (rw e) o;
        within = within_refl S T;
        leant = λ s. stored_leans (T c) (owed S T c) s;
        stored = λ s. s;
        after = upd_self T c;
      }

  pub tells_one : (T : Table) (c : ℕ) → TellsOne S T c (tell_child S T c)
  unfolding tell_child
  tells_one T c = go (owed S T c) (T c) refl refl
    where
      by : (s : Spread) (v : Value) (m : Mark) → T c ≡ held v m → TellsOne S T c (tell_stored s S T c v m)
      by defer v unmarked e = defers_one T c v unmarked e refl
      by defer v refresh e = defers_one T c v refresh e refl
      by defer v notice e = renews_one T c v notice notice e refl
      by renew v m e = renews_one T c v m (refresh_cleared m) e (cleared_notice m)

      go : (b : Bool) (x : Cell) → owed S T c ≡ b → T c ≡ x → TellsOne S T c (tell_cell b S T c x)
      go true (unk f) o e = notices_one T c f e
      go false (unk f) o e = passes_one T c f e o
      go b (held v m) o e = by (spread_of (item_at S c)) v m e

  -- a store at k, after a fill, leaves the results at and below k
  one_result : (T F : Table) (k : ℕ) (y : Cell) → Fill S T F → (c : ℕ) → c ≤ k → result S (upd F k y) c ≡ result S T c
  one_result T F k y fill c l =
      result_below S ordered (upd F k y) F k (λ j m. upd_other F k y j (λ e. omega arith)) c l
      ∙ fill_result S ordered T F fill c

  -- a told cell stays told, where nothing becomes owed
  told_result : (T U : Table) (c : ℕ) (x : Cell) → result S U c ≡ result S T c → (owed S U c ≡ true → owed S T c ≡ true) → Told S T c x
      → Told S U c x
  told_result T U c x same less (waiting e) = waiting e
  told_result T U c x same less (refreshed v e) = refreshed v e
  told_result T U c x same less (current v m e q) = current v m e (q ∙ sym (ap (λ s. s.value) same))
  told_result T U c x same less (passed n o) = passed n (false_before (owed S T c) (owed S U c) less o)

  told_filled : (T F : Table) (c : ℕ) → Filling S T c (F c) → Told S T c (T c) → Told S T c (F c)
  told_filled T F c (stays e) told = rw e told
  told_filled T F c (fills f k e h) told =
      current (view S T c).value (notice_if (view S T c).flag) h (ap (λ s. s.value) (view_at S ordered T c e))

  -- and a notice stays a notice
  notice_filled : (T F : Table) (i : ℕ) → Filling S T i (F i) → is_notice (mark_of (T i)) ≡ true
      → is_notice (mark_of (F i)) ≡ true
  notice_filled T F i (stays e) n = rw e n
  notice_filled T F i (fills f k e h) n =
      let own : f ≡ true = sym (notice_is f) ∙ (rw e at n) in
      let flag : (view S T i).flag ≡ true = ap (λ s. s.flag) (view_at S ordered T i e) ∙ (rw own (or-true (result S T i).flag)) in
      rw (h, flag)

  -- The table while the children of i below k have been told.
  record Telling (i : ℕ) (T : Table) (k : ℕ) : Type 0 where
    kept : Invariant S T
    told : (c : ℕ) → c < k → Listed i (parents S c) → Told S T c (T c)
    own : is_notice (mark_of (T i)) ≡ true

  tell_next : (i : ℕ) (T : Table) (k : ℕ) → Listed i (parents S k) → Telling i T k → Telling i (tell_child S T k) (suc k)
  tell_next i T k child before = rw one.after next
    where
      one : TellsOne S T k (tell_child S T k)
      one = tells_one T k

      F : Table
      F = one.between

      y : Cell
      y = one.cell

      U : Table
      U = upd F k y

      low : i < k
      low = ordered k i child

      less : (c : ℕ) → owed S U c ≡ true → owed S T c ≡ true
      less c = within_owed S ordered T U (within_upd S T F k y one.leant one.within) c

      told_at : (c : ℕ) → c < suc k → Listed i (parents S c) → Told S U c (U c)
      told_at c l listed = go (eqb c k) refl
        where
          go : (b : Bool) → eqb c k ≡ b → Told S U c (cond b y (F c))
          go true e =
              let same : c ≡ k = eqb-true c k e in
              rw same (told_result T U k y (one_result T F k y one.fill k (omega arith)) (less k) one.told)
          go false e =
              let other : c ≢ k = eqb-false c k e in
              told_result T U c (F c) (one_result T F k y one.fill c (omega arith)) (less c)
              (told_filled T F c (one.fill c) (before.told c (omega arith) listed))

      next : Telling i U (suc k)
      next =
          record {
            kept = changes_kept S ordered T U before.kept (store_changes S ordered T F k y one.fill one.change);
            told = told_at;
            own = rw (upd_other F k y i (λ e. omega (arith, low))) (notice_filled T F i (one.fill i) before.own);
          }

  telling : (i : ℕ) (T : Table) → Invariant S T → is_notice (mark_of (T i)) ≡ true → (k : ℕ) → Telling i (tell_below S i T k) k
  unfolding tell_below
  telling i T kept own zero = record { kept = kept; told = λ c l m. absurd (omega arith); own = own }
  telling i T kept own (suc k) = go (is_child S i k) refl (telling i T kept own k)
    where
      go : (b : Bool) → is_child S i k ≡ b → Telling i (tell_below S i T k) k
          → Telling i (tell_if b S (tell_below S i T k) k) (suc k)
      go true e before = tell_next i (tell_below S i T k) k (member_listed i (parents S k) e) before
      go false e before = record { kept = before.kept; told = told_at; own = before.own }
        where
          told_at : (c : ℕ) → c < suc k → Listed i (parents S c) → Told S (tell_below S i T k) c (tell_below S i T k c)
          told_at c l listed = which (eqb c k) refl
            where
              which : (b : Bool) → eqb c k ≡ b → Told S (tell_below S i T k) c (tell_below S i T k c)
              which true q =
                  let child : is_child S i k ≡ true = rw (eqb-true c k q) at (listed_member i (parents S c) listed) in
                  never (cc)
              which false q =
                  let other : c ≢ k = eqb-false c k q in
                  before.told c (omega arith) listed

  told_all : (i : ℕ) (T : Table) → Invariant S T → is_notice (mark_of (T i)) ≡ true → Telling i (tell S T i) (size S)
  unfolding tell
  told_all i T kept own = telling i T kept own (size S)

  clear_own : (U : Table) (i j : ℕ) → j ≡ i → clear_mark U i j ≡ clear_cell (U j)
  unfolding clear_mark
  clear_own U i j e = rw e (upd_same U i (clear_cell (U i)))

  clear_other : (U : Table) (i j : ℕ) → (j ≡ i → ⊥) → clear_mark U i j ≡ U j
  unfolding clear_mark
  clear_other U i j h = upd_other U i (clear_cell (U i)) j h

  -- a cell's value, with its mark or without it, by the parents' values
  value_cell : (w x : ℕ → Seen) (it : Item) (c d : Cell) → (d ≡ c) ⊎ (d ≡ clear_cell c)
      → ((p : ℕ) → Listed p (parents_of it) → (w p).value ≡ (x p).value) → (seen_cell w it d).value ≡ (seen_cell x it c).value
  value_cell w x it (held v m) d (inl e) h = rw e
  value_cell w x it (held v m) d (inr e) h = rw e
  value_cell w x it (unk f) d (inl e) h =
      rw e (ap (evaluate it null) (map_listed (parents_of it) h))
  value_cell w x it (unk f) d (inr e) h =
      rw e (ap (evaluate it null) (map_listed (parents_of it) h))

  -- clearing a mark changes no value
  pub clear_value : (U : Table) (i p : ℕ) → (view S (clear_mark U i) p).value ≡ (view S U p).value
  clear_value U i = strong (λ p. (view S X p).value ≡ (view S U p).value) rise
    where
      X : Table
      X = clear_mark U i

      rise : (p : ℕ) → ((q : ℕ) → q < p → (view S X q).value ≡ (view S U q).value) → (view S X p).value ≡ (view S U p).value
      rise p lower =
          rw (view_is S ordered X p, view_is S ordered U p)
          (value_cell (view S X) (view S U) (item_at S p) (U p) (X p) (which (eqb p i) refl) (λ q l. lower q (ordered p q l)))
        where
          which : (b : Bool) → eqb p i ≡ b → (X p ≡ U p) ⊎ (X p ≡ clear_cell (U p))
          which true e = inr (clear_own U i p (eqb-true p i e))
          which false e = inl (clear_other U i p (eqb-false p i e))

  clear_result : (U : Table) (i k : ℕ) → (result S (clear_mark U i) k).value ≡ (result S U k).value
  clear_result U i k =
      ap (evaluate (item_at S k) null)
      (map_listed (parents S k) (λ p l. clear_value U i p))

  -- where every child has been told, it changes no flag of an item that leans but the item's own
  clear_flag : (U : Table) (i : ℕ) → ((c : ℕ) → Listed i (parents S c) → Told S U c (U c)) → (p : ℕ) → leans S U p ≡ true
      → (view S U p).flag ≡ true → (p ≡ i) ⊎ ((view S (clear_mark U i) p).flag ≡ true)
  clear_flag U i told = strong (λ p. leans S U p ≡ true → (view S U p).flag ≡ true → (p ≡ i) ⊎ ((view S X p).flag ≡ true)) rise
    where
      X : Table
      X = clear_mark U i

      rise : (p : ℕ) → ((q : ℕ) → q < p → leans S U q ≡ true → (view S U q).flag ≡ true → (q ≡ i) ⊎ ((view S X q).flag ≡ true))
          → leans S U p ≡ true → (view S U p).flag ≡ true → (p ≡ i) ⊎ ((view S X p).flag ≡ true)
      rise p lower leant flag = which (eqb p i) refl
        where
          which : (b : Bool) → eqb p i ≡ b → (p ≡ i) ⊎ ((view S X p).flag ≡ true)
          which true e = inl (eqb-true p i e)
          which false e = inr (go (U p) refl)
            where
              stands : {c : Cell} → U p ≡ c → X p ≡ c
              stands h = clear_other U i p (eqb-false p i e) ∙ h

              through : Flagged (view S U) (parents S p) → U p ≡ unk false → (result S X p).flag ≡ true
              through r h =
                  by (lower r.item (ordered p r.item r.listed) (parent_leans S ordered U r.item p r.listed leant) r.flagged)
                where
                  by : (r.item ≡ i) ⊎ ((view S X r.item).flag ≡ true) → (result S X p).flag ≡ true
                  by (inr f) = any_true (view S X) r.item (parents S p) r.listed f
                  by (inl q) = stored (told p (rw q at r.listed))
                    where
                      stored : Told S U p (U p) → (result S X p).flag ≡ true
                      stored (waiting t) = never (cc)
                      stored (refreshed v t) = never (cc)
                      stored (current v m t o) = never (cc)
                      stored (passed n o) = let own : owed S U p ≡ true = rw h at leant in never (cc)

              go : (c : Cell) → U p ≡ c → (view S X p).flag ≡ true
              go (held v m) h =
                  ap (λ s. s.flag) (view_at S ordered X p (stands h) ∙ sym (view_at S ordered U p h)) ∙ flag
              go (unk true) h =
                  ap (λ s. s.flag) (view_at S ordered X p (stands h)) ∙ or-true (result S X p).flag
              go (unk false) h =
                  let f : (result S U p).flag ≡ true
                  = sym (or-false (result S U p).flag) ∙ sym (ap (λ s. s.flag) (view_at S ordered U p h)) ∙ flag in
                  ap (λ s. s.flag) (view_at S ordered X p (stands h))
                  ∙ or-false (result S X p).flag
                  ∙ through (any_find (view S U) (parents S p) f) h

  -- so it keeps the invariant
  clear_kept : (U : Table) (i : ℕ) → Invariant S U → is_notice (mark_of (U i)) ≡ true
      → ((c : ℕ) → Listed i (parents S c) → Told S U c (U c)) → Invariant S (clear_mark U i)
  clear_kept U i kept own told k fig v m e = which (eqb k i) refl
    where
      X : Table
      X = clear_mark U i

      -- a flag among the parents of k, which is stored, is a flag still, or i is a parent
      parent_flag : is_stored (U k) ≡ true → (result S U k).flag ≡ true → Listed i (parents S k) ⊎ ((result S X k).flag ≡ true)
      parent_flag s f =
          by (clear_flag U i told r.item (parent_leans S ordered U r.item k r.listed (stored_leans (U k) (owed S U k) s)) r.flagged)
        where
          r : Flagged (view S U) (parents S k)
          r = any_find (view S U) (parents S k) f

          by : (r.item ≡ i) ⊎ ((view S X r.item).flag ≡ true) → Listed i (parents S k) ⊎ ((result S X k).flag ≡ true)
          by (inl q) = inl (rw q at r.listed)
          by (inr g) = inr (any_true (view S X) r.item (parents S k) r.listed g)

      told_why : U k ≡ held v m → Told S U k (U k) → Justified S X k v m
      told_why h (waiting t) = never (cc)
      told_why h (refreshed w t) = due (cc)
      told_why h (current w n t q) = exact (value ∙ q ∙ sym (clear_result U i k))
        where
          value : v ≡ w
          value = cc
      told_why h (passed n o) = let s : is_stored (held v m) ≡ false = rw h at n in never (cc)

      other_why : U k ≡ held v m → Justified S U k v m → Justified S X k v m
      other_why h (exact q) = exact (q ∙ sym (clear_result U i k))
      other_why h (due q) = due q
      other_why h (awaits f) = by (parent_flag (rw h) f)
        where
          by : Listed i (parents S k) ⊎ ((result S X k).flag ≡ true) → Justified S X k v m
          by (inl child) = told_why h (told k child)
          by (inr g) = awaits g

      own_why : (n : Mark) → U k ≡ held v n → is_notice n ≡ true → k ≡ i → Justified S U k v n → Justified S X k v m
      own_why n h o q (exact r) = exact (r ∙ sym (clear_result U i k))
      own_why n h o q (due r) = let t : is_notice refresh ≡ true = rw r at o in never (cc)
      own_why n h o q (awaits f) = by (parent_flag (rw h) f)
        where
          by : Listed i (parents S k) ⊎ ((result S X k).flag ≡ true) → Justified S X k v m
          by (inl child) = absurd (omega (arith, ordered k i child, q))
          by (inr g) = awaits g

      own_cell : (c : Cell) → U k ≡ c → clear_cell c ≡ held v m → k ≡ i → Justified S X k v m
      own_cell (unk f) h g q = never (cc)
      own_cell (held w n) h g q =
          let value : w ≡ v = cc in
          let held_is : U k ≡ held v n = rw value at h in
          own_why n held_is (rw (h) at (rw (← q) at own)) q (kept k fig v n held_is)

      which : (b : Bool) → eqb k i ≡ b → Justified S X k v m
      which true q =
          let same : k ≡ i = eqb-true k i q in
          own_cell (U k) refl (sym (clear_own U i k same) ∙ e) same
      which false q =
          let h : U k ≡ held v m = sym (clear_other U i k (eqb-false k i q)) ∙ e in
          other_why h (kept k fig v m h)

  tell_kept : (T : Table) (i : ℕ) → Invariant S T → is_notice (mark_of (T i)) ≡ true → Invariant S (clear_mark (tell S T i) i)
  tell_kept T i kept own = clear_kept (tell S T i) i r.kept r.own (λ c l. r.told c (parent_within S i c l) l)
    where
      r : Telling i (tell S T i) (size S)
      r = told_all i T kept own

  -- a step keeps the invariant
  pub step_kept : (T : Table) (i : ℕ) → Invariant S T → Invariant S (step_item S T i)
  unfolding step_item
  step_kept T i kept = go (T i) refl
    where
      go : (c : Cell) → T i ≡ c → Invariant S (step_cell S T i c)
      go (unk true) e = tell_kept T i kept (rw e)
      go (unk false) e = kept
      go (held v unmarked) e = kept
      go (held v refresh) e =
          changes_kept S ordered T (renewed i v unmarked (work_out S T i)) kept (renewed_changes S ordered T i v refresh unmarked e refl)
      go (held v notice) e = tell_kept T i kept (rw e)
