-- The owed bytes of a table, each judged by its children's bytes: they are right at every item exactly if they are the true ones, since only
-- these solve the equation. Assumes nothing.
use Prim.Native.Nat.{ℕ, zero, suc, ◌<◌}
use native.Mathlib.Omega.{arith}
use mathlib.Core.Path.{◌≡◌, refl, sym, ap, subst, ◌∙◌}
use mathlib.Core.Bool.{Bool, true, false, cond, ◌&&◌}
use mathlib.Core.List.{List}
use mathlib.Core.Logic.{◌⊎◌, inl, inr, ⊎_elim}
use lib.Dec.{eqb}
use borrow.Author.Tests.{eqb-true, eq-eqb}
use Rattle.circuit.specs.Value.{of_parts}
use Rattle.circuit.specs.Sheet.{Sheet, Ordered, size, parents, is_child}
use Rattle.circuit.specs.Table.{Table, unk, held}
use Rattle.circuit.specs.Owed.{any_below, leaning, owed}
use Rattle.circuit.proofs.View.{never}
use Rattle.circuit.proofs.Closure.{member_listed, listed_member, parent_within}
use Rattle.circuit.proofs.Owed.{descend, any_holds, Passing, any_passing, any_same, both_true, true_both, owed_any}
use Rattle.layout.proofs.Tests.{Tells, holds, fails, Refutes, right, wrong, refutes_if, refutes_and, tells_eq}
use Rattle.table.specs.Rows.{row, all_below}
use Rattle.table.specs.Record.{width, kind_in, mark_in, number_in, owed_in, mark_coded, owed_code, decode_cell}
use Rattle.table.specs.Bytes.{decode_table, owed_true_at, owed_true}
use Rattle.table.proofs.Rows.{below_true, true_below}
use Rattle.office.specs.Demand1Words.{StoredOrOwed, SomeChildLeans, OwedFalse, owed_unknown, no_child, some_child}

-- the code of a byte that is 1 or 0
coded : (b : Bool) → eqb (owed_code b) 1 ≡ b
coded true = refl
coded false = refl

-- a record leans on its parents, by its bytes
tells_leaning : (r : List ℕ) → Tells (StoredOrOwed r) (leaning (decode_cell r) (eqb (owed_in r) 1))
unfolding decode_cell
tells_leaning r = go (tells_eq (kind_in r) 0) (tells_eq (owed_in r) 1)
  where
    go : {a b : Bool} → Tells (kind_in r ≡ 0) a → Tells (owed_in r ≡ 1) b
        → Tells (StoredOrOwed r) (leaning (cond a (unk (eqb (mark_in r) 2)) (held (of_parts (kind_in r) (number_in r)) (mark_coded (mark_in r)))) b)
    go (fails n) b = holds (inl n)
    go (holds e) (holds o) = holds (inr (e, o))
    go (holds e) (fails n) = fails (⊎_elim (λ h. h e) (λ h. n h.1))

-- some number below n fails a test
pub refutes_below : (p : ℕ → Bool) (P : ℕ → Type 0) → ((i : ℕ) → Refutes (P i) (p i)) → (n : ℕ) → Refutes ((i : ℕ) × (i < n) × P i) (all_below p n)
unfolding all_below
refutes_below p P h zero = right (λ a. let l : a.0 < 0 = a.1 in omega arith)
refutes_below p P h (suc n) = refutes_if into back (refutes_and (refutes_below p P h n) (h n))
  where
    into : ((i : ℕ) × (i < n) × P i) ⊎ P n → (i : ℕ) × (i < suc n) × P i
    into (inl a) = let l : a.0 < n = a.1 in (a.0, omega arith, a.2)
    into (inr b) = (n, omega arith, b)

    back : (i : ℕ) × (i < suc n) × P i → ((i : ℕ) × (i < n) × P i) ⊎ P n
    back a = go (tells_eq a.0 n)
      where
        go : {b : Bool} → Tells (a.0 ≡ n) b → ((i : ℕ) × (i < n) × P i) ⊎ P n
        go (holds e) = inr (subst P e a.2)
        go (fails e) = let l : a.0 < suc n = a.1 in inl (a.0, omega arith, a.2)

module _ (S : Sheet) (ordered : Ordered S) (t : List ℕ) where
  -- what the table's bytes say is owed
  abbrev said : ℕ → Bool
  said c = eqb (owed_in (row width t c)) 1

  -- and what their children's bytes say
  abbrev judged : ℕ → Bool
  judged i = any_below (λ c. is_child S i c && leaning (decode_table t c) (said c)) (size S)

  tells_child : (i : ℕ) → Tells (SomeChildLeans S t i) (judged i)
  tells_child i = go (judged i) refl
    where
      p : ℕ → Bool
      p c = is_child S i c && leaning (decode_table t c) (said c)

      leant : (c : ℕ) → leaning (decode_table t c) (said c) ≡ true → StoredOrOwed (row width t c)
      leant c e = told (tells_leaning (row width t c)) e
        where
          told : {b : Bool} → Tells (StoredOrOwed (row width t c)) b → b ≡ true → StoredOrOwed (row width t c)
          told (holds h) q = h
          told (fails n) q = never (cc q)

      leans_there : (c : ℕ) → StoredOrOwed (row width t c) → leaning (decode_table t c) (said c) ≡ true
      leans_there c h = told (tells_leaning (row width t c))
        where
          told : {b : Bool} → Tells (StoredOrOwed (row width t c)) b → b ≡ true
          told (holds q) = refl
          told (fails n) = absurd (n h)

      go : (b : Bool) → judged i ≡ b → Tells (SomeChildLeans S t i) b
      go true e =
          let r : Passing p (size S) = any_passing p (size S) e in
          let both = both_true (is_child S i r.number) _ r.passes in
          holds (r.number, member_listed i (parents S r.number) both.0, leant r.number both.1)
      go false e = fails none
        where
          none : SomeChildLeans S t i → ⊥
          none (c, l, h) =
              let found : any_below p (size S) ≡ true
              = any_holds p (size S) c (parent_within S i c l) (rw (listed_member i (parents S c) l) (leans_there c h)) in
              let bad : ◌≡◌ {A = ℕ} 0 1 = cc in omega arith

  -- the owed byte of an item, by its children's bytes
  abbrev right_at : ℕ → Bool
  right_at i = eqb (owed_in (row width t i)) (owed_code (judged i))

  refutes_at : (i : ℕ) → Refutes (OwedFalse S t i) (right_at i)
  refutes_at i = go (tells_child i)
    where
      o : ℕ
      o = owed_in (row width t i)

      go : {b : Bool} → Tells (SomeChildLeans S t i) b → Refutes (OwedFalse S t i) (eqb o (owed_code b))
      go (holds h) = by (tells_eq o 1)
        where
          by : {b : Bool} → Tells (o ≡ 1) b → Refutes (OwedFalse S t i) b
          by (holds e) = right no
            where
              no : OwedFalse S t i → ⊥
              no (owed_unknown q) = omega (arith, q, e)
              no (no_child q n) = n h
              no (some_child q s) = omega (arith, q, e)
          by (fails n) = wrong (which (tells_eq o 0))
            where
              which : {b : Bool} → Tells (o ≡ 0) b → OwedFalse S t i
              which (holds z) = some_child z h
              which (fails m) = owed_unknown (omega (arith, n, m))
      go (fails n) = by (tells_eq o 0)
        where
          by : {b : Bool} → Tells (o ≡ 0) b → Refutes (OwedFalse S t i) b
          by (holds e) = right no
            where
              no : OwedFalse S t i → ⊥
              no (owed_unknown q) = omega (arith, q, e)
              no (no_child q m) = omega (arith, q, e)
              no (some_child q s) = n s
          by (fails m) = wrong (which (tells_eq o 1))
            where
              which : {b : Bool} → Tells (o ≡ 1) b → OwedFalse S t i
              which (holds e) = no_child e n
              which (fails l) = owed_unknown (omega (arith, m, l))

  -- two that agree on the children above i are judged alike at i
  judged_same : (T : Table) (v w : ℕ → Bool) (i : ℕ) → ((c : ℕ) → i < c → c < size S → v c ≡ w c)
      → any_below (λ c. is_child S i c && leaning (T c) (v c)) (size S) ≡ any_below (λ c. is_child S i c && leaning (T c) (w c)) (size S)
  judged_same T v w i above = any_same _ _ (size S) (λ c l. at c l (is_child S i c) refl)
    where
      at : (c : ℕ) → c < size S → (b : Bool) → is_child S i c ≡ b → (b && leaning (T c) (v c)) ≡ (b && leaning (T c) (w c))
      at c l true e = ap (leaning (T c)) (above c (ordered c i (member_listed i (parents S c) e)) l)
      at c l false e = refl

  all_right : all_below right_at (size S) ≡ true → (i : ℕ) → i < size S → said i ≡ owed S (decode_table t) i
  all_right all = descend (size S) (λ i. i < size S → said i ≡ owed S (decode_table t) i) rise
    where
      rise : (i : ℕ) → ((c : ℕ) → i < c → c < size S → c < size S → said c ≡ owed S (decode_table t) c) → i < size S → said i ≡ owed S (decode_table t) i
      rise i higher low =
          ap (λ o. eqb o 1) (eqb-true (owed_in (row width t i)) (owed_code (judged i)) (below_true right_at (size S) all i low))
          ∙ coded (judged i)
          ∙ judged_same (decode_table t) said (owed S (decode_table t)) i (λ c l h. higher c l h h)
          ∙ sym (owed_any S ordered (decode_table t) i)

  right_true : all_below right_at (size S) ≡ owed_true S t
  unfolding owed_true
  right_true = true_both (all_below right_at (size S)) (owed_true S t) there back
    where
      there : all_below right_at (size S) ≡ true → owed_true S t ≡ true
      there all =
          true_below (owed_true_at S t) (size S)
          (λ i low.
          eq-eqb _ _
          (eqb-true _ _ (below_true right_at (size S) all i low)
          ∙ ap owed_code (judged_same (decode_table t) said (owed S (decode_table t)) i (λ c l h. all_right all c h) ∙ sym (owed_any S ordered (decode_table t) i))))

      back : owed_true S t ≡ true → all_below right_at (size S) ≡ true
      back all = true_below right_at (size S) (λ i low. eq-eqb _ _ (byte i low ∙ ap owed_code (sym (same i))))
        where
          byte : (i : ℕ) → i < size S → owed_in (row width t i) ≡ owed_code (owed S (decode_table t) i)
          byte i low = eqb-true _ _ (below_true (owed_true_at S t) (size S) all i low)

          same : (i : ℕ) → judged i ≡ owed S (decode_table t) i
          same i =
              judged_same (decode_table t) said (owed S (decode_table t)) i (λ c l h. ap (λ o. eqb o 1) (byte c h) ∙ coded (owed S (decode_table t) c))
              ∙ sym (owed_any S ordered (decode_table t) i)

  -- the owed bytes, as a cause of 10
  pub refutes_owed : Refutes ((i : ℕ) × (i < size S) × OwedFalse S t i) (owed_true S t)
  refutes_owed = rw (sym right_true) (refutes_below right_at (OwedFalse S t) refutes_at (size S))

  -- a byte that is not false is right
  pub unfalse_right : (i : ℕ) → ¬ OwedFalse S t i
      → ((owed_in (row width t i) ≡ 1) × SomeChildLeans S t i) ⊎ ((owed_in (row width t i) ≡ 0) × (¬ SomeChildLeans S t i))
  unfalse_right i n = go (tells_child i)
    where
      o : ℕ
      o = owed_in (row width t i)

      small : o < 2
      small = at (tells_eq o 0) (tells_eq o 1)
        where
          at : {a b : Bool} → Tells (o ≡ 0) a → Tells (o ≡ 1) b → o < 2
          at (holds e) q = omega (arith, e)
          at (fails a) (holds e) = omega (arith, e)
          at (fails a) (fails b) = absurd (n (owed_unknown (omega (arith, a, b))))

      go : {b : Bool} → Tells (SomeChildLeans S t i) b → ((o ≡ 1) × SomeChildLeans S t i) ⊎ ((o ≡ 0) × (¬ SomeChildLeans S t i))
      go (holds h) = let some : ¬ (o ≡ 0) = λ e. n (some_child e h) in inl (omega (arith, small, some), h)
      go (fails m) = let none : ¬ (o ≡ 1) = λ e. n (no_child e m) in inr (omega (arith, small, none), m)
