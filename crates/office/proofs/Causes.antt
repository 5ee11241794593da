-- Each test of what is lent and of a call's arguments says what its row says. Assumes nothing.
use Prim.Native.Nat.{ℕ, zero, suc, ◌*◌, ◌/◌, ◌%◌, ◌<◌}
use native.Mathlib.Omega.{arith}
use mathlib.Core.Path.{◌≡◌, refl, sym, ap, ◌∙◌, subst}
use mathlib.Core.Bool.{Bool, true, false, cond, not}
use mathlib.Core.List.{List, [], ◌∷◌}
use mathlib.Core.Logic.{◌⊎◌, inl, inr, ⊎_elim}
use mathlib.Core.Option.{none, some}
use lib.Dec.{leb}
use lib.IntN.{ℤ, pos, negsuc, nat_abs, ◌+ℤ◌, ◌-ℤ◌}
use lib.Signed.{lt_z}
use lib.ListN.{length, get_or}
use borrow.Author.Tests.{leb-true, leb-false}
use Rattle.circuit.specs.Value.{null, out, num, limit, in_range, same_number, parts_of, of_parts}
use Rattle.circuit.specs.Sheet.{Sheet, Ordered, size, item_at, is_figure, beyond}
use Rattle.circuit.specs.Table.{Mark, unmarked, refresh, notice, unk, held, is_marked, value_in, entries_of}
use Rattle.circuit.specs.Board.{listed_width, result_width, most_listed, listed, lists_off, lists_wrong}
use Rattle.circuit.specs.Swap.{counted, no_swap, results_beyond}
use Rattle.circuit.specs.Calls.{posted_value, is_none, some_no_item}
use Rattle.circuit.proofs.Board.{listed_count, listed_at}
use Rattle.layout.specs.Read.{Placed}
use Rattle.layout.specs.Index.{index_width, index_bytes}
use Rattle.layout.proofs.Tests.{Tells, holds, fails, tells_if, tells_or, tells_and, Refutes, right, wrong, refutes_if, refutes_and, tells_not, refutes_tells, tells_eq, refutes_le}
use Rattle.table.specs.Rows.{row}
use Rattle.table.specs.Record.{width, kind_in, mark_in, number_in, decode_cell, allowed, codes_form, number_form, record_form}
use Rattle.table.specs.Bytes.{decode_table, table_form, record_in_form}
use Rattle.office.specs.Office.{Office, lengths_wrong, index_wrong, table_wrong}
use Rattle.office.specs.Demand1Words.{LengthsWrong, IndexNotAsOpened, BeyondRange, RecordBroken, kind_unknown, mark_unknown, entry_unk, entry_out, entry_refresh, unk_refresh, number_not_zero}
use Rattle.office.specs.Demand1Words.{beyond_range, RecordBrokenAt, OwedFalse, TableBroken, NoSuchItem, ListsWrong, odd, long, other, SomeNoItem}
use Rattle.office.specs.Demand1Words.{NotPostable, kind_other, null_not_zero, number_beyond, ToFigure, IsEntry, NoSwap, ResultBeyond, numbers_in}
use Rattle.office.proofs.OwedBytes.{refutes_below, refutes_owed}
use Rattle.item.specs.Offsets.{same_bytes}
use Rattle.item.proofs.Offsets.{same_refl, same_equal}

refutes_not : {P : Type 0} {b : Bool} → Tells P b → Refutes P (not b)
refutes_not (holds p) = wrong p
refutes_not (fails n) = right n

refutes_cond : {P A B : Type 0} {b x y : Bool} → Tells P b → Refutes A x → Refutes B y → Refutes ((P × A) ⊎ ((¬ P) × B)) (cond b x y)
refutes_cond (holds p) (right n) y = right (⊎_elim (λ a. n a.1) (λ a. a.0 p))
refutes_cond (holds p) (wrong a) y = wrong (inl (p, a))
refutes_cond (fails n) x (right m) = right (⊎_elim (λ a. n a.0) (λ a. m a.1))
refutes_cond (fails n) x (wrong b) = wrong (inr (n, b))

pub tells_is : (b : Bool) → Tells (b ≡ true) b
tells_is true = holds refl
tells_is false = fails (λ e. let bad : ◌≡◌ {A = ℕ} 0 1 = cc in omega arith)

pub tells_is_not : (b : Bool) → Tells (b ≡ false) (not b)
tells_is_not true = fails (λ e. let bad : ◌≡◌ {A = ℕ} 0 1 = cc in omega arith)
tells_is_not false = holds refl

pub tells_zero : (z : ℤ) → Tells (z ≡ pos 0) (same_number z (pos 0))
tells_zero (pos n) = tells_if (λ e. ap pos e) (λ e. cc) (tells_eq n 0)
tells_zero (negsuc n) = fails (λ e. let bad : ◌≡◌ {A = ℕ} 0 1 = cc in omega arith)

pub refutes_range : (z : ℤ) → Refutes (BeyondRange z) (in_range z)
unfolding in_range
refutes_range z = refutes_le (nat_abs z) limit

refutes_allowed : (figure : Bool) (k m : ℕ)
    → Refutes (((figure ≡ false) × (((k ≡ 0) ⊎ (k ≡ 2)) ⊎ (m ≡ 1))) ⊎ ((figure ≡ true) × ((k ≡ 0) × (m ≡ 1)))) (allowed figure k m)
refutes_allowed false k m =
    refutes_if (λ a. inl (refl, a)) (⊎_elim (λ a. a.1) (λ a. let bad : ◌≡◌ {A = Bool} false true = a.0 in let z : ◌≡◌ {A = ℕ} 0 1 = cc in absurd (omega arith)))
    (refutes_and (refutes_and (refutes_not (tells_eq k 0)) (refutes_not (tells_eq k 2))) (refutes_not (tells_eq m 1)))
refutes_allowed true k m =
    refutes_if (λ a. inr (refl, a)) (⊎_elim (λ a. let bad : ◌≡◌ {A = Bool} true false = a.0 in let z : ◌≡◌ {A = ℕ} 0 1 = cc in absurd (omega arith)) (λ a. a.1))
    (refutes_not (tells_and (tells_eq k 0) (tells_eq m 1)))

refutes_number : (k : ℕ) (z : ℤ) → Refutes (((k ≡ 3) × BeyondRange z) ⊎ ((¬ (k ≡ 3)) × (¬ (z ≡ pos 0)))) (number_form k z)
unfolding number_form
refutes_number k z = refutes_cond (tells_eq k 3) (refutes_range z) (refutes_tells (tells_zero z))

-- a record's form
pub refutes_record : (figure : Bool) (r : List ℕ) → Refutes (RecordBroken limit figure (kind_in r) (mark_in r) (number_in r)) (record_form figure r)
unfolding record_form codes_form
refutes_record figure r =
    refutes_if into back
    (refutes_and (refutes_and (refutes_and (refutes_le (kind_in r) 3) (refutes_le (mark_in r) 2)) (refutes_allowed figure (kind_in r) (mark_in r))) (refutes_number (kind_in r) (number_in r)))
  where
    k : ℕ
    k = kind_in r

    m : ℕ
    m = mark_in r

    z : ℤ
    z = number_in r

    A : Type 0
    A = ((figure ≡ false) × (((k ≡ 0) ⊎ (k ≡ 2)) ⊎ (m ≡ 1))) ⊎ ((figure ≡ true) × ((k ≡ 0) × (m ≡ 1)))

    N : Type 0
    N = ((k ≡ 3) × BeyondRange z) ⊎ ((¬ (k ≡ 3)) × (¬ (z ≡ pos 0)))

    into : ((((3 < k) ⊎ (2 < m)) ⊎ A) ⊎ N) → RecordBroken limit figure k m z
    into (inl (inl (inl h))) = kind_unknown h
    into (inl (inl (inr h))) = mark_unknown h
    into (inl (inr (inl (e, inl (inl h))))) = entry_unk e h
    into (inl (inr (inl (e, inl (inr h))))) = entry_out e h
    into (inl (inr (inl (e, inr h)))) = entry_refresh e h
    into (inl (inr (inr (e, h)))) = unk_refresh e h.0 h.1
    into (inr (inl (e, h))) = beyond_range e h
    into (inr (inr (e, h))) = number_not_zero e h

    back : RecordBroken limit figure k m z → ((((3 < k) ⊎ (2 < m)) ⊎ A) ⊎ N)
    back (kind_unknown h) = inl (inl (inl h))
    back (mark_unknown h) = inl (inl (inr h))
    back (entry_unk e h) = inl (inr (inl (e, inl (inl h))))
    back (entry_out e h) = inl (inr (inl (e, inl (inr h))))
    back (entry_refresh e h) = inl (inr (inl (e, inr h)))
    back (unk_refresh e h l) = inl (inr (inr (e, (h, l))))
    back (number_not_zero e h) = inr (inr (e, h))
    back (beyond_range e h) = inr (inl (e, h))

-- 8
pub tells_lengths : (S : Sheet) (ps : List Placed) (o : Office) → size S ≡ length ps → Tells (LengthsWrong (size S) o) (lengths_wrong ps o.index o.table)
tells_lengths S ps o e =
    rw e (tells_not (refutes_and (refutes_tells (tells_eq (length o.index) (index_width * length ps))) (refutes_tells (tells_eq (length o.table) (width * length ps)))))

-- 9
pub tells_index : (ps : List Placed) (x : List ℕ) → Tells (IndexNotAsOpened ps x) (index_wrong ps x)
tells_index ps x = go (same_bytes x (index_bytes ps)) refl
  where
    go : (b : Bool) → same_bytes x (index_bytes ps) ≡ b → Tells (IndexNotAsOpened ps x) (not b)
    go true e = fails (λ n. n (same_equal x (index_bytes ps) e))
    go false e = holds (λ q. let s : same_bytes x (index_bytes ps) ≡ true = ap (same_bytes x) (sym q) ∙ same_refl x in let bad : ◌≡◌ {A = ℕ} 0 1 = cc in omega arith)

-- 10
pub tells_table : (S : Sheet) → Ordered S → (t : List ℕ) → Tells (TableBroken S t) (table_wrong S t)
unfolding table_form
tells_table S ordered t =
    tells_not
    (refutes_if (⊎_elim (λ a. (a.0, a.1, inl a.2)) (λ a. (a.0, a.1, inr a.2))) back
    (refutes_and (refutes_below (record_in_form S t) (RecordBrokenAt limit S t) (λ i. refutes_record (is_figure (item_at S i)) (row width t i)) (size S)) (refutes_owed S ordered t)))
  where
    back : TableBroken S t → ((i : ℕ) × (i < size S) × RecordBrokenAt limit S t i) ⊎ ((i : ℕ) × (i < size S) × OwedFalse S t i)
    back (i, l, inl b) = inl (i, l, b)
    back (i, l, inr b) = inr (i, l, b)

-- 11
pub tells_beyond : (S : Sheet) (i : ℕ) → Tells (NoSuchItem S i) (beyond S i)
tells_beyond S i = go (leb (size S) i) refl
  where
    go : (b : Bool) → leb (size S) i ≡ b → Tells (NoSuchItem S i) b
    go true e = holds (leb-true (size S) i e)
    go false e = fails (λ h. omega (arith, leb-false (size S) i e))

-- 17
pub tells_lists : (items results : List ℕ) → Tells (ListsWrong items results) (lists_wrong items results)
unfolding lists_off
tells_lists items results =
    tells_if into back
    (tells_not
    (refutes_and (refutes_and (refutes_tells (tells_eq (a % listed_width) 0)) (refutes_le (a / listed_width) most_listed)) (refutes_tells (tells_eq b (result_width * (a / listed_width))))))
  where
    a : ℕ
    a = length items

    b : ℕ
    b = length results

    Off : Type 0
    Off = ((¬ (a % listed_width ≡ 0)) ⊎ (most_listed < a / listed_width)) ⊎ (¬ (b ≡ result_width * (a / listed_width)))

    odd_length : ¬ (a % listed_width ≡ 0) → ListsWrong items results
    odd_length n = odd (a / listed_width) (omega arith)

    into : Off → ListsWrong items results
    into (inl (inl n)) = odd_length n
    into (inl (inr h)) = long (omega arith)
    into (inr n) = go (tells_eq (a % listed_width) 0)
      where
        go : {c : Bool} → Tells (a % listed_width ≡ 0) c → ListsWrong items results
        go (holds e) = other (a / listed_width) (omega arith) n
        go (fails m) = odd_length m

    back : ListsWrong items results → Off
    back (odd k e) = inl (inl (λ z. omega arith))
    back (long h) = go (tells_eq (a % listed_width) 0)
      where
        go : {c : Bool} → Tells (a % listed_width ≡ 0) c → Off
        go (holds e) = inl (inr (omega arith))
        go (fails m) = inl (inl m)
    back (other k e n) = inr (λ z. n (omega arith))

-- 11, of a list
tells_some : (S : Sheet) (is : List ℕ) → Tells ((k : ℕ) × (k < length is) × NoSuchItem S (get_or is k 0)) (some_no_item S is)
unfolding some_no_item
tells_some S [] = fails (λ a. let l : a.0 < 0 = a.1 in omega arith)
tells_some S (i ∷ is) = tells_if into back (tells_or (tells_beyond S i) (tells_some S is))
  where
    into : NoSuchItem S i ⊎ ((k : ℕ) × (k < length is) × NoSuchItem S (get_or is k 0)) → (k : ℕ) × (k < suc (length is)) × NoSuchItem S (get_or (i ∷ is) k 0)
    into (inl h) = (0, omega arith, h)
    into (inr (k, l, h)) = (suc k, omega arith, h)

    back : (k : ℕ) × (k < suc (length is)) × NoSuchItem S (get_or (i ∷ is) k 0) → NoSuchItem S i ⊎ ((k : ℕ) × (k < length is) × NoSuchItem S (get_or is k 0))
    back (zero, l, h) = inl h
    back (suc k, l, h) = inr (k, omega arith, h)

pub tells_listed : (S : Sheet) (items : List ℕ) → Tells (SomeNoItem S items) (some_no_item S (listed items))
tells_listed S items = tells_if into back (tells_some S (listed items))
  where
    into : (k : ℕ) × (k < length (listed items)) × NoSuchItem S (get_or (listed items) k 0) → SomeNoItem S items
    into (k, l, h) =
        let low : k < length items / listed_width = omega (arith, listed_count items) in
        (k, omega arith, subst (NoSuchItem S) (listed_at items k low) h)

    back : SomeNoItem S items → (k : ℕ) × (k < length (listed items)) × NoSuchItem S (get_or (listed items) k 0)
    back (k, l, h) =
        let low : k < length items / listed_width = omega arith in
        (k, omega (arith, listed_count items), subst (NoSuchItem S) (sym (listed_at items k low)) h)

-- 13
pub tells_posted : (kind : ℕ) (z : ℤ) → Tells (NotPostable kind z) (is_none (posted_value kind z))
unfolding posted_value parts_of
tells_posted kind z = go (tells_eq kind 2) (tells_eq kind 1) (tells_zero z) (tells_eq kind 3) (refutes_range z)
  where
    go : {e a b c d : Bool} → Tells (kind ≡ 2) e → Tells (kind ≡ 1) a → Tells (z ≡ pos 0) b → Tells (kind ≡ 3) c → Refutes (BeyondRange z) d
        → Tells (NotPostable kind z) (is_none (cond e none (cond a (cond b (some null) none) (cond e (cond b (some out) none) (cond c (cond d (some (num z)) none) none)))))
    go (holds o) p q r s = holds (kind_other (λ h. omega arith) (λ h. omega arith))
    go (fails o) (holds p) (holds q) r s = fails no
      where
        no : NotPostable kind z → ⊥
        no (kind_other h l) = h p
        no (null_not_zero h l) = l q
        no (number_beyond h l) = omega arith
    go (fails o) (holds p) (fails q) r s = holds (null_not_zero p q)
    go (fails o) (fails p) q (holds r) (right n) = fails no
      where
        no : NotPostable kind z → ⊥
        no (kind_other h l) = l r
        no (null_not_zero h l) = p h
        no (number_beyond h l) = n l
    go (fails o) (fails p) q (holds r) (wrong b) = holds (number_beyond r b)
    go (fails o) (fails p) q (fails r) s = holds (kind_other p r)

-- 14, where the record is in form
pub tells_mark : (figure : Bool) (r : List ℕ) → ¬ RecordBroken limit figure (kind_in r) (mark_in r) (number_in r)
    → Tells (mark_in r ≡ 0) (not (is_marked (decode_cell r)))
unfolding decode_cell
tells_mark figure r form = go (tells_eq (kind_in r) 0) (tells_eq (mark_in r) 1) (tells_eq (mark_in r) 2)
  where
    k : ℕ
    k = kind_in r

    m : ℕ
    m = mark_in r

    z : ℤ
    z = number_in r

    low : ¬ (2 < m)
    low h = form (mark_unknown h)

    unk_refresh_lem : (f : Bool) → figure ≡ f → k ≡ 0 → m ≡ 1 → ⊥
    unk_refresh_lem true e h l = form (unk_refresh e h l)
    unk_refresh_lem false e h l = form (entry_refresh e l)

    go : {a b c : Bool} → Tells (k ≡ 0) a → Tells (m ≡ 1) b → Tells (m ≡ 2) c
        → Tells (m ≡ 0) (not (is_marked (cond a (unk c) (held (of_parts k z) (cond b refresh (cond c notice unmarked))))))
    go (holds p) (holds q) w = absurd (unk_refresh_lem figure refl p q)
    go (holds p) (fails q) (holds w) = fails (λ e. omega arith)
    go (holds p) (fails q) (fails w) = holds (omega (arith, low))
    go (fails p) (holds q) w = fails (λ e. omega arith)
    go (fails p) (fails q) (holds w) = fails (λ e. omega arith)
    go (fails p) (fails q) (fails w) = holds (omega (arith, low))

pub unless_true : (b : Bool) → ¬ (b ≡ true) → b ≡ false
unless_true true n = absurd (n refl)
unless_true false n = refl

pub not_both : {b : Bool} → b ≡ true → b ≡ false → ⊥
not_both p q = let bad : ◌≡◌ {A = ℕ} 0 1 = cc in omega arith

pub item_inside : (S : Sheet) (i : ℕ) → ¬ NoSuchItem S i → i < size S
item_inside S i n = omega (arith, n)

-- both items of a swap that has neither 11 nor 12 are entries
pub both_entries : (S : Sheet) (giver taker : ℕ) → ¬ (NoSuchItem S giver ⊎ NoSuchItem S taker) → ¬ (ToFigure S giver ⊎ ToFigure S taker)
    → IsEntry S giver × IsEntry S taker
both_entries S giver taker low plain = (
  (item_inside S giver (λ h. low (inl h)), unless_true (is_figure (item_at S giver)) (λ h. plain (inl h))),
  (item_inside S taker (λ h. low (inr h)), unless_true (is_figure (item_at S taker)) (λ h. plain (inr h))),
)

-- 18
pub tells_no_swap : (giver taker : ℕ) (quantity : ℤ) → Tells (NoSwap giver taker quantity) (no_swap giver taker quantity)
unfolding no_swap
tells_no_swap giver taker quantity = tells_or (tells_eq giver taker) (tells_is (lt_z quantity (pos 1)))

-- the number in a record in form is its value's, NULL as 0
number_counted : (figure : Bool) (r : List ℕ) → ¬ RecordBroken limit figure (kind_in r) (mark_in r) (number_in r) → number_in r ≡ counted (value_in (decode_cell r))
unfolding decode_cell
number_counted figure r form = go _ _ (tells_eq k 0) (tells_eq k 1) (tells_eq k 2)
  where
    k : ℕ
    k = kind_in r

    z : ℤ
    z = number_in r

    zero_number : ¬ (k ≡ 3) → z ≡ pos 0
    zero_number n = at (tells_zero z)
      where
        at : {b : Bool} → Tells (z ≡ pos 0) b → z ≡ pos 0
        at (holds e) = e
        at (fails m) = absurd (form (number_not_zero n m))

    go : {a b c : Bool} (m : Bool) (l : Mark) → Tells (k ≡ 0) a → Tells (k ≡ 1) b → Tells (k ≡ 2) c
        → z ≡ counted (value_in (cond a (unk m) (held (cond b null (cond c out (num z))) l)))
    go m l (holds p) q w = zero_number (λ e. omega arith)
    go m l (fails p) (holds q) w = zero_number (λ e. omega arith)
    go m l (fails p) (fails q) (holds w) = zero_number (λ e. omega arith)
    go m l (fails p) (fails q) (fails w) = refl

pub item_number : (S : Sheet) (t : List ℕ) → ¬ TableBroken S t → (i : ℕ) → i < size S → numbers_in t i ≡ counted (value_in (decode_table t i))
item_number S t form i low = number_counted (is_figure (item_at S i)) (row width t i) (λ b. form (i, low, inl b))

-- 13, of a swap whose items are in the sheet, where the table is not broken
pub tells_results : (S : Sheet) (t : List ℕ) → ¬ TableBroken S t → (giver taker : ℕ) (quantity : ℤ) → ¬ (NoSuchItem S giver ⊎ NoSuchItem S taker)
    → Tells (ResultBeyond (numbers_in t) giver taker quantity) (results_beyond (entries_of (decode_table t)) giver taker quantity)
unfolding results_beyond
tells_results S t form giver taker quantity inside =
    rw (number giver (λ h. inside (inl h)), number taker (λ h. inside (inr h)))
    (tells_not (refutes_and (refutes_range (counted (value_in (decode_table t giver)) -ℤ quantity)) (refutes_range (counted (value_in (decode_table t taker)) +ℤ quantity))))
  where
    number : (i : ℕ) → ¬ NoSuchItem S i → numbers_in t i ≡ counted (value_in (decode_table t i))
    number i low = item_number S t form i (omega (arith, low))
