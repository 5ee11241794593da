-- The lists of a board: the tests of their lengths and of the items, and the results in their bytes. Assumes nothing.
use Prim.Native.Nat.{ℕ, zero, suc, ◌+◌, ◌*◌, ◌/◌, ◌%◌, ◌≤◌, ◌<◌}
use native.Mathlib.Omega.{arith}
use native.Mathlib.Numerals.{add-one}
use mathlib.Core.Path.{◌≡◌, refl, sym, ap, ap₂, ◌∙◌}
use mathlib.Core.Bool.{Bool, true, false, ◌&&◌, or-true}
use mathlib.Core.List.{List, [], ◌∷◌, ◌++◌, append-nil, append_assoc}
use lib.Dec.{eqb, leb}
use lib.ListN.{length, get_or, drop, set, length-append, length-drop}
use lib.Seq.{sets, sets-eq, take_at, drop-append-add, drop-drop, drop-length}
use lib.IntN.{ℤ}
use mir.Syntax.{w64}
use mir.Val.{to_z, of_z, SFits}
use mir.ValLaws.{to_z-of_z}
use borrow.Author.Tests.{le-leb, lt-leb, leb-false, eqb-true, not-false}
use Rattle.std.specs.Prelude.{MatchBool}
use Rattle.std.specs.List.{HoldsAt, AllWithin}
use Rattle.circuit.specs.Value.{Value, kind_of, number_of}
use Rattle.circuit.specs.Sheet.{Sheet, size, beyond}
use Rattle.circuit.specs.Board.{listed_width, result_width, most_listed, lists_off}
use Rattle.circuit.specs.Calls.{some_no_item}
use Rattle.circuit.proofs.RuleLaws.{and_left, and_right, or-false}
use Rattle.field.specs.Bytes.{over}
use Rattle.word.specs.Word.{bytes64}
use Rattle.word.proofs.Bytes.{length_bytes64}
use Rattle.table.specs.Rows.{set_row}
use Rattle.office.specs.Office.{result_of, results_of}

-- ---- 17, by the two lengths

module _ (items results : ℕ) where
  pub lists_even : lists_off items results ≡ false → items % listed_width ≡ 0
  unfolding lists_off
  lists_even e =
      eqb-true (items % listed_width) 0
      (and_left (eqb (items % listed_width) 0) (leb (items / listed_width) most_listed)
      (and_left (eqb (items % listed_width) 0 && leb (items / listed_width) most_listed) (eqb results (result_width * (items / listed_width))) (not-false _ e)))

  -- the results have room for each item and no more
  pub lists_room : lists_off items results ≡ false → results ≡ result_width * (items / listed_width)
  unfolding lists_off
  lists_room e =
      eqb-true results (result_width * (items / listed_width))
      (and_right (eqb (items % listed_width) 0 && leb (items / listed_width) most_listed) (eqb results (result_width * (items / listed_width))) (not-false _ e))

-- ---- 11, of any item

no_item_at : (S : Sheet) (is : List ℕ) (k : ℕ) → k < length is → size S ≤ get_or is k 0 → true ≡ some_no_item S is
unfolding some_no_item
no_item_at S [] k l h = absurd (omega arith)
no_item_at S (i ∷ is) zero l h = rw (le-leb (size S) i h)
no_item_at S (i ∷ is) (suc k) l h = rw (← no_item_at S is k (omega arith) h) (sym (or-true (beyond S i)))

all_items : (S : Sheet) (is : List ℕ) → ((k : ℕ) → k < length is → get_or is k 0 < size S) → false ≡ some_no_item S is
unfolding some_no_item
all_items S [] h = refl
all_items S (i ∷ is) h = rw (lt-leb (size S) i (h 0 (omega arith))) (all_items S is (λ k l. h (suc k) (omega arith)))

-- by a search for the first of n or more
pub some_item : (S : Sheet) (is : List ℕ) (n : ℕ) (b : Bool) → n ≡ size S
    → MatchBool b ((k : ℕ) × (k < length is) × HoldsAt (λ i. n ≤ i) is k) (AllWithin (λ i. i < n) is 0 (length is)) → b ≡ some_no_item S is
some_item S is n true e h = no_item_at S is h.0 h.1 (omega (arith, h.2 0))
some_item S is n false e h = all_items S is (λ k l. omega (arith, h k 0 (omega arith) l))

pub item_within_lem : (S : Sheet) (is : List ℕ) → some_no_item S is ≡ false → (k : ℕ) → k < length is → get_or is k 0 < size S
unfolding some_no_item
item_within_lem S [] e k l = absurd (omega arith)
item_within_lem S (i ∷ is) e zero l = leb-false (size S) i (or-false (beyond S i) (some_no_item S is) e).0
item_within_lem S (i ∷ is) e (suc k) l = item_within_lem S is (or-false (beyond S i) (some_no_item S is) e).1 k (omega arith)

-- ---- the results

length_result : (v : Value) → length (result_of (kind_of v) (number_of v)) ≡ result_width
length_result v = ap suc (length_bytes64 (number_of v))

pub length_results : (vs : List Value) → length (results_of vs) ≡ result_width * length vs
unfolding results_of
length_results [] = refl
length_results (v ∷ vs) =
    omega (arith, length-append (result_of (kind_of v) (number_of v)) (results_of vs), length_result v, length_results vs)

results_snoc : (vs : List Value) (v : Value) → results_of (vs ++ (v ∷ [])) ≡ results_of vs ++ result_of (kind_of v) (number_of v)
unfolding results_of
results_snoc [] v = append-nil (result_of (kind_of v) (number_of v))
results_snoc (w ∷ vs) v =
    ap (λ l. result_of (kind_of w) (number_of w) ++ l) (results_snoc vs v)
    ∙ sym (append_assoc (result_of (kind_of w) (number_of w)) (results_of vs) (result_of (kind_of v) (number_of v)))

-- the stores of a result
pub result_stored : (s : List ℕ) (k kind : ℕ) (z : ℤ) (v : Value) (t : List ℕ) → kind ≡ kind_of v → z ≡ number_of v → SFits w64 z
    → t ≡ sets (set s (result_width * k) kind) (result_width * k + 1) (bytes64 (to_z w64 (of_z w64 z)))
    → t ≡ set_row result_width s k (result_of (kind_of v) (number_of v))
result_stored s k kind z v t kind_is number_is fits e = e ∙ rw (to_z-of_z w64 z fits, kind_is, number_is) (simp add-one)

-- bytes stored after those that are written over the front
over_after : (xs bs ys : List ℕ) → length xs + length bs ≤ length ys → sets (over xs ys) (length xs) bs ≡ over (xs ++ bs) ys
over_after xs bs ys h =
    sets-eq bs (over xs ys) (length xs) (omega (arith, length-append xs (drop (length xs) ys), length-drop (length xs) ys))
    ∙ ap₂ (λ a b. a ++ bs ++ b) (take_at xs (drop (length xs) ys) (length xs) refl)
    (drop-append-add xs (drop (length xs) ys) (length bs) ∙ drop-drop (length bs) (length xs) ys ∙ ap (λ n. drop n ys) (sym (length-append xs bs)))

-- one result more
pub results_more : (vs : List Value) (v : Value) (k : ℕ) (results : List ℕ) → length vs ≡ k → result_width * k + result_width ≤ length results
    → set_row result_width (over (results_of vs) results) k (result_of (kind_of v) (number_of v)) ≡ over (results_of (vs ++ (v ∷ []))) results
results_more vs v k results count room =
    let bs = result_of (kind_of v) (number_of v) in
    let at : length (results_of vs) ≡ result_width * k = length_results vs ∙ ap (λ n. result_width * n) count in
    ap (λ i. sets (over (results_of vs) results) i bs) (sym at)
    ∙ over_after (results_of vs) bs results (omega (arith, length_result v))
    ∙ ap (λ l. over l results) (sym (results_snoc vs v))

-- all of them
pub results_all : (vs : List Value) (results : List ℕ) → length results ≡ result_width * length vs → over (results_of vs) results ≡ results_of vs
results_all vs results e =
    ap (λ l. results_of vs ++ l) (ap (λ n. drop n results) (length_results vs ∙ sym e) ∙ drop-length results) ∙ append-nil (results_of vs)
