-- Swap: its own tests, and what it stores. Assumes nothing.
use Prim.Native.Nat.{ℕ, ◌<◌}
use native.Mathlib.Omega.{arith}
use mathlib.Core.Path.{◌≡◌, refl, sym, ap, ap₂, ◌∙◌}
use mathlib.Core.Bool.{Bool, true, false, cond, ◌&&◌, ◌||◌}
use mathlib.Core.List.{List, [], ◌∷◌}
use lib.IntN.{ℤ}
use mir.Syntax.{w64}
use mir.Val.{SFits}
use Rattle.std.specs.Prelude.{Ok, Err, Option, Some, None}
use Rattle.std.specs.Option.{ok_or}
use Rattle.cause.specs.Cause.{number_of}
use Rattle.cause.specs.declared.Cause.{Cause}
use Rattle.cause.specs.declared.Cause.TheVariants.{Amount, Swap}
use Rattle.cause.proofs.Numbers.{number_some}
use Rattle.value.proofs.Signed.{back, read}
use Rattle.circuit.specs.Value.{Value, num, in_range, well_formed}
use Rattle.circuit.specs.Sheet.{Sheet, size, item_at, is_figure}
use Rattle.circuit.specs.Table.{value_in, entries_of}
use Rattle.circuit.specs.Machine.{post_cell, store_posting}
use Rattle.circuit.specs.Call.{swap}
use Rattle.circuit.specs.Swap.{left_with, comes_to, no_swap, results_beyond}
use Rattle.circuit.specs.Calls.{Test, test, first_cause, tests, effect, no_item, not_entry, store_postings}
use Rattle.circuit.proofs.RuleLaws.{and_left}
use Rattle.layout.specs.Opened.{sheet_of}
use Rattle.field.specs.Bytes.{Bytes}
use Rattle.table.specs.Rows.{row, set_row}
use Rattle.table.specs.Record.{width, encode_cell, decode_cell}
use Rattle.table.specs.Bytes.{encode_table, decode_table, owed_true}
use Rattle.table.proofs.Tables.{decoded_holdable, holdable_well_formed}
use Rattle.looking.specs.Pass.{Lent}
use Rattle.admission.specs.Admission.{call_lent}
use Rattle.admission.specs.Answers.{Did}
use Rattle.admission.proofs.Admitting.{first_two, past_two, refused_did, accepted_did}
use Rattle.posting.proofs.Posting.{posting_encoded, posting_lent, posting_bytes, posting_owes, posting_decoded}
use Rattle.call_swap.specs.Results.{items_cause, Swapped, within, beyond, results_meaning, swap_results}
use Rattle.call_swap.specs.declared.Results.{Results}

-- ---- 11 and 12, of either item

-- the first of the two look-ups that is refused gives the cause, and where neither is, the kinds give it
module _ (S : Sheet) (giver taker : ℕ) where
  pub first_11 : (k : ℕ) → (k ≡ 0 → ⊥) → k ≡ first_cause (test 11 (no_item S giver) ∷ []) → k ≡ items_cause S giver taker
  unfolding first_cause
  first_11 k h e = go (no_item S giver) e
    where
      go : (p : Bool) → k ≡ cond p 11 0 → k ≡ cond (p || no_item S taker) 11 (cond (not_entry S giver || not_entry S taker) 12 0)
      go true q = q
      go false q = absurd (h q)

  module _ (f : ◌≡◌ {A = ℕ} 0 (first_cause (test 11 (no_item S giver) ∷ []))) where
    pub second_11 : (k : ℕ) → (k ≡ 0 → ⊥) → k ≡ first_cause (test 11 (no_item S taker) ∷ []) → k ≡ items_cause S giver taker
    unfolding first_cause
    second_11 k h e = go (no_item S giver) (no_item S taker) f e
      where
        go : (p q : Bool) → ◌≡◌ {A = ℕ} 0 (cond p 11 0) → k ≡ cond q 11 0 → k ≡ cond (p || q) 11 (cond (not_entry S giver || not_entry S taker) 12 0)
        go true q f e = absurd (omega arith)
        go false true f e = e
        go false false f e = absurd (h e)

    module _ (g : ◌≡◌ {A = ℕ} 0 (first_cause (test 11 (no_item S taker) ∷ []))) where
      pub kinds_12 : (u v : Bool) → u ≡ not_entry S giver → v ≡ not_entry S taker → ◌≡◌ {A = ℕ} (cond (u || v) 12 0) (items_cause S giver taker)
      unfolding first_cause
      kinds_12 u v a b = go (no_item S giver) (no_item S taker) f g
        where
          go : (p q : Bool) → ◌≡◌ {A = ℕ} 0 (cond p 11 0) → ◌≡◌ {A = ℕ} 0 (cond q 11 0)
              → ◌≡◌ {A = ℕ} (cond (u || v) 12 0) (cond (p || q) 11 (cond (not_entry S giver || not_entry S taker) 12 0))
          go true q f g = absurd (omega arith)
          go false true f g = absurd (omega arith)
          go false false f g = ap₂ {C = ℕ} (λ y z. cond (y || z) 12 0) a b

-- ---- the results

-- which of the two they are, by the test
beyond_test : (t : Bool) (l c : ℤ) → beyond ≡ cond t (within l c) beyond → t ≡ false
beyond_test true l c e = let bad : ◌≡◌ {A = ℕ} 0 1 = cc in absurd (omega arith)
beyond_test false l c e = refl

within_test : (t : Bool) (l c x y : ℤ) → within l c ≡ cond t (within x y) beyond → (t ≡ true) × (l ≡ x) × (c ≡ y)
within_test true l c x y e = (refl, cc, cc)
within_test false l c x y e = let bad : ◌≡◌ {A = ℕ} 0 1 = cc in absurd (omega arith)

-- what they are, by the result that is made of them
pub none_swapped : {k : Cause} {m : Swapped} (v : Option Results) → results_meaning v ≡ m → Err k ≡ ok_or v Amount → (k ≡ Amount) × (beyond ≡ m)
none_swapped None e h = (cc, e)
none_swapped (Some v) e h = let bad : ◌≡◌ {A = ℕ} 0 1 = cc in absurd (omega arith)

pub some_swapped : {r : Results} {m : Swapped} (v : Option Results) → results_meaning v ≡ m → Ok r ≡ ok_or v Amount → within r.left r.come ≡ m
some_swapped {r} None e h = let bad : ◌≡◌ {A = ℕ} 0 1 = cc in absurd (omega arith)
some_swapped {r} (Some v) e h = let q : r ≡ v = cc in ap (λ u. results_meaning (Some u)) q ∙ e

-- by the values in the two records
pub by_held : (t : List ℕ) (giver taker i j : ℕ) (q : ℤ) (v : Option Results) (a b : Value) → i ≡ giver → j ≡ taker → SFits w64 q
    → a ≡ value_in (decode_table t i) → b ≡ value_in (decode_table t j) → results_meaning v ≡ swap_results a b (read q)
    → results_meaning v ≡ swap_results (value_in (decode_table t giver)) (value_in (decode_table t taker)) q
by_held t giver taker i j q v a b gi ta f ea eb e =
    e ∙ rw (ea, eb, back q f) (ap₂ (λ m n. swap_results (value_in (decode_table t m)) (value_in (decode_table t n)) q) gi ta)

-- a number that was stored as a posting
pub stored_value : (t t' : List ℕ) (i k : ℕ) (v : Value) (z : ℤ) → i ≡ k → v ≡ num (read z) → SFits w64 z
    → t' ≡ set_row width t i (encode_cell (post_cell (decode_cell (row width t i)) v)) → t' ≡ set_row width t k (encode_cell (post_cell (decode_cell (row width t k)) (num z)))
stored_value t t' i k v z q e f h =
    h ∙ ap₂ (λ j w. set_row width t j (encode_cell (post_cell (decode_cell (row width t j)) w))) q (e ∙ ap num (back z f))

-- ---- the call

module _ (s t x : List ℕ) (giver taker : ℕ) (q : ℤ) where
  abbrev rest : List Test
  rest = test 18 (no_swap giver taker q) ∷ test 13 (results_beyond (entries_of (decode_table t)) giver taker q) ∷ []

  pub swap_items : {A : Type 0} (k : Cause) → number_of k ≡ items_cause (sheet_of s) giver taker → Did {A = A} (call_lent (sheet_of s) x t (swap giver taker q)) (Err k) t
  unfolding tests
  swap_items k e = refused_did (sheet_of s) x t (swap giver taker q) k (first_two _ _ rest (number_of k) e (number_some k))

  module _ (passed : 0 ≡ items_cause (sheet_of s) giver taker) where
    -- the tests past those of the items
    later : first_cause (tests (sheet_of s) (decode_table t) (swap giver taker q)) ≡ first_cause rest
    unfolding tests
    later = past_two _ _ rest passed

    pub swap_none : {A : Type 0} → true ≡ no_swap giver taker q → Did {A = A} (call_lent (sheet_of s) x t (swap giver taker q)) (Err Swap) t
    unfolding first_cause
    swap_none h = refused_did (sheet_of s) x t (swap giver taker q) Swap (later ∙ rw (sym h))

    module _ (is_one : false ≡ no_swap giver taker q) where
      pub swap_beyond : {A : Type 0} → beyond ≡ swap_results (value_in (decode_table t giver)) (value_in (decode_table t taker)) q
          → Did {A = A} (call_lent (sheet_of s) x t (swap giver taker q)) (Err Amount) t
      unfolding first_cause results_beyond
      swap_beyond e = refused_did (sheet_of s) x t (swap giver taker q) Amount (later ∙ rw (sym is_one, test_out))
        where
          test_out : (in_range (left_with (entries_of (decode_table t)) giver q) && in_range (comes_to (entries_of (decode_table t)) taker q)) ≡ false
          test_out = beyond_test _ _ _ e

      module _ (lent : Lent s t) (bytes : Bytes t) (owes : owed_true (sheet_of s) t ≡ true) (low_g : giver < size (sheet_of s)) (low_t : taker < size (sheet_of s))
          (entry_g : is_figure (item_at (sheet_of s) giver) ≡ false) (entry_t : is_figure (item_at (sheet_of s) taker) ≡ false) where
        pub swap_stored : {A : Type 0} (a : A) (l c : ℤ) → within l c ≡ swap_results (value_in (decode_table t giver)) (value_in (decode_table t taker)) q → (t₁ t₂ : List ℕ)
            → t₁ ≡ set_row width t giver (encode_cell (post_cell (decode_cell (row width t giver)) (num l)))
            → t₂ ≡ set_row width t₁ taker (encode_cell (post_cell (decode_cell (row width t₁ taker)) (num c)))
            → Did (call_lent (sheet_of s) x t (swap giver taker q)) (Ok a) t₂
        unfolding first_cause results_beyond effect store_postings
        swap_stored a l c e t₁ t₂ g h =
            accepted_did (sheet_of s) x t t₂ (swap giver taker q) a (later ∙ rw (sym is_one, test_in))
            (posting_encoded
            (posting_lent lent bytes owes giver low_g entry_g (num l) t₁ g formed_l refl)
            (posting_bytes lent bytes owes giver low_g entry_g (num l) t₁ g formed_l refl)
            (posting_owes lent bytes owes giver low_g entry_g (num l) t₁ g formed_l refl)
            taker low_t entry_t (num c) t₂ h
            ∙ ap (λ U. encode_table (sheet_of s) (store_posting U taker (num c))) (posting_decoded lent bytes owes giver low_g entry_g (num l) t₁ g formed_l refl)
            ∙ ap₂ (λ y z. encode_table (sheet_of s) (store_posting (store_posting (decode_table t) giver (num y)) taker (num z))) parts.1 parts.2)
          where
            parts : ((in_range (left_with (entries_of (decode_table t)) giver q) && in_range (comes_to (entries_of (decode_table t)) taker q)) ≡ true)
                × (l ≡ left_with (entries_of (decode_table t)) giver q) × (c ≡ comes_to (entries_of (decode_table t)) taker q)
            parts = within_test _ l c _ _ e

            test_in : (in_range (left_with (entries_of (decode_table t)) giver q) && in_range (comes_to (entries_of (decode_table t)) taker q)) ≡ true
            test_in = parts.0

            formed_l : in_range l ≡ true
            formed_l = ap in_range parts.1 ∙ and_left (in_range (left_with (entries_of (decode_table t)) giver q)) (in_range (comes_to (entries_of (decode_table t)) taker q)) test_in

-- the values that a lent table holds are of the range
pub held_formed : {s t : List ℕ} → Lent s t → (i : ℕ) → i < size (sheet_of s) → well_formed (value_in (decode_table t i)) ≡ true
held_formed {s} {t} lent i low = holdable_well_formed (sheet_of s) (decode_table t) (decoded_holdable (sheet_of s) t lent.formed) i low
