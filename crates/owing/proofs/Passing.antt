-- The pass over the items, highest first: what it leaves in the array, and that this is which items are owed. Assumes nothing.
use Prim.Native.Nat.{ℕ, zero, suc, ◌<◌, ◌≤◌}
use native.Mathlib.Omega.{arith}
use mathlib.Core.Path.{◌≡◌, refl, sym, ap, subst, ◌∙◌}
use mathlib.Core.Bool.{Bool, true, false, not}
use mathlib.Core.List.{List, [], ◌∷◌}
use mathlib.Core.Logic.{inl, inr}
use lib.Dec.{eqb}
use lib.ListN.{length, get_or, set, length-set}
use lib.Seq.{get_or-set_same, get_or-set_other}
use borrow.Author.Tests.{eqb-true, eqb-false}
use Rattle.circuit.specs.Circuit.{Listed}
use Rattle.circuit.specs.Sheet.{Sheet, size, parents, Ordered}
use Rattle.circuit.specs.Table.{Table}
use Rattle.circuit.specs.Owed.{leaning, owed, leans}
use Rattle.circuit.proofs.Closure.{parent_within}
use Rattle.circuit.proofs.Owed.{Child, owed_child, owed_finds}
use Rattle.circuit.proofs.View.{never}
use Rattle.item.proofs.Located.{place_listed}
use Rattle.table.specs.Record.{owed_code}
use Rattle.owing.specs.Owing.{says_owed, OwedIs, owe_each}

-- ---- the parents of one item

pub each_length : (bytes ps : List ℕ) (k : ℕ) → length (owe_each bytes ps k) ≡ length bytes
unfolding owe_each
each_length bytes ps zero = refl
each_length bytes ps (suc k) = length-set (owe_each bytes ps k) (get_or ps k 0) 1 ∙ each_length bytes ps k

-- the byte of i: 1 where i stands in some place, else as it was
data Put (bytes ps : List ℕ) (k i b : ℕ) : Type 0 where
  newly : (j : ℕ) → j < k → get_or ps j 0 ≡ i → b ≡ 1 → Put bytes ps k i b
  still : ((j : ℕ) → j < k → get_or ps j 0 ≡ i → ⊥) → b ≡ get_or bytes i 0 → Put bytes ps k i b

each_put : (bytes ps : List ℕ) (k i : ℕ) → i < length bytes → Put bytes ps k i (get_or (owe_each bytes ps k) i 0)
unfolding owe_each
each_put bytes ps zero i low = still (λ j h e. omega arith) refl
each_put bytes ps (suc k) i low = go (eqb (get_or ps k 0) i) refl (each_put bytes ps k i low)
  where
    before : List ℕ
    before = owe_each bytes ps k

    go : (b : Bool) → eqb (get_or ps k 0) i ≡ b → Put bytes ps k i (get_or before i 0) → Put bytes ps (suc k) i (get_or (set before (get_or ps k 0) 1) i 0)
    go true q r =
        let same : get_or ps k 0 ≡ i = eqb-true (get_or ps k 0) i q in
        newly k (omega arith) same (rw same (get_or-set_same before i 1 0 (omega (arith, each_length bytes ps k))))
    go false q (newly j h at is) =
        newly j (omega arith) at (get_or-set_other before (get_or ps k 0) i 1 0 (λ e. eqb-false (get_or ps k 0) i q (sym e)) ∙ is)
    go false q (still none is) =
        still (λ j h e. last j (eqb j k) refl h e) (get_or-set_other before (get_or ps k 0) i 1 0 (λ e. eqb-false (get_or ps k 0) i q (sym e)) ∙ is)
      where
        last : (j : ℕ) (b : Bool) → eqb j k ≡ b → j < suc k → get_or ps j 0 ≡ i → ⊥
        last j true z h e = eqb-false (get_or ps k 0) i q (ap (λ x. get_or ps x 0) (sym (eqb-true j k z)) ∙ e)
        last j false z h e = let other : (j ≡ k → ⊥) = eqb-false j k z in none j (omega arith) e

-- what stands in no place is not listed
nowhere_listed : (ps : List ℕ) (i : ℕ) → ((j : ℕ) → j < length ps → get_or ps j 0 ≡ i → ⊥) → Listed i ps → ⊥
nowhere_listed [] i none l = absurd l
nowhere_listed (q ∷ ps) i none (inl e) = none 0 (omega arith) (sym e)
nowhere_listed (q ∷ ps) i none (inr l) = nowhere_listed ps i (λ j h e. none (suc j) (omega arith) e) l

-- ---- the items from c on

-- the byte b of item i says whether some child from c on leans
pub data Says (S : Sheet) (T : Table) (c i b : ℕ) : Type 0 where
  one : (d : ℕ) → c ≤ d → Listed i (parents S d) → leans S T d ≡ true → b ≡ 1 → Says S T c i b
  none : ((d : ℕ) → c ≤ d → Listed i (parents S d) → leans S T d ≡ true → ⊥) → b ≡ 0 → Says S T c i b

-- from the item after i on, that is whether i is owed: all its children come after it
says_owed_lem : (S : Sheet) → Ordered S → (T : Table) (c i : ℕ) {b : ℕ} → c ≤ suc i → Says S T c i b → b ≡ owed_code (owed S T i)
says_owed_lem S ordered T c i below (one d from listed leant is) = is ∙ ap owed_code (sym (owed_child S ordered T i d listed leant))
says_owed_lem S ordered T c i below (none without is) = is ∙ ap owed_code (sym (go (owed S T i) refl))
  where
    go : (x : Bool) → owed S T i ≡ x → x ≡ false
    go false e = refl
    go true e =
        let k : Child S T i = owed_finds S ordered T i e in
        absurd (without k.item (omega (arith, ordered k.item i k.listed, below)) k.listed k.leans_on)

pub code_owes : (b : Bool) → not (eqb (owed_code b) 0) ≡ b
code_owes true = refl
code_owes false = refl

-- the array says so of each item
pub record Passed (S : Sheet) (T : Table) (room c : ℕ) (bytes : List ℕ) : Type 0 where
  pub within : c ≤ size S
  pub fits : size S ≤ room
  pub kept : length bytes ≡ room
  pub says : (i : ℕ) → i < size S → Says S T c i (get_or bytes i 0)

module _ (S : Sheet) (ordered : Ordered S) (T : Table) (room : ℕ) where
  pub passed_start : (c : ℕ) (bytes : List ℕ) → c ≡ size S → length bytes ≡ room → size S ≤ room → ((i : ℕ) → i < size S → get_or bytes i 0 ≡ 0)
      → Passed S T room c bytes
  passed_start c bytes all kept fits blank =
      record {
        within = omega arith;
        fits = fits;
        kept = kept;
        says = λ i h. none (λ d from listed leant. omega (arith, parent_within S i d listed)) (blank i h);
      }

  pub passed_done : (c : ℕ) (bytes : List ℕ) → Passed S T room c bytes → c ≡ 0 → OwedIs S T bytes
  passed_done c bytes p end =
      record { room = omega (arith, p.fits, p.kept); byte_is = λ i h. says_owed_lem S ordered T c i (omega arith) (p.says i h) }

  -- at item k the code's test is whether k leans
  module _ (c k : ℕ) (next : c ≡ suc k) (bytes : List ℕ) (p : Passed S T room c bytes) (r : Bool) (tested : r ≡ leaning (T k) (says_owed bytes k)) where
    leans_is : r ≡ leans S T k
    leans_is =
        tested ∙ ap (λ b. leaning (T k) (not (eqb b 0))) (says_owed_lem S ordered T c k (omega arith) (p.says k (omega (arith, p.within))))
        ∙ ap (leaning (T k)) (code_owes (owed S T k))

    -- no child from k on, where k is none that leans
    none_here : (i : ℕ) → (Listed i (parents S k) → leans S T k ≡ true → ⊥) → ((d : ℕ) → c ≤ d → Listed i (parents S d) → leans S T d ≡ true → ⊥)
        → (d : ℕ) → k ≤ d → Listed i (parents S d) → leans S T d ≡ true → ⊥
    none_here i here later d from = go (eqb d k) refl
      where
        go : (x : Bool) → eqb d k ≡ x → Listed i (parents S d) → leans S T d ≡ true → ⊥
        go true q = rw (eqb-true d k q) here
        go false q = let other : (d ≡ k → ⊥) = eqb-false d k q in later d (omega arith)

    -- it does not
    pub passed_over : r ≡ false → Passed S T room k bytes
    passed_over e = record { within = omega (arith, p.within); fits = p.fits; kept = p.kept; says = λ i h. go i (p.says i h) }
      where
        go : (i : ℕ) {b : ℕ} → Says S T c i b → Says S T k i b
        go i (one d from listed leant is) = one d (omega arith) listed leant is
        go i (none without is) = none (none_here i (λ l leant. never (cc (leans_is, e, leant))) without) is

    -- it does, and its parents are owed
    pub passed_on : r ≡ true → Passed S T room k (owe_each bytes (parents S k) (length (parents S k)))
    passed_on e =
        record {
          within = omega (arith, p.within);
          fits = p.fits;
          kept = each_length bytes (parents S k) (length (parents S k)) ∙ p.kept;
          says = λ i h. go i (p.says i h) (each_put bytes (parents S k) (length (parents S k)) i (omega (arith, p.fits, p.kept)));
        }
      where
        go : (i : ℕ) {b : ℕ} → Says S T c i (get_or bytes i 0) → Put bytes (parents S k) (length (parents S k)) i b → Says S T k i b
        go i says (newly j h at is) =
            one k (omega arith) (subst (λ x. Listed x (parents S k)) at (place_listed (parents S k) j h)) (sym leans_is ∙ e) is
        go i (one d from listed leant was) (still nowhere is) = one d (omega arith) listed leant (is ∙ was)
        go i (none without was) (still nowhere is) =
            none (none_here i (λ l leant. nowhere_listed (parents S k) i nowhere l) without) (is ∙ was)
