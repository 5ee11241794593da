-- Catching up as one ascending pass, from what the code's calls ensure. Assumes nothing.
use Prim.Native.Nat.{ℕ, zero, suc, ◌+◌, ◌*◌, ◌<◌}
use native.Mathlib.Omega.{arith}
use native.Mathlib.Numerals.{add-one}
use mathlib.Core.Path.{◌≡◌, refl, sym, ap, subst, ◌∙◌}
use mathlib.Core.Bool.{Bool, true, false}
use mathlib.Core.List.{List}
use lib.ListN.{length}
use Rattle.circuit.specs.Sheet.{Sheet, size}
use Rattle.circuit.specs.Table.{Table, is_marked}
use Rattle.circuit.specs.Owed.{owed}
use Rattle.circuit.specs.Machine.{catch_up}
use Rattle.circuit.specs.Ascending.{step_by, step_if_by, step_marked_by, ascend_below_by, ascend_by}
use Rattle.circuit.proofs.Closure.{parent_within}
use Rattle.circuit.proofs.Owed.{Child, owed_finds}
use Rattle.circuit.proofs.CatchUp.{catch_up-still}
use Rattle.circuit.proofs.CalledMore.{catch_up_by}
use Rattle.layout.specs.Opened.{sheet_of}
use Rattle.item.proofs.Located.{sheet_ordered}
use Rattle.table.specs.Bytes.{decode_table, OwedKept, LowestMarked}
use Rattle.table.proofs.Tables.{owed_kept_refl, owed_kept_then}
use Rattle.owing.specs.Owing.{says_owed, OwedIs}
use Rattle.memo.specs.Memo.{Pass}
use Rattle.looking.proofs.Gathering.{lent_on}
use Rattle.looking.specs.Pass.{Lent}
use Rattle.stepping.specs.Stepping.{Ready, Steps, begun}
use Rattle.stepping.proofs.Stepping.{ready_next}

module _ (w : ℕ → Bool) {s t : List ℕ} (lent : Lent s t) (i : ℕ) (b : Bool) (tests : b ≡ is_marked (decode_table t i)) where
  pub marked_steps : b ≡ true → {generation : ℕ} {t₂ : List ℕ} {memo₂ : Pass} → Steps s t generation (step_by w (sheet_of s) (decode_table t) i) t₂ memo₂
      → Steps s t generation (step_marked_by w (sheet_of s) (decode_table t) i) t₂ memo₂
  unfolding step_marked_by
  marked_steps e {generation} {t₂} {memo₂} steps =
      subst (λ x. Steps s t generation (step_if_by x w (sheet_of s) (decode_table t) i) t₂ memo₂) (sym e ∙ tests) steps

  stays_so : b ≡ false → decode_table t ≡ step_marked_by w (sheet_of s) (decode_table t) i
  unfolding step_marked_by
  stays_so e = ap (λ x. step_if_by x w (sheet_of s) (decode_table t) i) (sym e ∙ tests)

  pub unmarked_stays : b ≡ false → (memo : Pass) → Ready s memo → Steps s t memo.generation (step_marked_by w (sheet_of s) (decode_table t) i) t memo
  unmarked_stays e memo ready =
      record { table_is = stays_so e; owed_kept = owed_kept_refl t; formed = lent.formed; ready = ready_next memo memo.generation ready }

  -- an item that is not marked is not stepped a second time either, and the two generations pass
  pub unmarked_twice : b ≡ false → (memo : Pass) → Ready s (begun memo (2 * i + 1))
      → Steps s t (2 * i + 2) (step_marked_by w (sheet_of s) (step_marked_by w (sheet_of s) (decode_table t) i) i) t memo
  unmarked_twice e memo ready =
      record {
        table_is = stays_so e ∙ ap (λ T. step_marked_by w (sheet_of s) T i) (stays_so e);
        owed_kept = owed_kept_refl t;
        formed = lent.formed;
        ready = record { room = ready.room; older = λ j h. omega (arith, ready.older j h) };
      }

-- the second step of an item
pub stepped_twice : (w : ℕ → Bool) {s t : List ℕ} {generation : ℕ} → Lent s t → (i : ℕ) → is_marked (decode_table t i) ≡ true → {t₁ : List ℕ} {memo₁ : Pass}
    → Steps s t generation (step_by w (sheet_of s) (decode_table t) i) t₁ memo₁ → (next : ℕ) → next ≡ 2 * i + 2 → {t₂ : List ℕ} {memo₂ : Pass}
    → Steps s t₁ next (step_marked_by w (sheet_of s) (decode_table t₁) i) t₂ memo₂
    → Steps s t (2 * i + 2) (step_marked_by w (sheet_of s) (step_marked_by w (sheet_of s) (decode_table t) i) i) t₂ memo₂
stepped_twice w {s} {t} {generation} lent i marked {t₁} {memo₁} first next next_is {t₂} {memo₂} steps =
    record {
      table_is = steps.table_is ∙ ap (λ T. step_marked_by w (sheet_of s) T i) (marked_steps w lent i true (sym marked) refl first).table_is;
      owed_kept = owed_kept_then t t₁ t₂ first.owed_kept steps.owed_kept;
      formed = steps.formed;
      ready = subst (λ g. Ready s (begun memo₂ (g + 1))) next_is steps.ready;
    }

-- below the lowest marked item the pass changes nothing
ascend_none : (w : ℕ → Bool) (S : Sheet) (T : Table) (k : ℕ) → ((i : ℕ) → i < k → is_marked (T i) ≡ false) → ascend_below_by w S T k ≡ T
unfolding ascend_below_by step_marked_by
ascend_none w S T zero none = refl
ascend_none w S T (suc k) none =
    let here : is_marked (T k) ≡ false = none k (omega arith) in
    let below : ascend_below_by w S T k ≡ T = ascend_none w S T k (λ i h. none i (omega arith)) in
    ap (λ U. step_if_by (is_marked (step_if_by (is_marked (U k)) w S U k k)) w S (step_if_by (is_marked (U k)) w S U k) k) below
    ∙ ap (λ x. step_if_by (is_marked (step_if_by x w S T k k)) w S (step_if_by x w S T k) k) here
    ∙ ap (λ x. step_if_by x w S T k) here

-- The loop over the items: those below i are stepped, and the next generation may begin.
pub record Ascending (w : ℕ → Bool) (s t₀ : List ℕ) (i : ℕ) (t : List ℕ) (memo : Pass) : Type 0 where
  pub lent : Lent s t
  pub table_is : decode_table t ≡ ascend_below_by w (sheet_of s) (decode_table t₀) i
  pub owed_kept : OwedKept t₀ t
  pub ready : Ready s (begun memo (2 * i + 1))

pub ascending_start : (w : ℕ → Bool) {s t : List ℕ} {memo : Pass} {first : ℕ} → Lent s t → Ready s (begun memo (2 * first + 1))
    → LowestMarked (decode_table t) (size (sheet_of s)) first → Ascending w s t first t memo
ascending_start w {s} {t} {memo} {first} lent ready lowest =
    record {
      lent = lent;
      table_is = sym (ascend_none w (sheet_of s) (decode_table t) first lowest.none_below);
      owed_kept = owed_kept_refl t;
      ready = ready;
    }

pub ascending_next : {w : ℕ → Bool} {s t₀ : List ℕ} {i : ℕ} {t : List ℕ} {memo : Pass} → Ascending w s t₀ i t memo
    → (t₂ : List ℕ) (memo₂ : Pass) → length t₂ ≡ length t
    → Steps s t (2 * i + 2) (step_marked_by w (sheet_of s) (step_marked_by w (sheet_of s) (decode_table t) i) i) t₂ memo₂
    → Ascending w s t₀ (i + 1) t₂ memo₂
unfolding ascend_below_by
ascending_next {w} {s} {t₀} {i} {t} {memo} inv t₂ memo₂ len steps =
    record {
      lent = lent_on inv.lent t₂ len steps.formed;
      table_is =
          steps.table_is
          ∙ ap (λ T. step_marked_by w (sheet_of s) (step_marked_by w (sheet_of s) T i) i) inv.table_is
          ∙ ap (ascend_below_by w (sheet_of s) (decode_table t₀)) (sym (add-one i));
      owed_kept = owed_kept_then t₀ t t₂ inv.owed_kept steps.owed_kept;
      ready = subst (λ g. Ready s (begun memo₂ g)) (omega arith) steps.ready;
    }

-- the array of what is owed says so of every item that is
owed_called : (s bytes : List ℕ) (T : Table) → OwedIs (sheet_of s) T bytes → (c : ℕ) → owed (sheet_of s) T c ≡ true → says_owed bytes c ≡ true
owed_called s bytes T is c o =
    let child : Child (sheet_of s) T c = owed_finds (sheet_of s) (sheet_ordered s) T c o in
    let low : c < size (sheet_of s)
    = omega (arith, sheet_ordered s child.item c child.listed, parent_within (sheet_of s) c child.item child.listed) in
    rw (is.byte_is c low, o)

pub ascending_done : {s t₀ bytes : List ℕ} {i : ℕ} {t : List ℕ} {memo : Pass}
    → OwedIs (sheet_of s) (decode_table t₀) bytes → Ascending (says_owed bytes) s t₀ i t memo → i ≡ size (sheet_of s)
    → Steps s t₀ (2 * size (sheet_of s)) (catch_up (sheet_of s) (decode_table t₀)) t memo
unfolding ascend_by
ascending_done {s} {t₀} {bytes} {i} {t} {memo} is inv end =
    record {
      table_is =
          inv.table_is ∙ ap (ascend_below_by (says_owed bytes) (sheet_of s) (decode_table t₀)) end
          ∙ catch_up_by (sheet_of s) (sheet_ordered s) (decode_table t₀) (says_owed bytes) (owed_called s bytes (decode_table t₀) is);
      owed_kept = inv.owed_kept;
      formed = inv.lent.formed;
      ready = subst (λ k. Ready s (begun memo (2 * k + 1))) end inv.ready;
    }

-- where no item is marked, catching up changes nothing
pub quiet_caught : (s t : List ℕ) → ((i : ℕ) → i < size (sheet_of s) → is_marked (decode_table t i) ≡ false)
    → decode_table t ≡ catch_up (sheet_of s) (decode_table t)
quiet_caught s t none = sym (catch_up-still (sheet_of s) (sheet_ordered s) (decode_table t) none)
