-- Demand 3 of the machine, as a lemma: lists of calls since an opening, on items and cells. The demand itself is about
-- bytes, and stands in the crate office. Assumes that the sheet is ordered.
use Prim.Native.Nat.{ℕ, zero, suc, ◌<◌}
use mathlib.Core.Path.{◌≡◌, refl, subst}
use mathlib.Core.Bool.{true, false}
use mathlib.Core.List.{List, [], ◌∷◌}
use mathlib.Core.Logic.{inl, inr}
use native.Mathlib.Omega.{arith}
use Rattle.circuit.specs.Circuit.{Listed, LeadsTo}
use Rattle.circuit.specs.Sheet.{Sheet, Ordered, Entries, size, item_at, is_figure, circuit_of}
use Rattle.circuit.specs.Table.{Table, entries_of, opened}
use Rattle.circuit.specs.Call.{Call, Posting, posted_to, Opening}
use Rattle.circuit.specs.Calls.{tests, first_cause, postings_by, effect_unless, perform, run, if_accepted, postings_made, postings}
use Rattle.circuit.specs.Fresh.{blank}
use Rattle.circuit.specs.Events.{fresh_run}
use Rattle.circuit.specs.Words.{Quiet, Holds}
use Rattle.circuit.proofs.Accepted.{effect_number}
use Rattle.circuit.proofs.Postings.{AllFit, postings_fit}
use Rattle.circuit.proofs.Fresh.{entered, fresh_entered}
use Rattle.circuit.proofs.Sound.{Sound, run_sound}
use Rattle.circuit.proofs.Offices.{Agree, opened_sound, two_openings}
use Rattle.circuit.proofs.Retention.{Outside, Retained, call_retention}

-- After a list of calls the entries hold what they held, with the postings that the list made set in order.
pub run_entered : (S : Sheet) → Ordered S → (E : Entries) (T : Table) (cs : List Call) → Sound S E T → Holds S (run S T cs) (entered E (postings S T cs))
run_entered S ordered E T cs sound =
    subst (λ D. Holds S (run S T cs) D) (fresh_entered S cs E T) (run_sound S ordered cs E T sound).holds

-- what is posted goes to entries, so that a figure that none of them leads to is outside
figure_other : (S : Sheet) (k : ℕ) → is_figure (item_at S k) ≡ true → (ps : List Posting) → AllFit S ps → Listed k (posted_to ps) → ⊥
figure_other S k fig [] fit l = l
figure_other S k fig (p ∷ ps) fit (inl e) =
    let to : is_figure (item_at S p.entry) ≡ false = fit.0.to_entry in
    let bad : ◌≡◌ {A = ℕ} 0 1 = cc in
    omega arith
figure_other S k fig (p ∷ ps) fit (inr l) = figure_other S k fig ps fit.1 l

made_fit : (S : Sheet) (T : Table) (c : Call) → AllFit S (postings_made S T c)
unfolding postings_made perform
made_fit S T c = go (first_cause (tests S T c)) refl
  where
    go : (k : ℕ) → first_cause (tests S T c) ≡ k → AllFit S (if_accepted (effect_unless k S T c).number (postings_by (entries_of T) c))
    go zero e = rw (effect_number S T c) (postings_fit S T c e)
    go (suc k) e = tt

pub figure_outside : (S : Sheet) (T : Table) (c : Call) (k : ℕ) → is_figure (item_at S k) ≡ true
    → ((e : ℕ) → Listed e (posted_to (postings_made S T c)) → LeadsTo (circuit_of S) e k → ⊥) → Outside S (posted_to (postings_made S T c)) k
figure_outside S T c k fig apart = (figure_other S k fig (postings_made S T c) (made_fit S T c), apart)

pub record Demand (S : Sheet) : Type 0 where
  -- Two offices open the sheet, bare or full, and their lists make the same postings in the same order. Then an ask for
  -- any item gives the same in both, and what the fresh office gives, fed either list.
  pub agree : (o p : Opening) (cs ds : List Call) → postings S (opened o S) cs ≡ postings S (opened p S) ds
      → Agree S blank (opened o S) cs (opened p S) ds
  -- After a list no mark stands, and any call is made. However it is caught up then, in whole or in part, and
  -- whatever else is called but no posting made: a figure that none of the entries posted to leads to is retained.
  pub retained : (o : Opening) (cs : List Call) → let T : Table = run S (opened o S) cs in Quiet S T
      → (c : Call) (ds : List Call) → let U : Table = (perform S T c).table in postings S U ds ≡ []
      → (k : ℕ) → k < size S → is_figure (item_at S k) ≡ true → ((e : ℕ) → Listed e (posted_to (postings_made S T c)) → LeadsTo (circuit_of S) e k → ⊥)
      → Retained S T (c ∷ ds) (run S U ds) k

pub demand : (S : Sheet) → Ordered S → Demand S
demand S ordered =
    record {
      agree = λ o p cs ds equal. two_openings S ordered o p cs ds equal;
      retained = λ o cs quiet c ds none_made k low fig apart.
          let T : Table = run S (opened o S) cs in
          let sound : Sound S (fresh_run S blank (opened o S) cs) T = run_sound S ordered cs blank (opened o S) (opened_sound S ordered o) in
          call_retention S ordered T sound.invariant sound.formed quiet c ds none_made k low (figure_outside S T c k fig apart);
    }
