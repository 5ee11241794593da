-- Postings: those of an accepted call fit entries of the sheet (`postings_fit`), and what storing them leaves. Assumes nothing.
use Prim.Native.Nat.{ℕ, ◌<◌}
use mathlib.Core.Path.{◌≡◌, refl, ap, ◌∙◌, fun_ext}
use mathlib.Core.Bool.{Bool, true, false, cond}
use mathlib.Core.List.{List, [], ◌∷◌}
use mathlib.Core.Logic.{inl, inr}
use mathlib.Core.Option.{Option, none, some}
use lib.Dec.{eqb}
use Rattle.circuit.specs.Value.{Value, is_out, well_formed, same}
use Rattle.circuit.specs.Circuit.{Listed}
use Rattle.circuit.specs.Sheet.{Sheet, size, item_at, is_figure}
use Rattle.circuit.specs.Table.{Table, Cell, notice, unk, held, value_in, entries_of}
use Rattle.circuit.specs.Machine.{post_cell, store_posting}
use Rattle.circuit.specs.Call.{Call, post, keep, drop, step, ask, board, close, swap, Posting, posted_to}
use Rattle.circuit.specs.Calls.{tests, first_cause, posted_value, posting_of, postings_by, store_postings}
use Rattle.circuit.specs.Fresh.{set_entry}
use Rattle.circuit.proofs.RuleLaws.{same_true}
use Rattle.circuit.proofs.Parts.{posted_some}
use Rattle.circuit.proofs.Fill.{upd_other}
use Rattle.circuit.proofs.Fresh.{entered}
use Rattle.circuit.proofs.Accepted.{post_passed, swap_passed}

-- a posting of a value in the range, and not OUT, to an entry of the sheet
pub record Fits (S : Sheet) (p : Posting) : Type 0 where
  pub low : p.entry < size S
  pub to_entry : is_figure (item_at S p.entry) ≡ false
  pub formed : well_formed p.value ≡ true
  pub inside : is_out p.value ≡ false

abbrev pub AllFit : Sheet → List Posting → Type 0
AllFit S [] = Unit {0}
AllFit S (p ∷ ps) = Fits S p × AllFit S ps

-- what an accepted call posts
pub postings_fit : (S : Sheet) (T : Table) (c : Call) → first_cause (tests S T c) ≡ 0 → AllFit S (postings_by (entries_of T) c)
postings_fit S T (post i kind z) e = go (posted_value kind z) refl
  where
    go : (o : Option Value) → posted_value kind z ≡ o → AllFit S (posting_of i o)
    go none q = tt
    go (some v) q =
        let passed = post_passed S T i kind z e in
        let own = posted_some kind z v q in
        (record { low = passed.0; to_entry = passed.1; formed = own.0.formed; inside = own.1 }, tt)
postings_fit S T (keep i) e = tt
postings_fit S T (drop i) e = tt
postings_fit S T (step i) e = tt
postings_fit S T (ask i) e = tt
postings_fit S T (board items results) e = tt
postings_fit S T close e = tt
postings_fit S T (swap giver taker quantity) e =
    let passed = swap_passed S T giver taker quantity e in (
      record { low = passed.giver_low; to_entry = passed.giver_entry; formed = passed.left_in; inside = refl },
      (record { low = passed.taker_low; to_entry = passed.taker_entry; formed = passed.come_in; inside = refl }, tt),
    )

-- a posted cell holds what was posted
pub posted_value_lem : (c : Cell) (v : Value) → value_in (post_cell c v) ≡ v
posted_value_lem (unk f) v = refl
posted_value_lem (held w m) v = go (same w v) refl
  where
    go : (b : Bool) → same w v ≡ b → value_in (cond b (held w m) (held v notice)) ≡ v
    go true e = same_true w v e
    go false e = refl

-- the entries of a table after a posting, and after postings
pub posting_entries : (T : Table) (e : ℕ) (v : Value) → entries_of (store_posting T e v) ≡ set_entry (entries_of T) e v
unfolding store_posting
posting_entries T e v = fun_ext λ j. go j (eqb j e)
  where
    go : (j : ℕ) (b : Bool) → value_in (cond b (post_cell (T e) v) (T j)) ≡ cond b v (value_in (T j))
    go j true = posted_value_lem (T e) v
    go j false = refl

pub postings_entries : (ps : List Posting) (T : Table) → entries_of (store_postings T ps) ≡ entered (entries_of T) ps
unfolding store_postings entered
postings_entries [] T = refl
postings_entries (p ∷ ps) T =
    postings_entries ps (store_posting T p.entry p.value) ∙ ap (λ E. entered E ps) (posting_entries T p.entry p.value)

-- no other cell changes
pub postings_other : (ps : List Posting) (T : Table) (k : ℕ) → (Listed k (posted_to ps) → ⊥) → store_postings T ps k ≡ T k
unfolding store_postings store_posting
postings_other [] T k other = refl
postings_other (p ∷ ps) T k other =
    postings_other ps (store_posting T p.entry p.value) k (λ l. other (inr l)) ∙ upd_other T p.entry _ k (λ q. other (inl q))
