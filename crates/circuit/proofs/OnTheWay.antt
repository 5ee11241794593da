-- What a look-up stores and flags on the way: only figures whose keep byte is 1, and of a figure that is worked out each such parent;
-- nothing of it depends on the rules. Assumes nothing.
use Prim.Native.Nat.{ℕ, zero, suc}
use mathlib.Core.Path.{◌≡◌, refl, sym, ap, ap₂, ◌∙◌}
use mathlib.Core.Logic.{◌⊎◌, inl, inr}
use mathlib.Core.Bool.{Bool, true, false, cond, ◌||◌, or-true}
use mathlib.Core.List.{List, [], ◌∷◌}
use lib.Dec.{eqb}
use Rattle.circuit.specs.Value.{null}
use Rattle.circuit.specs.Circuit.{Listed}
use Rattle.circuit.specs.Sheet.{Sheet, Item, entry, figure, item_at, kept_of, parents, parents_of}
use Rattle.circuit.specs.Table.{Table, Cell, unk, held, upd, is_stored, is_notice, notice_if, mark_of}
use Rattle.circuit.specs.Machine.{Looked, Gathered, gather, work_out_by, store_if, flagged, look_cell, look_for, look_up, work_out}
use Rattle.circuit.specs.Equations.{ruleless, valueless}
use Rattle.circuit.proofs.View.{never}
use Rattle.circuit.proofs.Fill.{upd_same, upd_cases}

-- ---- each parent is stored, where its keep byte says so

module _ (S : Sheet) where
  -- the cell of k stays stored, or becomes stored if k is kept
  abbrev pub StoredAs : ℕ → Bool → Bool → Type 0
  StoredAs k before after = (after ≡ before) ⊎ ((kept_of (item_at S k) ≡ true) × (after ≡ true))

  -- from T to U figures have become stored, and only those that are kept
  abbrev pub Stores : Table → Table → Type 0
  Stores T U = (k : ℕ) → StoredAs k (is_stored (T k)) (is_stored (U k))

  stores_trans : (T U X : Table) → Stores T U → Stores U X → Stores T X
  stores_trans T U X first second k = go (first k) (second k)
    where
      go : StoredAs k (is_stored (T k)) (is_stored (U k)) → StoredAs k (is_stored (U k)) (is_stored (X k)) → StoredAs k (is_stored (T k)) (is_stored (X k))
      go e (inr kept) = inr kept
      go (inl e) (inl f) = inl (f ∙ e)
      go (inr (kept, e)) (inl f) = inr (kept, f ∙ e)

  abbrev pub AllStore : (Table → ℕ → Looked) → Type 0
  AllStore look = (T : Table) (i : ℕ) → Stores T (look T i).table

  gather_stores : (look : Table → ℕ → Looked) → AllStore look → (ps : List ℕ) (T : Table) → Stores T (gather look T ps).table
  unfolding gather
  gather_stores look stores [] T = λ k. inl refl
  gather_stores look stores (p ∷ ps) T =
      let U : Table = (look T p).table in
      stores_trans T U (gather look U ps).table (stores T p) (gather_stores look stores ps U)

  look_cell_stores : (look : Table → ℕ → Looked) → AllStore look → (T : Table) (i : ℕ) (c : Cell) → Stores T (look_cell look S T i c).table
  unfolding work_out_by
  look_cell_stores look stores T i (held v m) = λ k. inl refl
  look_cell_stores look stores T i (unk f) = go (kept_of (item_at S i)) refl
    where
      r : Looked
      r = flagged f (work_out_by look S T i)

      worked : Stores T r.table
      worked = gather_stores look stores (parents S i) T

      go : (b : Bool) → kept_of (item_at S i) ≡ b → Stores T (store_if b i r).table
      go true e =
          upd_cases (λ k c. StoredAs k (is_stored (T k)) (is_stored c)) r.table i (held r.value (notice_if r.flag)) (inr (e, refl)) (λ k n. worked k)
      go false e = worked

  look_for_stores : (fuel : ℕ) → AllStore (look_for fuel S)
  unfolding look_for
  look_for_stores zero T i = λ k. inl refl
  look_for_stores (suc fuel) T i = look_cell_stores (look_for fuel S) (look_for_stores fuel) T i (T i)

  pub look_stores : AllStore (look_up S)
  unfolding look_up
  look_stores T i = look_for_stores (suc i) T i

  -- a kept figure that is looked up is stored
  look_stored : (T : Table) (i : ℕ) → kept_of (item_at S i) ≡ true → is_stored ((look_up S T i).table i) ≡ true
  unfolding look_up look_for
  look_stored T i kept = go (T i) refl
    where
      go : (c : Cell) → T i ≡ c → is_stored ((look_cell (look_for i S) S T i c).table i) ≡ true
      go (held v m) e = ap is_stored e
      go (unk f) e =
          let r : Looked = flagged f (work_out_by (look_for i S) S T i) in
          ap (λ b. is_stored ((store_if b i r).table i)) kept ∙ ap is_stored (upd_same r.table i (held r.value (notice_if r.flag)))

  stays_stored : (T U : Table) → Stores T U → (k : ℕ) → is_stored (T k) ≡ true → is_stored (U k) ≡ true
  stays_stored T U stores k e = go (stores k)
    where
      go : StoredAs k (is_stored (T k)) (is_stored (U k)) → is_stored (U k) ≡ true
      go (inl f) = f ∙ e
      go (inr (kept, f)) = f

  gather_stored : (ps : List ℕ) (T : Table) (p : ℕ) → kept_of (item_at S p) ≡ true → Listed p ps → is_stored ((gather (look_up S) T ps).table p) ≡ true
  unfolding gather
  gather_stored [] T p kept l = absurd l
  gather_stored (q ∷ ps) T p kept (inl e) =
      let U : Table = (look_up S T q).table in
      stays_stored U (gather (look_up S) U ps).table (gather_stores (look_up S) look_stores ps U) p (rw (← e) (look_stored T p kept))
  gather_stored (q ∷ ps) T p kept (inr l) = gather_stored ps (look_up S T q).table p kept l

  pub each_parent : (T : Table) (i p : ℕ) → Listed p (parents S i) → is_stored ((work_out S T i).table p) ≡ (is_stored (T p) || kept_of (item_at S p))
  unfolding work_out work_out_by
  each_parent T i p l = go (kept_of (item_at S p)) refl
    where
      U : Table
      U = (gather (look_up S) T (parents S i)).table

      go : (b : Bool) → kept_of (item_at S p) ≡ b → is_stored (U p) ≡ (is_stored (T p) || b)
      go true e = gather_stored (parents S i) T p e l ∙ sym (or-true (is_stored (T p)))
      go false e = same (gather_stores (look_up S) look_stores (parents S i) T p) ∙ or-false (is_stored (T p))
        where
          same : StoredAs p (is_stored (T p)) (is_stored (U p)) → is_stored (U p) ≡ is_stored (T p)
          same (inl f) = f
          same (inr (kept, f)) = never (cc)

          or-false : (a : Bool) → a ≡ (a || false)
          or-false true = refl
          or-false false = refl

-- ---- whatever the rules are

kept_ruleless : (it : Item) → kept_of (ruleless it) ≡ kept_of it
kept_ruleless entry = refl
kept_ruleless (figure op k s ps) = refl

parents_ruleless : (it : Item) → parents_of (ruleless it) ≡ parents_of it
parents_ruleless entry = refl
parents_ruleless (figure op k s ps) = refl

-- the same cells are stored, with the same marks
abbrev pub SameForms : Table → Table → Type 0
SameForms T U = (k : ℕ) → valueless (T k) ≡ valueless (U k)

pub record SameLook (r s : Looked) : Type 0 where
  pub forms : SameForms r.table s.table
  pub flag : r.flag ≡ s.flag

pub record SameGather (g h : Gathered) : Type 0 where
  pub forms : SameForms g.table h.table
  pub flag : g.flag ≡ h.flag

module _ (R S : Sheet) (alike : (k : ℕ) → ruleless (item_at R k) ≡ ruleless (item_at S k)) where
  kept_alike : (k : ℕ) → kept_of (item_at R k) ≡ kept_of (item_at S k)
  kept_alike k = sym (kept_ruleless (item_at R k)) ∙ ap kept_of (alike k) ∙ kept_ruleless (item_at S k)

  parents_alike : (k : ℕ) → parents R k ≡ parents S k
  parents_alike k = sym (parents_ruleless (item_at R k)) ∙ ap parents_of (alike k) ∙ parents_ruleless (item_at S k)

  abbrev pub AllSame : (Table → ℕ → Looked) → (Table → ℕ → Looked) → Type 0
  AllSame look other = (T U : Table) → SameForms T U → (i : ℕ) → SameLook (look T i) (other U i)

  gather_forms : (look other : Table → ℕ → Looked) → AllSame look other → (ps : List ℕ) (T U : Table) → SameForms T U
      → SameGather (gather look T ps) (gather other U ps)
  unfolding gather
  gather_forms look other same [] T U forms = record { forms = forms; flag = refl }
  gather_forms look other same (p ∷ ps) T U forms =
      let r : SameLook (look T p) (other U p) = same T U forms p in
      let g : SameGather (gather look (look T p).table ps) (gather other (other U p).table ps) = gather_forms look other same ps (look T p).table (other U p).table r.forms in
      record { forms = g.forms; flag = ap₂ ◌||◌ r.flag g.flag }

  worked_forms : (look other : Table → ℕ → Looked) → AllSame look other → (T U : Table) → SameForms T U → (i : ℕ)
      → SameLook (work_out_by look R T i) (work_out_by other S U i)
  unfolding work_out_by
  worked_forms look other same T U forms i =
      let g : SameGather (gather look T (parents R i)) (gather other U (parents S i)) = rw (parents_alike i) (gather_forms look other same (parents S i) T U forms) in
      record { forms = g.forms; flag = g.flag }

  stored_forms : (b : Bool) (i : ℕ) (r s : Looked) → SameLook r s → SameLook (store_if b i r) (store_if b i s)
  stored_forms false i r s same = same
  stored_forms true i r s same = record { forms = λ k. go k (eqb k i); flag = same.flag }
    where
      go : (k : ℕ) (b : Bool)
          → valueless (cond b (held r.value (notice_if r.flag)) (r.table k)) ≡ valueless (cond b (held s.value (notice_if s.flag)) (s.table k))
      go k true = ap (λ f. held null (notice_if f)) same.flag
      go k false = same.forms k

  look_cell_forms : (look other : Table → ℕ → Looked) → AllSame look other → (T U : Table) → SameForms T U → (i : ℕ) (c d : Cell)
      → valueless c ≡ valueless d → SameLook (look_cell look R T i c) (look_cell other S U i d)
  look_cell_forms look other same T U forms i (held v m) (held w n) e =
      record { forms = forms; flag = ap (λ x. is_notice (mark_of x)) e }
  look_cell_forms look other same T U forms i (held v m) (unk g) e = never (cc)
  look_cell_forms look other same T U forms i (unk f) (held w n) e = never (cc)
  look_cell_forms look other same T U forms i (unk f) (unk g) e =
      let r : SameLook (work_out_by look R T i) (work_out_by other S U i) = worked_forms look other same T U forms i in
      let own : f ≡ g = cc in
      rw (kept_alike i) (stored_forms (kept_of (item_at S i)) i (flagged f (work_out_by look R T i)) (flagged g (work_out_by other S U i)) (record { forms = r.forms; flag = ap₂ ◌||◌ r.flag own }))

  look_for_forms : (fuel : ℕ) → AllSame (look_for fuel R) (look_for fuel S)
  unfolding look_for
  look_for_forms zero T U forms i = record { forms = forms; flag = refl }
  look_for_forms (suc fuel) T U forms i = look_cell_forms (look_for fuel R) (look_for fuel S) (look_for_forms fuel) T U forms i (T i) (U i) (forms i)

  pub look_forms : AllSame (look_up R) (look_up S)
  unfolding look_up
  look_forms T U forms i = look_for_forms (suc i) T U forms i
