-- The invariant of a table: the value of each stored figure is what its parents give, or its mark is refresh, or a
-- parent is flagged. Here is one law for what keeps it (`changes_kept`): a list of what may happen to a cell, after
-- which every view is as it was or is flagged. Fills, postings, drops and the step of a refresh are of that kind. Both
-- openings have the invariant. Assumes that the sheet is ordered, where it says so.
use Prim.Native.Nat.{ℕ, ◌<◌}
use mathlib.Core.Path.{◌≡◌, refl, sym, ap, ◌∙◌}
use mathlib.Core.Logic.{◌⊎◌, inl, inr}
use mathlib.Core.Bool.{Bool, true, false, cond, ◌||◌, or-true}
use mathlib.Core.List.{List, [], ◌∷◌, map}
use Rattle.circuit.specs.Value.{Value, null, same}
use Rattle.circuit.specs.Circuit.{Listed}
use Rattle.circuit.specs.Sheet.{Sheet, Item, entry, figure, item_at, is_figure, parents_of, parents, Ordered}
use Rattle.circuit.specs.Table.{Table, Cell, Mark, unmarked, refresh, notice, unk, held, upd, is_notice, notice_if, bare_cell, open_bare, open_full}
use Rattle.circuit.specs.Machine.{Looked, work_out, post_cell, store_posting, drop_cell, drop_figure, renewed}
use Rattle.circuit.proofs.RuleLaws.{same_true, all_null_lem, allNull-map}
use Rattle.circuit.proofs.View.{never, Seen, seen, any_flag, worked, seen_cell, view, result, strong, worked_ext, view_is, view_at}
use Rattle.circuit.proofs.Fill.{upd_cases, notice_is, Filling, stays, fills, Fill, Looks, work_right}

-- why figure k may hold v with mark m
pub data Justified (S : Sheet) (T : Table) (k : ℕ) (v : Value) (m : Mark) : Type 0 where
  exact : v ≡ (result S T k).value → Justified S T k v m
  due : m ≡ refresh → Justified S T k v m
  awaits : (result S T k).flag ≡ true → Justified S T k v m

abbrev pub Invariant : Sheet → Table → Type 0
Invariant S T = (k : ℕ) → is_figure (item_at S k) ≡ true → (v : Value) (m : Mark) → T k ≡ held v m → Justified S T k v m

-- U's view of each item is T's, or is flagged
abbrev pub Drift : Sheet → Table → Table → Type 0
Drift S T U = (i : ℕ) → (view S U i ≡ view S T i) ⊎ ((view S U i).flag ≡ true)

-- the same of the items of a list, and of what is worked out from them
list_drift : (w x : ℕ → Seen) (ps : List ℕ) → ((p : ℕ) → Listed p ps → (w p ≡ x p) ⊎ ((w p).flag ≡ true))
    → ((p : ℕ) → Listed p ps → w p ≡ x p) ⊎ (any_flag w ps ≡ true)
list_drift w x [] h = inl (λ p l. absurd l)
list_drift w x (q ∷ ps) h = go (h q (inl refl)) (list_drift w x ps (λ p l. h p (inr l)))
  where
    go : (w q ≡ x q) ⊎ ((w q).flag ≡ true) → ((p : ℕ) → Listed p ps → w p ≡ x p) ⊎ (any_flag w ps ≡ true)
        → ((p : ℕ) → Listed p (q ∷ ps) → w p ≡ x p) ⊎ (any_flag w (q ∷ ps) ≡ true)
    go (inr e) rest = inr (rw e)
    go (inl e) (inr f) = inr (rw f (or-true (w q).flag))
    go (inl e) (inl all) = inl each
      where
        each : (p : ℕ) → Listed p (q ∷ ps) → w p ≡ x p
        each p (inl h) = rw h e
        each p (inr l) = all p l

worked_drift : (w x : ℕ → Seen) (it : Item) → ((p : ℕ) → Listed p (parents_of it) → (w p ≡ x p) ⊎ ((w p).flag ≡ true))
    → (worked w it ≡ worked x it) ⊎ ((worked w it).flag ≡ true)
worked_drift w x it h = go (list_drift w x (parents_of it) h)
  where
    go : ((p : ℕ) → Listed p (parents_of it) → w p ≡ x p) ⊎ (any_flag w (parents_of it) ≡ true)
        → (worked w it ≡ worked x it) ⊎ ((worked w it).flag ≡ true)
    go (inl all) = inl (worked_ext w x it all)
    go (inr f) = inr f

cell_drift : (w x : ℕ → Seen) (it : Item) (c : Cell) → (worked w it ≡ worked x it) ⊎ ((worked w it).flag ≡ true)
    → (seen_cell w it c ≡ seen_cell x it c) ⊎ ((seen_cell w it c).flag ≡ true)
cell_drift w x it (held v m) h = inl refl
cell_drift w x it (unk f) (inl e) = inl (ap (λ r. seen r.value (r.flag || f)) e)
cell_drift w x it (unk f) (inr e) = inr (rw e)

-- what a drift leaves justified
pub justified_drift : (S : Sheet) (T U : Table) → Drift S T U → {k : ℕ} {v : Value} {m : Mark} → Justified S T k v m
    → Justified S U k v m
justified_drift S T U drift {k} {v} {m} why = go (worked_drift (view S U) (view S T) (item_at S k) (λ p l. drift p)) why
  where
    go : (result S U k ≡ result S T k) ⊎ ((result S U k).flag ≡ true) → Justified S T k v m → Justified S U k v m
    go (inl e) (exact q) = exact (q ∙ sym (ap (λ r. r.value) e))
    go (inl e) (due q) = due q
    go (inl e) (awaits q) = awaits (ap (λ r. r.flag) e ∙ q)
    go (inr f) why = awaits f

-- What may happen to the cell of j: it stays; it is filled; its value stays and its mark changes, but not to or from
-- notice; it becomes UNK with notice; it holds a value with notice, which for a figure is the rule's; an unmarked figure
-- becomes UNK.
pub data Change (S : Sheet) (T : Table) (j : ℕ) (c : Cell) : Type 0 where
  unchanged : c ≡ T j → Change S T j c
  filled : (f : Bool) → T j ≡ unk f → c ≡ held (view S T j).value (notice_if (view S T j).flag) → Change S T j c
  remarked : (v : Value) (m n : Mark) → T j ≡ held v m → c ≡ held v n → is_notice n ≡ is_notice m
      → (is_figure (item_at S j) ≡ true → Justified S T j v n) → Change S T j c
  noticed : c ≡ unk true → Change S T j c
  stored : (v : Value) → c ≡ held v notice → (is_figure (item_at S j) ≡ true → v ≡ (result S T j).value) → Change S T j c
  dropped : (v : Value) → is_figure (item_at S j) ≡ true → T j ≡ held v unmarked → c ≡ unk false → Change S T j c

abbrev pub Changes : Sheet → Table → Table → Type 0
Changes S T U = (j : ℕ) → Change S T j (U j)

module _ (S : Sheet) (ordered : Ordered S) where
  -- a dropped figure gives what it held, or is flagged
  drop_drift : (T U : Table) (i : ℕ) (v : Value) → Justified S T i v unmarked → T i ≡ held v unmarked → U i ≡ unk false
      → (result S U i ≡ result S T i) ⊎ ((result S U i).flag ≡ true) → (view S U i ≡ view S T i) ⊎ ((view S U i).flag ≡ true)
  drop_drift T U i v why e h parents = go why parents
    where
      now : view S U i ≡ seen (result S U i).value ((result S U i).flag || false)
      now = view_at S ordered U i h

      then : view S T i ≡ seen v false
      then = view_at S ordered T i e

      flagged : (result S U i).flag ≡ true → (view S U i).flag ≡ true
      flagged f = ap (λ s. s.flag) now ∙ rw f

      plain : v ≡ (result S U i).value → (b : Bool) → (result S U i).flag ≡ b
          → (view S U i ≡ view S T i) ⊎ ((view S U i).flag ≡ true)
      plain q true f = inr (flagged f)
      plain q false f = inl (now ∙ (rw (f, q)) ∙ sym then)

      go : Justified S T i v unmarked → (result S U i ≡ result S T i) ⊎ ((result S U i).flag ≡ true)
          → (view S U i ≡ view S T i) ⊎ ((view S U i).flag ≡ true)
      go (exact q) (inl r) = plain (q ∙ sym (ap (λ s. s.value) r)) (result S U i).flag refl
      go (exact q) (inr f) = inr (flagged f)
      go (due q) r = never (cc)
      go (awaits q) (inl r) = inr (flagged (ap (λ s. s.flag) r ∙ q))
      go (awaits q) (inr f) = inr (flagged f)

  -- after changes every view is as it was, or is flagged
  pub changes_drift : (T U : Table) → Invariant S T → Changes S T U → Drift S T U
  changes_drift T U invariant changes = strong (λ i. (view S U i ≡ view S T i) ⊎ ((view S U i).flag ≡ true)) rise
    where
      rise : (i : ℕ) → ((p : ℕ) → p < i → (view S U p ≡ view S T p) ⊎ ((view S U p).flag ≡ true))
          → (view S U i ≡ view S T i) ⊎ ((view S U i).flag ≡ true)
      rise i lower = go (changes i)
        where
          it : Item
          it = item_at S i

          parents_drift : (result S U i ≡ result S T i) ⊎ ((result S U i).flag ≡ true)
          parents_drift = worked_drift (view S U) (view S T) (item_at S i) (λ p l. lower p (ordered i p l))

          go : Change S T i (U i) → (view S U i ≡ view S T i) ⊎ ((view S U i).flag ≡ true)
          go (unchanged e) =
              rw (view_at S ordered U i e, view_is S ordered T i)
              (cell_drift (view S U) (view S T) (item_at S i) (T i) parents_drift)
          go (filled f e h) = inl (view_at S ordered U i h ∙ rw (notice_is (view S T i).flag))
          go (remarked v m n e h q why) =
              inl (view_at S ordered U i h ∙ ap (seen v) q ∙ sym (view_at S ordered T i e))
          go (noticed h) = inr (ap (λ s. s.flag) (view_at S ordered U i h) ∙ or-true (result S U i).flag)
          go (stored v h q) = inr (ap (λ s. s.flag) (view_at S ordered U i h))
          go (dropped v k e h) = drop_drift T U i v (invariant i k v unmarked e) e h parents_drift

  -- and the invariant holds still
  pub changes_kept : (T U : Table) → Invariant S T → Changes S T U → Invariant S U
  changes_kept T U invariant changes k fig v m e = justified_drift S T U (changes_drift T U invariant changes) (go (changes k))
    where
      go : Change S T k (U k) → Justified S T k v m
      go (unchanged q) = invariant k fig v m (sym q ∙ e)
      go (filled f q h) = exact (value ∙ ap (λ s. s.value) (view_at S ordered T k q))
        where
          value : v ≡ (view S T k).value
          value = cc
      go (remarked w a n q h o why) =
          let same_value : w ≡ v = cc in
          let same_mark : n ≡ m = cc in
          rw (← same_value, ← same_mark) (why fig)
      go (noticed h) = never (cc)
      go (stored w h q) = exact (value ∙ q fig)
        where
          value : v ≡ w
          value = cc
      go (dropped w j q h) = never (cc)

  -- a fill
  pub fill_changes : (T U : Table) → Fill S T U → Changes S T U
  fill_changes T U fill j = go (fill j)
    where
      go : Filling S T j (U j) → Change S T j (U j)
      go (stays e) = unchanged e
      go (fills f k e h) = filled f e h

  -- a fill, and then one store
  pub store_changes : (T U : Table) (i : ℕ) (c : Cell) → Fill S T U → Change S T i c → Changes S T (upd U i c)
  store_changes T U i c fill change = upd_cases (Change S T) U i c change (λ j n. fill_changes T U fill j)

  -- a stored item worked out anew, from mark m to n, where the two are notice or neither is
  pub renewed_changes : (T : Table) (i : ℕ) (v : Value) (m n : Mark) → T i ≡ held v m → is_notice n ≡ is_notice m
      → Changes S T (renewed i v n (work_out S T i))
  renewed_changes T i v m n e q = store_changes T r.table i _ right.fill (go (same v r.value) refl)
    where
      r : Looked
      r = work_out S T i

      right : Looks S T (result S T i) r
      right = work_right S ordered T i

      go : (b : Bool) → same v r.value ≡ b → Change S T i (cond b (held v n) (held r.value notice))
      go true h = remarked v m n e refl q (λ k. exact (same_true v r.value h ∙ right.value))
      go false h = stored r.value refl (λ k. right.value)

  -- a posting stored in an entry
  pub post_changes : (T : Table) (i : ℕ) (v : Value) → is_figure (item_at S i) ≡ false → Changes S T (store_posting T i v)
  unfolding store_posting
  post_changes T i v k = store_changes T T i _ (λ j. stays refl) (go (T i) refl)
    where
      no_figure : is_figure (item_at S i) ≡ true → v ≡ (result S T i).value
      no_figure f = never (cc)

      go : (c : Cell) → T i ≡ c → Change S T i (post_cell c v)
      go (unk f) e = stored v refl no_figure
      go (held w m) e = which (same w v)
        where
          which : (b : Bool) → Change S T i (cond b (held w m) (held v notice))
          which true = unchanged (sym e)
          which false = stored v refl no_figure

  -- a figure dropped
  pub drop_changes : (T : Table) (i : ℕ) → is_figure (item_at S i) ≡ true → Changes S T (drop_figure T i)
  unfolding drop_figure
  drop_changes T i k = store_changes T T i _ (λ j. stays refl) (go (T i) refl)
    where
      go : (c : Cell) → T i ≡ c → Change S T i (drop_cell c)
      go (unk f) e = unchanged (sym e)
      go (held v unmarked) e = dropped v k e refl
      go (held v refresh) e = noticed refl
      go (held v notice) e = noticed refl

-- both openings have the invariant
pub bare_invariant : (S : Sheet) → Invariant S (open_bare S)
bare_invariant S k fig v m e = go (item_at S k) fig e
  where
    go : (it : Item) → is_figure it ≡ true → bare_cell it ≡ held v m → Justified S (open_bare S) k v m
    go entry f e = never (cc)
    go (figure op kept spread ps) f e = never (cc)

pub full_invariant : (S : Sheet) → Ordered S → Invariant S (open_full S)
full_invariant S ordered k fig v m e = exact (value ∙ go (item_at S k) fig)
  where
    T : Table
    T = open_full S

    value : v ≡ null
    value = cc

    go : (it : Item) → is_figure it ≡ true → null ≡ (worked (view S T) it).value
    go entry f = never (cc)
    go (figure op kept spread ps) f =
        sym (all_null_lem op (map (λ p. (view S T p).value) ps)
        (allNull-map (λ p. (view S T p).value) (λ p. ap (λ s. s.value) (view_is S ordered T p)) ps))
