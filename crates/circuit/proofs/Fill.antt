-- Looking up, working out and keeping give the view of the table and leave a fill of it: each cell stays, or was an
-- unstored figure's and now holds what a look-up of the figure gives. A fill changes no view, and fills compose. Here
-- are also the equations of `look_up` and `work` without the bound on the depth. Assumes that the sheet is ordered,
-- where it says so.
use Prim.Native.Nat.{ℕ, zero, suc, ◌<◌, ◌≤◌}
use native.Mathlib.Nat.{not-suc-le-zero}
use native.Mathlib.Omega.{arith}
use mathlib.Core.Path.{◌≡◌, refl, sym, ap, ap₂, ◌∙◌, fun_ext}
use mathlib.Core.Logic.{inl, inr}
use mathlib.Core.Bool.{Bool, true, false, cond, ◌||◌}
use mathlib.Core.List.{List, [], ◌∷◌, map}
use lib.Dec.{eqb}
use borrow.Author.Tests.{eqb-true, eqb-false, eq-eqb, ne_eqb}
use Rattle.circuit.specs.Value.{null}
use Rattle.circuit.specs.Circuit.{Listed}
use Rattle.circuit.specs.Sheet.{Sheet, Item, entry, figure, item_at, is_figure, kept_of, parents, evaluate, Ordered}
use Rattle.circuit.specs.Table.{Table, Cell, unk, held, upd, is_notice, notice_if}
use Rattle.circuit.specs.Machine.{Looked, Gathered, gather, work_out_by, store_if, flagged, look_cell, look_for, look_up, work_out, keep_cell, keep_figure}
use Rattle.circuit.proofs.Solution.{map_listed}
use Rattle.circuit.proofs.View.{never, Seen, any_flag, seen_cell, view, result, any_ext, worked_ext, view_is, view_at, view_unique}

-- a store, read at its item and at another
pub upd_same : (T : Table) (i : ℕ) (c : Cell) → upd T i c i ≡ c
upd_same T i c = rw (eq-eqb i i refl)

pub upd_other : (T : Table) (i : ℕ) (c : Cell) (j : ℕ) → (j ≡ i → ⊥) → upd T i c j ≡ T j
upd_other T i c j h = rw (ne_eqb j i h)

-- what holds of a store's cells: a property of the new cell at i, and of the old ones elsewhere
pub upd_cases : (P : ℕ → Cell → Type 0) (T : Table) (i : ℕ) (c : Cell) → P i c → ((j : ℕ) → (j ≡ i → ⊥) → P j (T j))
    → (j : ℕ) → P j (upd T i c j)
upd_cases P T i c here other j = go (eqb j i) refl
  where
    go : (b : Bool) → eqb j i ≡ b → P j (cond b c (T j))
    go true e = rw (eqb-true j i e) here
    go false e = other j (eqb-false j i e)

-- a cell stored where it stands
pub upd_self : (T : Table) (i : ℕ) → T ≡ upd T i (T i)
upd_self T i = fun_ext λ j. sym (upd_cases (λ k c. c ≡ T k) T i (T i) refl (λ k n. refl) j)

pub notice_is : (f : Bool) → is_notice (notice_if f) ≡ f
notice_is true = refl
notice_is false = refl

-- what may become of the cell of j in a fill
pub data Filling (S : Sheet) (T : Table) (j : ℕ) (c : Cell) : Type 0 where
  stays : c ≡ T j → Filling S T j c
  fills : (f : Bool) → is_figure (item_at S j) ≡ true → T j ≡ unk f
      → c ≡ held (view S T j).value (notice_if (view S T j).flag) → Filling S T j c

-- U is a fill of T
abbrev pub Fill : Sheet → Table → Table → Type 0
Fill S T U = (j : ℕ) → Filling S T j (U j)

pub fill_refl : (S : Sheet) (T : Table) → Fill S T T
fill_refl S T j = stays refl

-- what a look-up or a working out gives, against the value and the flag that it should
pub record Looks (S : Sheet) (T : Table) (s : Seen) (r : Looked) : Type 0 where
  pub value : r.value ≡ s.value
  pub flag : r.flag ≡ s.flag
  pub fill : Fill S T r.table

pub record Gathers (S : Sheet) (T : Table) (ps : List ℕ) (g : Gathered) : Type 0 where
  pub values : g.values ≡ map (λ p. (view S T p).value) ps
  pub flag : g.flag ≡ any_flag (view S T) ps
  pub fill : Fill S T g.table

pub kept_figure : (it : Item) → kept_of it ≡ true → is_figure it ≡ true
kept_figure entry e = cc
kept_figure (figure op k s ps) e = refl

-- look-ups that agree on the items of a list
pub gather_ext : (look find : Table → ℕ → Looked) (ps : List ℕ) → ((T : Table) (p : ℕ) → Listed p ps → look T p ≡ find T p)
    → (T : Table) → gather look T ps ≡ gather find T ps
unfolding gather
gather_ext look find [] h T = refl
gather_ext look find (p ∷ ps) h T =
    rw (h T p (inl refl), gather_ext look find ps (λ U q l. h U q (inr l)) (find T p).table)

module _ (S : Sheet) (ordered : Ordered S) where
  -- a fill changes no view
  pub fill_view : (T U : Table) → Fill S T U → (i : ℕ) → view S U i ≡ view S T i
  fill_view T U fill i = sym (view_unique S ordered U (view S T) solves i)
    where
      solves : (j : ℕ) → view S T j ≡ seen_cell (view S T) (item_at S j) (U j)
      solves j = go (fill j)
        where
          go : Filling S T j (U j) → view S T j ≡ seen_cell (view S T) (item_at S j) (U j)
          go (stays e) = rw e (view_is S ordered T j)
          go (fills f k e h) = rw (h, notice_is (view S T j).flag)

  -- and no result
  pub fill_result : (T U : Table) → Fill S T U → (i : ℕ) → result S U i ≡ result S T i
  fill_result T U fill i =
      worked_ext (view S U) (view S T) (item_at S i) (λ p l. fill_view T U fill p)

  -- fills compose
  pub fill_trans : (T U X : Table) → Fill S T U → Fill S U X → Fill S T X
  fill_trans T U X first second j = go (first j) (second j)
    where
      same : view S U j ≡ view S T j
      same = fill_view T U first j

      go : Filling S T j (U j) → Filling S U j (X j) → Filling S T j (X j)
      go (stays e) (stays h) = stays (cc)
      go (stays e) (fills f k u h) = fills f k (cc) (rw same at h)
      go (fills f k u h) (stays e) = fills f k u (cc)
      go (fills f k u h) (fills g l v e) =
          never (cc)

  -- A look-up that is right for all items below b, on every table.
  abbrev Right : (Table → ℕ → Looked) → ℕ → Type 0
  Right look b = (T : Table) (p : ℕ) → p < b → Looks S T (view S T p) (look T p)

  gather_right : (look : Table → ℕ → Looked) (ps : List ℕ) → ((T : Table) (p : ℕ) → Listed p ps → Looks S T (view S T p) (look T p))
      → (T : Table) → Gathers S T ps (gather look T ps)
  unfolding gather
  gather_right look [] right T = record { values = refl; flag = refl; fill = fill_refl S T }
  gather_right look (p ∷ ps) right T =
      let U : Table = (look T p).table in
      let r : Looks S T (view S T p) (look T p) = right T p (inl refl) in
      let g : Gathers S U ps (gather look U ps) = gather_right look ps (λ W q l. right W q (inr l)) U in
      let same : (q : ℕ) → view S U q ≡ view S T q = fill_view T U r.fill in
      record {
        values =
            ap₂ ◌∷◌ r.value
            (g.values ∙ map_listed ps (λ q l. ap (λ s. s.value) (same q)));
        flag = ap₂ ◌||◌ r.flag (g.flag ∙ any_ext (view S U) (view S T) ps (λ q l. same q));
        fill = fill_trans T U (gather look U ps).table r.fill g.fill;
      }

  work_out-right : (look : Table → ℕ → Looked) (b : ℕ) → Right look b → (T : Table) (i : ℕ) → i ≤ b
      → Looks S T (result S T i) (work_out_by look S T i)
  unfolding work_out_by
  work_out-right look b right T i l =
      let g : Gathers S T (parents S i) (gather look T (parents S i))
      = gather_right look (parents S i) (λ U p m. let o : p < i = ordered i p m in right U p (omega arith)) T in
      record { value = ap (evaluate (item_at S i) null) g.values; flag = g.flag; fill = g.fill }

  -- a result is stored in an unstored figure
  store_fill : (T U : Table) (i : ℕ) (f : Bool) (c : Cell) → is_figure (item_at S i) ≡ true → T i ≡ unk f
      → c ≡ held (view S T i).value (notice_if (view S T i).flag) → Fill S T U → Fill S T (upd U i c)
  store_fill T U i f c k e h fill = upd_cases (Filling S T) U i c (fills f k e h) (λ j n. fill j)

  look_cell-right : (look : Table → ℕ → Looked) (b : ℕ) → Right look b → (T : Table) (i : ℕ) → i ≤ b
      → Looks S T (view S T i) (look_cell look S T i (T i))
  look_cell-right look b right T i l = go (T i) refl
    where
      r : Looked
      r = work_out_by look S T i

      w : Looks S T (result S T i) r
      w = work_out-right look b right T i l

      store : (f k : Bool) → T i ≡ unk f → kept_of (item_at S i) ≡ k → Looks S T (view S T i) (store_if k i (flagged f r))
      store f k e h = done k h
        where
          v : r.value ≡ (view S T i).value
          v = w.value ∙ sym (ap (λ s. s.value) (view_at S ordered T i e))

          n : (r.flag || f) ≡ (view S T i).flag
          n = ap (λ b. b || f) w.flag ∙ sym (ap (λ s. s.flag) (view_at S ordered T i e))

          done : (k : Bool) → kept_of (item_at S i) ≡ k → Looks S T (view S T i) (store_if k i (flagged f r))
          done true h =
              record {
                value = v;
                flag = n;
                fill = store_fill T r.table i f (held r.value (notice_if (r.flag || f))) (kept_figure (item_at S i) h) e (rw (v, n)) w.fill;
              }
          done false h = record { value = v; flag = n; fill = w.fill }

      go : (c : Cell) → T i ≡ c → Looks S T (view S T i) (look_cell look S T i c)
      go (held v m) e =
          record { value = sym (ap (λ s. s.value) (view_at S ordered T i e)); flag = sym (ap (λ s. s.flag) (view_at S ordered T i e)); fill = fill_refl S T }
      go (unk f) e = store f (kept_of (item_at S i)) e refl

  look_for-right : (b : ℕ) → Right (look_for b S) b
  unfolding look_for
  look_for-right zero T p l = absurd (not-suc-le-zero l)
  look_for-right (suc b) T p l = look_cell-right (look_for b S) b (look_for-right b) T p (omega arith)

  -- a look-up gives the view's value and flag and leaves a fill
  pub look_right : (T : Table) (i : ℕ) → Looks S T (view S T i) (look_up S T i)
  unfolding look_up
  look_right T i = look_for-right (suc i) T i (omega arith)

  -- and so do look-ups one after the other
  pub looks_right : (T : Table) (ps : List ℕ) → Gathers S T ps (gather (look_up S) T ps)
  looks_right T ps = gather_right (look_up S) ps (λ U p l. look_right U p) T

  -- so does working out, with the result by the parents
  pub work_right : (T : Table) (i : ℕ) → Looks S T (result S T i) (work_out S T i)
  unfolding work_out
  work_right T i = work_out-right (look_up S) i (λ U p l. look_right U p) T i (omega arith)

  -- and keeping a figure
  pub keep_fill : (T : Table) (i : ℕ) → is_figure (item_at S i) ≡ true → Fill S T (keep_figure S T i)
  unfolding keep_figure
  keep_fill T i k = go (T i) refl
    where
      r : Looks S T (view S T i) (look_up S T i)
      r = look_right T i

      go : (c : Cell) → T i ≡ c → Fill S T (keep_cell S T i c)
      go (held v m) e = fill_refl S T
      go (unk f) e =
          store_fill T (look_up S T i).table i f (held (look_up S T i).value (notice_if (look_up S T i).flag)) k e (rw (r.value, r.flag)) r.fill

  -- the bound on the depth plays no part
  look_cell_ext : (look find : Table → ℕ → Looked) (T : Table) (i : ℕ) (c : Cell)
      → ((U : Table) (p : ℕ) → p < i → look U p ≡ find U p) → look_cell look S T i c ≡ look_cell find S T i c
  unfolding work_out_by
  look_cell_ext look find T i (held v m) h = refl
  look_cell_ext look find T i (unk f) h =
      rw (gather_ext look find (parents S i) (λ U p l. h U p (ordered i p l)) T)

  look_for_enough : (f g : ℕ) (T : Table) (i : ℕ) → i < f → i < g → look_for f S T i ≡ look_for g S T i
  unfolding look_for
  look_for_enough zero g T i h l = absurd (not-suc-le-zero h)
  look_for_enough (suc f) zero T i h l = absurd (not-suc-le-zero l)
  look_for_enough (suc f) (suc g) T i h l =
      look_cell_ext (look_for f S) (look_for g S) T i (T i) (λ U p o. look_for_enough f g U p (omega arith) (omega arith))

  -- more depth than the item number changes nothing
  pub look_for_is : (f : ℕ) (T : Table) (i : ℕ) → i < f → look_for f S T i ≡ look_up S T i
  unfolding look_up
  look_for_is f T i l = look_for_enough f (suc i) T i l (omega arith)

  -- the equation of looking up
  pub look_up_is : (T : Table) (i : ℕ) → look_up S T i ≡ look_cell (look_up S) S T i (T i)
  unfolding look_up look_for
  look_up_is T i =
      look_cell_ext (look_for i S) (look_up S) T i (T i) (λ U p l. look_for_is i U p l)

  -- and of working out, with any depth above the parents
  pub work_is : (f : ℕ) (T : Table) (i : ℕ) → i ≤ f → work_out_by (look_for f S) S T i ≡ work_out S T i
  unfolding work_out work_out_by
  work_is f T i l =
      rw (gather_ext (look_for f S) (look_up S) (parents S i)
      (λ U p m. let o : p < i = ordered i p m in look_for_is f U p (omega arith)) T)
