-- Catching up may go by what was owed at its start, and by any w that has more (`catch_up_by`, `reached_by`, `caught_by`): the notices more
-- stand on figures that lead to nothing stored, no look-up for a stored figure meets them, and they are stepped away. Assumes that the sheet
-- is ordered.
use Prim.Native.Nat.{ℕ, zero, suc, ◌<◌, ◌≤◌}
use native.Mathlib.Omega.{arith}
use mathlib.Core.Path.{◌≡◌, refl, sym, ap, ◌∙◌, fun_ext}
use mathlib.Core.Logic.{inl, inr}
use mathlib.Core.Bool.{Bool, true, false, cond}
use mathlib.Core.List.{List, [], ◌∷◌}
use mathlib.Core.Option.{some}
use lib.Dec.{eqb, ltb}
use borrow.Author.Tests.{eqb-true, eqb-false, ltb-true, ltb-false}
use Rattle.circuit.specs.Value.{Value, null, same}
use Rattle.circuit.specs.Circuit.{Listed}
use Rattle.circuit.specs.Sheet.{Sheet, Spread, defer, renew, size, item_at, kept_of, parents, spread_of, is_child, evaluate, Ordered}
use Rattle.circuit.specs.Table.{Table, Cell, Mark, unmarked, refresh, notice, unk, held, upd, is_stored, notice_if, is_mark, is_marked}
use Rattle.circuit.specs.Owed.{owed, leans}
use Rattle.circuit.specs.Machine.{Looked, gather, work_out_by, look_cell, look_up, work_out, renewed, tell_stored, tell_cell, tell_child, tell_if, tell_below, tell}
use Rattle.circuit.specs.Machine.{clear_cell, clear_mark, step_cell, step_item, store_if, flagged, lowest_marked, catch_up}
use Rattle.circuit.specs.Ascending.{step_if, step_marked, ascend_below, ascend, tell_child_by, tell_if_by, tell_below_by, tell_where, tell_by, step_cell_by, step_by, step_if_by}
use Rattle.circuit.specs.Ascending.{step_marked_by, ascend_below_by, ascend_by}
use Rattle.circuit.specs.Words.{Quiet, stepped, CaughtUpBy, still_by, stepped_by}
use Rattle.circuit.proofs.View.{never, strong}
use Rattle.circuit.proofs.Fill.{upd_same, upd_other, upd_self, Filling, stays, fills, Fill, work_right, look_up_is}
use Rattle.circuit.proofs.Closure.{member_listed, lowest_marked_lem}
use Rattle.circuit.proofs.Owed.{Within, stored_leans, false_before, parent_leans, within_refl, within_upd, within_owed, within_trans, work_within}
use Rattle.circuit.proofs.CatchUp.{caught_unique, QuietBelow, none_quiet, some_quiet, lowest_some, catch_up_ascends, catch_up-still, catch_up-ends, lowest_none, ascended_quiet, step_marked-below}
use Rattle.circuit.proofs.CalledOn.{filled_stored, below_within, tell_unowed}
use Rattle.circuit.proofs.StepOwed.{step_leant}

unmarked_both : (f g : Bool) → (f ≡ true → g ≡ true) → is_mark (notice_if g) ≡ false → f ≡ g
unmarked_both true g more e = sym (more refl)
unmarked_both false true more e = never (cc e)
unmarked_both false false more e = refl

module _ (S : Sheet) (ordered : Ordered S) where
  -- ---- look-ups on two tables that are equal where R leans

  abbrev Equal : Table → Table → Table → Type 0
  Equal R T U = (j : ℕ) → leans S R j ≡ true → T j ≡ U j

  record SameLook (R : Table) (r q : Looked) : Type 0 where
    value : r.value ≡ q.value
    flag : r.flag ≡ q.flag
    table : Equal R r.table q.table

  abbrev Looks-same : Table → ℕ → Type 0
  Looks-same R i = leans S R i ≡ true → (T U : Table) → Equal R T U → SameLook R (look_up S T i) (look_up S U i)

  equal_upd : (R T U : Table) (i : ℕ) (c d : Cell) → c ≡ d → Equal R T U → Equal R (upd T i c) (upd U i d)
  equal_upd R T U i c d e equal j l = go (eqb j i)
    where
      go : (b : Bool) → cond b c (T j) ≡ cond b d (U j)
      go true = e
      go false = equal j l

  record SameGathered (R : Table) (ps : List ℕ) (T U : Table) : Type 0 where
    values : (gather (look_up S) T ps).values ≡ (gather (look_up S) U ps).values
    flag : (gather (look_up S) T ps).flag ≡ (gather (look_up S) U ps).flag
    table : Equal R (gather (look_up S) T ps).table (gather (look_up S) U ps).table

  gather_same : (R : Table) (ps : List ℕ) → ((p : ℕ) → Listed p ps → leans S R p ≡ true) → ((p : ℕ) → Listed p ps → Looks-same R p)
      → (T U : Table) → Equal R T U → SameGathered R ps T U
  unfolding gather
  gather_same R [] leant looks T U equal = record { values = refl; flag = refl; table = equal }
  gather_same R (p ∷ ps) leant looks T U equal =
      let one : SameLook R (look_up S T p) (look_up S U p) = looks p (inl refl) (leant p (inl refl)) T U equal in
      let rest : SameGathered R ps (look_up S T p).table (look_up S U p).table
      = gather_same R ps (λ q l. leant q (inr l)) (λ q l. looks q (inr l)) (look_up S T p).table (look_up S U p).table one.table in
      record { values = rw (one.value, rest.values); flag = rw (one.flag, rest.flag); table = rest.table }

  look_same : (R : Table) (i : ℕ) → Looks-same R i
  unfolding work_out_by
  look_same R = strong (Looks-same R) rise
    where
      rise : (i : ℕ) → ((p : ℕ) → p < i → Looks-same R p) → Looks-same R i
      rise i lower leant T U equal = rw (look_up_is S ordered T i, look_up_is S ordered U i, ← equal i leant) (go (T i))
        where
          g : SameGathered R (parents S i) T U
          g =
              gather_same R (parents S i) (λ p l. parent_leans S ordered R p i l leant) (λ p l. lower p (ordered i p l)) T U equal

          worked : SameLook R (work_out_by (look_up S) S T i) (work_out_by (look_up S) S U i)
          worked = record { value = ap (evaluate (item_at S i) null) g.values; flag = g.flag; table = g.table }

          flags : (f : Bool) → SameLook R (flagged f (work_out_by (look_up S) S T i)) (flagged f (work_out_by (look_up S) S U i))
          flags f = record { value = worked.value; flag = rw worked.flag; table = worked.table }

          stored : (k f : Bool)
              → SameLook R (store_if k i (flagged f (work_out_by (look_up S) S T i))) (store_if k i (flagged f (work_out_by (look_up S) S U i)))
          stored true f =
              record {
                value = (flags f).value;
                flag = (flags f).flag;
                table = equal_upd R (gather (look_up S) T (parents S i)).table (gather (look_up S) U (parents S i)).table i _ _ (rw ((flags f).value, (flags f).flag)) g.table;
              }
          stored false f = flags f

          go : (c : Cell) → SameLook R (look_cell (look_up S) S T i c) (look_cell (look_up S) S U i c)
          go (held v m) = record { value = refl; flag = refl; table = equal }
          go (unk f) = stored (kept_of (item_at S i)) f

  work_same : (R : Table) (i : ℕ) → leans S R i ≡ true → (T U : Table) → Equal R T U → SameLook R (work_out S T i) (work_out S U i)
  unfolding work_out work_out_by
  work_same R i leant T U equal =
      let g : SameGathered R (parents S i) T U
      = gather_same R (parents S i) (λ p l. parent_leans S ordered R p i l leant) (λ p l. look_same R p) T U equal in
      record { value = ap (evaluate (item_at S i) null) g.values; flag = g.flag; table = g.table }

  -- ---- a table, and one with more notices on UNK figures that are not owed, from b on

  data Alike (b : ℕ) (T U : Table) (j : ℕ) : Type 0 where
    alike : T j ≡ U j → Alike b T U j
    apart : (f g : Bool) → (f ≡ true → g ≡ true) → b ≤ j → j < size S → T j ≡ unk f → U j ≡ unk g → owed S T j ≡ false → Alike b T U j

  abbrev Near : ℕ → Table → Table → Type 0
  Near b T U = (j : ℕ) → Alike b T U j

  near_equal : (b : ℕ) (T U : Table) → Near b T U → Equal T T U
  near_equal b T U near j l = go (near j)
    where
      go : Alike b T U j → T j ≡ U j
      go (alike e) = e
      go (apart f g more low high e h o) = let own : owed S T j ≡ true = rw e at l in never (cc)

  near_stored : (b : ℕ) (T U : Table) → Near b T U → (j : ℕ) → is_stored (U j) ≡ true → is_stored (T j) ≡ true
  near_stored b T U near j s = go (near j)
    where
      go : Alike b T U j → is_stored (T j) ≡ true
      go (alike e) = rw e s
      go (apart f g more low high e h o) = let n : is_stored (unk g) ≡ true = rw h at s in never (cc)

  near_within : (b : ℕ) (T U : Table) → Near b T U → Within S T U
  near_within b T U near j s = stored_leans (T j) (owed S T j) (near_stored b T U near j s)

  -- what is apart stays apart, where nothing becomes owed
  still_apart : (b : ℕ) (T U F G : Table) (j : ℕ) → (owed S F j ≡ true → owed S T j ≡ true) → F j ≡ T j → G j ≡ U j → Alike b T U j
      → Alike b F G j
  still_apart b T U F G j less p q (alike e) = alike (p ∙ e ∙ sym q)
  still_apart b T U F G j less p q (apart f g more low high e h o) =
      apart f g more low high (p ∙ e) (q ∙ h) (false_before (owed S T j) (owed S F j) less o)

  -- the same cell stored in both
  near_upd : (b : ℕ) (T U : Table) (i : ℕ) (c d : Cell) → c ≡ d → (is_stored c ≡ true → leans S T i ≡ true) → Near b T U
      → Near b (upd T i c) (upd U i d)
  near_upd b T U i c d e leant near j = go (eqb j i) refl
    where
      less : owed S (upd T i c) j ≡ true → owed S T j ≡ true
      less = within_owed S ordered T (upd T i c) (within_upd S T T i c leant (within_refl S T)) j

      go : (x : Bool) → eqb j i ≡ x → Alike b (upd T i c) (upd U i d) j
      go true h = let here : j ≡ i = eqb-true j i h in alike (rw (here, upd_same T i c, upd_same U i d) e)
      go false h =
          let other : j ≡ i → ⊥ = eqb-false j i h in
          still_apart b T U (upd T i c) (upd U i d) j less (upd_other T i c j other) (upd_other U i d j other) (near j)

  -- an item that does not lean is not filled
  unfilled : (T U F : Table) (j : ℕ) → leans S T j ≡ false → Within S T F → Fill S U F → F j ≡ U j
  unfilled T U F j l within fill = go (fill j)
    where
      go : Filling S U j (F j) → F j ≡ U j
      go (stays e) = e
      go (fills f k e h) = let m : leans S T j ≡ true = within j (rw h) in never (cc)

  -- working out an item that leans
  work_near : (b : ℕ) (T U : Table) (i : ℕ) → leans S T i ≡ true → Near b T U → Near b (work_out S T i).table (work_out S U i).table
  work_near b T U i leant near j = go (leans S T j) refl
    where
      F : Table
      F = (work_out S T i).table

      G : Table
      G = (work_out S U i).table

      left : Within S T F
      left = work_within S ordered T i leant T (within_refl S T)

      right : Within S T G
      right = work_within S ordered T i leant U (near_within b T U near)

      go : (l : Bool) → leans S T j ≡ l → Alike b F G j
      go true l = alike ((work_same T i leant T U (near_equal b T U near)).table j l)
      go false l =
          still_apart b T U F G j (within_owed S ordered T F left j)
          (unfilled T T F j l left (work_right S ordered T i).fill) (unfilled T U G j l right (work_right S ordered U i).fill) (near j)

  -- a stored item worked out anew
  renewed_cells : (T U : Table) (i : ℕ) (v : Value) (n : Mark) → leans S T i ≡ true → Equal T T U
      → cond (same v (work_out S T i).value) (held v n) (held (work_out S T i).value notice)
      ≡ cond (same v (work_out S U i).value) (held v n) (held (work_out S U i).value notice)
  renewed_cells T U i v n leant equal = rw (work_same T i leant T U equal).value

  renewed_near : (b : ℕ) (T U : Table) (i : ℕ) (v : Value) (m n : Mark) → T i ≡ held v m → Near b T U
      → Near b (renewed i v n (work_out S T i)) (renewed i v n (work_out S U i))
  renewed_near b T U i v m n e near =
      near_upd b (work_out S T i).table (work_out S U i).table i _ _ (renewed_cells T U i v n leant (near_equal b T U near))
      (λ s. stored_leans ((work_out S T i).table i) (owed S (work_out S T i).table i) (filled_stored ((work_right S ordered T i).fill i) (rw e)))
      (work_near b T U i leant near)
    where
      leant : leans S T i ≡ true
      leant = rw e

  -- telling a stored child
  stored_near : (b : ℕ) (T U : Table) (c : ℕ) (spread : Spread) (v : Value) (m : Mark) → T c ≡ held v m → Near b T U
      → Near b (tell_stored spread S T c v m) (tell_stored spread S U c v m)
  stored_near b T U c defer v unmarked e near = near_upd b T U c _ _ refl (λ s. rw e) near
  stored_near b T U c defer v refresh e near = near_upd b T U c _ _ refl (λ s. rw e) near
  stored_near b T U c defer v notice e near = renewed_near b T U c v notice _ e near
  stored_near b T U c renew v m e near = renewed_near b T U c v m _ e near

  -- a notice more in U
  near_more : (b : ℕ) (T U : Table) (c : ℕ) (f : Bool) → b ≤ c → c < size S → T c ≡ unk f → owed S T c ≡ false → Near b T U
      → Near b T (upd U c (unk true))
  near_more b T U c f low high e o near j = go (eqb j c) refl
    where
      go : (x : Bool) → eqb j c ≡ x → Alike b T (upd U c (unk true)) j
      go true h =
          let here : j ≡ c = eqb-true j c h in
          rw here (apart f true (λ q. refl) low high e (upd_same U c (unk true)) o)
      go false h =
          still_apart b T U T (upd U c (unk true)) j (λ q. q) refl (upd_other U c (unk true) j (eqb-false j c h)) (near j)

  -- the cell of U where that of T is UNK
  near_unk : (b : ℕ) (T U : Table) (c : ℕ) (f : Bool) → T c ≡ unk f → Near b T U → (g : Bool) × (U c ≡ unk g)
  near_unk b T U c f e near = go (near c)
    where
      go : Alike b T U c → (g : Bool) × (U c ≡ unk g)
      go (alike q) = (f, sym q ∙ e)
      go (apart x g more low high q h o) = (g, h)

  child_near : (b : ℕ) (T U : Table) (c : ℕ) (called : Bool) → b ≤ c → c < size S → (owed S T c ≡ true → called ≡ true) → Near b T U
      → Near b (tell_child S T c) (tell_child_by called S U c)
  unfolding tell_child tell_child_by
  child_near b T U c called low high calls near = go (T c) (owed S T c) refl refl
    where
      go : (x : Cell) (o : Bool) → T c ≡ x → owed S T c ≡ o → Near b (tell_cell o S T c x) (tell_cell called S U c (U c))
      go (held v m) o e h =
          let equal : T c ≡ U c = near_equal b T U near c (rw e) in
          rw (sym equal ∙ e) (stored_near b T U c (spread_of (item_at S c)) v m e near)
      go (unk f) o e h = rw (near_unk b T U c f e near).1 (unstored o called h calls)
        where
          unstored : (o d : Bool) → owed S T c ≡ o → (owed S T c ≡ true → d ≡ true)
              → Near b (tell_cell o S T c (unk f)) (tell_cell d S U c (unk (near_unk b T U c f e near).0))
          unstored true true q more = near_upd b T U c _ _ refl (λ s. never (cc)) near
          unstored true false q more = never (cc (more q))
          unstored false true q more = near_more b T U c f low high e q near
          unstored false false q more = near

  below_near : (b : ℕ) (T U : Table) (w : ℕ → Bool) (i k : ℕ) → b ≤ i → k ≤ size S → ((c : ℕ) → owed S T c ≡ true → w c ≡ true) → Near b T U
      → Near b (tell_below S i T k) (tell_below_by w S i U k)
  unfolding tell_below tell_below_by
  below_near b T U w i zero low high calls near = near
  below_near b T U w i (suc k) low high calls near = go (is_child S i k) refl (below_near b T U w i k low (omega arith) calls near)
    where
      X : Table
      X = tell_below S i T k

      Y : Table
      Y = tell_below_by w S i U k

      go : (x : Bool) → is_child S i k ≡ x → Near b X Y → Near b (tell_if x S X k) (tell_if_by x (w k) S Y k)
      go true e h =
          let above : i < k = ordered k i (member_listed i (parents S k) e) in
          child_near b X Y k (w k) (omega arith) high (λ o. calls k (within_owed S ordered T X (below_within S ordered T i k) k o)) h
      go false e h = h

  tell_near : (b : ℕ) (T U : Table) (w : ℕ → Bool) (i : ℕ) → b ≤ i → ((c : ℕ) → owed S T c ≡ true → w c ≡ true) → Near b T U
      → Near b (tell S T i) (tell_by w S U i)
  unfolding tell tell_by
  tell_near b T U w i low calls near = go (w i) refl
    where
      go : (x : Bool) → w i ≡ x → Near b (tell_below S i T (size S)) (tell_where x w S U i)
      go true e = below_near b T U w i (size S) low (omega arith) calls near
      go false e = rw (tell_unowed S ordered T i (false_before (w i) (owed S T i) (calls i) e)) near

  -- a mark cleared in both is apart in neither
  clear_cells : (b : ℕ) (T U : Table) (i : ℕ) → Alike b T U i → clear_cell (T i) ≡ clear_cell (U i)
  clear_cells b T U i (alike e) = ap clear_cell e
  clear_cells b T U i (apart f g more low high e h o) = rw (e, h)

  clear_near : (b : ℕ) (T U : Table) (i : ℕ) → Near b T U → Near b (clear_mark T i) (clear_mark U i)
  unfolding clear_mark
  clear_near b T U i near = near_upd b T U i (clear_cell (T i)) (clear_cell (U i)) (clear_cells b T U i (near i)) leant near
    where
      leant : is_stored (clear_cell (T i)) ≡ true → leans S T i ≡ true
      leant s = go (T i) refl
        where
          go : (c : Cell) → T i ≡ c → leans S T i ≡ true
          go (held v m) e = rw e
          go (unk f) e = let n : is_stored (clear_cell (unk f)) ≡ true = rw e at s in never (cc)

  -- ---- steps, and catching up

  clear_still : (T : Table) (i : ℕ) → T i ≡ unk false → T ≡ clear_mark T i
  unfolding clear_mark
  clear_still T i e = upd_self T i ∙ ap (upd T i) (e ∙ sym (ap clear_cell e))

  -- where nothing is apart at i
  near_next : (i : ℕ) (T U : Table) → Near i T U → T i ≡ U i → Near (suc i) T U
  near_next i T U near here j = go (eqb j i) refl (near j)
    where
      go : (x : Bool) → eqb j i ≡ x → Alike i T U j → Alike (suc i) T U j
      go true h a = alike (rw (eqb-true j i h) here)
      go false h (alike e) = alike e
      go false h (apart f g more low high e q o) =
          let other : j ≡ i → ⊥ = eqb-false j i h in
          apart f g more (omega (arith, other)) high e q o

  near_lower : (i : ℕ) (T U : Table) → Near (suc i) T U → Near i T U
  near_lower i T U near j = go (near j)
    where
      go : Alike (suc i) T U j → Alike i T U j
      go (alike e) = alike e
      go (apart f g more low high e q o) = apart f g more (omega (arith, low)) high e q o

  clear_next : (i : ℕ) (T U : Table) → Near i T U → Near (suc i) (clear_mark T i) (clear_mark U i)
  unfolding clear_mark
  clear_next i T U near =
      near_next i (clear_mark T i) (clear_mark U i) (clear_near i T U i near)
      (upd_same T i (clear_cell (T i)) ∙ clear_cells i T U i (near i) ∙ sym (upd_same U i (clear_cell (U i))))

  renewed_next : (i : ℕ) (T U : Table) (v : Value) (m n : Mark) → T i ≡ held v m → Near i T U
      → Near (suc i) (renewed i v n (work_out S T i)) (renewed i v n (work_out S U i))
  renewed_next i T U v m n e near =
      near_next i (renewed i v n (work_out S T i)) (renewed i v n (work_out S U i)) (renewed_near i T U i v m n e near)
      (upd_same (work_out S T i).table i _ ∙ renewed_cells T U i v n leant (near_equal i T U near) ∙ sym (upd_same (work_out S U i).table i _))
    where
      leant : leans S T i ≡ true
      leant = rw e

  -- a step of an unmarked item does nothing
  marked_cell : (T : Table) (i : ℕ) → step_marked S T i ≡ step_cell S T i (T i)
  unfolding step_marked step_item
  marked_cell T i = go (T i) refl
    where
      go : (c : Cell) → T i ≡ c → step_if (is_marked c) S T i ≡ step_cell S T i c
      go (unk true) e = ap (step_cell S T i) e
      go (unk false) e = refl
      go (held v unmarked) e = refl
      go (held v refresh) e = ap (step_cell S T i) e
      go (held v notice) e = ap (step_cell S T i) e

  marked_cell_by : (w : ℕ → Bool) (T : Table) (i : ℕ) → step_marked_by w S T i ≡ step_cell_by w S T i (T i)
  unfolding step_marked_by step_by
  marked_cell_by w T i = go (T i) refl
    where
      go : (c : Cell) → T i ≡ c → step_if_by (is_marked c) w S T i ≡ step_cell_by w S T i c
      go (unk true) e = ap (step_cell_by w S T i) e
      go (unk false) e = refl
      go (held v unmarked) e = refl
      go (held v refresh) e = ap (step_cell_by w S T i) e
      go (held v notice) e = ap (step_cell_by w S T i) e

  -- the step of an item in both: afterwards it is alike
  step_near : (T U : Table) (w : ℕ → Bool) (i : ℕ) → ((c : ℕ) → owed S T c ≡ true → w c ≡ true) → Near i T U
      → Near (suc i) (step_marked S T i) (step_marked_by w S U i)
  step_near T U w i calls near = rw (marked_cell T i, marked_cell_by w U i) (go (near i))
    where
      told : Near i (tell S T i) (tell_by w S U i)
      told = tell_near i T U w i (omega arith) calls near

      go : Alike i T U i → Near (suc i) (step_cell S T i (T i)) (step_cell_by w S U i (U i))
      go (alike e) = rw (← e) (by (T i) refl)
        where
          by : (c : Cell) → T i ≡ c → Near (suc i) (step_cell S T i c) (step_cell_by w S U i c)
          by (unk true) h = clear_next i (tell S T i) (tell_by w S U i) told
          by (unk false) h = near_next i T U near e
          by (held v unmarked) h = near_next i T U near e
          by (held v refresh) h = renewed_next i T U v refresh unmarked h near
          by (held v notice) h = clear_next i (tell S T i) (tell_by w S U i) told
      go (apart f g more low high e h o) = rw (e, h, left f e) (by g h)
        where
          left : (f : Bool) → T i ≡ unk f → step_cell S T i (unk f) ≡ clear_mark T i
          left true q = ap (λ X. clear_mark X i) (tell_unowed S ordered T i o)
          left false q = clear_still T i q

          by : (g : Bool) → U i ≡ unk g → Near (suc i) (clear_mark T i) (step_cell_by w S U i (unk g))
          by true q = clear_next i T (tell_by w S U i) (rw (tell_unowed S ordered T i o) at told)
          by false q = rw (clear_still U i q) (clear_next i T U near)

  -- a step leaves nothing leaning that did not
  step_within : (T : Table) (i : ℕ) → Within S T (step_marked S T i)
  unfolding step_item
  step_within T i = rw (marked_cell T i) (step_leant S ordered T i).within

  ascended_within : (T : Table) (k : ℕ) → Within S T (ascend_below S T k)
  unfolding ascend_below
  ascended_within T zero = within_refl S T
  ascended_within T (suc k) =
      let U : Table = ascend_below S T k in
      let X : Table = step_marked S U k in
      within_trans S ordered T X (step_marked S X k) (within_trans S ordered T U X (ascended_within T k) (step_within U k)) (step_within X k)

  module _ (T : Table) (w : ℕ → Bool) (calls : (c : ℕ) → owed S T c ≡ true → w c ≡ true) where
    -- what is owed later was owed at the start
    later : (U : Table) → Within S T U → (c : ℕ) → owed S U c ≡ true → w c ≡ true
    later U within c o = calls c (within_owed S ordered T U within c o)

    ascend_near : (k : ℕ) → Near k (ascend_below S T k) (ascend_below_by w S T k)
    unfolding ascend_below ascend_below_by
    ascend_near zero = λ j. alike refl
    ascend_near (suc k) =
        let U : Table = ascend_below S T k in
        let Y : Table = ascend_below_by w S T k in
        let once : Near (suc k) (step_marked S U k) (step_marked_by w S Y k)
        = step_near U Y w k (later U (ascended_within T k)) (ascend_near k) in
        step_near (step_marked S U k) (step_marked_by w S Y k) w k
        (later (step_marked S U k) (within_trans S ordered T U (step_marked S U k) (ascended_within T k) (step_within U k)))
        (near_lower k (step_marked S U k) (step_marked_by w S Y k) once)

    -- where the pass has gone, no mark stands by w either
    alike_quiet : (k b : ℕ) (X Y : Table) → b ≤ k → Near k X Y → QuietBelow X b → QuietBelow Y b
    alike_quiet k b X Y l near quiet j h = go (near j)
      where
        go : Alike k X Y j → is_marked (Y j) ≡ false
        go (alike e) = rw (← e) (quiet j h)
        go (apart f g more low high e q o) = absurd (omega arith)

    -- a step by w of the lowest marked item, before a chain of them
    chain_back : (Y U : Table) (k : ℕ) → k < size S → QuietBelow Y k → CaughtUpBy w S (step_marked_by w S Y k) U → CaughtUpBy w S Y U
    unfolding step_marked_by
    chain_back Y U k low quiet chain = go (is_marked (Y k)) refl chain
      where
        go : (b : Bool) → is_marked (Y k) ≡ b → CaughtUpBy w S (step_if_by (is_marked (Y k)) w S Y k) U → CaughtUpBy w S Y U
        go true m rest = stepped_by k (lowest_some Y k quiet m (size S) low) (rw m at rest)
        go false m rest = rw m at rest

    pass_back : (U : Table) (k : ℕ) → k ≤ size S → CaughtUpBy w S (ascend_below_by w S T k) U → CaughtUpBy w S T U
    unfolding ascend_below_by
    pass_back U zero l chain = chain
    pass_back U (suc k) l chain = pass_back U k (omega arith) (chain_back Y U k l quiet (chain_back (step_marked_by w S Y k) U k l again chain))
      where
        X : Table
        X = ascend_below S T k

        Y : Table
        Y = ascend_below_by w S T k

        exact : QuietBelow X k
        exact = ascended_quiet S ordered T k (omega arith)

        quiet : QuietBelow Y k
        quiet = alike_quiet k k X Y (omega arith) (ascend_near k) exact

        again : QuietBelow (step_marked_by w S Y k) k
        again =
            alike_quiet (suc k) k (step_marked S X k) (step_marked_by w S Y k) (omega arith) (step_near X Y w k (later X (ascended_within T k)) (ascend_near k))
            (step_marked-below S ordered X k l exact)

    -- The ascending pass may go by w, if w has all that is owed at its start.
    ascends_by : ascend_by w S T ≡ ascend S T
    unfolding ascend ascend_by
    ascends_by = fun_ext λ j. go j (ascend_near (size S) j)
      where
        go : (j : ℕ) → Alike (size S) (ascend_below S T (size S)) (ascend_below_by w S T (size S)) j
            → ascend_below_by w S T (size S) j ≡ ascend_below S T (size S) j
        go j (alike e) = sym e
        go j (apart f g more low high e h o) = absurd (omega arith)

    pub catch_up_by : ascend_by w S T ≡ catch_up S T
    catch_up_by = ascends_by ∙ sym (catch_up_ascends S ordered T)

    -- stepping the lowest marked item by w until none is marked leads there
    pub reached_by : CaughtUpBy w S T (catch_up S T)
    unfolding ascend_by
    reached_by = rw (sym catch_up_by) (pass_back (ascend_below_by w S T (size S)) (size S) (omega arith) (still_by (lowest_none _ (size S) quiet)))
      where
        quiet : QuietBelow (ascend_below_by w S T (size S)) (size S)
        quiet =
            alike_quiet (size S) (size S) (ascend_below S T (size S)) (ascend_below_by w S T (size S)) (omega arith) (ascend_near (size S))
            (ascended_quiet S ordered T (size S) (omega arith))

  -- ---- stepping the lowest marked item until none is marked, by w

  -- where U has no mark below i, nothing below i is apart
  alike_below : (i : ℕ) (T U : Table) → QuietBelow U i → Near 0 T U → Near i T U
  alike_below i T U quiet near j = go (near j)
    where
      go : Alike 0 T U j → Alike i T U j
      go (alike e) = alike e
      go (apart f g more low high e h o) = at (ltb j i) refl
        where
          at : (b : Bool) → ltb j i ≡ b → Alike i T U j
          at true l = alike (e ∙ ap unk (unmarked_both f g more (rw h at (quiet j (ltb-true j i l)))) ∙ sym h)
          at false l = apart f g more (ltb-false j i l) high e h o

  near_zero : (i : ℕ) (T U : Table) → Near i T U → Near 0 T U
  near_zero i T U near j = go (near j)
    where
      go : Alike i T U j → Alike 0 T U j
      go (alike e) = alike e
      go (apart f g more low high e h o) = apart f g more (omega arith) high e h o

  -- and T has none there either
  quiet_near : (i : ℕ) (T U : Table) → QuietBelow U i → Near i T U → QuietBelow T i
  quiet_near i T U quiet near j l = go (near j)
    where
      go : Alike i T U j → is_marked (T j) ≡ false
      go (alike e) = rw e (quiet j l)
      go (apart f g more low high e h o) = absurd (omega arith)

  caught_near : (w : ℕ → Bool) {Y U : Table} → CaughtUpBy w S Y U → (X : Table) → ((c : ℕ) → owed S X c ≡ true → w c ≡ true) → Near 0 X Y
      → U ≡ catch_up S X
  unfolding step_marked step_marked_by
  caught_near w {Y} (still_by e) X calls near = sym equal ∙ sym (catch_up-still S ordered X quiet)
    where
      none : QuietBelow Y (size S)
      none = none_quiet Y (size S) e

      aligned : Near (size S) X Y
      aligned = alike_below (size S) X Y none near

      quiet : Quiet S X
      quiet = quiet_near (size S) X Y none aligned

      equal : X ≡ Y
      equal = fun_ext λ j. go j (aligned j)
        where
          go : (j : ℕ) → Alike (size S) X Y j → X j ≡ Y j
          go j (alike q) = q
          go j (apart f g more low high q h o) = absurd (omega arith)
  caught_near w {Y} {U} (stepped_by i e rest) X calls near =
      caught_near w rest (step_marked S X i) calls' next ∙ same_caught (is_marked (X i)) refl
    where
      quiet : QuietBelow Y i
      quiet = some_quiet Y (size S) i e

      aligned : Near i X Y
      aligned = alike_below i X Y quiet near

      calls' : (c : ℕ) → owed S (step_marked S X i) c ≡ true → w c ≡ true
      calls' c o = calls c (within_owed S ordered X (step_marked S X i) (step_within X i) c o)

      stepped_is : step_marked_by w S Y i ≡ step_by w S Y i
      stepped_is = rw (lowest_marked_lem Y (size S) i e).1

      next : Near 0 (step_marked S X i) (step_by w S Y i)
      next = near_zero (suc i) (step_marked S X i) (step_by w S Y i) (rw stepped_is at (step_near X Y w i calls aligned))

      same_caught : (b : Bool) → is_marked (X i) ≡ b → catch_up S (step_marked S X i) ≡ catch_up S X
      same_caught true m =
          let low : lowest_marked X (size S) ≡ some i
          = lowest_some X i (quiet_near i X Y quiet aligned) m (size S) (lowest_marked_lem Y (size S) i e).0 in
          rw m (caught_unique (stepped i low (catch_up-ends S ordered (step_item S X i))) (catch_up-ends S ordered X))
      same_caught false m = rw m

  -- Whichever UNK children are called on besides the owed, catching up leaves the same table.
  pub caught_by : (T : Table) (w : ℕ → Bool) → ((c : ℕ) → owed S T c ≡ true → w c ≡ true) → (U : Table) → CaughtUpBy w S T U → U ≡ catch_up S T
  caught_by T w calls U caught = caught_near w caught T calls (λ j. alike refl)
