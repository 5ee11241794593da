-- The cells that a table in form can be are kept by every call: values stay within the range, and entries stay stored, not
-- OUT, without refresh. Assumes that the sheet is ordered, where it says so.
use Prim.Native.Nat.{ℕ, zero, suc, ◌<◌, ◌≤◌}
use native.Mathlib.Omega.{arith}
use mathlib.Core.Path.{◌≡◌, refl, sym, ap, subst}
use mathlib.Core.Bool.{Bool, true, false, cond, not, ◌&&◌}
use mathlib.Core.List.{List, [], ◌∷◌, map}
use mathlib.Core.Logic.{inl, inr}
use Rattle.circuit.specs.Value.{Value, null, is_out, same, well_formed}
use Rattle.circuit.specs.WellFormed.{all_well_formed}
use Rattle.circuit.specs.Circuit.{Listed}
use Rattle.circuit.specs.Sheet.{Sheet, Item, entry, figure, Spread, defer, renew, size, item_at, is_figure, parents_of, parents, spread_of, is_child, evaluate, Ordered}
use Rattle.circuit.specs.Table.{Table, Cell, Mark, unmarked, refresh, notice, unk, held, upd, value_in, entry_form}
use Rattle.circuit.specs.Owed.{owed}
use Rattle.circuit.specs.Machine.{gather, look_up, work_out, store_posting, post_cell, keep_figure, drop_figure, drop_cell, renewed, tell_child, tell_cell, tell_stored, tell_if, tell_below, tell}
use Rattle.circuit.specs.Machine.{clear_mark, clear_cell, step_item, step_cell, catch_up}
use Rattle.circuit.specs.Call.{Call, post, keep, drop, step, ask, board, close, swap, Posting}
use Rattle.circuit.specs.Board.{listed}
use Rattle.circuit.specs.Closing.{closed_value, close_item, close_below, close_all}
use Rattle.circuit.specs.Calls.{show_items, effect, perform, tests, first_cause, run, store_postings}
use Rattle.circuit.proofs.RuleLaws.{apply-well_formed, and_true, and_left, and_right}
use Rattle.circuit.proofs.View.{view, view_at, result, strong}
use Rattle.circuit.proofs.Fill.{Fill, Filling, stays, fills, upd_cases, look_right, looks_right, work_right, keep_fill}
use Rattle.circuit.proofs.Closure.{catch_up-closed, member_listed}
use Rattle.circuit.proofs.Accepted.{accepted_effect, refused_table, keep_passed, drop_passed, step_passed}
use Rattle.circuit.proofs.Postings.{AllFit, postings_fit}
use Rattle.table.specs.Record.{may_hold}
use Rattle.table.specs.Bytes.{Holdable}
use Rattle.table.proofs.Records.{holds-well_formed}
use Rattle.table.proofs.Tables.{figure_may}

abbrev Allowed : Sheet → ℕ → Cell → Type 0
Allowed S j c = j < size S → may_hold (is_figure (item_at S j)) c ≡ true

-- every value of a list that a view gives is well formed, if that of each item is
pub all_formed : (w : ℕ → Value) (ps : List ℕ) → ((p : ℕ) → Listed p ps → well_formed (w p) ≡ true) → all_well_formed (map w ps) ≡ true
unfolding all_well_formed
all_formed w [] h = refl
all_formed w (p ∷ ps) h = and_true _ _ (h p (inl refl)) (all_formed w ps (λ q l. h q (inr l)))

-- a refreshed item is a figure
pub refreshed_figure : (f : Bool) (v : Value) → may_hold f (held v refresh) ≡ true → f ≡ true
refreshed_figure true v e = refl
refreshed_figure false v e = e

-- a stored cell with another mark than refresh
remark : (f : Bool) (v : Value) (m n : Mark) → entry_form (held v n) ≡ true → may_hold f (held v m) ≡ true → may_hold f (held v n) ≡ true
remark true v m n e h = h
remark false v m n e h =
    let stored : (entry_form (held v m) && not (is_out v)) ≡ true
    = and_left (entry_form (held v m) && not (is_out v)) (well_formed v) h in
    and_true (entry_form (held v n) && not (is_out v)) (well_formed v)
    (and_true (entry_form (held v n)) (not (is_out v)) e (and_right (entry_form (held v m)) (not (is_out v)) stored))
    (and_right (entry_form (held v m) && not (is_out v)) (well_formed v) h)

module _ (S : Sheet) (ordered : Ordered S) where
  -- an update by an allowed cell
  pub upd_holdable : (T : Table) (i : ℕ) (c : Cell) → Allowed S i c → Holdable S T → Holdable S (upd T i c)
  upd_holdable T i c here h = upd_cases (Allowed S) T i c here (λ j n. h j)

  figure_formed : (it : Item) (vs : List Value) → all_well_formed vs ≡ true → well_formed (evaluate it null vs) ≡ true
  figure_formed entry vs h = refl
  figure_formed (figure op k s ps) vs h = apply-well_formed op vs h

  -- each look-up gives a well-formed value
  pub view_formed : (T : Table) → Holdable S T → (i : ℕ) → i < size S → well_formed (view S T i).value ≡ true
  view_formed T h = strong _ rise
    where
      rise : (i : ℕ) → ((p : ℕ) → p < i → p < size S → well_formed (view S T p).value ≡ true) → i < size S → well_formed (view S T i).value ≡ true
      rise i below low = go (T i) refl
        where
          go : (c : Cell) → T i ≡ c → well_formed (view S T i).value ≡ true
          go (held v m) e =
              let a : may_hold (is_figure (item_at S i)) (held v m) ≡ true = rw e at (h i low) in
              rw (ap (λ s. s.value) (view_at S ordered T i e)) (holds-well_formed (is_figure (item_at S i)) (held v m) a)
          go (unk f) e =
              rw (ap (λ s. s.value) (view_at S ordered T i e))
              (figure_formed (item_at S i) _
              (all_formed (λ p. (view S T p).value) (parents S i)
              (λ p l. let o : p < i = ordered i p l in below p o (omega arith))))

  pub result_formed : (T : Table) → Holdable S T → (i : ℕ) → i < size S → well_formed (result S T i).value ≡ true
  result_formed T h i low =
      figure_formed (item_at S i) _
      (all_formed (λ p. (view S T p).value) (parents S i)
      (λ p l. let o : p < i = ordered i p l in view_formed T h p (omega arith)))

  pub fill_holdable : (T U : Table) → Fill S T U → Holdable S T → Holdable S U
  fill_holdable T U fill h j low = go (fill j)
    where
      go : Filling S T j (U j) → may_hold (is_figure (item_at S j)) (U j) ≡ true
      go (stays e) = rw e (h j low)
      go (fills f k e x) = rw x (figure_may (item_at S j) (held _ _) k (view_formed T h j low))

  pub look_holdable : (T : Table) (i : ℕ) → Holdable S T → Holdable S (look_up S T i).table
  look_holdable T i h = fill_holdable T _ (look_right S ordered T i).fill h

  looks_holdable : (is : List ℕ) (T : Table) → Holdable S T → Holdable S (gather (look_up S) T is).table
  looks_holdable is T h = fill_holdable T _ (looks_right S ordered T is).fill h

  pub look_formed : (T : Table) (i : ℕ) → i < size S → Holdable S T → well_formed (look_up S T i).value ≡ true
  look_formed T i low h = rw (look_right S ordered T i).value (view_formed T h i low)

  pub work_holdable : (T : Table) (i : ℕ) → Holdable S T → Holdable S (work_out S T i).table
  work_holdable T i h = fill_holdable T _ (work_right S ordered T i).fill h

  pub work_formed : (T : Table) (i : ℕ) → i < size S → Holdable S T → well_formed (work_out S T i).value ≡ true
  work_formed T i low h = rw (work_right S ordered T i).value (result_formed T h i low)

  pub keep_holdable : (T : Table) (i : ℕ) → is_figure (item_at S i) ≡ true → Holdable S T → Holdable S (keep_figure S T i)
  keep_holdable T i k h = fill_holdable T _ (keep_fill S ordered T i k) h

  pub drop_holdable : (T : Table) (i : ℕ) → is_figure (item_at S i) ≡ true → Holdable S T → Holdable S (drop_figure T i)
  unfolding drop_figure
  drop_holdable T i k h = upd_holdable T i (drop_cell (T i)) (λ low. go (T i)) h
    where
      go : (c : Cell) → may_hold (is_figure (item_at S i)) (drop_cell c) ≡ true
      go (unk f) = figure_may (item_at S i) (unk f) k refl
      go (held v m) = figure_may (item_at S i) (unk _) k refl

  -- the season-close run stores a well-formed value
  pub closed_formed : (T : Table) (i : ℕ) → i < size S → Holdable S T → well_formed (closed_value S T i) ≡ true
  unfolding closed_value
  closed_formed T i low h = go (item_at S i) refl
    where
      formed : (j : ℕ) → j < size S → well_formed (value_in (T j)) ≡ true
      formed j l = holds-well_formed (is_figure (item_at S j)) (T j) (h j l)

      go : (it : Item) → item_at S i ≡ it → well_formed (evaluate it (value_in (T i)) (map (λ p. value_in (T p)) (parents_of it))) ≡ true
      go entry e = formed i low
      go (figure op k spread ps) e =
          apply-well_formed op _
          (all_formed (λ p. value_in (T p)) ps (λ p l. formed p (omega (arith, ordered i p (subst (λ it. Listed p (parents_of it)) (sym e) l)))))

  -- an item may hold it
  pub closed_allowed : (T : Table) (i : ℕ) → i < size S → Holdable S T → may_hold (is_figure (item_at S i)) (held (closed_value S T i) unmarked) ≡ true
  unfolding closed_value
  closed_allowed T i low h = go (item_at S i) refl (closed_formed T i low h)
    where
      entered : (c : Cell) → may_hold false c ≡ true → may_hold false (held (value_in c) unmarked) ≡ true
      entered (unk b) m = refl
      entered (held v x) m = remark false v x unmarked refl m

      go : (it : Item) → item_at S i ≡ it → well_formed (closed_value S T i) ≡ true
          → may_hold (is_figure it) (held (evaluate it (value_in (T i)) (map (λ p. value_in (T p)) (parents_of it))) unmarked) ≡ true
      go entry e w = entered (T i) (rw e at (h i low))
      go (figure op k spread ps) e w = rw e at w

  close_holdable : (T : Table) (k : ℕ) → k ≤ size S → Holdable S T → Holdable S (close_below S T k)
  unfolding close_below close_item
  close_holdable T zero bound h = h
  close_holdable T (suc k) bound h =
      let before : Holdable S (close_below S T k) = close_holdable T k (omega arith) h in
      upd_holdable (close_below S T k) k _ (λ low. closed_allowed (close_below S T k) k low before) before

  -- a figure is worked out anew
  pub renewed_holdable : (T : Table) (i : ℕ) (v : Value) (m n : Mark) → is_figure (item_at S i) ≡ true → T i ≡ held v m → Holdable S T → Holdable S (renewed i v n (work_out S T i))
  renewed_holdable T i v m n k e h =
      upd_holdable (work_out S T i).table i _ (λ low. go low (same v (work_out S T i).value)) (work_holdable T i h)
    where
      go : i < size S → (b : Bool) → may_hold (is_figure (item_at S i)) (cond b (held v n) (held (work_out S T i).value notice)) ≡ true
      go low true =
          figure_may (item_at S i) (held v n) k (holds-well_formed (is_figure (item_at S i)) (held v m) (rw e at (h i low)))
      go low false = figure_may (item_at S i) (held _ notice) k (work_formed T i low h)

  stored_told : (s : Spread) (T : Table) (c : ℕ) (v : Value) (m : Mark) → is_figure (item_at S c) ≡ true → T c ≡ held v m → Holdable S T → Holdable S (tell_stored s S T c v m)
  stored_told defer T c v unmarked k e h =
      upd_holdable T c _ (λ low. figure_may (item_at S c) (held v refresh) k (holds-well_formed (is_figure (item_at S c)) (held v unmarked) (rw e at (h c low)))) h
  stored_told defer T c v refresh k e h =
      upd_holdable T c _ (λ low. figure_may (item_at S c) (held v refresh) k (holds-well_formed (is_figure (item_at S c)) (held v refresh) (rw e at (h c low)))) h
  stored_told defer T c v notice k e h = renewed_holdable T c v notice _ k e h
  stored_told renew T c v m k e h = renewed_holdable T c v m _ k e h

  -- whether an UNK child is called on or not
  tell_cell_holdable : (called : Bool) (T : Table) (c : ℕ) → is_figure (item_at S c) ≡ true → Holdable S T → Holdable S (tell_cell called S T c (T c))
  tell_cell_holdable called T c k h = go called (T c) refl
    where
      go : (b : Bool) (x : Cell) → T c ≡ x → Holdable S (tell_cell b S T c x)
      go true (unk f) e = upd_holdable T c _ (λ low. figure_may (item_at S c) (unk true) k refl) h
      go false (unk f) e = h
      go b (held v m) e = stored_told (spread_of (item_at S c)) T c v m k e h

  tell_child_holdable : (T : Table) (c : ℕ) → is_figure (item_at S c) ≡ true → Holdable S T → Holdable S (tell_child S T c)
  unfolding tell_child
  tell_child_holdable T c k h = tell_cell_holdable (owed S T c) T c k h

  -- an item with parents is a figure
  listed_figure : (it : Item) (i : ℕ) → Listed i (parents_of it) → is_figure it ≡ true
  listed_figure entry i l = absurd l
  listed_figure (figure op k s ps) i l = refl

  pub tell_below_holdable : (i : ℕ) (T : Table) (k : ℕ) → Holdable S T → Holdable S (tell_below S i T k)
  unfolding tell_below
  tell_below_holdable i T zero h = h
  tell_below_holdable i T (suc k) h = go (is_child S i k) refl (tell_below_holdable i T k h)
    where
      go : (b : Bool) → is_child S i k ≡ b → Holdable S (tell_below S i T k) → Holdable S (tell_if b S (tell_below S i T k) k)
      go true e r =
          tell_child_holdable (tell_below S i T k) k (listed_figure (item_at S k) i (member_listed i (parents S k) e)) r
      go false e r = r

  pub tell_holdable : (T : Table) (i : ℕ) → Holdable S T → Holdable S (tell S T i)
  unfolding tell
  tell_holdable T i h = tell_below_holdable i T (size S) h

  pub clear_holdable : (T : Table) (i : ℕ) → Holdable S T → Holdable S (clear_mark T i)
  unfolding clear_mark
  clear_holdable T i h = upd_holdable T i (clear_cell (T i)) (λ low. go (T i) (h i low)) h
    where
      unk_cleared : (f a b : Bool) → may_hold f (unk a) ≡ true → may_hold f (unk b) ≡ true
      unk_cleared true a b e = refl
      unk_cleared false a b e = e

      go : (c : Cell) → may_hold (is_figure (item_at S i)) c ≡ true → may_hold (is_figure (item_at S i)) (clear_cell c) ≡ true
      go (unk f) e = unk_cleared (is_figure (item_at S i)) f false e
      go (held v m) e = remark (is_figure (item_at S i)) v m unmarked refl e

  pub step_holdable : (T : Table) (i : ℕ) → i < size S → Holdable S T → Holdable S (step_item S T i)
  unfolding step_item
  step_holdable T i low h = go (T i) refl
    where
      told : Holdable S (clear_mark (tell S T i) i)
      told = clear_holdable (tell S T i) i (tell_holdable T i h)

      go : (c : Cell) → T i ≡ c → Holdable S (step_cell S T i c)
      go (unk true) e = told
      go (unk false) e = h
      go (held v unmarked) e = h
      go (held v refresh) e =
          renewed_holdable T i v refresh unmarked (refreshed_figure _ v (rw e at (h i low))) e h
      go (held v notice) e = told

  pub catch_up_holdable : (T : Table) → Holdable S T → Holdable S (catch_up S T)
  catch_up_holdable T h = catch_up-closed S (Holdable S) (λ U i low m g. step_holdable U i low g) T h

noted : (f : Bool) (v : Value) → well_formed v ≡ true → is_out v ≡ false → may_hold f (held v notice) ≡ true
noted true v w o = w
noted false v w o = and_true (true && not (is_out v)) (well_formed v) (ap not o) w

pub post_holdable : (S : Sheet) (T : Table) (i : ℕ) (v : Value) → well_formed v ≡ true → is_out v ≡ false → Holdable S T → Holdable S (store_posting T i v)
unfolding store_posting
post_holdable S T i v w o h = upd_cases (Allowed S) T i (post_cell (T i) v) (λ low. go (T i) (h i low)) (λ j n. h j)
  where
    go : (c : Cell) → may_hold (is_figure (item_at S i)) c ≡ true → may_hold (is_figure (item_at S i)) (post_cell c v) ≡ true
    go (unk f) e = noted (is_figure (item_at S i)) v w o
    go (held u m) e = pick (same u v)
      where
        pick : (b : Bool) → may_hold (is_figure (item_at S i)) (cond b (held u m) (held v notice)) ≡ true
        pick true = e
        pick false = noted (is_figure (item_at S i)) v w o

pub postings_holdable : (S : Sheet) (ps : List Posting) (T : Table) → AllFit S ps → Holdable S T → Holdable S (store_postings T ps)
unfolding store_postings
postings_holdable S [] T fit h = h
postings_holdable S (p ∷ ps) T fit h =
    postings_holdable S ps (store_posting T p.entry p.value) fit.1 (post_holdable S T p.entry p.value fit.0.formed fit.0.inside h)

-- every call keeps the cells allowed
pub perform_holdable : (S : Sheet) → Ordered S → (T : Table) (c : Call) → Holdable S T → Holdable S (perform S T c).table
unfolding effect close_all
perform_holdable S ordered T c h = go (first_cause (tests S T c)) refl
  where
    show_holdable : (is : List ℕ) → Holdable S (show_items S T is).table
    show_holdable [] = h
    show_holdable (i ∷ is) = looks_holdable S ordered (i ∷ is) (catch_up S T) (catch_up_holdable S ordered T h)

    done : (c : Call) → first_cause (tests S T c) ≡ 0 → Holdable S (effect S T c).table
    done (post i kind z) e = postings_holdable S _ T (postings_fit S T (post i kind z) e) h
    done (keep i) e = keep_holdable S ordered T i (keep_passed S T i e).1 h
    done (drop i) e = drop_holdable S ordered T i (drop_passed S T i e).1 h
    done (step i) e = step_holdable S ordered T i (step_passed S T i e).0 h
    done (ask i) e = look_holdable S ordered (catch_up S T) i (catch_up_holdable S ordered T h)
    done (board items results) e = show_holdable (listed items)
    done close e = close_holdable S ordered T (size S) (omega arith) h
    done (swap giver taker quantity) e = postings_holdable S _ T (postings_fit S T (swap giver taker quantity) e) h

    go : (k : ℕ) → first_cause (tests S T c) ≡ k → Holdable S (perform S T c).table
    go zero e = rw (accepted_effect S T c e) (done c e)
    go (suc k) e = rw (refused_table S T c k e) h

-- so does a list of calls
pub run_holdable : (S : Sheet) → Ordered S → (cs : List Call) (T : Table) → Holdable S T → Holdable S (run S T cs)
unfolding run
run_holdable S ordered [] T h = h
run_holdable S ordered (c ∷ cs) T h =
    run_holdable S ordered cs (perform S T c).table (perform_holdable S ordered T c h)
