-- What stays stored. After postings to some entries on a table without marks, and until the next posting, every item that is neither
-- one of them nor led to by one carries no mark, and holds the solution's value where it is stored; what was stored there and is not
-- dropped stays stored. Assumes that the sheet is ordered.
use Prim.Native.Nat.{ℕ, zero, suc, ◌<◌}
use mathlib.Core.Path.{◌≡◌, refl, sym, ap, subst, ◌∙◌}
use mathlib.Core.Bool.{Bool, true, false, ◌||◌}
use mathlib.Core.List.{List, [], ◌∷◌, ◌++◌, map}
use mathlib.Core.Logic.{◌↔◌}
use native.Mathlib.Omega.{arith}
use lib.Dec.{eqb}
use borrow.Author.Tests.{eqb-true, eqb-false, eq-eqb}
use Rattle.circuit.specs.Value.{Value, null}
use Rattle.circuit.specs.Circuit.{IsSolution, Listed, LeadsTo, direct, further}
use Rattle.circuit.specs.Sheet.{Sheet, Item, entry, figure, item_at, is_figure, size, parents, Ordered, Entries, circuit_of, evaluate}
use Rattle.circuit.specs.Table.{Table, Cell, unmarked, refresh, notice, unk, held, is_stored, value_in, entries_of, is_marked, cell_form}
use Rattle.circuit.specs.Machine.{work_out, keep_figure, drop_figure, drop_cell, step_item, catch_up}
use Rattle.circuit.specs.Call.{Call, post, keep, drop, step, ask, board, close, swap, Posting, posted_to}
use Rattle.circuit.specs.Board.{listed}
use Rattle.circuit.specs.Calls.{tests, first_cause, show_items, postings_by, store_postings, effect, effect_unless, perform, run, if_accepted, postings_made, postings, drops}
use Rattle.circuit.specs.Closing.{close_all}
use Rattle.circuit.specs.Fresh.{give}
use Rattle.circuit.specs.Words.{Formed, Quiet, Holds, dropped_in}
use Rattle.circuit.proofs.RuleLaws.{or-false}
use Rattle.circuit.proofs.View.{seen, any_flag, view, result, strong, any_none, view_at}
use Rattle.circuit.proofs.Fill.{Filling, stays, fills, Fill, upd_cases, look_right, looks_right, work_right, keep_fill}
use Rattle.circuit.proofs.Solution.{map_listed, solution, solution_solves, sheet_acyclic, entry_value, figure_value, give_solves}
use Rattle.circuit.proofs.Invariant.{Invariant}
use Rattle.circuit.proofs.Reading.{quiet_exact, exact_solution}
use Rattle.circuit.proofs.Closure.{Closed, step_closed, catch_up-closed}
use Rattle.circuit.proofs.Closing.{close_at}
use Rattle.circuit.proofs.Accepted.{effect_number, keep_passed, drop_passed, step_passed}
use Rattle.circuit.proofs.Postings.{postings_other}

-- k is none of the items es, nor led to by one
abbrev pub Outside : Sheet → List ℕ → ℕ → Type 0
Outside S es k = (Listed k es → ⊥) × ((e : ℕ) → Listed e es → LeadsTo (circuit_of S) e k → ⊥)

-- the parents of an item outside are outside
pub parent_outside : (S : Sheet) (es : List ℕ) (k p : ℕ) → Outside S es k → Listed p (parents S k) → Outside S es p
parent_outside S es k p outside l = (λ h. outside.1 p h (direct l), λ e h led. outside.1 e h (further led l))

-- a cell outside: without a mark, and if it is stored it holds v; an entry is stored
pub data Calm (it : Item) (v : Value) : Cell → Type 0 where
  away : is_figure it ≡ true → Calm it v (unk false)
  there : Calm it v (held v unmarked)

-- what a cell outside becomes: it stays, or was UNK and holds v
data Onward (v : Value) : Cell → Cell → Type 0 where
  same : {c : Cell} → Onward v c c
  filled : Onward v (unk false) (held v unmarked)

onward_trans : {v : Value} {a b c : Cell} → Onward v a b → Onward v b c → Onward v a c
onward_trans same q = q
onward_trans filled same = filled

calm_onward : {it : Item} {v : Value} {a b : Cell} → Calm it v a → Onward v a b → Calm it v b
calm_onward c same = c
calm_onward c filled = there

onward_stored : {v : Value} {a b : Cell} → Onward v a b → is_stored a ≡ true → is_stored b ≡ true
onward_stored same h = h
onward_stored filled h = refl

calm_unmarked : {it : Item} {v : Value} {c : Cell} → Calm it v c → is_marked c ≡ false
calm_unmarked (away k) = refl
calm_unmarked there = refl

calm_value : {it : Item} {v : Value} {c : Cell} → Calm it v c → is_stored c ≡ true → value_in c ≡ v
calm_value (away k) h = let bad : ◌≡◌ {A = ℕ} 0 1 = cc in absurd (omega arith)
calm_value there h = refl

calm_entry : {it : Item} {v : Value} {c : Cell} → Calm it v c → is_figure it ≡ false → value_in c ≡ v
calm_entry (away k) h = let bad : ◌≡◌ {A = ℕ} 0 1 = cc in absurd (omega arith)
calm_entry there h = refl

-- a cell without a mark that holds v if it is stored
pub calm_cell : (it : Item) (v : Value) (c : Cell) → is_marked c ≡ false → (is_stored c ≡ true → value_in c ≡ v)
    → (is_figure it ≡ false → is_stored c ≡ true) → Calm it v c
calm_cell entry v (unk true) m h f = let bad : ◌≡◌ {A = ℕ} 0 1 = cc in absurd (omega arith)
calm_cell entry v (unk false) m h f = let bad : ◌≡◌ {A = ℕ} 0 1 = cc (f refl) in absurd (omega arith)
calm_cell (figure op kept spread ps) v (unk true) m h f = let bad : ◌≡◌ {A = ℕ} 0 1 = cc in absurd (omega arith)
calm_cell (figure op kept spread ps) v (unk false) m h f = away refl
calm_cell it v (held w unmarked) m h f = rw (h refl) there
calm_cell it v (held w refresh) m h f = let bad : ◌≡◌ {A = ℕ} 0 1 = cc in absurd (omega arith)
calm_cell it v (held w notice) m h f = let bad : ◌≡◌ {A = ℕ} 0 1 = cc in absurd (omega arith)

append-nil : {A : Type 0} (xs ys : List A) → xs ++ ys ≡ [] → (xs ≡ []) × (ys ≡ [])
append-nil [] ys e = (refl, e)
append-nil (x ∷ xs) ys e = let bad : ◌≡◌ {A = ℕ} 0 1 = cc in absurd (omega arith)

-- a figure whose parents' look-ups are the solution's, without a flag, is worked out to the solution's, without a flag
result_solved : (S : Sheet) (E : Entries) (m : ℕ → Value) → IsSolution (circuit_of S) E m
    → (T : Table) (k : ℕ) → k < size S → is_figure (item_at S k) ≡ true
    → ((p : ℕ) → Listed p (parents S k) → view S T p ≡ seen (m p) false) → result S T k ≡ seen (m k) false
result_solved S E m solves T k low fig parent =
    rw (values, flags) (ap (λ v. seen v false) (sym (figure_value S E solves k low fig)))
  where
    values : map (λ p. (view S T p).value) (parents S k) ≡ map m (parents S k)
    values = map_listed (parents S k) (λ p l. ap (λ s. s.value) (parent p l))

    flags : any_flag (view S T) (parents S k) ≡ false
    flags = any_none (view S T) (parents S k) (λ p l. ap (λ s. s.flag) (parent p l))

-- two solutions, under entries that agree outside, agree outside
pub outside_agree : (S : Sheet) (ordered : Ordered S) (es : List ℕ) (E D : Entries) (m w : ℕ → Value)
    → IsSolution (circuit_of S) E m → IsSolution (circuit_of S) D w
    → ((i : ℕ) → i < size S → is_figure (item_at S i) ≡ false → Outside S es i → E i ≡ D i)
    → (k : ℕ) → k < size S → Outside S es k → m k ≡ w k
outside_agree S ordered es E D m w solves_m solves_w agree =
    strong (λ k. k < size S → Outside S es k → m k ≡ w k) rise
  where
    rise : (k : ℕ) → ((p : ℕ) → p < k → p < size S → Outside S es p → m p ≡ w p) → k < size S → Outside S es k → m k ≡ w k
    rise k lower low outside = go (is_figure (item_at S k)) refl
      where
        parents_agree : map m (parents S k) ≡ map w (parents S k)
        parents_agree =
            map_listed (parents S k)
            (λ p l. let o : p < k = ordered k p l in lower p o (omega arith) (parent_outside S es k p outside l))

        go : (b : Bool) → is_figure (item_at S k) ≡ b → m k ≡ w k
        go false e = entry_value S E solves_m k low e ∙ agree k low e outside ∙ sym (entry_value S D solves_w k low e)
        go true e =
            figure_value S E solves_m k low e ∙ ap (evaluate (item_at S k) null) parents_agree ∙ sym (figure_value S D solves_w k low e)

module _ (S : Sheet) (ordered : Ordered S) (es : List ℕ) (E : Entries) (m : ℕ → Value) (solves : IsSolution (circuit_of S) E m) where
  -- every cell outside is calm
  abbrev pub Confined : Table → Type 0
  Confined T = (k : ℕ) → k < size S → Outside S es k → Calm (item_at S k) (m k) (T k)

  abbrev Further : Table → Table → Type 0
  Further T U = (k : ℕ) → k < size S → Outside S es k → Onward (m k) (T k) (U k)

  confined_further : (T U : Table) → Confined T → Further T U → Confined U
  confined_further T U confined further' k low outside = calm_onward (confined k low outside) (further' k low outside)

  further_trans : (T U W : Table) → Further T U → Further U W → Further T W
  further_trans T U W p q k low outside = onward_trans (p k low outside) (q k low outside)

  -- a look-up of an item outside gives the solution's value, without a flag
  pub view_outside : (T : Table) → Confined T → (k : ℕ) → k < size S → Outside S es k → view S T k ≡ seen (m k) false
  view_outside T confined = strong (λ k. k < size S → Outside S es k → view S T k ≡ seen (m k) false) rise
    where
      rise : (k : ℕ) → ((p : ℕ) → p < k → p < size S → Outside S es p → view S T p ≡ seen (m p) false) → k < size S → Outside S es k
          → view S T k ≡ seen (m k) false
      rise k lower low outside = go (T k) refl (confined k low outside)
        where
          known : is_figure (item_at S k) ≡ true → result S T k ≡ seen (m k) false
          known fig =
              result_solved S E m solves T k low fig
              (λ p l. let o : p < k = ordered k p l in lower p o (omega arith) (parent_outside S es k p outside l))

          go : (c : Cell) → T k ≡ c → Calm (item_at S k) (m k) c → view S T k ≡ seen (m k) false
          go (unk false) h (away f) =
              view_at S ordered T k h ∙ ap (λ r. seen r.value (r.flag || false)) (known f)
          go (held v unmarked) h there = view_at S ordered T k h
          go (unk true) h impossible = elim impossible [ ]
          go (held v refresh) h impossible = elim impossible [ ]
          go (held v notice) h impossible = elim impossible [ ]

  fill_further : (T U : Table) → Confined T → Fill S T U → Further T U
  fill_further T U confined fill k low outside = go (T k) refl (confined k low outside) (fill k)
    where
      go : (c : Cell) → T k ≡ c → Calm (item_at S k) (m k) c → Filling S T k (U k) → Onward (m k) c (U k)
      go c h calm (stays q) = subst (λ x. Onward (m k) c x) (sym (q ∙ h)) same
      go (held v unmarked) h there (fills f r u q) = let bad : ◌≡◌ {A = ℕ} 0 1 = cc in absurd (omega arith)
      go (unk false) h (away r) (fills f r' u q) = rw (q, view_outside T confined k low outside) filled
      go (unk true) h calm (fills f r' u q) = elim calm [ ]
      go (held v refresh) h calm (fills f r u q) = elim calm [ ]
      go (held v notice) h calm (fills f r u q) = elim calm [ ]

  -- stores at items that are not outside
  further_closed : (T : Table) → Confined T → Closed S (λ i. Outside S es i → ⊥) (Further T)
  further_closed T confined =
      record {
        works = λ U i low far.
            further_trans T U (work_out S U i).table far
            (fill_further U (work_out S U i).table (confined_further T U confined far) (work_right S ordered U i).fill);
        stores = λ U i c inside far.
            upd_cases (λ k x. k < size S → Outside S es k → Onward (m k) (T k) x) U i c
            (λ low outside. absurd (inside outside))
            (λ k n low outside. far k low outside);
      }

  step_further : (T : Table) (i : ℕ) → i < size S → is_marked (T i) ≡ true → Confined T → Further T (step_item S T i)
  step_further T i low marked confined =
      step_closed S (λ j. Outside S es j → ⊥) (Further T) (further_closed T confined) i low inside
      (λ c l outside. inside (parent_outside S es c i outside l)) T (λ k l outside. same)
    where
      inside : Outside S es i → ⊥
      inside outside =
          let free : is_marked (T i) ≡ false = calm_unmarked (confined i low outside) in
          let bad : ◌≡◌ {A = ℕ} 0 1 = cc in
          omega arith

  catch_up-further : (T : Table) → Confined T → Further T (catch_up S T)
  catch_up-further T confined =
      catch_up-closed S (Further T)
      (λ U i low marked far. further_trans T U (step_item S U i) far (step_further U i low marked (confined_further T U confined far)))
      T (λ k low outside. same)

  -- what a call leaves outside: calm cells, and what was stored and is not dropped
  record Left (dropped : ℕ → Bool) (T U : Table) : Type 0 where
    calm : Confined U
    stored : (k : ℕ) → k < size S → Outside S es k → dropped k ≡ false → is_stored (T k) ≡ true → is_stored (U k) ≡ true

  left_further : (dropped : ℕ → Bool) (T U : Table) → Confined T → Further T U → Left dropped T U
  left_further dropped T U confined far =
      record {
        calm = confined_further T U confined far;
        stored = λ k low outside d h. onward_stored (far k low outside) h;
      }

  drop_left : (T : Table) (i : ℕ) → is_figure (item_at S i) ≡ true → Confined T → Left (λ k. eqb k i) T (drop_figure T i)
  unfolding drop_figure
  drop_left T i fig confined =
      record {
        calm =
            upd_cases (λ k x. k < size S → Outside S es k → Calm (item_at S k) (m k) x) T i (drop_cell (T i))
            (λ low outside. go (confined i low outside))
            (λ k n low outside. confined k low outside);
        stored =
            upd_cases (λ k x. k < size S → Outside S es k → eqb k i ≡ false → is_stored (T k) ≡ true → is_stored x ≡ true) T i (drop_cell (T i))
            (λ low outside d h. absurd (eqb-false i i d refl))
            (λ k n low outside d h. h);
      }
    where
      go : {c : Cell} → Calm (item_at S i) (m i) c → Calm (item_at S i) (m i) (drop_cell c)
      go (away f) = away f
      go there = away fig

  -- a call that posts nothing stores nothing
  posted_left : (dropped : ℕ → Bool) (T : Table) (ps : List Posting) → Confined T → ps ≡ [] → Left dropped T (store_postings T ps)
  unfolding store_postings
  posted_left dropped T [] confined h = left_further dropped T T confined (λ k low outside. same)
  posted_left dropped T (p ∷ ps) confined h = let bad : ◌≡◌ {A = ℕ} 0 1 = cc in absurd (omega arith)

  -- what is looked up after catching up
  caught_further : (T X : Table) → Confined T → Fill S (catch_up S T) X → Further T X
  caught_further T X confined fill =
      let U : Table = catch_up S T in
      let far : Further T U = catch_up-further T confined in
      further_trans T U X far (fill_further U X (confined_further T U confined far) fill)

  show_further : (T : Table) (is : List ℕ) → Confined T → Further T (show_items S T is).table
  show_further T [] confined = λ k low outside. same
  show_further T (i ∷ is) confined = caught_further T _ confined (looks_right S ordered (catch_up S T) (i ∷ is)).fill

  -- The season-close run writes every cell. Outside it writes the solution's values: the entries outside hold theirs, so the solution
  -- under the entries that the table holds is the same there.
  close_further : (T : Table) → Confined T → Further T (close_all S T)
  close_further T confined k low outside = subst (Onward (m k) (T k)) (sym closed) (onward (confined k low outside))
    where
      D : Entries
      D = λ i. value_in (T i)

      value : m k ≡ give S D k
      value =
          outside_agree S ordered es E D m (give S D) solves (give_solves S ordered D)
          (λ i l f o. sym (entry_value S E solves i l f) ∙ sym (calm_entry (confined i l o) f)) k low outside

      closed : close_all S T k ≡ held (m k) unmarked
      closed = close_at S ordered D T (λ i l f. refl) k low ∙ ap (λ v. held v unmarked) (sym value)

      onward : {c : Cell} → Calm (item_at S k) (m k) c → Onward (m k) c (held (m k) unmarked)
      onward (away f) = filled
      onward there = same

  -- an accepted call that makes no posting
  accepted_left : (T : Table) (c : Call) → Confined T → first_cause (tests S T c) ≡ 0 → postings_by (entries_of T) c ≡ [] → Left (drops c) T (effect S T c).table
  unfolding effect
  accepted_left T (post i kind z) confined h none' = posted_left (drops (post i kind z)) T _ confined none'
  accepted_left T (keep i) confined h none' =
      left_further (drops (keep i)) T (keep_figure S T i) confined
      (fill_further T (keep_figure S T i) confined (keep_fill S ordered T i (keep_passed S T i h).1))
  accepted_left T (drop i) confined h none' = drop_left T i (drop_passed S T i h).1 confined
  accepted_left T (step i) confined h none' =
      left_further (drops (step i)) T (step_item S T i) confined
      (step_further T i (step_passed S T i h).0 (step_passed S T i h).1 confined)
  accepted_left T (ask i) confined h none' =
      left_further (drops (ask i)) T _ confined (caught_further T _ confined (look_right S ordered (catch_up S T) i).fill)
  accepted_left T (board items results) confined h none' =
      left_further (drops (board items results)) T _ confined (show_further T (listed items) confined)
  accepted_left T close confined h none' = left_further (drops close) T (close_all S T) confined (close_further T confined)
  accepted_left T (swap giver taker quantity) confined h none' = posted_left (drops (swap giver taker quantity)) T _ confined none'

  -- a call that makes no posting
  perform_left : (T : Table) (c : Call) → postings_made S T c ≡ [] → Confined T → Left (drops c) T (perform S T c).table
  unfolding postings_made perform
  perform_left T c none_made confined = go (first_cause (tests S T c)) refl none_made
    where
      go : (n : ℕ) → first_cause (tests S T c) ≡ n → if_accepted (effect_unless n S T c).number (postings_by (entries_of T) c) ≡ []
          → Left (drops c) T (effect_unless n S T c).table
      go zero h none' = accepted_left T c confined h (rw (effect_number S T c) at none')
      go (suc n) h none' = left_further (drops c) T T confined (λ k low outside. same)

  -- a list of calls that makes no posting
  run_left : (cs : List Call) (T : Table) → postings S T cs ≡ [] → Confined T → Left (dropped_in cs) T (run S T cs)
  unfolding postings run dropped_in
  run_left [] T none_made confined = left_further (dropped_in []) T T confined (λ k low outside. same)
  run_left (c ∷ cs) T none_made confined =
      let parts = append-nil (postings_made S T c) (postings S (perform S T c).table cs) none_made in
      let first = perform_left T c parts.0 confined in
      let rest = run_left cs (perform S T c).table parts.1 first.calm in
      record {
        calm = rest.calm;
        stored = λ k low outside d h.
            rest.stored k low outside (or-false (drops c k) (dropped_in cs k) d).1
            (first.stored k low outside (or-false (drops c k) (dropped_in cs k) d).0 h);
      }

-- a call makes no posting, or leaves what its postings leave
data Posts (S : Sheet) (T : Table) (c : Call) : Type 0 where
  nothing : postings_made S T c ≡ [] → Posts S T c
  stores : (perform S T c).table ≡ store_postings T (postings_made S T c) → Posts S T c

perform_posts : (S : Sheet) (T : Table) (c : Call) → Posts S T c
unfolding postings_made perform effect
perform_posts S T c = go (first_cause (tests S T c)) refl
  where
    go : (k : ℕ) → first_cause (tests S T c) ≡ k → Posts S T c
    go (suc k) e = nothing (rw e)
    go zero e = by c e
      where
        by : (d : Call) → first_cause (tests S T d) ≡ 0 → Posts S T d
        by (post i kind z) h = stores (rw h)
        by (keep i) h = nothing (rw h)
        by (drop i) h = nothing (rw h)
        by (step i) h = nothing (rw h)
        by (ask i) h = nothing (rw h)
        by (board items results) h = nothing (rw (h, effect_number S T (board items results)))
        by close h = nothing (rw h)
        by (swap giver taker quantity) h = stores (rw h)

-- a figure is dropped by a drop of it, and by no other call
pub drop_words : (c : Call) (k : ℕ) → (drops c k ≡ true) ↔ (c ≡ drop k)
drop_words c k = (is_drop c, λ e. subst (λ d. drops d k ≡ true) (sym e) (eq-eqb k k refl))
  where
    is_drop : (d : Call) → drops d k ≡ true → d ≡ drop k
    is_drop (post i kind z) h = cc
    is_drop (keep i) h = cc
    is_drop (drop i) h = ap drop (sym (eqb-true k i h))
    is_drop (step i) h = cc
    is_drop (ask i) h = cc
    is_drop (board items results) h = cc
    is_drop close h = cc
    is_drop (swap giver taker quantity) h = cc

pub stored_entry : (it : Item) (c : Cell) → cell_form it c ≡ true → is_figure it ≡ false → is_stored c ≡ true
stored_entry entry (unk f) h g = let bad : ◌≡◌ {A = ℕ} 0 1 = cc in absurd (omega arith)
stored_entry (figure op kept spread ps) (unk f) h g = let bad : ◌≡◌ {A = ℕ} 0 1 = cc in absurd (omega arith)
stored_entry it (held v m) h g = refl

-- what is stored is what a look-up gives
stored_value : (S : Sheet) → Ordered S → (T : Table) (k : ℕ) → is_stored (T k) ≡ true → value_in (T k) ≡ (view S T k).value
stored_value S ordered T k = go (T k) refl
  where
    go : (c : Cell) → T k ≡ c → is_stored c ≡ true → value_in c ≡ (view S T k).value
    go (unk f) h s = let bad : ◌≡◌ {A = ℕ} 0 1 = cc in absurd (omega arith)
    go (held v m) h s = sym (ap (λ r. r.value) (view_at S ordered T k h))

-- Figure k on the table U, which a list of calls left after the table T and postings: stored if it was and no drop named it;
-- if it is stored, with the solution's value under the entries before the postings, which is also the solution's value under
-- the entries now, and the value that it had if it was stored; without a mark.
pub record Retained (S : Sheet) (T : Table) (cs : List Call) (U : Table) (k : ℕ) : Type 0 where
  pub stored : is_stored (T k) ≡ true → dropped_in cs k ≡ false → is_stored (U k) ≡ true
  pub before : is_stored (U k) ≡ true → (E : Entries) → Holds S T E → (values : ℕ → Value) → IsSolution (circuit_of S) E values → value_in (U k) ≡ values k
  pub now : is_stored (U k) ≡ true → (E : Entries) → Holds S U E → (values : ℕ → Value) → IsSolution (circuit_of S) E values → value_in (U k) ≡ values k
  pub unchanged : is_stored (T k) ≡ true → is_stored (U k) ≡ true → value_in (U k) ≡ value_in (T k)
  pub unmarked : is_marked (U k) ≡ false

-- What stays stored, on any table T that has the invariant and no mark: after a change at the items es, which leaves P, and a list of
-- calls that makes no posting, of every item that is none of them nor led to by one.
module _ (S : Sheet) (ordered : Ordered S) (T : Table) (invariant : Invariant S T) (formed : Formed S T) (quiet : Quiet S T) where
  pub retention : (es : List ℕ) (P : Table) → ((i : ℕ) → (Listed i es → ⊥) → P i ≡ T i) → (cs : List Call) → postings S P cs ≡ []
      → (k : ℕ) → k < size S → Outside S es k → Retained S T cs (run S P cs) k
  retention es P other cs none_made k low outside =
      record {
        stored = λ h d. left.stored k low outside d (rw (other k outside.0) h);
        before = λ h D holds w solves_w. value h ∙ agrees D w solves_w (λ i l f o. holds i l f);
        now = λ h D holds w solves_w. value h ∙ agrees D w solves_w (λ i l f o. held_on i l f o ∙ holds i l f);
        unchanged = λ g h. value h ∙ sym (was k low g);
        unmarked = calm_unmarked (left.calm k low outside);
      }
    where
      E : Entries
      E = entries_of T

      m : ℕ → Value
      m = solution (circuit_of S) E

      solves : IsSolution (circuit_of S) E m
      solves = solution_solves (circuit_of S) (sheet_acyclic S ordered) E

      was : (i : ℕ) → i < size S → is_stored (T i) ≡ true → value_in (T i) ≡ m i
      was i l h =
          stored_value S ordered T i h
          ∙ exact_solution S ordered E m solves T formed (λ j b f. refl) (quiet_exact S ordered T invariant quiet) i l

      posted : Confined S ordered es E m solves P
      posted i l o =
          rw (other i o.0)
          (calm_cell (item_at S i) (m i) (T i) (quiet i l) (was i l) (stored_entry (item_at S i) (T i) (formed i l)))

      left : Left S ordered es E m solves (dropped_in cs) P (run S P cs)
      left = run_left S ordered es E m solves cs P none_made posted

      value : is_stored (run S P cs k) ≡ true → value_in (run S P cs k) ≡ m k
      value h = calm_value (left.calm k low outside) h

      -- an entry that is none of them holds what it held
      held_on : (i : ℕ) → i < size S → is_figure (item_at S i) ≡ false → Outside S es i → E i ≡ value_in (run S P cs i)
      held_on i l f o =
          was i l (stored_entry (item_at S i) (T i) (formed i l) f) ∙ sym (calm_entry (left.calm i l o) f)

      agrees : (D : Entries) (w : ℕ → Value) → IsSolution (circuit_of S) D w
          → ((i : ℕ) → i < size S → is_figure (item_at S i) ≡ false → Outside S es i → E i ≡ D i) → m k ≡ w k
      agrees D w solves_w equal = outside_agree S ordered es E D m w solves solves_w equal k low outside

  -- after any call, and a list of calls that makes no posting, of every item that is none of those posted to nor led to by one
  pub call_retention : (c : Call) (cs : List Call) → postings S (perform S T c).table cs ≡ []
      → (k : ℕ) → k < size S → Outside S (posted_to (postings_made S T c)) k → Retained S T (c ∷ cs) (run S (perform S T c).table cs) k
  unfolding run dropped_in postings
  call_retention c cs none_made k low outside = go (perform_posts S T c)
    where
      go : Posts S T c → Retained S T (c ∷ cs) (run S (perform S T c).table cs) k
      go (nothing made) =
          retention [] T (λ i n. refl) (c ∷ cs) (rw (made, none_made)) k low (λ l. absurd l, λ e l. absurd l)
      go (stores is) =
          let r = retention (posted_to (postings_made S T c)) (perform S T c).table (λ i n. ap (λ U. U i) is ∙ postings_other (postings_made S T c) T i n) cs none_made k low outside in
          record {
            stored = λ h d. r.stored h (or-false (drops c k) (dropped_in cs k) d).1;
            before = r.before;
            now = r.now;
            unchanged = r.unchanged;
            unmarked = r.unmarked;
          }
