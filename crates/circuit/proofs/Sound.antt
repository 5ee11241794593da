-- Every call keeps a table sound, refused calls included: it has the invariant, it is well formed, and its entries hold
-- what the fresh office holds that is fed the same calls. Both openings are sound. Assumes that the sheet is ordered,
-- where it says so.
use Prim.Native.Nat.{ℕ, zero, suc, ◌<◌}
use mathlib.Core.Path.{◌≡◌, refl, sym, subst, ◌∙◌}
use mathlib.Core.Bool.{Bool, true, false, cond}
use mathlib.Core.List.{List, [], ◌∷◌}
use lib.Dec.{eqb}
use Rattle.circuit.specs.Value.{Value, null, same}
use Rattle.circuit.specs.Circuit.{Listed}
use Rattle.circuit.specs.Sheet.{Sheet, Item, entry, figure, size, item_at, is_figure, parents_of, Ordered, Entries}
use Rattle.circuit.specs.Table.{Table, Cell, unmarked, refresh, notice, unk, held, upd, value_in, entries_of, entry_form, cell_form, bare_cell, open_bare, open_full}
use Rattle.circuit.specs.Machine.{look_up, work_out, post_cell, store_posting, keep_figure, drop_figure, tell, clear_cell, clear_mark, step_cell, step_item, catch_up}
use Rattle.circuit.specs.Call.{Call, post, keep, drop, step, ask, board, close, swap, Posting}
use Rattle.circuit.specs.Board.{listed}
use Rattle.circuit.specs.Calls.{tests, first_cause, show_items, postings_by, store_postings, effect, effect_unless, perform, run, if_accepted, postings_made}
use Rattle.circuit.specs.Closing.{close_all}
use Rattle.circuit.specs.Fresh.{fed, blank, set_entry, hear_all}
use Rattle.circuit.specs.Events.{events, fresh_run}
use Rattle.circuit.specs.Words.{Formed, Holds}
use Rattle.circuit.proofs.Fresh.{entered, hear_append, hear_made}
use Rattle.circuit.proofs.View.{never}
use Rattle.circuit.proofs.Fill.{upd_other, upd_cases, Filling, stays, fills, Fill, look_right, looks_right, work_right, keep_fill}
use Rattle.circuit.proofs.Invariant.{Invariant, changes_kept, fill_changes, post_changes, drop_changes, bare_invariant, full_invariant}
use Rattle.circuit.proofs.Tell.{step_kept}
use Rattle.circuit.proofs.Closure.{tell_closed, catch_up-closed}
use Rattle.circuit.proofs.Accepted.{effect_number, keep_passed, drop_passed}
use Rattle.circuit.proofs.Postings.{AllFit, postings_fit, posted_value_lem}
use Rattle.circuit.proofs.Closing.{close_invariant, close_formed, close_holds}

-- what every call keeps
pub record Sound (S : Sheet) (E : Entries) (T : Table) : Type 0 where
  pub invariant : Invariant S T
  pub formed : Formed S T
  pub holds : Holds S T E

-- a well-formed entry stays one, with its value
abbrev EntryKept : Cell → Cell → Type 0
EntryKept c d = entry_form c ≡ true → (entry_form d ≡ true) × (value_in d ≡ value_in c)

kept_same : (c d : Cell) → d ≡ c → EntryKept c d
kept_same c d e form = rw e (form, refl)

kept_cleared : (c : Cell) → EntryKept c (clear_cell c)
kept_cleared (unk f) form = (form, refl)
kept_cleared (held v m) form = (refl, refl)

figure_form : (it : Item) (c : Cell) → is_figure it ≡ true → cell_form it c ≡ true
figure_form entry c e = never (cc)
figure_form (figure op kept spread ps) c e = refl

entry_form_lem : (it : Item) (c : Cell) → is_figure it ≡ false → cell_form it c ≡ entry_form c
entry_form_lem entry c e = refl
entry_form_lem (figure op kept spread ps) c e = never (cc)

parent_figure : (it : Item) (p : ℕ) → Listed p (parents_of it) → is_figure it ≡ true
parent_figure entry p l = absurd l
parent_figure (figure op kept spread ps) p l = refl

-- entries that are kept keep the rest
entries_kept : (S : Sheet) (E : Entries) (T U : Table) → Sound S E T → Invariant S U
    → ((j : ℕ) → is_figure (item_at S j) ≡ false → EntryKept (T j) (U j)) → Sound S E U
entries_kept S E T U sound invariant kept =
    record { invariant = invariant; formed = formed_at; holds = λ j l e. (both j l e).1 ∙ sound.holds j l e }
  where
    both : (j : ℕ) → j < size S → is_figure (item_at S j) ≡ false → (entry_form (U j) ≡ true) × (value_in (U j) ≡ value_in (T j))
    both j l e = kept j e (sym (entry_form_lem (item_at S j) (T j) e) ∙ sound.formed j l)

    formed_at : Formed S U
    formed_at j l = go (is_figure (item_at S j)) refl
      where
        go : (b : Bool) → is_figure (item_at S j) ≡ b → cell_form (item_at S j) (U j) ≡ true
        go true e = figure_form (item_at S j) (U j) e
        go false e = entry_form_lem (item_at S j) (U j) e ∙ (both j l e).0

-- a fill changes no entry
fill_entry : (S : Sheet) (T U : Table) → Fill S T U → (j : ℕ) → is_figure (item_at S j) ≡ false → U j ≡ T j
fill_entry S T U fill j e = go (fill j)
  where
    go : Filling S T j (U j) → U j ≡ T j
    go (stays q) = q
    go (fills f k q h) = never (cc)

-- a store at a figure changes no entry
figure_entry : (S : Sheet) (T : Table) (i : ℕ) (c : Cell) → is_figure (item_at S i) ≡ true → (j : ℕ)
    → is_figure (item_at S j) ≡ false → upd T i c j ≡ T j
figure_entry S T i c k j e = upd_other T i c j differ
  where
    differ : j ≡ i → ⊥
    differ q = let r : is_figure (item_at S i) ≡ false = rw q at e in never (cc)

module _ (S : Sheet) (ordered : Ordered S) (E : Entries) where
  pub fill_sound : (T U : Table) → Fill S T U → Sound S E T → Sound S E U
  fill_sound T U fill sound =
      entries_kept S E T U sound (changes_kept S ordered T U sound.invariant (fill_changes S ordered T U fill))
      (λ j e. kept_same (T j) (U j) (fill_entry S T U fill j e))

  -- telling changes no entry
  tell_entry : (T : Table) (i : ℕ) (j : ℕ) → is_figure (item_at S j) ≡ false → tell S T i j ≡ T j
  tell_entry T i =
      tell_closed S (λ c. is_figure (item_at S c) ≡ true) (λ U. (j : ℕ) → is_figure (item_at S j) ≡ false → U j ≡ T j)
      (record {
        works = λ U c l h j e. fill_entry S U (work_out S U c).table (work_right S ordered U c).fill j e ∙ h j e;
        stores = λ U c x k h j e. figure_entry S U c x k j e ∙ h j e;
      })
      i (λ c l. parent_figure (item_at S c) i l) T (λ j e. refl)

  clear_entry : (U : Table) (i j : ℕ) → EntryKept (U j) (clear_mark U i j)
  unfolding clear_mark
  clear_entry U i j =
      upd_cases (λ k c. EntryKept (U k) c) U i (clear_cell (U i)) (kept_cleared (U i)) (λ k n. kept_same (U k) (U k) refl) j

  -- a step changes no entry but for its mark
  step_entry : (T : Table) (i j : ℕ) → is_figure (item_at S j) ≡ false → EntryKept (T j) (step_item S T i j)
  unfolding step_item
  step_entry T i j k = go (T i) refl
    where
      told : EntryKept (T j) (clear_mark (tell S T i) i j)
      told = subst (λ c. EntryKept c (clear_mark (tell S T i) i j)) (tell_entry T i j k) (clear_entry (tell S T i) i j)

      go : (c : Cell) → T i ≡ c → EntryKept (T j) (step_cell S T i c j)
      go (unk true) e = told
      go (unk false) e = kept_same (T j) (T j) refl
      go (held v unmarked) e = kept_same (T j) (T j) refl
      go (held v notice) e = told
      go (held v refresh) e =
          upd_cases (λ q c. is_figure (item_at S q) ≡ false → EntryKept (T q) c) (work_out S T i).table i _ unformed
          (λ q n o. kept_same (T q) ((work_out S T i).table q) (fill_entry S T (work_out S T i).table (work_right S ordered T i).fill q o))
          j k
        where
          unformed : is_figure (item_at S i) ≡ false
              → EntryKept (T i) (cond (same v (work_out S T i).value) (held v unmarked) (held (work_out S T i).value notice))
          unformed o form =
              let r : entry_form (held v refresh) ≡ true = rw e at form in never (cc)

  pub step_sound : (T : Table) (i : ℕ) → Sound S E T → Sound S E (step_item S T i)
  step_sound T i sound =
      entries_kept S E T (step_item S T i) sound (step_kept S ordered T i sound.invariant) (λ j e. step_entry T i j e)

  pub catch_up_sound : (T : Table) → Sound S E T → Sound S E (catch_up S T)
  catch_up_sound T sound = catch_up-closed S (Sound S E) (λ U i l m h. step_sound U i h) T sound

  pub drop_sound : (T : Table) (i : ℕ) → is_figure (item_at S i) ≡ true → Sound S E T → Sound S E (drop_figure T i)
  unfolding drop_figure
  drop_sound T i k sound =
      entries_kept S E T (drop_figure T i) sound
      (changes_kept S ordered T (drop_figure T i) sound.invariant (drop_changes S ordered T i k))
      (λ j e. kept_same (T j) (drop_figure T i j) (figure_entry S T i _ k j e))

  -- A posting sets the entry's value.
  pub post_sound : (T : Table) (i : ℕ) (v : Value) → is_figure (item_at S i) ≡ false → Sound S E T
      → Sound S (set_entry E i v) (store_posting T i v)
  unfolding store_posting
  post_sound T i v k sound =
      record {
        invariant = changes_kept S ordered T (store_posting T i v) sound.invariant (post_changes S ordered T i v k);
        formed = upd_cases (λ j c. j < size S → cell_form (item_at S j) c ≡ true) T i (post_cell (T i) v) formed_here (λ j n l. sound.formed j l);
        holds = holds_at;
      }
    where
      shaped : (c : Cell) → entry_form c ≡ true → entry_form (post_cell c v) ≡ true
      shaped (unk f) e = refl
      shaped (held w m) e = go (same w v)
        where
          go : (b : Bool) → entry_form (cond b (held w m) (held v notice)) ≡ true
          go true = e
          go false = refl

      formed_here : i < size S → cell_form (item_at S i) (post_cell (T i) v) ≡ true
      formed_here l =
          entry_form_lem (item_at S i) (post_cell (T i) v) k
          ∙ shaped (T i) (sym (entry_form_lem (item_at S i) (T i) k) ∙ sound.formed i l)

      holds_at : (j : ℕ) → j < size S → is_figure (item_at S j) ≡ false
          → value_in (upd T i (post_cell (T i) v) j) ≡ set_entry E i v j
      holds_at j l e = go (eqb j i)
        where
          go : (b : Bool) → value_in (cond b (post_cell (T i) v) (T j)) ≡ cond b v (E j)
          go true = posted_value_lem (T i) v
          go false = sound.holds j l e

  -- the items of a board: none, or those that are looked up after catching up
  show_sound : (T : Table) (is : List ℕ) → Sound S E T → Sound S E (show_items S T is).table
  show_sound T [] sound = sound
  show_sound T (i ∷ is) sound = fill_sound (catch_up S T) _ (looks_right S ordered (catch_up S T) (i ∷ is)).fill (catch_up_sound T sound)

  -- whatever the table was, the season-close run leaves a sound one, with the entries that the table held
  pub close_sound : (T : Table) → Holds S T E → Sound S E (close_all S T)
  close_sound T holds =
      record { invariant = close_invariant S ordered E T holds; formed = close_formed S ordered E T holds; holds = close_holds S ordered E T holds }

-- postings that fit set their entries, in order
pub postings_sound : (S : Sheet) → Ordered S → (ps : List Posting) (E : Entries) (T : Table) → AllFit S ps → Sound S E T
    → Sound S (entered E ps) (store_postings T ps)
unfolding entered store_postings
postings_sound S ordered [] E T fit sound = sound
postings_sound S ordered (p ∷ ps) E T fit sound =
    postings_sound S ordered ps (set_entry E p.entry p.value) (store_posting T p.entry p.value) fit.1
    (post_sound S ordered E T p.entry p.value fit.0.to_entry sound)

module _ (S : Sheet) (ordered : Ordered S) (E : Entries) where
  -- an accepted call
  accepted_sound : (T : Table) (c : Call) → Sound S E T → first_cause (tests S T c) ≡ 0 → Sound S (entered E (postings_by (entries_of T) c)) (effect S T c).table
  unfolding effect entered
  accepted_sound T (post i kind z) sound e = postings_sound S ordered _ E T (postings_fit S T (post i kind z) e) sound
  accepted_sound T (keep i) sound e = fill_sound S ordered E T (keep_figure S T i) (keep_fill S ordered T i (keep_passed S T i e).1) sound
  accepted_sound T (drop i) sound e = drop_sound S ordered E T i (drop_passed S T i e).1 sound
  accepted_sound T (step i) sound e = step_sound S ordered E T i sound
  accepted_sound T (ask i) sound e =
      fill_sound S ordered E (catch_up S T) (look_up S (catch_up S T) i).table (look_right S ordered (catch_up S T) i).fill (catch_up_sound S ordered E T sound)
  accepted_sound T (board items results) sound e = show_sound S ordered E T (listed items) sound
  accepted_sound T close sound e = close_sound S ordered E T sound.holds
  accepted_sound T (swap giver taker quantity) sound e =
      postings_sound S ordered _ E T (postings_fit S T (swap giver taker quantity) e) sound

  -- every call keeps the table sound, with the entries set by the postings that it makes
  pub perform_sound : (T : Table) (c : Call) → Sound S E T → Sound S (entered E (postings_made S T c)) (perform S T c).table
  unfolding perform postings_made entered
  perform_sound T c sound = go (first_cause (tests S T c)) refl
    where
      go : (k : ℕ) → first_cause (tests S T c) ≡ k → Sound S (entered E (if_accepted (effect_unless k S T c).number (postings_by (entries_of T) c))) (effect_unless k S T c).table
      go zero e = rw (effect_number S T c) (accepted_sound T c sound e)
      go (suc k) e = sound

-- and so does every list of calls, with the entries that the fresh office then holds
pub run_sound : (S : Sheet) → Ordered S → (cs : List Call) (E : Entries) (T : Table) → Sound S E T
    → Sound S (fresh_run S E T cs) (run S T cs)
unfolding hear_all events run
run_sound S ordered [] E T sound = sound
run_sound S ordered (c ∷ cs) E T sound =
    let made : List Posting = postings_made S T c in
    let U : Table = (perform S T c).table in
    subst (λ F. Sound S F (run S U cs)) (sym (hear_append S (fed c made) (events S U cs) E))
    (run_sound S ordered cs (hear_all S E (fed c made)) U
    (subst (λ F. Sound S F U) (sym (hear_made S E T c)) (perform_sound S ordered E T c sound)))

-- both openings are sound
pub bare_sound : (S : Sheet) → Sound S blank (open_bare S)
bare_sound S =
    record { invariant = bare_invariant S; formed = λ i l. form (item_at S i); holds = λ i l e. value (item_at S i) e }
  where
    form : (it : Item) → cell_form it (bare_cell it) ≡ true
    form entry = refl
    form (figure op kept spread ps) = refl

    value : (it : Item) → is_figure it ≡ false → value_in (bare_cell it) ≡ null
    value entry e = refl
    value (figure op kept spread ps) e = refl

pub full_sound : (S : Sheet) → Ordered S → Sound S blank (open_full S)
full_sound S ordered =
    record { invariant = full_invariant S ordered; formed = λ i l. form (item_at S i); holds = λ i l e. refl }
  where
    form : (it : Item) → cell_form it (held null unmarked) ≡ true
    form entry = refl
    form (figure op kept spread ps) = refl
