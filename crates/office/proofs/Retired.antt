-- 02's job 10 on lent bytes: an edition 1 sheet with spread 2 is served as the same sheet with 0 in its place, and with its edition changed to 2
-- it is given 5; older tables are accepted and read right. Assumes nothing.
use Prim.Native.Nat.{ℕ, zero, suc, ◌<◌, ◌≤◌}
use native.Mathlib.Omega.{arith}
use native.Mathlib.Decide.{dec_le}
use mathlib.Core.Path.{◌≡◌, refl, sym, ap, ap₂, ◌∙◌, subst}
use mathlib.Core.Bool.{Bool, true, false, cond}
use mathlib.Core.List.{List, [], ◌∷◌, map, map-map}
use mathlib.Core.Logic.{◌⊎◌, inl, inr, ◌↔◌}
use lib.Dec.{eqb}
use Rattle.circuit.specs.Sheet.{Sheet, Ordered, Entries, size}
use Rattle.circuit.specs.Table.{Table}
use Rattle.circuit.specs.Call.{Call, ask, close, Opening}
use Rattle.circuit.specs.Calls.{tests, first_cause, effect}
use Rattle.circuit.specs.Fresh.{give}
use Rattle.circuit.specs.Words.{Coherent}
use Rattle.circuit.proofs.Solution.{give_solves, solution_given}
use Rattle.circuit.proofs.Spreads.{spreadless, size_respread, figure_respread, owed_respread, coherent_respread, coherent_invariant}
use Rattle.circuit.proofs.Sound.{Sound}
use Rattle.circuit.proofs.Offices.{caught_value}
use Rattle.layout.specs.Layout.{LayoutItem, item_limit, entry_field, figure_field, spread_meant, machine_item}
use Rattle.layout.specs.Read.{Placed, SheetRead, opens, read_sheet}
use Rattle.layout.specs.Opened.{sheet_from, sheet_of, sheet_read}
use Rattle.layout.specs.Index.{index_bytes, bytes32}
use Rattle.layout.specs.Causes.{Place, first, item, edition_of, item_count, InSheet, Before, offset_of, CauseAt, cause4, Sound as SoundAt, Faultless}
use Rattle.layout.specs.Edition.{with_edition}
use Rattle.layout.specs.Spreads.{holds_forget, NoForget, FirstForget, DifferInSpreads, without_forget}
use Rattle.layout.proofs.Tests.{Tells, holds, fails, tells_eq}
use Rattle.layout.proofs.Causes.{refused_exactly}
use Rattle.layout.proofs.Retired.{forget_cause, forget_refused, first_or_none}
use Rattle.layout.proofs.Spreads.{respread, respread_placed, respread_length, SameRead, both_refused, both_open}
use Rattle.layout.proofs.Spreads.{zero_for_two, edition_alike, items_alike, without_forget_lem, zeroes, read_both, read_without}
use Rattle.table.specs.Bytes.{encode_table, decode_table, table_form, owed_true}
use Rattle.table.proofs.Rows.{below_same}
use Rattle.table.proofs.Tables.{holdable_formed}
use Rattle.word.specs.Word.{Bytes}
use Rattle.office.specs.Office.{Office, keeping, call_tests, unless_refused, effect_on, call_read, call_on, open_read, open_on, run_on}
use Rattle.office.specs.Demand1Words.{Invocation, opening, calling, serve, Refused, by_sheet, by_lent, AcceptedLent}
use Rattle.office.specs.Demand2Words.{answer_of, reading, entries_in}
use Rattle.office.specs.Demand3Words.{ask_after, postings_on, fresh_from}
use Rattle.office.specs.EditionWords.{SameAcross, AsksRight}
use Rattle.office.proofs.Closes.{Keeps, sound_on}
use Rattle.office.proofs.Editions.{runs_same, postings_same, agree_across, edition_serves}
use Rattle.office.proofs.Giving.{ask_performed}
use Rattle.office.proofs.Lent.{ordered, holdable, within, encoded, performs}
use Rattle.office.proofs.Refusals.{turned_back, cause_number, close_refuses}

-- What is read, with other spreads: the same count and the same index.

map_same : {A B : Type 0} (f g : A → B) → ((x : A) → f x ≡ g x) → (xs : List A) → map f xs ≡ map g xs
map_same f g h [] = refl
map_same f g h (x ∷ xs) = ap₂ (λ y l. y ∷ l) (h x) (map_same f g h xs)

index_respread : (g : ℕ → ℕ) (ps : List Placed) → index_bytes (map (respread_placed g) ps) ≡ index_bytes ps
unfolding index_bytes
index_respread g ps = rw (map-map (λ p. bytes32 p.offset) (respread_placed g) ps)

module _ (g : ℕ → ℕ) (ps qs : List Placed) (e : map (respread_placed g) qs ≡ map (respread_placed g) ps) where
  index_alike : index_bytes qs ≡ index_bytes ps
  index_alike = sym (index_respread g qs) ∙ ap index_bytes e ∙ index_respread g ps

  -- the machine's items, as far as they do not depend on what g changes
  machine_alike : {A : Type 0} (f : LayoutItem → A) → ((it : LayoutItem) → f (respread g it) ≡ f it) → map (λ p. f p.item) qs ≡ map (λ p. f p.item) ps
  machine_alike f same = sym (back qs) ∙ ap (map (λ p. f p.item)) e ∙ back ps
    where
      back : (xs : List Placed) → map (λ p. f p.item) (map (respread_placed g) xs) ≡ map (λ p. f p.item) xs
      back xs = map-map (λ p. f p.item) (respread_placed g) xs ∙ map_same _ _ (λ p. same p.item) xs

-- Spread 2 is the machine's as spread 0 is.

meant_zero : (spread : ℕ) → spread_meant (zero_for_two spread) ≡ spread_meant spread
unfolding spread_meant
meant_zero spread = go (eqb spread 2) (tells_eq spread 2)
  where
    go : (b : Bool) → Tells (spread ≡ 2) b → spread_meant (cond b 0 spread) ≡ spread_meant spread
    go true (holds e) = rw e
    go false (fails n) = refl

item_zero : (it : LayoutItem) → machine_item (respread zero_for_two it) ≡ machine_item it
unfolding machine_item
item_zero (entry_field name) = refl
item_zero (figure_field rule keep spread ps name) = rw (meant_zero spread)

module _ (ps qs : List Placed) (e : map (respread_placed zero_for_two) qs ≡ map (respread_placed zero_for_two) ps) where
  sheet_zero : (edition : ℕ) → sheet_read edition qs ≡ sheet_read edition ps
  sheet_zero edition =
      map-map machine_item (λ p. p.item) qs ∙ machine_alike zero_for_two ps qs e machine_item item_zero ∙ sym (map-map machine_item (λ p. p.item) ps)

  call_zero : (edition : ℕ) (o : Office) (c : Call) → call_read (opens edition qs) o c ≡ call_read (opens edition ps) o c
  call_zero edition o c = rw (sheet_zero edition, respread_length zero_for_two ps qs e, index_alike zero_for_two ps qs e)

  open_zero : (edition : ℕ) (how : Opening) (o : Office) → open_read how (opens edition qs) o ≡ open_read how (opens edition ps) o
  open_zero edition how o = rw (sheet_zero edition, respread_length zero_for_two ps qs e, index_alike zero_for_two ps qs e)

module _ (s : List ℕ) (one : edition_of s ≡ 1) where
  treated_call : (o : Office) (c : Call) → call_on (without_forget s) o c ≡ call_on s o c
  unfolding call_on
  treated_call o c = go (read_sheet s) (read_sheet (without_forget s)) (read_without s one)
    where
      go : (r q : SheetRead) → SameRead zero_for_two r q → call_read q o c ≡ call_read r o c
      go _ _ (both_refused k at) = refl
      go _ _ (both_open edition ps qs e) = call_zero ps qs e edition o c

  treated_open : (how : Opening) (o : Office) → open_on how (without_forget s) o ≡ open_on how s o
  unfolding open_on
  treated_open how o = go (read_sheet s) (read_sheet (without_forget s)) (read_without s one)
    where
      go : (r q : SheetRead) → SameRead zero_for_two r q → open_read how q o ≡ open_read how r o
      go _ _ (both_refused k at) = refl
      go _ _ (both_open edition ps qs e) = open_zero ps qs e edition how o

  pub treated_serves : (v : Invocation) (o : Office) → serve v (without_forget s) o ≡ serve v s o
  treated_serves (opening how) o = treated_open how o
  treated_serves (calling c) o = treated_call o c

  pub migrated_serves : item_count s ≤ item_limit 1 → (v : Invocation) (o : Office) → serve v (with_edition 2 (without_forget s)) o ≡ serve v s o
  migrated_serves few v o =
      edition_serves (without_forget s)
      (record {
        edition_1 = edition_alike s (without_forget s) (without_forget_lem s) ∙ one;
        few = rw (items_alike s (without_forget s) (without_forget_lem s)) few;
        no_forget = (zeroes s).none_left;
      })
      v o
      ∙ treated_serves v o

  pub treated_circuit : sheet_of (without_forget s) ≡ sheet_of s
  unfolding sheet_of
  treated_circuit = go (read_sheet s) (read_sheet (without_forget s)) (read_without s one)
    where
      go : (r q : SheetRead) → SameRead zero_for_two r q → sheet_from q ≡ sheet_from r
      go _ _ (both_refused k at) = refl
      go _ _ (both_open edition ps qs e) = sheet_zero ps qs e edition

  pub treated_runs : (o : Office) (cs : List Call) → run_on (without_forget s) o cs ≡ run_on s o cs
  treated_runs = runs_same s (without_forget s) treated_call

  pub treated_postings : (o : Office) (cs : List Call) → postings_on (without_forget s) o cs ≡ postings_on s o cs
  treated_postings = postings_same s (without_forget s) treated_call

  pub treated_agree : (o p : Office) (first second : Opening) → (open_on first s o).number ≡ 0 → (open_on second (without_forget s) p).number ≡ 0
      → (cs ds : List Call) → postings_on s (open_on first s o).after cs ≡ postings_on (without_forget s) (open_on second (without_forget s) p).after ds
      → SameAcross s (open_on first s o).after cs (without_forget s) (open_on second (without_forget s) p).after ds
  treated_agree = agree_across s (without_forget s) treated_call treated_open

  -- The sheet opens. With its edition changed to 2 it is given 5 exactly at the first figure that holds spread 2.
  module _ (sound : Faultless s) (v : Invocation) (o : Office) where
    abbrev changed : List ℕ
    changed = with_edition 2 s

    few : item_count s ≤ item_limit 1
    few = go (dec_le (item_count s) (item_limit 1))
      where
        go : Dec (item_count s ≤ item_limit 1) → item_count s ≤ item_limit 1
        go (yes h) = h
        go (no h) = absurd (sound first tt 4 (cause4 (inr (inr (rw one (omega arith))))))

    -- that figure's fault is the sheet's first
    faulted : (i : ℕ) → FirstForget s i → ((serve v changed o).number ≡ 5) × ((serve v changed o).offset ≡ offset_of s (item i))
    faulted i f =
        ((turned_back v changed o).given 5 (offset_of s (item i)) (λ z. omega arith)).1
        (by_sheet ((refused_exactly changed 5 (offset_of s (item i))).0 (forget_refused s one sound i f)))

    -- where none holds it, nothing is given 5
    unfaulted : NoForget s → ¬ ((serve v changed o).number ≡ 5)
    unfaulted none five =
        let same = edition_serves s (record { edition_1 = one; few = few; no_forget = none }) v o in
        refuse (((turned_back v s o).given 5 (serve v s o).offset (λ z. omega arith)).0 (sym (ap (λ g. g.number) same) ∙ five, refl))
      where
        refuse : {offset : ℕ} → Refused s o v 5 offset → ⊥
        refuse (by_sheet f) = sound f.place f.in_sheet 5 f.cause
        refuse (by_lent f h z) = omega (arith, cause_number s o v 5 h)

    pub refused_5 : (offset : ℕ) → (((serve v changed o).number ≡ 5) × ((serve v changed o).offset ≡ offset)) ↔ ((i : ℕ) × FirstForget s i × (offset ≡ offset_of s (item i)))
    refused_5 offset = (there (first_or_none s), back)
      where
        there : ((i : ℕ) × FirstForget s i) ⊎ NoForget s → ((serve v changed o).number ≡ 5) × ((serve v changed o).offset ≡ offset)
            → (i : ℕ) × FirstForget s i × (offset ≡ offset_of s (item i))
        there (inl (i, f)) given = (i, f, sym given.1 ∙ (faulted i f).1)
        there (inr none) given = absurd (unfaulted none given.0)

        back : (i : ℕ) × FirstForget s i × (offset ≡ offset_of s (item i)) → ((serve v changed o).number ≡ 5) × ((serve v changed o).offset ≡ offset)
        back (i, f, e) = ((faulted i f).0, (faulted i f).1 ∙ sym e)

-- A figure of edition 2 that holds spread 2, where nothing comes before.
pub given_5_in_2 : (s : List ℕ) → edition_of s ≡ 2 → (i : ℕ) → i < item_count s → holds_forget s i ≡ true
    → ((p : Place) → InSheet s p → Before s p (item i) → SoundAt s p) → ((k : ℕ) → k < 5 → ¬ CauseAt s (item i) k)
    → (v : Invocation) (o : Office) → ((serve v s o).number ≡ 5) × ((serve v s o).offset ≡ offset_of s (item i))
given_5_in_2 s two i low e earlier lower v o =
    ((turned_back v s o).given 5 (offset_of s (item i)) (λ z. omega arith)).1
    (by_sheet (record { place = item i; in_sheet = low; cause = forget_cause s two i e; lowest = lower; first_at_fault = earlier; offset_is = refl }))

-- Two sheets that differ in their figures' spreads only accept the same index and table.

item_spreadless : (it : LayoutItem) → spreadless (machine_item (respread (λ spread. 0) it)) ≡ spreadless (machine_item it)
unfolding machine_item
item_spreadless (entry_field name) = refl
item_spreadless (figure_field rule keep spread ps name) = refl

module _ (edition : ℕ) (ps qs : List Placed) (e : map (respread_placed (λ spread. 0)) qs ≡ map (respread_placed (λ spread. 0)) ps) where
  sheet_respread : map spreadless (sheet_read edition qs) ≡ map spreadless (sheet_read edition ps)
  sheet_respread = through qs ∙ machine_alike (λ spread. 0) ps qs e (λ it. spreadless (machine_item it)) item_spreadless ∙ sym (through ps)
    where
      through : (xs : List Placed) → map spreadless (sheet_read edition xs) ≡ map (λ p. spreadless (machine_item p.item)) xs
      through xs = ap (map spreadless) (map-map machine_item (λ p. p.item) xs) ∙ map-map spreadless (λ p. machine_item p.item) xs

  form_respread : (t : List ℕ) → table_form (sheet_read edition qs) t ≡ table_form (sheet_read edition ps) t
  unfolding table_form
  form_respread t =
      rw (size_respread (sheet_read edition ps) (sheet_read edition qs) sheet_respread)
      (below_same _ _ (size (sheet_read edition ps)) (λ i low. rw (figure_respread (sheet_read edition ps) (sheet_read edition qs) sheet_respread i)))

  owed_true_respread : (t : List ℕ) → owed_true (sheet_read edition qs) t ≡ owed_true (sheet_read edition ps) t
  unfolding owed_true
  owed_true_respread t =
      rw (size_respread (sheet_read edition ps) (sheet_read edition qs) sheet_respread)
      (below_same _ _ (size (sheet_read edition ps)) (λ i low. rw (owed_respread (sheet_read edition ps) (sheet_read edition qs) sheet_respread (decode_table t) i)))

  close_respread : (o : Office) → (call_read (opens edition qs) o close).number ≡ (call_read (opens edition ps) o close).number
  unfolding tests
  close_respread o =
      number (first_cause (call_tests (sheet_read edition qs) qs o close)) _
      ∙ rw (respread_length (λ spread. 0) ps qs e, index_alike (λ spread. 0) ps qs e, form_respread o.table, owed_true_respread o.table)
      (sym (number (first_cause (call_tests (sheet_read edition ps) ps o close)) _))
    where
      number : (k : ℕ) (S : Sheet) → (unless_refused k [] o (effect_on S o (effect S (decode_table o.table) close))).number ≡ k
      number zero S = refl
      number (suc k) S = refl

module _ (s t : List ℕ) (differ : DifferInSpreads s t) (sound : Faultless s) (sound' : Faultless t) where
  close_same : (o : Office) → (call_on t o close).number ≡ (call_on s o close).number
  unfolding call_on
  close_same o = go (read_sheet s) (read_sheet t) (read_both s t differ sound sound')
    where
      go : (r q : SheetRead) → SameRead (λ spread. 0) r q → (call_read q o close).number ≡ (call_read r o close).number
      go _ _ (both_refused k at) = refl
      go _ _ (both_open edition ps qs e) = close_respread edition ps qs e o

  pub accepts_same : (o : Office) → AcceptedLent s o ↔ AcceptedLent t o
  accepts_same o = (
    λ lent. (close_refuses t o).accepted.0 (close_same o ∙ (close_refuses s o).accepted.1 lent),
    λ lent. (close_refuses s o).accepted.0 (sym (close_same o) ∙ (close_refuses t o).accepted.1 lent),
  )

  -- and have the invariant on the same tables
  circuits : map spreadless (sheet_of t) ≡ map spreadless (sheet_of s)
  unfolding sheet_of
  circuits = go (read_sheet s) (read_sheet t) (read_both s t differ sound sound')
    where
      go : (r q : SheetRead) → SameRead (λ spread. 0) r q → map spreadless (sheet_from q) ≡ map spreadless (sheet_from r)
      go _ _ (both_refused k at) = refl
      go _ _ (both_open edition ps qs e) = sheet_respread edition ps qs e

  pub coherent_same : (T : Table) → Coherent (sheet_of s) T ↔ Coherent (sheet_of t) T
  coherent_same T = (coherent_respread (sheet_of s) (sheet_of t) circuits T, coherent_respread (sheet_of t) (sheet_of s) (sym circuits) T)

-- From an accepted table that has the invariant every ask is right.
module _ (s : List ℕ) (o : Office) (bytes : Bytes o.table) (lent : AcceptedLent s o) (coherent : Coherent (sheet_of s) (decode_table o.table)) where
  abbrev S : Sheet
  S = sheet_of s

  abbrev T : Table
  T = decode_table o.table

  abbrev E : Entries
  E = entries_in o.table

  lower : Ordered S
  lower = ordered s o lent

  table_sound : Sound S E T
  table_sound =
      record {
        invariant = coherent_invariant S lower T coherent;
        formed = holdable_formed S T (holdable s o lent);
        holds = λ i low e. refl;
      }

  asked : (i : ℕ) → i < size S → answer_of (call_on s o (ask i)) ≡ reading (give S E i)
  unfolding effect
  asked i low = ap answer_of (ask_performed s o lent i low) ∙ ap reading (caught_value S lower E (give S E) (give_solves S lower E) T table_sound i low)

  pub asks_right : AsksRight s o
  asks_right =
      record {
        solves = (
          give S E,
          record { ordered = lower; solves = give_solves S lower E; only = λ other solves i low. solution_given S lower E solves i low },
          asked,
        );
        goes_on = λ cs i. subst (λ p. ask_after s p cs i ≡ fresh_from s E p cs i) kept (sound_on keeps table_sound cs i);
      }
    where
      kept : keeping o.index (encode_table S T) ≡ o
      kept = ap (keeping o.index) (encoded s o lent bytes)

      keeps : Keeps s o.index S E T
      keeps =
          record {
            ordered = lower;
            performs = performs s o lent;
            holdable = holdable s o lent;
            within = within s o lent;
            holds = λ i low e. refl;
          }
