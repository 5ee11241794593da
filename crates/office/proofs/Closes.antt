-- A season-close run on lent bytes: what it leaves of any accepted table (`close_leaves`), what later asks then give (`close_goes_on`), and
-- that on a table that the engine alone has written it agrees with the asks and with keeping every figure (`office_closes`). Assumes that the table is bytes, where it says so.
use Prim.Native.Nat.{ℕ, zero, suc, ◌<◌}
use native.Mathlib.Omega.{arith}
use mathlib.Core.Path.{◌≡◌, refl, sym, ap, ◌∙◌, subst}
use mathlib.Core.Bool.{Bool, true, false}
use mathlib.Core.List.{List, [], ◌∷◌, ◌++◌, map}
use mathlib.Core.Option.{none, some}
use lib.ListN.{take}
use borrow.Author.Tests.{lt-leb}
use Rattle.circuit.specs.Value.{Value, well_formed}
use Rattle.circuit.specs.Rules.{Operation, apply}
use Rattle.circuit.specs.Sheet.{Sheet, Spread, figure, Ordered, Entries, size, item_at, is_figure, parents_of}
use Rattle.circuit.specs.Circuit.{Listed}
use Rattle.circuit.specs.Table.{Table, unmarked, held, is_stored, value_in}
use Rattle.circuit.specs.Machine.{looked, look_cell, look_up, catch_up}
use Rattle.circuit.specs.Call.{Call, step, ask, close, Posting, Opening}
use Rattle.circuit.specs.Calls.{outcome, tests, first_cause, reading_of, effect, perform, run, if_accepted, postings}
use Rattle.circuit.specs.Closing.{close_all, keep_every}
use Rattle.circuit.specs.Fresh.{blank, hear_all, give, give_item, fresh_ask}
use Rattle.circuit.specs.Events.{fresh_run}
use Rattle.circuit.specs.Words.{Quiet, Holds}
use Rattle.circuit.proofs.Solution.{map_listed, give_equation, give_solves, solution_given, entry_value}
use Rattle.circuit.proofs.Fill.{look_up_is}
use Rattle.circuit.proofs.CatchUp.{catch_up-still}
use Rattle.circuit.proofs.Accepted.{accepted_effect}
use Rattle.circuit.proofs.Closing.{close_at, close_quiet, close_holds}
use Rattle.circuit.proofs.Sound.{Sound, close_sound, run_sound}
use Rattle.circuit.proofs.KeepEvery.{keeps_at, steps_quiet}
use Rattle.circuit.proofs.Fresh.{entered}
use Rattle.circuit.proofs.Offices.{caught_value, ask_answers}
use Rattle.circuit.proofs.Demand.{run_entered}
use Rattle.circuit.proofs.Retention.{stored_entry}
use Rattle.layout.specs.Read.{Placed, opens, read_sheet}
use Rattle.layout.specs.Opened.{sheet_read, sheet_of}
use Rattle.layout.specs.Index.{index_bytes}
use Rattle.word.specs.Word.{Bytes}
use Rattle.table.specs.Rows.{row}
use Rattle.table.specs.Record.{width, owed_place, kind_in, mark_in, number_in, encode_cell}
use Rattle.table.specs.Bytes.{encode_table, decode_table, Holdable}
use Rattle.table.proofs.Records.{kind_by, number_by}
use Rattle.table.proofs.Tables.{encoded_cell, encoded_kind, encoded_number, encode_table_ext, holdable_well_formed, holdable_formed}
use Rattle.office.specs.Office.{Office, keeping, results_lent, call_on, open_on, run_on}
use Rattle.office.specs.Demand1Words.{AcceptedLent}
use Rattle.office.specs.Demand2Words.{answer_of, reading, value_of, entries_in, Stores, NoMarkStands, reading_in, CloseLeaves}
use Rattle.office.specs.Demand3Words.{postings_on, events_on, ask_after, fresh_answer, fresh_from, ClosesRight}
use Rattle.office.proofs.Cells.{held_kind, held_number, parts_same, encoded_quiet, quiet_encoded}
use Rattle.office.proofs.Holdable.{perform_holdable, run_holdable}
use Rattle.office.proofs.Bridge.{Within, perform_within, run_within, run_performs, events_performs, decode_within, given_by}
use Rattle.office.proofs.Agreeing as opened
use Rattle.office.proofs.Agreeing.{Opens, opening_opens, answer_fresh}
use Rattle.office.proofs.Lent.{ordered, holdable, within, encoded, performs}

-- An office that keeps the index x and the encoding of the table T, whose entries hold E: calls on its bytes are the machine's.
pub record Keeps (s x : List ℕ) (S : Sheet) (E : Entries) (T : Table) : Type 0 where
  pub ordered : Ordered S
  pub performs : (X : Table) (c : Call) → Holdable S X → Within S X → call_on s (keeping x (encode_table S X)) c ≡ given_by S x (results_lent c) (perform S X c)
  pub holdable : Holdable S T
  pub within : Within S T
  pub holds : Holds S T E

-- If the table is sound, an ask after a list of calls gives the fresh office's answer.
pub sound_on : {s x : List ℕ} {S : Sheet} {E : Entries} {T : Table} → Keeps s x S E T → Sound S E T → (cs : List Call) (i : ℕ)
    → let begin : Office = keeping x (encode_table S T) in
    answer_of (call_on s (run_on s begin cs) (ask i)) ≡ fresh_answer (fresh_ask S (hear_all S E (events_on s begin cs)) i)
sound_on {s} {x} {S} {E} {T} keep sound cs i =
    ap (λ p. answer_of (call_on s p (ask i))) (run_performs s x S keep.ordered keep.performs cs T keep.holdable keep.within)
    ∙ ap answer_of (keep.performs W (ask i) (run_holdable S keep.ordered cs T keep.holdable) (run_within S keep.ordered cs T keep.within))
    ∙ answer_fresh S x (perform S W (ask i)) (fresh_ask S (fresh_run S E T cs) i)
    (ask_answers S keep.ordered (fresh_run S E T cs) W (run_sound S keep.ordered cs E T sound) i)
    ∙ ap (λ es. fresh_answer (fresh_ask S (hear_all S E es) i)) (sym (events_performs s x S keep.ordered keep.performs cs T keep.holdable keep.within))
  where
    W : Table
    W = run S T cs

module _ {s x : List ℕ} {S : Sheet} {E : Entries} {T : Table} (keep : Keeps s x S E T) where
  abbrev office : Table → Office
  office X = keeping x (encode_table S X)

  abbrev U : Table
  U = close_all S T

  -- the run has no cause of its own
  closed : call_on s (office T) close ≡ given_by S x [] (outcome 0 none U)
  unfolding perform tests first_cause effect
  closed = keep.performs T close keep.holdable keep.within

  closed_holdable : Holdable S U
  unfolding perform tests first_cause effect
  closed_holdable = perform_holdable S keep.ordered T close keep.holdable

  closed_within : Within S U
  unfolding perform tests first_cause effect
  closed_within = perform_within S keep.ordered T close keep.within

  closed_record : (i : ℕ) → i < size S → take owed_place (row width (encode_table S U) i) ≡ encode_cell (held (give S E i) unmarked)
  closed_record i low = encoded_cell S U i low ∙ ap encode_cell (close_at S keep.ordered E T keep.holds i low)

  -- each record holds the fresh office's value
  closed_stores : (i : ℕ) → i < size S → Stores (encode_table S U) i (give S E i)
  closed_stores i low = (
    kind_by (row width (encode_table S U) i) (closed_record i low) ∙ held_kind (give S E i) unmarked,
    number_by (row width (encode_table S U) i) (closed_record i low) ∙ held_number (give S E i) unmarked formed,
  )
    where
      formed : well_formed (give S E i) ≡ true
      formed = subst (λ c. well_formed (value_in c) ≡ true) (close_at S keep.ordered E T keep.holds i low) (holdable_well_formed S U closed_holdable i low)

  closed_reading : (i : ℕ) → i < size S → reading (give S E i) ≡ reading_in (encode_table S U) i
  closed_reading i low =
      let stores = closed_stores i low in
      λ j. record { number = 0; offset = 0; kind = sym stores.0 j; value = sym stores.1 j }

  closed_unmarked : NoMarkStands S (encode_table S U)
  closed_unmarked = encoded_quiet S U (close_quiet S keep.ordered E T keep.holds)

  -- an ask then looks up a stored item, and catches up nothing
  closed_asked : (i : ℕ) → i < size S → call_on s (office U) (ask i) ≡ given_by S x [] (outcome 0 (some (give S E i)) U)
  unfolding tests first_cause effect
  closed_asked i low =
      keep.performs U (ask i) closed_holdable closed_within
      ∙ ap (given_by S x []) (accepted_effect S U (ask i) (rw (lt-leb (size S) i low)) ∙ ap reading_of (ap (λ X. look_up S X i) still ∙ stored))
    where
      still : catch_up S U ≡ U
      still = catch_up-still S keep.ordered U (close_quiet S keep.ordered E T keep.holds)

      stored : look_up S U i ≡ looked U (give S E i) false
      stored = look_up_is S keep.ordered U i ∙ ap (look_cell (look_up S) S U i) (close_at S keep.ordered E T keep.holds i low)

  closed_again : (call_on s (office U) close).after ≡ office U
  unfolding perform tests first_cause effect
  closed_again =
      ap (λ g. g.after) (keep.performs U close closed_holdable closed_within)
      ∙ ap (keeping x) (encode_table_ext S (close_all S U) U
      (λ i low. close_at S keep.ordered E U (close_holds S keep.ordered E T keep.holds) i low ∙ sym (close_at S keep.ordered E T keep.holds i low)))

  -- Later calls go on from the run's table: an ask after a list of them gives the fresh office's answer.
  closed_on : (cs : List Call) (i : ℕ) → answer_of (call_on s (run_on s (office U) cs) (ask i)) ≡ fresh_answer (fresh_ask S (hear_all S E (events_on s (office U) cs)) i)
  closed_on =
      sound_on
      (record {
        ordered = keep.ordered;
        performs = keep.performs;
        holdable = closed_holdable;
        within = closed_within;
        holds = close_holds S keep.ordered E T keep.holds;
      })
      (close_sound S keep.ordered E T keep.holds)

-- What the run leaves of an accepted table.
module _ (s : List ℕ) (kept : Office) (lent : AcceptedLent s kept) (bytes : Bytes kept.table) where
  abbrev S : Sheet
  S = sheet_of s

  abbrev t : List ℕ
  t = kept.table

  abbrev x : List ℕ
  x = kept.index

  abbrev T : Table
  T = decode_table kept.table

  abbrev E : Entries
  E = entries_in kept.table

  lower : Ordered S
  lower = ordered s kept lent

  keep : Keeps s x S E T
  keep = record { ordered = lower; performs = performs s kept lent; holdable = holdable s kept lent; within = within s kept lent; holds = λ i low e. refl }

  again : encode_table S T ≡ t
  again = encoded s kept lent bytes

  after : (call_on s kept close).after ≡ keeping x (encode_table S (close_all S T))
  after = ap (λ u. (call_on s (keeping x u) close).after) (sym again) ∙ ap (λ g. g.after) (closed keep)

  pub close_leaves : CloseLeaves s t (call_on s kept close).after
  close_leaves = subst (CloseLeaves s t) (sym after) left
    where
      U : Table
      U = close_all S T

      u : List ℕ
      u = encode_table S U

      values : ℕ → Value
      values = give S E

      at : (i : ℕ) → i < size S → U i ≡ held (values i) unmarked
      at = close_at S lower E T (λ i l e. refl)

      stores : (i : ℕ) → i < size S → Stores u i (values i)
      stores = closed_stores keep

      entry_kept : (i : ℕ) → i < size S → is_figure (item_at S i) ≡ false
          → (kind_in (row width u i) ≡ kind_in (row width t i)) × (number_in (row width u i) ≡ number_in (row width t i))
      entry_kept i low e =
          let was = ap (λ b. take owed_place (row width b i)) (sym again) ∙ encoded_cell S T i low in
          let same = parts_same (T i) (U i) (stored_entry (item_at S i) (T i) (holdable_formed S T (holdable s kept lent) i low) e) (ap is_stored (at i low))
          (ap value_in (at i low) ∙ entry_value S E (give_solves S lower E) i low e) in
          (encoded_kind S U i low ∙ same.0 ∙ sym (kind_by (row width t i) was), encoded_number S U i low ∙ same.1 ∙ sym (number_by (row width t i) was))

      -- the value in a record that the run left
      value_left : (p : ℕ) → p < size S → value_of u p ≡ values p
      value_left p low =
          ap (λ X. value_in (X p)) (decode_within S U (closed_holdable keep) (closed_within keep))
          ∙ ap value_in (at p low)

      figure_left : (i : ℕ) (op : Operation) (k : Bool) (spread : Spread) (ps : List ℕ) → i < size S → item_at S i ≡ figure op k spread ps
          → Stores u i (apply op (map (value_of u) ps))
      figure_left i op k spread ps low it = subst (Stores u i) (value ∙ ap (apply op) (sym parents_left)) (stores i low)
        where
          value : values i ≡ apply op (map values ps)
          value = give_equation S lower E i ∙ ap (λ y. give_item values y (E i)) it

          parents_left : map (value_of u) ps ≡ map values ps
          parents_left =
              map_listed ps (λ p l. value_left p (omega (arith, lower i p (subst (λ y. Listed p (parents_of y)) (sym it) l), low)))

      left : CloseLeaves s t (keeping x u)
      left =
          record {
            entries = entry_kept;
            figures = figure_left;
            no_marks = closed_unmarked keep;
            solves = (
              values,
              record { ordered = lower; solves = give_solves S lower E; only = λ other solves i low. solution_given S lower E solves i low },
              stores,
            );
            asked = λ i low.
                let g = closed_asked keep i low in
                (ap answer_of g ∙ closed_reading keep i low, ap (λ r. r.after) g);
            again = closed_again keep;
          }

  pub close_goes_on : (cs : List Call) (i : ℕ) → ask_after s (call_on s kept close).after cs i ≡ fresh_from s (entries_in t) (call_on s kept close).after cs i
  close_goes_on cs i =
      ap (λ p. ask_after s p cs i) after ∙ closed_on keep cs i ∙ ap (λ p. fresh_from s (entries_in t) p cs i) (sym after)

-- no step posts
pub steps_post : (s : List ℕ) (is : List ℕ) (p : Office) → postings_on s p (map step is) ≡ []
unfolding postings_on
steps_post s [] p = refl
steps_post s (i ∷ is) p = go (call_on s p (step i)).number (steps_post s is (call_on s p (step i)).after)
  where
    go : {qs : List Posting} (n : ℕ) → qs ≡ [] → if_accepted n [] ++ qs ≡ []
    go zero e = e
    go (suc n) e = e

-- An opened sheet's office, after a list of calls.
module _ (s : List ℕ) (edition : ℕ) (ps : List Placed) (reads : read_sheet s ≡ opens edition ps) (o : Opening) (cs : List Call) where
  abbrev X : Sheet
  X = sheet_read edition ps

  abbrev begin : Table
  begin = opened.start s edition ps reads o

  abbrev T₁ : Table
  T₁ = run X begin cs

  abbrev E₁ : Entries
  E₁ = fresh_run X blank begin cs

  rising : Ordered X
  rising = opened.ordered s edition ps reads

  sound : Sound X E₁ T₁
  sound = run_sound X rising cs blank begin (opened.start_sound s edition ps reads o)

  h₁ : Holdable X T₁
  h₁ = run_holdable X rising cs begin (opened.start_holdable s edition ps reads o)

  w₁ : Within X T₁
  w₁ = run_within X rising cs begin (opened.start_within s edition ps reads o)

  abbrev here : Table → Office
  here = opened.at s edition ps reads

  keep₁ : Keeps s (index_bytes ps) X E₁ T₁
  keep₁ = record { ordered = rising; performs = opened.performs s edition ps reads; holdable = h₁; within = w₁; holds = sound.holds }

  closed₁ : (call_on s (here T₁) close).after ≡ here (close_all X T₁)
  closed₁ = ap (λ g. g.after) (closed keep₁)

  -- an ask before the run
  before : (i : ℕ) → i < size X → answer_of (call_on s (here T₁) (ask i)) ≡ reading (give X E₁ i)
  unfolding tests first_cause effect
  before i low =
      ap answer_of (keep₁.performs T₁ (ask i) h₁ w₁ ∙ ap (given_by X (index_bytes ps) []) (accepted_effect X T₁ (ask i) (rw (lt-leb (size X) i low))))
      ∙ ap reading (caught_value X rising E₁ (give X E₁) (give_solves X rising E₁) T₁ sound i low)

  -- a list without a posting after which no mark stands, and then a keep of every figure
  keeps : (ds : List Call) → postings_on s (here T₁) ds ≡ [] → NoMarkStands X (run_on s (here T₁) ds).table
      → run_on s (run_on s (here T₁) ds) (keep_every X) ≡ here (close_all X T₁)
  unfolding entered
  keeps ds none_made quiet =
      ap (λ p. run_on s p (keep_every X)) ran
      ∙ opened.runs s edition ps reads (keep_every X) W (run_holdable X rising ds T₁ h₁) (run_within X rising ds T₁ w₁)
      ∙ ap (keeping (index_bytes ps)) (encode_table_ext X _ _ same)
    where
      W : Table
      W = run X T₁ ds

      ran : run_on s (here T₁) ds ≡ here W
      ran = opened.runs s edition ps reads ds T₁ h₁ w₁

      no_postings : postings X T₁ ds ≡ []
      no_postings = sym (opened.posts_made s edition ps reads ds T₁ h₁ w₁) ∙ none_made

      caught : Sound X E₁ W
      caught =
          let later = run_sound X rising ds E₁ T₁ sound in
          record {
            invariant = later.invariant;
            formed = later.formed;
            holds = subst (λ qs. Holds X W (entered E₁ qs)) no_postings (run_entered X rising E₁ T₁ ds sound);
          }

      still : Quiet X W
      still = quiet_encoded X W (λ i low. ap (λ p. mark_in (row width p.table i)) (sym ran) ∙ quiet i low)

      same : (i : ℕ) → i < size X → run X W (keep_every X) i ≡ close_all X T₁ i
      same i low = keeps_at X rising E₁ W caught still i low ∙ sym (close_at X rising E₁ T₁ sound.holds i low)

  -- the steps of catching up
  catches : (is : List ℕ) × (postings_on s (here T₁) (map step is) ≡ []) × NoMarkStands X (run_on s (here T₁) (map step is)).table
  catches =
      let steps = steps_quiet X rising T₁ in
      let ran = opened.runs s edition ps reads (map step steps.0) T₁ h₁ w₁ in
      (steps.0, steps_post s steps.0 (here T₁), subst (λ p. NoMarkStands X p.table) (sym ran) (encoded_quiet X (run X T₁ (map step steps.0)) steps.2))

  closes_at : ClosesRight X s (here T₁)
  closes_at =
      record {
        accepted = ap (λ g. g.number) (closed keep₁);
        before = λ i low. before i low ∙ read i low ∙ ap (λ p. reading_in p.table i) (sym closed₁);
        after = λ i low.
            ap (λ p. answer_of (call_on s p (ask i))) closed₁
            ∙ ap answer_of (closed_asked keep₁ i low)
            ∙ read i low ∙ ap (λ p. reading_in p.table i) (sym closed₁);
        keeps = λ ds none_made quiet. keeps ds none_made quiet ∙ sym closed₁;
        catches = catches;
      }
    where
      read : (i : ℕ) → i < size X → reading (give X E₁ i) ≡ reading_in (encode_table X (close_all X T₁)) i
      read = closed_reading keep₁

-- On a table that the engine alone has written since opening, the run agrees with the asks and with keeping every figure.
pub office_closes : (s : List ℕ) (kept : Office) (o : Opening) → (open_on o s kept).number ≡ 0 → (cs : List Call)
    → ClosesRight (sheet_of s) s (run_on s (open_on o s kept).after cs)
unfolding opened.office
office_closes s kept o e cs =
    subst (λ S. ClosesRight S s (run_on s (open_on o s kept).after cs)) (sym (opened.sheet_is s edition ps reads))
    (subst (λ g. ClosesRight (sheet_read edition ps) s (run_on s g.after cs)) (sym (opened.opening_gives s edition ps reads kept o e))
    (subst (ClosesRight (sheet_read edition ps) s) (sym ran) (closes_at s edition ps reads o cs)))
  where
    first : Opens s kept o
    first = opening_opens s kept o e

    edition : ℕ
    edition = first.edition

    ps : List Placed
    ps = first.placed

    reads : read_sheet s ≡ opens edition ps
    reads = first.reads

    begin : Table
    begin = opened.start s edition ps reads o

    ran : run_on s (opened.at s edition ps reads begin) cs ≡ opened.at s edition ps reads (run (sheet_read edition ps) begin cs)
    ran = opened.runs s edition ps reads cs begin (opened.start_holdable s edition ps reads o) (opened.start_within s edition ps reads o)
