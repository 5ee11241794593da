-- With no mark left on a table that the engine alone has written, look-ups give the solution (`office_quiet_right`); and steps in whatever order
-- lead to the readings of an ask at the start (`office_any_order`). Assumes nothing.
use Prim.Native.Nat.{ℕ, ◌<◌}
use mathlib.Core.Path.{◌≡◌, refl, sym, ap, ◌∙◌, subst, subst₂}
use mathlib.Core.Bool.{true}
use mathlib.Core.List.{List, [], ◌∷◌, ◌++◌, map, append_assoc, append-nil}
use Rattle.circuit.specs.Value.{Value}
use Rattle.circuit.specs.Circuit.{IsSolution}
use Rattle.circuit.specs.Sheet.{Sheet, Ordered, Entries, size, item_at, is_figure, circuit_of}
use Rattle.circuit.specs.Table.{Table}
use Rattle.circuit.specs.Machine.{look_up, keep_figure}
use Rattle.circuit.specs.Call.{Call, keep, step, ask, close, Opening}
use Rattle.circuit.specs.Calls.{effect, run}
use Rattle.circuit.specs.Fresh.{blank, give}
use Rattle.circuit.specs.Words.{Quiet, Coherent}
use Rattle.circuit.proofs.Solution.{give_solves, solution_given}
use Rattle.circuit.proofs.View.{view, view_at}
use Rattle.circuit.proofs.Fill.{look_right, keep_fill}
use Rattle.circuit.proofs.Invariant.{Invariant}
use Rattle.circuit.proofs.Spreads.{invariant_coherent}
use Rattle.circuit.proofs.CatchUp.{catch_up-still, fill_quiet}
use Rattle.circuit.proofs.Reading.{quiet_look}
use Rattle.circuit.proofs.Sound.{Sound, run_sound}
use Rattle.layout.specs.Read.{Placed, opens, read_sheet}
use Rattle.layout.specs.Opened.{sheet_read, sheet_of}
use Rattle.table.specs.Rows.{row}
use Rattle.table.specs.Record.{width, kind_in}
use Rattle.table.specs.Bytes.{encode_table, decode_table, Holdable}
use Rattle.table.proofs.Tables.{holdable_formed}
use Rattle.office.specs.Office.{Office, call_on, open_on, run_on}
use Rattle.office.specs.Demand1Words.{AcceptedLent}
use Rattle.office.specs.Demand2Words.{answer_of, reading, reading_in, entries_in, Stores, HasCells, NoMarkStands}
use Rattle.office.specs.Demand3Words.{made_on, postings_on, board_after, SameAnswers}
use Rattle.office.specs.FinishWords.{after_steps, QuietRight, AnyOrder}
use Rattle.office.proofs.Accepted.{office_accepted}
use Rattle.office.proofs.Agreeing as opened
use Rattle.office.proofs.Agreeing.{Opens, opening_opens, offices_agree}
use Rattle.office.proofs.Bridge.{decode_within, run_within}
use Rattle.office.proofs.Cells.{stored_encoded, encoded_quiet}
use Rattle.office.proofs.Closes.{steps_post}
use Rattle.office.proofs.Giving.{gives_right, ask_performed, keep_performed}
use Rattle.office.proofs.Holdable.{run_holdable}
use Rattle.office.proofs.Lent.{ordered, holdable}
use Rattle.office.proofs.StepsEnd.{quiet_cells}

-- a list after another: what the office keeps, and the postings
run_on_append : (s : List ℕ) (cs ds : List Call) (o : Office) → run_on s o (cs ++ ds) ≡ run_on s (run_on s o cs) ds
unfolding run_on
run_on_append s [] ds o = refl
run_on_append s (c ∷ cs) ds o = run_on_append s cs ds (call_on s o c).after

posts_append : (s : List ℕ) (cs ds : List Call) (o : Office) → postings_on s o (cs ++ ds) ≡ postings_on s o cs ++ postings_on s (run_on s o cs) ds
unfolding run_on postings_on
posts_append s [] ds o = refl
posts_append s (c ∷ cs) ds o =
    ap (λ ps. made_on s o c ++ ps) (posts_append s cs ds (call_on s o c).after)
    ∙ sym (append_assoc (made_on s o c) _ _)

-- What an opened sheet's office keeps after a list of calls: the encoding of a table that has the invariant.
record Written (s : List ℕ) (p : Office) : Type 0 where
  table : Table
  holds : Holdable (sheet_of s) table
  encodes : p.table ≡ encode_table (sheet_of s) table
  decodes : decode_table p.table ≡ table
  invariant : Invariant (sheet_of s) table

module _ (s : List ℕ) (edition : ℕ) (ps : List Placed) (reads : read_sheet s ≡ opens edition ps) where
  abbrev X : Sheet
  X = sheet_read edition ps

  written_at : (o : Opening) (cs : List Call) → Written s (run_on s (opened.at s edition ps reads (opened.start s edition ps reads o)) cs)
  written_at o cs =
      record {
        table = U;
        holds = subst (λ Y. Holdable Y U) is h;
        encodes = ap (λ p. p.table) ran ∙ ap (λ Y. encode_table Y U) is;
        decodes = ap (λ p. decode_table p.table) ran ∙ decode_within X U h (run_within X rising cs _ (opened.start_within s edition ps reads o));
        invariant = subst (λ Y. Invariant Y U) is (run_sound X rising cs blank _ (opened.start_sound s edition ps reads o)).invariant;
      }
    where
      is : X ≡ sheet_of s
      is = sym (opened.sheet_is s edition ps reads)

      rising : Ordered X
      rising = opened.ordered s edition ps reads

      U : Table
      U = run X (opened.start s edition ps reads o) cs

      h : Holdable X U
      h = run_holdable X rising cs _ (opened.start_holdable s edition ps reads o)

      ran : run_on s (opened.at s edition ps reads (opened.start s edition ps reads o)) cs ≡ opened.at s edition ps reads U
      ran = opened.runs s edition ps reads cs _ (opened.start_holdable s edition ps reads o) (opened.start_within s edition ps reads o)

office_written : (s : List ℕ) (kept : Office) (o : Opening) → (open_on o s kept).number ≡ 0 → (cs : List Call) → Written s (run_on s (open_on o s kept).after cs)
unfolding opened.office
office_written s kept o e cs =
    let first : Opens s kept o = opening_opens s kept o e in
    subst (λ g. Written s (run_on s g.after cs)) (sym (opened.opening_gives s first.edition first.placed first.reads kept o e))
    (written_at s first.edition first.placed first.reads o cs)

-- Such a table has the invariant.
pub office_coherent : (s : List ℕ) (kept : Office) (o : Opening) → (open_on o s kept).number ≡ 0 → (cs : List Call)
    → Coherent (sheet_of s) (decode_table (run_on s (open_on o s kept).after cs).table)
office_coherent s kept o e cs =
    let w : Written s (run_on s (open_on o s kept).after cs) = office_written s kept o e cs in
    invariant_coherent (sheet_of s) (ordered s (run_on s (open_on o s kept).after cs) (office_accepted s kept o e cs).accepted) _
    (subst (Invariant (sheet_of s)) (sym w.decodes) w.invariant)

module _ (s : List ℕ) (p : Office) (lent : AcceptedLent s p) (written : Written s p) (none-stands : NoMarkStands (sheet_of s) p.table) where
  abbrev S : Sheet
  S = sheet_of s

  abbrev T : Table
  T = decode_table p.table

  abbrev E : Entries
  E = entries_in p.table

  abbrev values : ℕ → Value
  values = give S E

  lower : Ordered S
  lower = ordered s p lent

  quiet : Quiet S T
  quiet = quiet_cells s p lent none-stands

  solves : IsSolution (circuit_of S) E values
  solves = give_solves S lower E

  sound : Sound S E T
  sound =
      record {
        invariant = subst (Invariant S) (sym written.decodes) written.invariant;
        formed = holdable_formed S T (holdable s p lent);
        holds = λ i low e. refl;
      }

  looks : (i : ℕ) → i < size S → (look_up S T i).value ≡ values i
  looks = quiet_look S lower E values solves T sound.invariant sound.formed sound.holds quiet

  -- what is stored is what a look-up gives
  stores : (i : ℕ) → i < size S → ¬ (kind_in (row width p.table i) ≡ 0) → Stores p.table i (values i)
  stores i low n = go (subst (λ u. ¬ (kind_in (row width u i) ≡ 0)) written.encodes n)
    where
      W : Table
      W = written.table

      go : ¬ (kind_in (row width (encode_table S W) i) ≡ 0) → Stores p.table i (values i)
      go m =
          let r = stored_encoded S W written.holds i low m in
          let seen : (view S T i).value ≡ r.0 = ap (λ x. x.value) (view_at S lower T i (ap (λ X. X i) written.decodes ∙ r.2)) in
          let value : r.0 ≡ values i = sym seen ∙ sym (look_right S lower T i).value ∙ looks i low in
          subst₂ (λ u v. Stores u i v) (sym written.encodes) value r.3

  keeps_quiet : (i : ℕ) → i < size S → is_figure (item_at S i) ≡ true → NoMarkStands S (call_on s p (keep i)).after.table
  unfolding effect
  keeps_quiet i low fig =
      subst (λ g. NoMarkStands S g.after.table) (sym (keep_performed s p lent i low fig))
      (encoded_quiet S (keep_figure S T i) (fill_quiet S lower T (keep_figure S T i) (size S) (keep_fill S lower T i fig) quiet))

  ask_steps_nothing : (i : ℕ) → i < size S → HasCells S (call_on s p (ask i)).after.table (look_up S T i).table
  unfolding effect
  ask_steps_nothing i low =
      ap (λ g. g.after.table) (ask_performed s p lent i low) ∙ ap (λ X. encode_table S (look_up S X i).table) (catch_up-still S lower T quiet)

  quiet_right : QuietRight s p
  quiet_right =
      record {
        values = values;
        solution = record { ordered = lower; solves = solves; only = λ other h i low. solution_given S lower E h i low };
        looked_up_lem = looks;
        stored = stores;
        gives = gives_right s p lent values solves sound looks;
        steps_nothing = ask_steps_nothing;
        keeps_quiet = keeps_quiet;
      }

-- Quiet is right.
pub office_quiet_right : (s : List ℕ) (kept : Office) (o : Opening) → (open_on o s kept).number ≡ 0 → (cs : List Call)
    → NoMarkStands (sheet_of s) (run_on s (open_on o s kept).after cs).table → QuietRight s (run_on s (open_on o s kept).after cs)
office_quiet_right s kept o e cs none-stands = quiet_right s _ (office_accepted s kept o e cs).accepted (office_written s kept o e cs) none-stands

-- Any order arrives.
pub office_any_order : (s : List ℕ) (kept : Office) (o : Opening) → (open_on o s kept).number ≡ 0 → (cs : List Call) (is : List ℕ)
    → AnyOrder s (run_on s (open_on o s kept).after cs) is
unfolding run_on
office_any_order s kept o e cs is =
    record {
      asks = asks;
      boards = λ items results. ap (λ k. board_after s k [] items results) (sym ran) ∙ (both.boards items results).same;
      closes = ap (λ k. (call_on s k close).after) (sym ran) ∙ both.closes;
      right = right;
      looked_up_lem = λ quiet i low. let r = right quiet in ap reading (r.looked_up_lem i low) ∙ sym (r.gives.asked i low) ∙ asks i;
      stored = λ quiet i low n. let r = right quiet in held_reading (r.values i) i (r.stored i low n) ∙ sym (r.gives.asked i low) ∙ asks i;
    }
  where
    begin : Office
    begin = (open_on o s kept).after

    ran : run_on s begin (cs ++ map step is) ≡ after_steps s (run_on s begin cs) is
    ran = run_on_append s cs (map step is) begin

    same_posts : postings_on s begin (cs ++ map step is) ≡ postings_on s begin cs
    same_posts =
        posts_append s cs (map step is) begin
        ∙ ap (λ ps. postings_on s begin cs ++ ps) (steps_post s is (run_on s begin cs)) ∙ append-nil (postings_on s begin cs)

    both : SameAnswers s begin (cs ++ map step is) begin cs
    both = offices_agree s kept kept o o e e (cs ++ map step is) cs same_posts

    asks : (i : ℕ) → answer_of (call_on s (after_steps s (run_on s begin cs) is) (ask i)) ≡ answer_of (call_on s (run_on s begin cs) (ask i))
    asks i = ap (λ k. answer_of (call_on s k (ask i))) (sym ran) ∙ (both.asks i).same

    right : NoMarkStands (sheet_of s) (after_steps s (run_on s begin cs) is).table → QuietRight s (after_steps s (run_on s begin cs) is)
    right none-stands =
        subst (QuietRight s) ran
        (office_quiet_right s kept o e (cs ++ map step is) (subst (λ k. NoMarkStands (sheet_of s) k.table) (sym ran) none-stands))

    held_reading : (v : Value) (i : ℕ) → let t : List ℕ = (after_steps s (run_on s begin cs) is).table in Stores t i v → reading_in t i ≡ reading v
    held_reading v i stores = λ j. record { number = 0; offset = 0; kind = stores.0 j; value = stores.1 j }
