-- Steps end, for the calls on lent bytes (`office_steps_end`), on any accepted table: an accepted sequence of steps is one of the machine. Assumes
-- nothing.
use Prim.Native.Nat.{ℕ, zero, suc, ◌*◌, ◌^◌, ◌<◌, ◌≤◌}
use native.Mathlib.Omega.{arith}
use native.Mathlib.Nat.{pow-zero, pow-succ'}
use native.Mathlib.Decide.{dec_lt}
use mathlib.Core.Path.{◌≡◌, refl, sym, ap, ◌∙◌, subst}
use mathlib.Core.Bool.{Bool, true, false, not}
use mathlib.Core.List.{List, [], ◌∷◌, map}
use mathlib.Core.Logic.{inl, ◌↔◌}
use lib.ListN.{length}
use Rattle.circuit.specs.Circuit.{Listed}
use Rattle.circuit.specs.Sheet.{Ordered, size, item_at, is_figure, parents}
use Rattle.circuit.specs.Table.{is_marked}
use Rattle.circuit.specs.Machine.{step_item}
use Rattle.circuit.specs.Call.{Call, step}
use Rattle.circuit.specs.Calls.{tests, first_cause, effect, perform, run}
use Rattle.circuit.specs.Words.{Quiet, AllAccepted}
use Rattle.circuit.proofs.View.{never}
use Rattle.circuit.proofs.Accepted.{number_cause, effect_number, accepted_effect, refused_table, step_passed}
use Rattle.circuit.proofs.CatchUp.{lowest_some}
use Rattle.circuit.proofs.KeepEvery.{steps_quiet}
use Rattle.circuit.proofs.Steps.{EachLowest, steps_end, lowest_first_ends}
use Rattle.circuit.proofs.Rounds.{rounds, rounds_quiet}
use Rattle.layout.specs.Layout.{level_limit}
use Rattle.layout.specs.Read.{Placed, level_of, opens, read_sheet}
use Rattle.layout.specs.Opened.{sheet_of, sheet_read}
use Rattle.layout.proofs.Levels.{level_rises, level_limited}
use Rattle.layout.proofs.Causes.{opens_faultless}
use Rattle.layout.proofs.Tests.{Tells, holds, fails, tells_eq}
use Rattle.table.specs.Rows.{row}
use Rattle.table.specs.Record.{width, mark_in}
use Rattle.table.specs.Bytes.{decode_table}
use Rattle.office.specs.Office.{Office, call_on, run_on}
use Rattle.office.specs.Demand1Words.{calling, NoneHolds, own_causes, AcceptedLent}
use Rattle.office.specs.Demand2Words.{NoMarkStands}
use Rattle.office.specs.FinishWords.{MarkStands, AcceptedSteps, after_steps, after_rounds, LowestFirst, StepsEnd}
use Rattle.office.proofs.Agreeing.{sized}
use Rattle.office.proofs.Bridge.{Within, decode_within, perform_within}
use Rattle.office.proofs.Causes.{tells_mark}
use Rattle.office.proofs.Lent.{ordered, within}
use Rattle.office.proofs.Leaves as left
use Rattle.office.proofs.Refusals.{turned_back, opens_sheet}

module _ (s : List ℕ) (kept : Office) (lent : AcceptedLent s kept) where
  abbrev t : List ℕ
  t = kept.table

  lower : Ordered (sheet_of s)
  lower = ordered s kept lent

  -- the mark of a record is that of its cell
  mark_told : (i : ℕ) → i < size (sheet_of s) → Tells (mark_in (row width t i) ≡ 0) (not (is_marked (decode_table t i)))
  mark_told i low = tells_mark (is_figure (item_at (sheet_of s) i)) (row width t i) (λ b. lent.lent.1.1.0 (i, low, inl b))

  unmarked_cell : (i : ℕ) → i < size (sheet_of s) → mark_in (row width t i) ≡ 0 → is_marked (decode_table t i) ≡ false
  unmarked_cell i low z = go (is_marked (decode_table t i)) refl (mark_told i low)
    where
      go : (b : Bool) → is_marked (decode_table t i) ≡ b → Tells (mark_in (row width t i) ≡ 0) (not b) → is_marked (decode_table t i) ≡ false
      go true e (fails n) = absurd (n z)
      go false e h = e

  unmarked_record : (i : ℕ) → i < size (sheet_of s) → is_marked (decode_table t i) ≡ false → mark_in (row width t i) ≡ 0
  unmarked_record i low e = go (subst (λ b. Tells (mark_in (row width t i) ≡ 0) (not b)) e (mark_told i low))
    where
      go : Tells (mark_in (row width t i) ≡ 0) true → mark_in (row width t i) ≡ 0
      go (holds z) = z

  -- 01's "no mark stands", on the cells
  pub quiet_cells : NoMarkStands (sheet_of s) t → Quiet (sheet_of s) (decode_table t)
  quiet_cells none-stands i low = unmarked_cell i low (none-stands i low)

  quiet_records : Quiet (sheet_of s) (decode_table t) → NoMarkStands (sheet_of s) t
  quiet_records quiet i low = unmarked_record i low (quiet i low)

  -- a step is accepted exactly if its item is marked
  step_picked : (i : ℕ) → ((call_on s kept (step i)).number ≡ 0) ↔ MarkStands (sheet_of s) t i
  step_picked i = (λ z. to ((turned_back (calling (step i)) s kept).accepted.0 z).lent.1.1.1, from)
    where
      to : NoneHolds (own_causes (sheet_of s) t (step i)) → MarkStands (sheet_of s) t i
      to own = (go (dec_lt i (size (sheet_of s))), own.1.0)
        where
          go : Dec (i < size (sheet_of s)) → i < size (sheet_of s)
          go (yes l) = l
          go (no n) = absurd (own.0 (omega arith))

      from : MarkStands (sheet_of s) t i → (call_on s kept (step i)).number ≡ 0
      from (low, marked) =
          (turned_back (calling (step i)) s kept).accepted.1
          (record { sheet = lent.sheet; lent = (lent.lent.0, (lent.lent.1.0, (lent.lent.1.1.0, ((λ h. omega arith), (marked, tt))))) })

  -- where no step is accepted, no mark stands
  none_picked : ((i : ℕ) → ¬ ((call_on s kept (step i)).number ≡ 0)) → NoMarkStands (sheet_of s) t
  none_picked none-accepted k low = go (tells_eq (mark_in (row width t k)) 0)
    where
      go : {b : Bool} → Tells (mark_in (row width t k) ≡ 0) b → mark_in (row width t k) ≡ 0
      go (holds z) = z
      go (fails n) = absurd (none-accepted k ((step_picked k).1 (low, n)))

  -- an accepted call is the machine's on the decoded table
  machine_accepts : (c : Call) → (call_on s kept c).number ≡ 0 → (perform (sheet_of s) (decode_table t) c).number ≡ 0
  machine_accepts c z = ap (λ o. o.number) (left.performs s kept lent c z) ∙ effect_number (sheet_of s) (decode_table t) c

  decoded_after : (c : Call) → (call_on s kept c).number ≡ 0 → decode_table (call_on s kept c).after.table ≡ (perform (sheet_of s) (decode_table t) c).table
  decoded_after c z =
      let same = left.performs s kept lent c z in
      let inside = perform_within (sheet_of s) lower (decode_table t) c (within s kept lent) in
      ap (λ g. decode_table g.after.table) (left.is s kept lent c z)
      ∙ decode_within (sheet_of s) (effect (sheet_of s) (decode_table t) c).table (left.effect_holdable s kept lent c z)
      (subst (λ o. Within (sheet_of s) o.table) same inside)
      ∙ ap (λ o. o.table) (sym same)

  -- the step of a marked item, on the cells
  stepped_cells : (i : ℕ) → (call_on s kept (step i)).number ≡ 0 → decode_table (call_on s kept (step i)).after.table ≡ step_item (sheet_of s) (decode_table t) i
  unfolding effect
  stepped_cells i z = decoded_after (step i) z ∙ ap (λ o. o.table) (left.performs s kept lent (step i) z)

  machine_marks : (i : ℕ) → (perform (sheet_of s) (decode_table t) (step i)).number ≡ 0 → (call_on s kept (step i)).number ≡ 0
  machine_marks i z =
      let passed = step_passed (sheet_of s) (decode_table t) i (number_cause (sheet_of s) (decode_table t) (step i) z) in
      (step_picked i).1 (passed.0, λ e. never (cc (sym (unmarked_cell i passed.0 e) ∙ passed.1)))

  -- a step, accepted or not, is the machine's on the decoded table
  step_decoded : (i : ℕ) → decode_table (call_on s kept (step i)).after.table ≡ (perform (sheet_of s) (decode_table t) (step i)).table
  step_decoded i = go (tells_eq (call_on s kept (step i)).number 0)
    where
      left_alone : (n : ℕ) → first_cause (tests (sheet_of s) (decode_table t) (step i)) ≡ n → ¬ ((call_on s kept (step i)).number ≡ 0)
          → decode_table t ≡ (perform (sheet_of s) (decode_table t) (step i)).table
      left_alone zero e n =
          let free = accepted_effect (sheet_of s) (decode_table t) (step i) e in
          absurd (n (machine_marks i (ap (λ o. o.number) free ∙ effect_number (sheet_of s) (decode_table t) (step i))))
      left_alone (suc k) e n = sym (refused_table (sheet_of s) (decode_table t) (step i) k e)

      go : {b : Bool} → Tells ((call_on s kept (step i)).number ≡ 0) b
          → decode_table (call_on s kept (step i)).after.table ≡ (perform (sheet_of s) (decode_table t) (step i)).table
      go (holds z) = decoded_after (step i) z
      go (fails n) =
          ap (λ o. decode_table o.table) ((turned_back (calling (step i)) s kept).left n).0
          ∙ left_alone (first_cause (tests (sheet_of s) (decode_table t) (step i))) refl n

module _ (s : List ℕ) where
  -- whatever is called, what the office keeps stays accepted
  pub run_lent : (cs : List Call) (kept : Office) → AcceptedLent s kept → AcceptedLent s (run_on s kept cs)
  unfolding run_on
  run_lent [] kept lent = lent
  run_lent (c ∷ cs) kept lent = run_lent cs (call_on s kept c).after (left.stays_accepted s kept lent c)

  -- Steps, accepted or not, are the machine's on the decoded table, and so are rounds of them.
  steps_decoded : (is : List ℕ) (kept : Office) → AcceptedLent s kept
      → decode_table (after_steps s kept is).table ≡ run (sheet_of s) (decode_table kept.table) (map step is)
  unfolding run_on run
  steps_decoded [] kept lent = refl
  steps_decoded (i ∷ is) kept lent =
      steps_decoded is (call_on s kept (step i)).after (left.stays_accepted s kept lent (step i))
      ∙ ap (λ T. run (sheet_of s) T (map step is)) (step_decoded s kept lent i)

  rounds_lent : (screen : List ℕ) (r : ℕ) (kept : Office) → AcceptedLent s kept → AcceptedLent s (after_rounds s kept screen r)
  rounds_lent screen zero kept lent = lent
  rounds_lent screen (suc r) kept lent = rounds_lent screen r (after_steps s kept screen) (run_lent (map step screen) kept lent)

  rounds_decoded : (screen : List ℕ) (r : ℕ) (kept : Office) → AcceptedLent s kept
      → decode_table (after_rounds s kept screen r).table ≡ rounds (sheet_of s) screen r (decode_table kept.table)
  unfolding rounds
  rounds_decoded screen zero kept lent = refl
  rounds_decoded screen (suc r) kept lent =
      rounds_decoded screen r (after_steps s kept screen) (run_lent (map step screen) kept lent)
      ∙ ap (rounds (sheet_of s) screen r) (steps_decoded screen kept lent)

  -- A sequence of accepted steps is one of the machine,
  steps_machine : (is : List ℕ) (kept : Office) → AcceptedLent s kept → AcceptedSteps s kept is → AllAccepted (sheet_of s) (decode_table kept.table) (map step is)
  steps_machine [] kept lent steps = tt
  steps_machine (i ∷ is) kept lent steps = (
    machine_accepts s kept lent (step i) steps.0,
    subst (λ T. AllAccepted (sheet_of s) T (map step is)) (decoded_after s kept lent (step i) steps.0)
        (steps_machine is (call_on s kept (step i)).after (left.stays_accepted s kept lent (step i)) steps.1),
  )

  -- and the machine's are sequences of accepted steps.
  machine_steps : (is : List ℕ) (kept : Office) → AcceptedLent s kept → AllAccepted (sheet_of s) (decode_table kept.table) (map step is) → AcceptedSteps s kept is
  machine_steps [] kept lent steps = tt
  machine_steps (i ∷ is) kept lent steps =
      let z = machine_marks s kept lent i steps.0 in (
        z,
        machine_steps is (call_on s kept (step i)).after (left.stays_accepted s kept lent (step i))
            (subst (λ T. AllAccepted (sheet_of s) T (map step is)) (sym (decoded_after s kept lent (step i) z)) steps.1),
      )

  -- lowest first on bytes is lowest first on cells
  machine_lowest : (is : List ℕ) (kept : Office) → AcceptedLent s kept → AcceptedSteps s kept is → LowestFirst s kept is
      → EachLowest (sheet_of s) (decode_table kept.table) is
  machine_lowest [] kept lent steps lowest = tt
  machine_lowest (i ∷ is) kept lent steps lowest =
      let passed = step_passed (sheet_of s) (decode_table kept.table) i (number_cause (sheet_of s) _ (step i) (machine_accepts s kept lent (step i) steps.0)) in (
        lowest_some (decode_table kept.table) i (λ j l. unmarked_cell s kept lent j (omega (arith, passed.0)) (lowest.0 j l)) passed.1 (size (sheet_of s)) passed.0,
        subst (λ T. EachLowest (sheet_of s) T is) (stepped_cells s kept lent i steps.0)
            (machine_lowest is (call_on s kept (step i)).after (left.stays_accepted s kept lent (step i)) steps.1 lowest.1),
      )

-- the levels of the sheet are ranks, so that rounds end
rounds_end : (s : List ℕ) (kept : Office) → AcceptedLent s kept → (screen : List ℕ) → ((i : ℕ) → i < size (sheet_of s) → Listed i screen)
    → NoMarkStands (sheet_of s) (after_rounds s kept screen (2 * suc level_limit)).table
rounds_end s kept lent screen all = go ((opens_faultless s).1 lent.sheet)
  where
    go : (edition : ℕ) × (ps : List Placed) × (read_sheet s ≡ opens edition ps)
        → NoMarkStands (sheet_of s) (after_rounds s kept screen (2 * suc level_limit)).table
    go (edition, ps, reads) =
        quiet_records s (after_rounds s kept screen (2 * suc level_limit)) (rounds_lent s screen (2 * suc level_limit) kept lent)
        (subst (Quiet (sheet_of s)) (sym (rounds_decoded s screen (2 * suc level_limit) kept lent))
        (rounds_quiet (sheet_of s) (ordered s kept lent) (level_of ps) rises screen all (suc level_limit) below (decode_table kept.table)))
      where
        is : sheet_of s ≡ sheet_read edition ps
        is = opens_sheet s edition ps reads

        rises : (c p : ℕ) → Listed p (parents (sheet_of s) c) → level_of ps p < level_of ps c
        rises c p l = level_rises s edition ps reads c p (subst (λ S. Listed p (parents S c)) is l)

        below : (i : ℕ) → i < size (sheet_of s) → level_of ps i < suc level_limit
        below i low = omega (arith, level_limited s edition ps reads i (subst (λ n. i < n) (ap size is ∙ sized s edition ps reads) low))

three_four : (n : ℕ) → 3 ^ n ≤ 4 ^ n
three_four zero = omega (arith, pow-zero 3, pow-zero 4)
three_four (suc n) = omega (arith, three_four n, pow-succ' 3 n, pow-succ' 4 n)

-- Steps end.
pub office_steps_end : (s : List ℕ) (kept : Office) → AcceptedLent s kept → StepsEnd s kept
office_steps_end s kept lent =
    record {
      shorter = λ is steps. omega (arith, closer is steps, three_four (size (sheet_of s)));
      closer = closer;
      lowest_first = λ is steps lowest. lowest_first_ends (sheet_of s) (ordered s kept lent) (decode_table kept.table) is (machine_lowest s is kept lent steps lowest);
      rounds = rounds_end s kept lent;
      picked = λ is steps i. step_picked s (after_steps s kept is) (run_lent s (map step is) kept lent) i;
      ended = λ is steps. none_picked s (after_steps s kept is) (run_lent s (map step is) kept lent);
      arrives = λ is steps. arrives (after_steps s kept is) (run_lent s (map step is) kept lent);
    }
  where
    closer : (is : List ℕ) → AcceptedSteps s kept is → length is < 3 ^ size (sheet_of s)
    closer is steps = steps_end (sheet_of s) (ordered s kept lent) (decode_table kept.table) is (steps_machine s is kept lent steps)

    arrives : (p : Office) → AcceptedLent s p → (js : List ℕ) × AcceptedSteps s p js × NoMarkStands (sheet_of s) (after_steps s p js).table
    arrives p here =
        let found = steps_quiet (sheet_of s) (ordered s p here) (decode_table p.table) in
        let steps = machine_steps s found.0 p here found.1 in
        let cells = subst (Quiet (sheet_of s)) (sym (steps_decoded s found.0 p here)) found.2 in
        (found.0, steps, quiet_records s (after_steps s p found.0) (run_lent s (map step found.0) p here) cells)
