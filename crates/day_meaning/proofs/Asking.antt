-- An accepted ask prints the value that looking its item up after catching up gives. Assumes nothing.
use Prim.Native.Nat.{ℕ, zero, suc, ◌<◌}
use mathlib.Core.Path.{◌≡◌, refl, ap}
use mathlib.Core.Bool.{true, ◌&&◌}
use mathlib.Core.List.{List, []}
use native.Mathlib.Omega.{arith}
use borrow.Author.Tests.{leb-false, not-false}
use Rattle.circuit.specs.Value.{Value, well_formed}
use Rattle.circuit.specs.Sheet.{Sheet, size, Ordered}
use Rattle.circuit.specs.Machine.{look_up, catch_up}
use Rattle.circuit.specs.Call.{ask}
use Rattle.circuit.specs.Calls.{first_cause, tests, effect, no_item}
use Rattle.circuit.proofs.RuleLaws.{and_left}
use Rattle.layout.specs.Read.{Placed, SheetRead, opens, refused, read_sheet}
use Rattle.layout.specs.Opened.{sheet_read}
use Rattle.layout.proofs.Scan.{cause_none, opened_ordered}
use Rattle.table.specs.Bytes.{decode_table, table_form, owed_true}
use Rattle.table.proofs.Tables.{decoded_holdable}
use Rattle.office.specs.Office.{call_tests, call_read, call_on, lengths_wrong, index_wrong, table_wrong, unless_refused, effect_on, keeping}
use Rattle.office.proofs.Holdable.{look_formed, catch_up_holdable}
use Rattle.office.proofs.Agreeing.{refused_positive}
use Rattle.printer.specs.Printing.{printed}
use Rattle.day_meaning.specs.Lines.{ask_line}
use Rattle.day_meaning.specs.Day.{line_of}
use Rattle.day_meaning.proofs.Laws.{value_text}

-- the value that an ask of item i gives, with a sheet that opens
abbrev asked : ℕ → List Placed → List ℕ → ℕ → Value
asked edition ps t i =
    (look_up (sheet_read edition ps) (catch_up (sheet_read edition ps) (decode_table t)) i).value

pub record AskPrints (s x t : List ℕ) (i : ℕ) : Type 0 where
  pub edition : ℕ
  pub items : List Placed
  pub reads : read_sheet s ≡ opens edition items
  pub line : line_of (ask i) (call_on s (keeping x t) (ask i)) ≡ ask_line i (printed (asked edition items t i))

pub ask_prints : (s x t : List ℕ) (i : ℕ) → (call_on s (keeping x t) (ask i)).number ≡ 0 → AskPrints s x t i
unfolding call_on tests effect
ask_prints s x t i e = go (read_sheet s) refl e
  where
    formed : (edition : ℕ) (ps : List Placed) → read_sheet s ≡ opens edition ps → first_cause (call_tests (sheet_read edition ps) ps (keeping x t) (ask i)) ≡ 0
        → well_formed (asked edition ps t i) ≡ true
    formed edition ps r h =
        let S : Sheet = sheet_read edition ps in
        let ordered : Ordered S = opened_ordered s edition ps r in
        let a = cause_none 7 (lengths_wrong ps x t) _ h in
        let b = cause_none 8 (index_wrong ps x) _ a.1 in
        let c = cause_none 9 (table_wrong S t) _ b.1 in
        let d = cause_none 10 (no_item S i) _ c.1 in
        let form : table_form S t ≡ true = and_left (table_form S t) (owed_true S t) (not-false (table_form S t && owed_true S t) c.0) in
        let low : i < size S = leb-false (size S) i d.0 in
        look_formed S ordered (catch_up S (decode_table t)) i low (catch_up_holdable S ordered (decode_table t) (decoded_holdable S t form))

    accepts : (edition : ℕ) (ps : List Placed) (m : ℕ) → read_sheet s ≡ opens edition ps → first_cause (call_tests (sheet_read edition ps) ps (keeping x t) (ask i)) ≡ m
        → (unless_refused m [] (keeping x t) (effect_on (sheet_read edition ps) (keeping x t) (effect (sheet_read edition ps) (decode_table t) (ask i)))).number ≡ 0
        → line_of (ask i) (unless_refused m [] (keeping x t) (effect_on (sheet_read edition ps) (keeping x t) (effect (sheet_read edition ps) (decode_table t) (ask i)))) ≡
        ask_line i (printed (asked edition ps t i))
    accepts edition ps zero r h n = ap (ask_line i) (value_text (asked edition ps t i) (formed edition ps r h))
    accepts edition ps (suc m) r h n = absurd (omega arith)

    go : (r : SheetRead) → read_sheet s ≡ r → (call_read r (keeping x t) (ask i)).number ≡ 0 → AskPrints s x t i
    go (refused k at) r h = absurd (refused_positive s k at r h)
    go (opens edition ps) r h =
        record {
          edition = edition;
          items = ps;
          reads = r;
          line = rw r (accepts edition ps (first_cause (call_tests (sheet_read edition ps) ps (keeping x t) (ask i))) r refl h);
        }
