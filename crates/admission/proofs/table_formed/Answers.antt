-- `admission::table_formed` meets its contract: each record is tested by the kind of its item. Assumes nothing.
use Rattle.std.proofs.Common.{rules, tests}
use native.Mathlib.Omega.{arith}
use mathlib.Core.Path.{refl, ap, ◌∙◌}
use mathlib.Core.Bool.{Bool}
use Rattle.std.specs.List.{list_all, range_with_len}
use Rattle.std.proofs.lemmas.Iterator.{YieldsList-from_range}
use Rattle.std.proofs.lemmas.Iterator.Search.{all_from_yields_List}
use Rattle.circuit.specs.Sheet.{item_at, is_figure}
use Rattle.layout.specs.Opened.{sheet_of}
use Rattle.table.specs.Rows.{row}
use Rattle.table.specs.Record.{width, record_form}
use Rattle.admission.proofs.Admitting.{formed_both, formed_not}
use Rattle.admission.proofs.table_formed.Goals as goal

pub returns-then-all : goal.returns-then-all
returns-then-all c =
    let a = c.args in
    let test : _ → Bool = λ k. record_form (is_figure (item_at (sheet_of a.sheet.now) k)) (row width a.table.now k) in
    let e = all_from_yields_List test _ _ c.all.result c.all.ensures.ran (YieldsList-from_range 0 c.len.result c.len.result refl (omega arith)) (λ x b q k. search (rules, tests)) in
    formed_both (sheet_of a.sheet.now) a.table.now (e ∙ ap (λ n. list_all test (range_with_len 0 n)) c.len.ensures) c.if-all.true c.owed_true.ensures

pub returns-else-all : goal.returns-else-all
returns-else-all c =
    let a = c.args in
    let test : _ → Bool = λ k. record_form (is_figure (item_at (sheet_of a.sheet.now) k)) (row width a.table.now k) in
    let e = all_from_yields_List test _ _ c.all.result c.all.ensures.ran (YieldsList-from_range 0 c.len.result c.len.result refl (omega arith)) (λ x b q k. search (rules, tests)) in
    formed_not (sheet_of a.sheet.now) a.table.now (e ∙ ap (λ n. list_all test (range_with_len 0 n)) c.len.ensures) c.if-all.false
