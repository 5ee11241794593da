-- `sheet_cases::run_case` meets its contract: a whole case, or none. Assumes nothing.
use Rattle.std.proofs.Common.{arith}
use Rattle.sheet_cases.proofs.Whole.{Whole, no_label, no_sheet, cut_out, whole, runs_none, runs_case}
use Rattle.sheet_cases.proofs.run_case.Goals.{In_ok-sheet}
use Rattle.sheet_cases.proofs.run_case.Goals as goal

found : (c : In_ok-sheet) → Whole c.args.cases.now c.args.at c.in_ok-label.label c.in_ok-sheet.sheet
found c =
    whole c.args.cases.now c.args.at c.in_ok-label.label (cut_out c.field_at.result c.in_ok-label.label c.field_at.ensures c.in_ok-label.ensures.value)
    c.in_ok-sheet.sheet (cut_out c.field_at-2.result c.in_ok-sheet.sheet c.field_at-2.ensures c.in_ok-sheet.ensures.value)

pub returns-in_err-label-clause-left : goal.returns-in_err-label-clause-left
returns-in_err-label-clause-left c =
    let a = c.args in
    runs_none a.cases.now a.at _ _ c.from_residual.ensures (no_label a.cases.now a.at c.field_at.result c.field_at.ensures c.in_err-label.ensures.value)

pub returns-in_err-sheet-clause-left : goal.returns-in_err-sheet-clause-left
returns-in_err-sheet-clause-left c =
    let a = c.args in
    runs_none a.cases.now a.at _ _ c.from_residual-in_err-sheet.ensures
    (no_sheet a.cases.now a.at c.in_ok-label.label (cut_out c.field_at.result c.in_ok-label.label c.field_at.ensures c.in_ok-label.ensures.value) c.field_at-2.result c.field_at-2.ensures c.in_err-sheet.ensures.value)

pub slice_bounds-write_all-count : goal.slice_bounds-write_all-count
slice_bounds-write_all-count c = (found (goal.at.slice_bounds-write_all-count c).In_ok-sheet).labelled

pub slice_bounds-write_all-start : goal.slice_bounds-write_all-start
slice_bounds-write_all-start c =
    let w = found (goal.at.slice_bounds-write_all-start c).In_ok-sheet in
    omega (arith, w.labelled, w.label_in)

pub slice_bounds-write_all-end : goal.slice_bounds-write_all-end
slice_bounds-write_all-end c =
    let w = found (goal.at.slice_bounds-write_all-end c).In_ok-sheet in
    omega (arith, w.labelled, w.label_in)

pub slice_bounds-write_answer-count : goal.slice_bounds-write_answer-count
slice_bounds-write_answer-count c = (found (goal.at.slice_bounds-write_answer-count c).In_ok-sheet).checked

pub slice_bounds-write_answer-start : goal.slice_bounds-write_answer-start
slice_bounds-write_answer-start c =
    let w = found (goal.at.slice_bounds-write_answer-start c).In_ok-sheet in
    omega (arith, w.checked, w.checked_in)

pub slice_bounds-write_answer-end : goal.slice_bounds-write_answer-end
slice_bounds-write_answer-end c =
    let w = found (goal.at.slice_bounds-write_answer-end c).In_ok-sheet in
    omega (arith, w.checked, w.checked_in)

pub returns : goal.returns
returns c =
    let w = found (goal.at.returns c).In_ok-sheet in
    record { onward = w.onward; within = w.checked_in; left = runs_case w c.write_answer.ensures }
