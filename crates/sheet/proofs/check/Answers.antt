-- `sheet::check` meets its contract: by the first field, and then by its items. Assumes nothing.
use native.Mathlib.Omega.{arith}
use mathlib.Core.Path.{refl, sym, ◌∙◌}
use Rattle.cause.proofs.Exits.{exit}
use Rattle.layout.specs.Read.{head_tests}
use Rattle.sheet.proofs.Fields.{judge_whole}
use Rattle.sheet.proofs.Whole.{head_refused, count_room, head_accepted}
use Rattle.sheet.proofs.check.Goals as goal

pub returns-in_err-head : goal.returns-in_err-head
returns-in_err-head c =
    let a = c.args in
    let w = c.in_err-head.ensures in
    let p = exit c.from_residual.ensures.1 in
    let t = head_refused a.s.now a.offsets.now a.levels.now p w.offset_is (w.judged head_tests ∙ sym w.number_is) in
    record { answer = t.0; found = t.1.0; leveled = t.1.1 }

pub returns-in_err-opened : goal.returns-in_err-opened
returns-in_err-opened c =
    let a = c.args in
    let p = exit c.from_residual-in_err-opened.ensures.1 in
    let t = head_refused a.s.now a.offsets.now a.levels.now p refl (judge_whole c.in_ok-head.ensures head_tests ∙ sym c.in_err-opened.ensures.number) in
    record { answer = t.0; found = t.1.0; leveled = t.1.1 }

pub check_items-requires : goal.check_items-requires
check_items-requires c =
    let e = judge_whole c.in_ok-head.ensures head_tests ∙ sym c.in_ok-opened.ensures.number in
    let m = count_room c.in_ok-head.ensures e c.in_ok-opened.opened.edition c.in_ok-opened.opened.count c.in_ok-opened.ensures.edition c.in_ok-opened.ensures.count in
    (omega arith, omega arith)

pub returns : goal.returns
returns c =
    let e = judge_whole c.in_ok-head.ensures head_tests ∙ sym c.in_ok-opened.ensures.number in
    let k = c.check_items.ensures in
    let t =
    head_accepted c.in_ok-head.ensures e c.in_ok-opened.opened.edition c.in_ok-opened.opened.count c.in_ok-opened.ensures.edition c.in_ok-opened.ensures.count
    _ _ _ _ _ k.answer k.found k.leveled in
    record { answer = t.0; found = t.1.0; leveled = t.1.1 }
