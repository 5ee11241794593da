-- `sheet::check_items` meets its contract. Assumes nothing.
use native.Mathlib.Omega.{arith}
use mathlib.Core.Path.{◌≡◌, refl}
use Rattle.cause.proofs.Exits.{exit}
use Rattle.layout.specs.Read.{scan}
use Rattle.sheet.specs.Check.{sound_items}
use Rattle.layout.proofs.Scan.{scan_length}
use Rattle.sheet.proofs.Scanned.{scan_missing, scan_judged, judged_level, levels_at, stop, turn, finish}
use Rattle.sheet.proofs.check_items.Goals as goal

pub loop-i-init : goal.loop-i-init
unfolding scan sound_items
loop-i-init c = record { goes_on = refl; found = refl; leveled = refl }

pub returns-in_err-found : goal.returns-in_err-found
returns-in_err-found c =
    let a = c.args in
    let l = c.loop-i in
    let v = l.invariant in
    let w = c.in_err-found.ensures in
    let p = exit c.from_residual.ensures.1 in
    let t =
    stop a.s.now a.opened.edition a.opened.count l.i l.at l.offsets a.offsets.now l.levels a.levels.now v.goes_on v.found v.leveled
    p w.offset_is c.loop-i-test.true
    (scan_missing a.s.now a.opened.edition l.i l.at _ v.goes_on w) in
    record { answer = t.0; found = t.1.0; leveled = t.1.1 }

pub returns-in_err-level : goal.returns-in_err-level
returns-in_err-level c =
    let a = c.args in
    let l = c.loop-i in
    let v = l.invariant in
    let ps = sound_items a.s.now a.opened.edition l.i in
    let n = scan_length a.s.now a.opened.edition l.i l.at ps v.goes_on in
    let j = c.judge_item.ensures ps (levels_at ps l.i l.levels a.levels.now v.leveled n) in
    let w = scan_judged a.s.now a.opened.edition l.i l.at ps v.goes_on c.in_ok-found.ensures c.judge_item.result j c.in_err-level.ensures in
    let p = exit c.from_residual-in_err-level.ensures.1 in
    let t =
    stop a.s.now a.opened.edition a.opened.count l.i l.at l.offsets a.offsets.now l.levels a.levels.now v.goes_on v.found v.leveled
    p w.0 c.loop-i-test.true w.1 in
    record { answer = t.0; found = t.1.0; leveled = t.1.1 }

pub loop-i-preserved : goal.loop-i-preserved
loop-i-preserved c =
    let a = c.args in
    let l = c.loop-i in
    let v = l.invariant in
    let ps = sound_items a.s.now a.opened.edition l.i in
    let n = scan_length a.s.now a.opened.edition l.i l.at ps v.goes_on in
    let j = c.judge_item.ensures ps (levels_at ps l.i l.levels a.levels.now v.leveled n) in
    let t = turn a.s.now a.opened.edition a.opened.count l.i l.at l.offsets a.offsets.now l.levels a.levels.now v.goes_on v.found v.leveled
    c.in_ok-found.ensures c.in_ok-level.level (omega arith) (omega arith) (judged_level c.judge_item.result l.at c.in_ok-level.level _ j c.in_ok-level.ensures) in
    record { goes_on = t.0; found = t.1; leveled = t.2 }

pub returns : goal.returns
returns c =
    let a = c.args in
    let l = c.loop-i in
    let v = l.invariant in
    let k : l.i ≡ a.opened.count = omega arith in
    let t =
    finish a.s.now a.opened.edition a.opened.count l.i l.at l.offsets a.offsets.now l.levels a.levels.now v.goes_on v.found v.leveled k
    _ c.check_last.ensures in
    record { answer = t.0; found = t.1.0; leveled = t.1.1 }
