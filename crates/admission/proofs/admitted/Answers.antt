-- `admission::admitted` meets its contract. Assumes nothing.
use native.Mathlib.Omega.{arith}
use mathlib.Core.Path.{sym, ap, ◌∙◌}
use Rattle.admission.specs.Admission.{items}
use Rattle.admission.proofs.Admission.{admitted, placed}
use Rattle.admission.proofs.admitted.Goals as goal

pub slice_bounds-new-end : goal.slice_bounds-new-end
slice_bounds-new-end c =
    let m = c.admit in
    let a = c.args in
    let k = c.in_ok-n.ensures in
    let g = admitted a.sheet.now a.index.now a.table.now c.in_ok-n.n k.answer in
    let p = placed a.sheet.now m.new.offsets c.in_ok-n.n g.count_is (omega (arith, m.auto.offsets, c.requires.0)) k.found.located in
    g.count_is ∙ sym p.counted

pub new-requires : goal.new-requires
new-requires c =
    let m = c.admit in
    let a = c.args in
    let k = c.in_ok-n.ensures in
    let g = admitted a.sheet.now a.index.now a.table.now c.in_ok-n.n k.answer in
    let p = placed a.sheet.now m.new.offsets c.in_ok-n.n g.count_is (omega (arith, m.auto.offsets, c.requires.0)) k.found.located in
    record { located = p.located; counted = p.counted }

pub returns : goal.returns
returns c =
    let a = c.args in
    let k = c.in_ok-n.ensures in
    let g = admitted a.sheet.now a.index.now a.table.now c.in_ok-n.n k.answer in
    record { sheet_is = c.new.ensures; admitted = sym k.answer ∙ ap items g.count_is }
