-- `admission::admit` meets its contract. Assumes nothing.
use native.Mathlib.Omega.{arith}
use mathlib.Core.Path.{sym, ap, ◌∙◌}
use Rattle.cause.proofs.Exits.{exit}
use Prim.Native.Nat.{◌*◌}
use Rattle.layout.specs.Layout.{index_width}
use Rattle.table.specs.Record.{width}
use Rattle.item.proofs.Located.{size_room}
use Rattle.admission.proofs.Admission.{measured, placed}
use Rattle.admission.proofs.Admitting.{admit_refused, admit_index, admit_table, admit_items}
use Rattle.admission.proofs.admit.Goals as goal

pub returns-in_err-n : goal.returns-in_err-n
returns-in_err-n c =
    let a = c.args in
    let k = c.in_err-n.ensures in
    let p = exit c.from_residual.ensures.1 in
    record { answer = rw p (admit_refused a.sheet.now a.index.now a.table.now _ _ k.answer); found = k.found.found }

pub slice_bounds-placed-end : goal.slice_bounds-placed-end
slice_bounds-placed-end c =
    let m = c.measure in
    let a = c.args in
    let k = c.in_ok-n.ensures in
    let g = measured a.sheet.now a.index.now a.table.now c.in_ok-n.n k.answer in
    let p = placed a.sheet.now m.new.offsets c.in_ok-n.n g.count_is (omega (arith, m.auto.offsets, c.requires.0)) k.found.found.located in
    p.within

pub slice_bounds-placed-end-2 : goal.slice_bounds-placed-end-2
slice_bounds-placed-end-2 c =
    let m = c.measure in
    let a = c.args in
    let k = c.in_ok-n.ensures in
    let g = measured a.sheet.now a.index.now a.table.now c.in_ok-n.n k.answer in
    let p = placed a.sheet.now m.new.offsets c.in_ok-n.n g.count_is (omega (arith, m.auto.offsets, c.requires.0)) k.found.found.located in
    g.count_is ∙ sym p.counted

pub index_matches-requires : goal.index_matches-requires
index_matches-requires c =
    let m = c.measure in
    let a = c.args in
    let k = c.in_ok-n.ensures in
    let g = measured a.sheet.now a.index.now a.table.now c.in_ok-n.n k.answer in
    let p = placed a.sheet.now m.new.offsets c.in_ok-n.n g.count_is (omega (arith, m.auto.offsets, c.requires.0)) k.found.found.located in
    g.index_length ∙ ap (λ n. index_width * n) (g.count_is ∙ sym p.counted)

pub returns-then-not-index_matches : goal.returns-then-not-index_matches
returns-then-not-index_matches c =
    let a = c.args in
    let k = c.in_ok-n.ensures in
    let i = c.index_matches in
    let e = c.into.ensures in
    record {
      answer = rw e (admit_index a.sheet.now a.index.now a.table.now _ c.in_ok-n.n k.answer k.found.found.located i.result i.ensures c.if-not-index_matches.true);
      found = k.found.found;
    }

pub new-requires : goal.new-requires
new-requires c =
    let m = c.measure in
    let a = c.args in
    let k = c.in_ok-n.ensures in
    let g = measured a.sheet.now a.index.now a.table.now c.in_ok-n.n k.answer in
    let p = placed a.sheet.now m.new.offsets c.in_ok-n.n g.count_is (omega (arith, m.auto.offsets, c.requires.0)) k.found.found.located in
    record { located = p.located; counted = p.counted }

pub table_formed-requires : goal.table_formed-requires
table_formed-requires c =
    let m = c.measure in
    let a = c.args in
    let k = c.in_ok-n.ensures in
    let g = measured a.sheet.now a.index.now a.table.now c.in_ok-n.n k.answer in
    let e = c.new.ensures in
    rw e (record {
      table_length = g.table_length_lem ∙ ap (λ n. width * n) g.count_is;
      room = omega (arith, size_room a.sheet.now, m.auto.levels, c.requires.1);
    })

pub returns-then-not-table_formed : goal.returns-then-not-table_formed
returns-then-not-table_formed c =
    let a = c.args in
    let k = c.in_ok-n.ensures in
    let i = c.index_matches in
    let t = c.table_formed in
    let e = c.into-then-not-table_formed.ensures in
    let s = c.new.ensures in
    record {
      answer = rw e (admit_table a.sheet.now a.index.now a.table.now _ c.in_ok-n.n k.answer k.found.found.located i.result i.ensures c.if-not-index_matches.false
          t.result (rw s at t.ensures) c.if-not-table_formed.true);
      found = k.found.found;
    }

pub returns : goal.returns
returns c =
    let a = c.args in
    let k = c.in_ok-n.ensures in
    let i = c.index_matches in
    let t = c.table_formed in
    let s = c.new.ensures in
    record {
      answer = admit_items a.sheet.now a.index.now a.table.now _ c.in_ok-n.n k.answer k.found.found.located i.result i.ensures c.if-not-index_matches.false
          t.result (rw s at t.ensures) c.if-not-table_formed.false;
      found = k.found.found;
    }
