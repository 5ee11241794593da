-- `call_open::open_by` meets its contract. Assumes nothing.
use Rattle.call_open.specs.Opening.{opening_by}
use Rattle.call_open.proofs.Writing.{measures, opened_refused, opened_written}
use Rattle.call_open.proofs.open_by.Goals as goal

pub returns-in_err-n : goal.returns-in_err-n
returns-in_err-n c =
    let a = c.args in
    opened_refused (opening_by a.opening) a.sheet.now a.index.now a.table.now _ c.from_residual.ensures.1 c.in_err-n.ensures.answer

pub slice_bounds-offsets-end : goal.slice_bounds-offsets-end
slice_bounds-offsets-end c =
    let m = c.measure in
    let k = c.in_ok-n.ensures in
    let g = measures c.args.offsets.now c.args.bytes.now k.answer c.requires.room m.auto.offsets m.auto.levels k.found.found.located in
    g.within

pub slice_bounds-offsets-end-2 : goal.slice_bounds-offsets-end-2
slice_bounds-offsets-end-2 c =
    let m = c.measure in
    let k = c.in_ok-n.ensures in
    let g = measures c.args.offsets.now c.args.bytes.now k.answer c.requires.room m.auto.offsets m.auto.levels k.found.found.located in
    g.exact

pub write_index-requires : goal.write_index-requires
write_index-requires c =
    let m = c.measure in
    let k = c.in_ok-n.ensures in
    let g = measures c.args.offsets.now c.args.bytes.now k.answer c.requires.room m.auto.offsets m.auto.levels k.found.found.located in
    g.index_length

pub new-requires : goal.new-requires
new-requires c =
    let m = c.measure in
    let k = c.in_ok-n.ensures in
    let g = measures c.args.offsets.now c.args.bytes.now k.answer c.requires.room m.auto.offsets m.auto.levels k.found.found.located in
    record { located = g.located; counted = g.counted }

pub write_table-requires : goal.write_table-requires
write_table-requires c =
    let m = c.measure in
    let k = c.in_ok-n.ensures in
    let g = measures c.args.offsets.now c.args.bytes.now k.answer c.requires.room m.auto.offsets m.auto.levels k.found.found.located in
    rw c.new.ensures (record { table_length = g.table_length; owed_room = g.owed_room })

pub returns : goal.returns
returns c =
    let a = c.args in
    let k = c.in_ok-n.ensures in
    opened_written (opening_by a.opening) a.sheet.now a.index.now a.table.now _ _ _ c.measure.new.offsets _ k.answer k.found.found.located
    c.write_index.ensures (rw c.new.ensures at c.write_table.ensures)
