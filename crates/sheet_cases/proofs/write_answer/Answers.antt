-- `sheet_cases::write_answer` meets its contract: the arrays have room for the items of a sheet that opens. Assumes nothing.
use Rattle.std.proofs.Common.{arith}
use mathlib.Core.Path.{sym}
use lib.Seq.{length-take-le}
use Rattle.layout.proofs.Rooms.{room_most}
use Rattle.sheet_cases.proofs.Whole.{places}
use Rattle.sheet_cases.proofs.write_answer.Goals as goal

pub check-requires : goal.check-requires
check-requires c = (omega (arith, room_most c.args.s.now), omega (arith, room_most c.args.s.now))

pub slice_bounds-write_places-end : goal.slice_bounds-write_places-end
slice_bounds-write_places-end c = omega (arith, places c.args.s.now c.in-Ok.ensures.answer, c.requires.0, c.check.auto.offsets)

pub slice_bounds-write_places-end-in-Ok : goal.slice_bounds-write_places-end-in-Ok
slice_bounds-write_places-end-in-Ok c =
    sym (length-take-le c.in-Ok.opened.count c.check.new.offsets (omega (arith, places c.args.s.now c.in-Ok.ensures.answer, c.requires.0, c.check.auto.offsets)))

pub slice_bounds-write_places-end-in-Ok-2 : goal.slice_bounds-write_places-end-in-Ok-2
slice_bounds-write_places-end-in-Ok-2 c = omega (arith, places c.args.s.now c.in-Ok.ensures.answer, c.requires.1, c.check.auto.levels)

pub slice_bounds-write_places-end-in-Ok-3 : goal.slice_bounds-write_places-end-in-Ok-3
slice_bounds-write_places-end-in-Ok-3 c =
    sym (length-take-le c.in-Ok.opened.count c.check.new.levels (omega (arith, places c.args.s.now c.in-Ok.ensures.answer, c.requires.1, c.check.auto.levels)))
