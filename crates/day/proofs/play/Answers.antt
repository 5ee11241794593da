-- `day::play` meets its contract. Assumes nothing.
use mathlib.Core.Path.{refl, ap, ◌∙◌}
use native.Mathlib.Omega.{arith}
use Rattle.cause.specs.Cause.{number_of}
use Rattle.day_meaning.specs.Lines.{day_word, last_line}
use Rattle.day_meaning.proofs.Storing.{appended_as}
use Rattle.day_meaning.proofs.Playing.{playing_start, playing_end, playing_fault, playing_step, field_parts}
use Rattle.day.proofs.play.Goals as goal

pub loop-placed-init : goal.loop-placed-init
loop-placed-init c = playing_start _ _ _ _ _

pub returns-in-Ok-None : goal.returns-in-Ok-None
returns-in-Ok-None c = playing_end c.loop-placed.invariant (rw c.in-Ok-None.field-0-is at c.in-Ok-None.ensures)

pub loop-placed-smaller : goal.loop-placed-smaller
loop-placed-smaller c =
    let o = rw c.in-Ok-Some.field-0-is at c.in-Ok-Some.ensures in
    let w = field_parts refl o.cut_is in
    omega (arith, w.start_is, w.next_is, w.next_in, c.loop-placed.invariant.within)

pub loop-placed-preserved : goal.loop-placed-preserved
loop-placed-preserved c =
    let o = rw c.in-Ok-Some.field-0-is at c.in-Ok-Some.ensures in
    playing_step c.loop-placed.invariant _ o.cut_is o.order_is c.carry_out-count.auto.table c.carry_out-count.ensures

pub returns-in-Err : goal.returns-in-Err
returns-in-Err c =
    let e = c.in-Err.ensures in
    playing_fault c.loop-placed.invariant e.1
    (appended_as (ap (λ n. last_line day_word n c.loop-placed.at) (c.number.ensures ∙ ap number_of e.0)) c.last_line.ensures)
