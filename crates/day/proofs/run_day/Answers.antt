-- `day::run_day` meets its contract. Assumes nothing.
use mathlib.Core.Path.{ap}
use Rattle.day_meaning.specs.Day.{sheet_line}
use Rattle.day_meaning.proofs.Storing.{appended_as}
use Rattle.day.proofs.Running.{front_length, ran_long, ran_read, ran_whole}
use Rattle.day.proofs.run_day.Goals as goal

pub returns-then-too_long : goal.returns-then-too_long
returns-then-too_long c =
    ran_long _ _ _ _ c.too_long.ensures c.if-too_long.true
    (appended_as (ap (λ n. sheet_line n 0) c.number.ensures) c.last_line.ensures)

pub slice_bounds-day_on-end-2 : goal.slice_bounds-day_on-end-2
slice_bounds-day_on-end-2 c = front_length _ _ _ c.min-x.ensures

pub slice_bounds-day_on-end-4 : goal.slice_bounds-day_on-end-4
slice_bounds-day_on-end-4 c = front_length _ _ _ c.min-t.ensures

pub returns : goal.returns
returns c =
    ran_read _ _ _ _ c.too_long.ensures c.if-too_long.false
    (ran_whole _ _ _ _ c.count_said-n.ensures.said c.min-x.ensures c.min-t.ensures c.day_on.ensures)
