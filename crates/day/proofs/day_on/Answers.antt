-- `day::day_on` meets its contract. Assumes nothing.
use mathlib.Core.Path.{refl, sym, ◌∙◌}
use Rattle.cause.proofs.Numbers.{number_some}
use Rattle.day.proofs.Running.{day_refused, day_played}
use Rattle.day.proofs.day_on.Goals as goal

pub returns-in-Ok : goal.returns-in-Ok
returns-in-Ok c =
    let o = c.in-Ok.ensures in
    day_played _ _ _ _ o.number_is o.index_is o.table_is refl c.play.ensures

pub returns-in-Err : goal.returns-in-Err
returns-in-Err c =
    let o = c.in-Err.ensures in
    let n = c.number-number.ensures in
    day_refused _ _ _ _ (n ∙ o.number_is) o.offset_is o.index_is o.table_is (λ e. number_some _ (sym n ∙ e)) c.last_line.ensures
