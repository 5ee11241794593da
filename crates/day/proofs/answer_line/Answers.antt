-- `day::answer_line` meets its contract. Assumes nothing.
use mathlib.Core.Path.{sym, ap, ◌∙◌}
use Rattle.cause.specs.Cause.{fault_number}
use Rattle.cause.proofs.Numbers.{number_some}
use Rattle.day_meaning.specs.Lines.{no_line}
use Rattle.day_meaning.specs.Day.{answer_line}
use Rattle.day_meaning.proofs.Storing.{appended_as}
use Rattle.day_meaning.proofs.Playing.{answer_refused}
use Rattle.day.proofs.answer_line.Goals as goal

pub returns-in-Ok : goal.returns-in-Ok
returns-in-Ok c = appended_as (ap (λ g. answer_line (fault_number g)) (sym c.in-Ok.is)) c.append.ensures

pub returns-in-Err : goal.returns-in-Err
returns-in-Err c =
    appended_as (ap no_line c.number.ensures ∙ answer_refused _ (number_some _) ∙ ap (λ g. answer_line (fault_number g)) (sym c.in-Err.is))
    c.no_line.ensures
