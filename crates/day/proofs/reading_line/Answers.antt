-- `day::reading_line` meets its contract. Assumes nothing.
use mathlib.Core.Path.{sym, ap, ◌∙◌}
use Rattle.cause.specs.Cause.{fault_number}
use Rattle.cause.proofs.Numbers.{number_some}
use Rattle.printer.specs.Printing.{text_of}
use Rattle.value.specs.Meaning.{parts_of}
use Rattle.call_ask.specs.Asking.{kind_in, value_in}
use Rattle.day_meaning.specs.Lines.{no_line}
use Rattle.day_meaning.specs.Day.{reading_line}
use Rattle.day_meaning.proofs.Storing.{appended_as}
use Rattle.day_meaning.proofs.Playing.{reading_refused}
use Rattle.day.proofs.reading_line.Goals as goal

pub returns-in-Err : goal.returns-in-Err
returns-in-Err c =
    appended_as
    (ap no_line c.number.ensures ∙ reading_refused c.args.item _ _ (number_some _)
    ∙ ap (λ r. reading_line c.args.item (fault_number r) (text_of (parts_of (kind_in r) (value_in r)))) (sym c.in-Err.is))
    c.no_line.ensures
