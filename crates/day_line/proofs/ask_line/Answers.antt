-- `day_line::ask_line` meets its contract, text after text. Assumes nothing.
use mathlib.Core.Path.{ap}
use mir.Syntax.{w64}
use mir.ValLaws.{to_z-of_z}
use Rattle.printer.specs.Printing.{text_of}
use Rattle.value.specs.Meaning.{parts_of}
use Rattle.day_meaning.proofs.Storing.{appended_more, appended_as}
use Rattle.day_line.proofs.ask_line.Goals as goal

pub returns : goal.returns
returns c =
    let a = c.args in
    let read = to_z-of_z w64 a.number c.ranges.number in
    appended_more c.append-a.ensures
    (appended_more c.append_number-b.ensures
    (appended_more c.append-c.ensures
    (appended_more (appended_as (ap (λ z. text_of (parts_of a.kind z)) read) c.append_value-d.ensures) c.append.ensures)))
