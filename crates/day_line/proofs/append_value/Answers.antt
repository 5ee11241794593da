-- `day_line::append_value` meets its contract: in the least scratch the printer prints the whole text. Assumes nothing.
use mathlib.Core.Path.{refl, ◌∙◌}
use mir.Syntax.{w64}
use mir.ValLaws.{to_z-of_z}
use Rattle.day_meaning.proofs.Storing.{appended_as, part_whole}
use Rattle.day_line.proofs.append_value.Goals as goal

pub returns : goal.returns
returns c =
    let a = c.args in
    appended_as (c.print-part.ensures ∙ part_whole a.kind _ _ a.number refl (to_z-of_z w64 a.number c.ranges.number)) c.append.ensures
