-- `day_line::last_line` meets its contract, text after text. Assumes nothing.
use Rattle.day_meaning.proofs.Storing.{appended_more}
use Rattle.day_line.proofs.last_line.Goals as goal

pub returns : goal.returns
returns c =
    appended_more c.append-a.ensures
    (appended_more c.append_number-b.ensures
    (appended_more c.append-c.ensures
    (appended_more c.append_number-d.ensures c.append.ensures)))
