-- `day_line::append` meets its contract. Assumes nothing.
use native.Mathlib.Omega.{arith}
use Rattle.day_meaning.proofs.Storing.{appended_part}
use Rattle.day_line.proofs.append.Goals as goal

pub returns : goal.returns
returns c = appended_part _ _ _ _ _ _ c.requires (omega arith) c.min-n.ensures c.copy_from_slice.ensures.after
