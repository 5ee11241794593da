-- `item::put_offset` meets its contract. Assumes nothing.
use mathlib.Core.Path.{ap, ◌∙◌}
use native.Mathlib.Omega.{arith}
use mir.Syntax.{w32}
use Rattle.std.specs.Int.{to_le_bytes}
use Rattle.item.proofs.Offsets.{put_is, low_bytes}
use Rattle.item.proofs.put_offset.Goals as goal

pub returns : goal.returns
returns c =
    put_is _ _ _ _ _ (c.copy_from_slice.ensures.after ∙ c.to_le_bytes.ensures ∙ ap (to_le_bytes w32) c.low_part.ensures ∙ low_bytes c.args.offset) (omega arith) c.requires
