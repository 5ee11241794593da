-- `item::is_offset` meets its contract: four bytes are equal exactly if their numbers are. Assumes nothing.
use Rattle.item.proofs.Offsets.{entry_compared}
use Rattle.item.proofs.is_offset.Goals as goal

pub returns : goal.returns
returns c =
    let a = c.args in
    rw c.low_part.ensures (entry_compared a.index.now a.at _ a.offset (λ i. (c.type_inv.index i).fits) c.from_le_bytes.ensures)
