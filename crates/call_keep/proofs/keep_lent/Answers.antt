-- `call_keep::keep_lent` meets its contract. Assumes nothing.
use Rattle.cause.proofs.Exits.{exit}
use Rattle.call_keep.proofs.Keeping.{keep_item, keep_done}
use Rattle.call_keep.proofs.keep_lent.Goals as goal

pub returns-in_err-i : goal.returns-in_err-i
returns-in_err-i c =
    λ x.
    rw (exit c.from_residual.ensures.1) (keep_item c.args.sheet.now c.args.table.now x c.args.item _ c.in_err-i.ensures.number)

pub returns : goal.returns
returns c =
    λ x.
    let i = c.in_ok-i.ensures in
    let found = i.found in
    keep_done c.args.sheet.now c.args.table.now x c.args.item i.number _ _ _ (rw found.0 at c.keep_cell.ensures) c.settle.ensures
