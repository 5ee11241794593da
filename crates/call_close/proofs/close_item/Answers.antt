-- `call_close::close_item` meets its contract. Assumes nothing.
use Rattle.call_close.proofs.Closing.{closed_stored}
use Rattle.call_close.proofs.close_item.Goals as goal

pub returns : goal.returns
returns c =
    let e = c.requires in
    closed_stored e.lent c.args.i e.within _ c.closed_value-value.ensures _ c.store_cell.ensures
