-- `call_board::show` meets its contract. Assumes nothing.
use native.Mathlib.Omega.{arith}
use Rattle.item.proofs.Located.{size_most}
use Rattle.catching.proofs.Catching.{caught_memo}
use Rattle.call_board.proofs.show.Goals as goal

pub begin-requires : goal.begin-requires
begin-requires c = omega (arith, size_most c.args.sheet.now, c.len.ensures)

pub show_each-requires-clause-right : goal.show_each-requires-clause-right
show_each-requires-clause-right c = rw (c.begin.ensures, c.len.ensures) (caught_memo c.catch_up.ensures _)
