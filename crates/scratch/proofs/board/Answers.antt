-- What `call_board::board` requires: arrays as they are at first say of each item that nothing is known. Assumes nothing.
use mathlib.Core.Path.{refl}
use Rattle.children.proofs.Building.{kept_blank}
use Rattle.stepping.proofs.Starting.{fresh_ready}
use Rattle.scratch.proofs.board.Goals as goal

pub board-requires-clause-ready : goal.board-requires-clause-ready
board-requires-clause-ready g c = rw c.new.ensures (fresh_ready c.args.sheet.now g.row.ROOM c.requires.enough)

pub board-requires-clause-kept : goal.board-requires-clause-kept
board-requires-clause-kept g c = rw c.new-2.ensures (kept_blank c.args.sheet.now g.row.ROOM _ refl c.requires.enough)
