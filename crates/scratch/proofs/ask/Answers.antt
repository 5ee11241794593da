-- What `call_ask::ask` requires: arrays as they are at first say of each item that nothing is known. Assumes nothing.
use mathlib.Core.Path.{refl}
use Rattle.children.proofs.Building.{kept_blank}
use Rattle.stepping.proofs.Starting.{fresh_ready}
use Rattle.scratch.proofs.ask.Goals as goal

pub ask-requires-clause-ready : goal.ask-requires-clause-ready
ask-requires-clause-ready g c = rw c.new.ensures (fresh_ready c.args.sheet.now g.row.ROOM c.requires.enough)

pub ask-requires-clause-kept : goal.ask-requires-clause-kept
ask-requires-clause-kept g c = rw c.new-2.ensures (kept_blank c.args.sheet.now g.row.ROOM _ refl c.requires.enough)
