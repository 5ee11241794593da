-- What `call_keep::keep` requires: arrays as they are at first say of each item that nothing is known. Assumes nothing.
use Rattle.stepping.proofs.Starting.{fresh_ready}
use Rattle.scratch.proofs.keep.Goals as goal

pub keep-requires-clause-ready : goal.keep-requires-clause-ready
keep-requires-clause-ready g c = rw c.new.ensures (fresh_ready c.args.sheet.now g.row.ROOM c.requires.enough)
