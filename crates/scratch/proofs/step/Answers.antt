-- What `call_step::step` requires: arrays as they are at first say of each item that nothing is known. Assumes nothing.
use mathlib.Core.Path.{refl}
use Rattle.children.proofs.Building.{kept_blank}
use Rattle.stepping.proofs.Starting.{fresh_ready}
use Rattle.scratch.proofs.step.Goals as goal

pub step-requires-clause-ready : goal.step-requires-clause-ready
step-requires-clause-ready g c = rw c.new.ensures (fresh_ready c.args.sheet.now g.row.ROOM c.requires.enough)

pub step-requires-clause-kept : goal.step-requires-clause-kept
step-requires-clause-kept g c = rw c.new-2.ensures (kept_blank c.args.sheet.now g.row.ROOM _ refl c.requires.enough)
