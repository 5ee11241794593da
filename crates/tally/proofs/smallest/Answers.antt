-- `tally::smallest` meets its contract. Assumes nothing.
use Rattle.std.proofs.Common.{rules}
use Rattle.tally.proofs.Tallies.{smallest_is}
use Rattle.tally.proofs.smallest.Goals as goal

pub returns : goal.returns
returns c = search (rules, smallest_is)
