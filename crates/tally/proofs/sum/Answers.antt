-- `tally::sum` meets its contract. Assumes nothing.
use Rattle.std.proofs.Common.{rules}
use Rattle.tally.proofs.Tallies.{sum_is}
use Rattle.tally.proofs.sum.Goals as goal

pub returns : goal.returns
returns c = search (rules, sum_is)
