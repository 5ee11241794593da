-- `tally::largest` meets its contract. Assumes nothing.
use Rattle.std.proofs.Common.{rules}
use Rattle.tally.proofs.Tallies.{largest_is}
use Rattle.tally.proofs.largest.Goals as goal

pub returns : goal.returns
returns c = search (rules, largest_is)
