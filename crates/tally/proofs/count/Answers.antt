-- `tally::count` meets its contract. Assumes nothing.
use Rattle.std.proofs.Common.{rules}
use Rattle.std.proofs.lemmas.List.{length-map}
use Rattle.value.specs.Meaning.{meanings}
use Rattle.tally.proofs.Tallies.{count_is, count_small}
use Rattle.tally.proofs.count.Goals as goal

pub ruled-requires-clause-callable : goal.ruled-requires-clause-callable
ruled-requires-clause-callable c = count_small (meanings c.args.values.now) (rw length-map c.requires.few)

pub returns : goal.returns
returns c = search (rules, count_is)
