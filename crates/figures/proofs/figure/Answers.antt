-- `figures::figure` meets its contract. Assumes nothing.
use Rattle.rules.specs.Operations.{operation_meaning}
use Rattle.rules.proofs.Operations.{chosen_takes}
use Rattle.figures.proofs.figure.Goals as goal

pub worked-requires-clause-takes : goal.worked-requires-clause-takes
worked-requires-clause-takes g c = chosen_takes _ _ (operation_meaning c.in-Some.op) c.in-Some.ensures
