-- `item::Item::evaluate` meets its contract: the operation that is read takes as many parents as there are values. Assumes nothing.
use mathlib.Core.Path.{ap, ◌∙◌}
use Rattle.circuit.specs.Rules.{count_allowed}
use Rattle.rules.specs.Operations.{operation_meaning}
use Rattle.item.proofs.Evaluating.{evaluated}
use Rattle.item.proofs.Item.evaluate.Goals as goal

pub apply-requires : goal.apply-requires
apply-requires c =
    record {
      takes = ap (count_allowed (operation_meaning c.operation.result)) c.requires.counted ∙ c.operation.ensures.takes;
      formed = c.requires.formed;
    }

pub returns : goal.returns
returns c = evaluated _ _ c.operation.ensures c.requires.figure _ _ c.apply.ensures
