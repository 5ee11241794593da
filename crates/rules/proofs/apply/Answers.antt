-- `rules::apply` meets its contract: the rules of two and three parents read the values by their places. Assumes nothing.
use Rattle.std.proofs.Common.{refl}
use Rattle.circuit.specs.Rules as rules
use Rattle.rules.proofs.Applying.{applied_two, applied_three}
use Rattle.rules.proofs.apply.Goals as goal

pub returns-in-Difference : goal.returns-in-Difference
unfolding rules.count_allowed
returns-in-Difference c = applied_two c.args.op _ c.in-Difference.is c.args.values.now c.requires.takes c.requires.formed refl c.difference.result c.difference.ensures

pub returns-in-Share : goal.returns-in-Share
unfolding rules.count_allowed
returns-in-Share c = applied_two c.args.op _ c.in-Share.is c.args.values.now c.requires.takes c.requires.formed refl c.share.result c.share.ensures

pub returns-in-AtLeast : goal.returns-in-AtLeast
unfolding rules.count_allowed
returns-in-AtLeast c = applied_two c.args.op _ c.in-AtLeast.is c.args.values.now c.requires.takes c.requires.formed refl c.at_least.result c.at_least.ensures

pub returns-in-Choice : goal.returns-in-Choice
unfolding rules.count_allowed
returns-in-Choice c = applied_three c.args.op _ c.in-Choice.is c.args.values.now c.requires.takes c.requires.formed refl c.choice.result c.choice.ensures
