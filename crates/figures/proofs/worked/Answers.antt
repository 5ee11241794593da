-- `figures::worked` meets its contract. Assumes nothing.
use Rattle.std.proofs.Common.{◌≡◌, ◌∙◌, length, length-set, arith}
use Rattle.circuit.specs.Rules.{max_parents}
use Rattle.value.specs.Meaning.{meanings}
use Rattle.figures.proofs.Tested.{all_tested, tested_more}
use Rattle.figures.proofs.worked.Goals as goal

pub loop-i-preserved : goal.loop-i-preserved
unfolding max_parents
loop-i-preserved c = (
  length-set c.loop-i.values c.loop-i.i c.in_form.result ∙ c.loop-i.invariant.0,
  tested_more c.args.parents.now c.loop-i.values c.loop-i.i c.in_form.result c.loop-i-test.true
      (omega (arith, c.requires.few)) c.in_form.ensures c.loop-i.invariant.1,
)

pub apply-requires-clause-formed : goal.apply-requires-clause-formed
apply-requires-clause-formed c =
    let end : length c.args.parents.now ≡ c.loop-i.i = omega arith in
    rw (end, c.loop-i.invariant.1) (all_tested (meanings _))
