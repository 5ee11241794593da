-- `owing::owe_parents` meets its contract. The loop's invariant: the first k parents are owed. Assumes nothing.
use native.Mathlib.Omega.{arith}
use native.Mathlib.Numerals.{add-one}
use mathlib.Core.Path.{◌≡◌, refl, ap, ◌∙◌}
use lib.ListN.{length}
use Rattle.circuit.specs.Sheet.{parents_of}
use Rattle.owing.specs.Owing.{owe_each}
use Rattle.owing.proofs.owe_parents.Goals as goal

pub loop-k-init : goal.loop-k-init
unfolding owe_each
loop-k-init c = refl

pub loop-k-preserved : goal.loop-k-preserved
unfolding owe_each
loop-k-preserved c = rw (add-one c.loop-k.k, c.parent.ensures, c.loop-k.invariant) refl

pub returns : goal.returns
returns c =
    let all : c.loop-k.k ≡ length (parents_of c.args.item.now) = omega (arith, c.parent_count-k-end.ensures.count_is, c.loop-k-test.false, c.loop-k.auto.k-end) in
    c.loop-k.invariant ∙ ap (owe_each c.args.owed.now (parents_of c.args.item.now)) all
