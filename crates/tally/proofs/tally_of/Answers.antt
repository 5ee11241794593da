-- `tally::tally_of` meets its contract. Assumes nothing.
use Rattle.tally.proofs.Taking.{turn_room, turn_formed, turn_next}
use Rattle.tally.proofs.tally_of.Goals as goal

pub take_in-t-requires-clause-room : goal.take_in-t-requires-clause-room
take_in-t-requires-clause-room c = rw c.loop-v.invariant (turn_room c.args.values.now c.loop-v.v-index c.loop-v-test.true c.requires.formed c.requires.few)

pub take_in-t-requires-clause-formed : goal.take_in-t-requires-clause-formed
take_in-t-requires-clause-formed c = turn_formed c.args.values.now c.loop-v.v-index c.loop-v-test.true c.requires.formed

pub loop-v-preserved : goal.loop-v-preserved
loop-v-preserved c =
    rw (c.take_in-t.ensures, c.loop-v.invariant) (turn_next c.args.values.now c.loop-v.v-index c.loop-v-test.true c.requires.formed)
