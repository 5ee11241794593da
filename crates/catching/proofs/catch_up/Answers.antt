use Rattle.std.proofs.Common.{arith}
use Rattle.stepping.proofs.Starting.{copied_owed}
use Rattle.catching.proofs.Catching.{caught_quiet}
use Rattle.catching.proofs.catch_up.Goals as goal

pub catch_up-requires-clause-owed : goal.catch_up-requires-clause-owed
catch_up-requires-clause-owed c =
    let q = c.requires.prepared in
    copied_owed c.args.sheet.now c.args.table.now c.copy_owed.new.owed q.owes q.lent.length_is (omega (arith, q.owed_room, c.copy_owed.auto.owed)) c.copy_owed.ensures

pub returns-in_default : goal.returns-in_default
returns-in_default c =
    let q = c.requires.prepared in
    caught_quiet q.lent q.ready (λ i low. c.in_default.ensures.none_below i (omega (arith, c.len.ensures)))
