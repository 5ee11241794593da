-- `owing::owed_true` meets its contract. Assumes nothing.
use native.Mathlib.Omega.{arith}
use mathlib.Core.Path.{◌∙◌}
use lib.Seq.{length-take-le}
use Rattle.owing.proofs.Writing.{matches_true}
use Rattle.owing.proofs.owed_true.Goals as goal

pub returns : goal.returns
returns c =
    let counts = c.owe.auto.owed ∙ length-take-le _ _ (omega (arith, c.len.ensures, c.requires.roomy)) ∙ c.len.ensures in
    c.owed_matches.ensures ∙ matches_true _ c.args.table.now c.owe.new.owed _ counts c.owe.ensures
