-- `owing::settle` meets its contract. Assumes nothing.
use native.Mathlib.Omega.{arith}
use Prim.Native.Nat.{◌*◌}
use mathlib.Core.Path.{sym, ap, ◌∙◌}
use lib.ListN.{length}
use lib.Seq.{length-take-le}
use Rattle.table.specs.Record.{width}
use Rattle.owing.proofs.Writing.{settled}
use Rattle.owing.proofs.settle.Goals as goal

pub returns : goal.returns
returns c =
    let counts = c.owe.auto.owed ∙ length-take-le _ _ (omega (arith, c.len.ensures, c.requires.roomy)) ∙ c.len.ensures in
    settled _ c.args.table.now c.owe.new.owed (length c.owe.new.owed) counts (c.requires.recorded ∙ ap (λ n. width * n) (sym counts)) c.requires.formed c.owe.ensures _
    (λ j. (c.type_inv.table j).fits) c.write_owed.ensures
