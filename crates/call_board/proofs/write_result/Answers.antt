-- `call_board::write_result` meets its contract. Assumes nothing.
use Rattle.value.specs.Meaning.{meaning}
use Rattle.call_board.proofs.Lists.{result_stored}
use mathlib.Core.Path.{◌∙◌}
use native.Mathlib.Omega.{arith}
use lib.ListN.{length-set}
use borrow.Author.Rules.{rules}
use Rattle.call_board.proofs.write_result.Goals as goal

pub write_i64-requires : goal.write_i64-requires
write_i64-requires c = simp length-set (omega arith)

pub shape_of-results : goal.shape_of-results
shape_of-results c = c.write_i64.auto.s ∙ simp length-set

pub returns : goal.returns
returns c =
    let a = c.args in
    let n = c.number_or_zero in
    result_stored a.results.now a.k c.kind.result n.result (meaning a.value) _ c.kind.ensures n.ensures (search rules) c.write_i64.ensures
