-- `call_swap::swap_results` meets its contract. Assumes nothing.
use Rattle.std.proofs.Common.{rules, ap, ◌∙◌}
use Rattle.value.specs.Meaning.{meaning}
use Rattle.call_swap.specs.Results.{results_meaning}
use Rattle.call_swap.proofs.Moving.{left_beyond, come_beyond}
use Rattle.call_swap.proofs.swap_results.Goals as goal

pub returns-in_err-left : goal.returns-in_err-left
returns-in_err-left c =
    let a = c.args in
    ap results_meaning c.from_residual.ensures
    ∙ left_beyond (meaning a.giver) (meaning a.taker) _ a.quantity (search rules) c.ranges.quantity c.number_or_zero.ensures c.in_err-left.ensures

pub returns-in_err-come : goal.returns-in_err-come
returns-in_err-come c =
    let a = c.args in
    ap results_meaning c.from_residual-in_err-come.ensures
    ∙ come_beyond (meaning a.giver) (meaning a.taker) _ a.quantity (search rules) c.ranges.quantity c.number_or_zero-2.ensures c.in_err-come.ensures
