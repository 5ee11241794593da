-- `sheet::check_last` meets its contract. Assumes nothing.
use Rattle.cause.proofs.Exits.{exit}
use Rattle.sheet.proofs.Scanned.{last_fault}
use Rattle.sheet.proofs.check_last.Goals as goal

pub returns-in_err-at_field : goal.returns-in_err-at_field
returns-in_err-at_field c =
    λ ps n.
    let p = exit c.from_residual-in_err-at_field.ensures.1 in
    rw p (last_fault c.args.opened.edition ps c.in_ok-last.ensures c.judge_last.result c.judge_last.ensures c.in_err-at_field.ensures)
