-- `call_step::marked` meets its contract. Assumes nothing.
use mathlib.Core.Bool.{true, false}
use Rattle.cause.proofs.Exits.{exit}
use Rattle.layout.specs.Opened.{sheet_of}
use Rattle.table.specs.Bytes.{decode_table}
use Rattle.call_step.proofs.StepCall.{first_refused, mark_tested}
use Rattle.call_step.proofs.marked.Goals as goal

pub returns-in_err-i-clause-number : goal.returns-in_err-i-clause-number
returns-in_err-i-clause-number c =
    rw (exit c.from_residual.ensures.1) (first_refused _ _ c.in_err-i.field-0.0 c.in_err-i.ensures.number)

pub returns-then-is_marked-clause-number : goal.returns-then-is_marked-clause-number
returns-then-is_marked-clause-number c =
    mark_tested (sheet_of c.args.sheet.now) (decode_table c.args.table.now) c.in_ok-i.ensures.found _ true c.is_marked.ensures c.if-is_marked.true

pub returns-else-is_marked-clause-number : goal.returns-else-is_marked-clause-number
returns-else-is_marked-clause-number c =
    mark_tested (sheet_of c.args.sheet.now) (decode_table c.args.table.now) c.in_ok-i.ensures.found _ false c.is_marked.ensures c.if-is_marked.false
