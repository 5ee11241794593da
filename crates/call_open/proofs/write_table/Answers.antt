-- `call_open::write_table` meets its contract. Assumes nothing.
use mathlib.Core.Path.{ap, ◌∙◌}
use native.Mathlib.Omega.{arith}
use Rattle.circuit.specs.Sheet.{is_figure}
use Rattle.call_open.specs.Opening.{opening_by}
use Rattle.call_open.proofs.Writing.{written_start, written_next, written_form, written_done}
use Rattle.call_open.proofs.write_table.Goals as goal

pub loop-k-init : goal.loop-k-init
loop-k-init c = written_start (opening_by c.args.opening) c.args.sheet.now c.args.table.now

pub loop-k-preserved : goal.loop-k-preserved
loop-k-preserved c =
    written_next c.loop-k.invariant _ _ (c.kind.ensures ∙ ap is_figure c.item.ensures) c.first_cell-cell.ensures _ c.store_cell.ensures c.store_cell.auto.table
    (omega arith)

pub settle-requires-clause-formed : goal.settle-requires-clause-formed
settle-requires-clause-formed c = written_form c.loop-k.invariant (omega arith)

pub returns : goal.returns
returns c = written_done c.loop-k.invariant (omega arith) _ c.settle.ensures
