-- `call_keep::drop_lent` meets its contract. Assumes nothing.
use mathlib.Core.Path.{ap, ◌∙◌}
use Rattle.cause.proofs.Exits.{exit}
use Rattle.circuit.specs.Machine.{drop_cell}
use Rattle.call_keep.proofs.Keeping.{drop_item, drop_left, drop_done}
use Rattle.call_keep.proofs.drop_lent.Goals as goal

pub returns-in_err-i : goal.returns-in_err-i
returns-in_err-i c =
    λ x.
    rw (exit c.from_residual.ensures.1) (drop_item c.args.sheet.now c.args.table.now x c.args.item _ c.in_err-i.ensures.number)

pub settle-requires-clause-formed : goal.settle-requires-clause-formed
settle-requires-clause-formed c =
    let i = c.in_ok-i.ensures in
    let left = drop_left c.requires.lent _ i.found.1 i.kind _ _ (c.dropped_cell-cell.ensures ∙ ap drop_cell c.read_cell.ensures) c.store_cell.ensures in
    left.formed

pub returns : goal.returns
returns c =
    λ x.
    let i = c.in_ok-i.ensures in
    let found = i.found in
    let left = drop_left c.requires.lent _ i.found.1 i.kind _ _ (c.dropped_cell-cell.ensures ∙ ap drop_cell c.read_cell.ensures) c.store_cell.ensures in
    drop_done c.args.sheet.now c.args.table.now x c.args.item i.number _ _ _ (rw found.0 at left) c.settle.ensures
