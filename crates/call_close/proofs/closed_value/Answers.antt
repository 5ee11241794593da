-- `call_close::closed_value` meets its contract. Assumes nothing.
use mathlib.Core.Path.{sym, ap, ◌∙◌}
use Rattle.circuit.specs.Sheet.{is_figure}
use Rattle.call_close.proofs.Closing.{closed_entry}
use Rattle.call_close.proofs.closed_value.Goals as goal

pub returns-else-is_figure : goal.returns-else-is_figure
returns-else-is_figure c =
    let entry = ap is_figure (sym c.item.ensures) ∙ sym c.is_figure.ensures ∙ c.if-is_figure.false in
    c.value_at.ensures ∙ sym (closed_entry c.args.sheet.now c.args.table.now c.args.i entry)
