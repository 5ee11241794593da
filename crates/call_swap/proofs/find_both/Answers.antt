-- `call_swap::find_both` meets its contract. Assumes nothing.
use mathlib.Core.Path.{refl, sym, ap, ◌∙◌}
use mathlib.Core.Bool.{true, false}
use Rattle.cause.proofs.Exits.{exit}
use Rattle.circuit.specs.Sheet.{item_at, is_figure}
use Rattle.circuit.specs.Calls.{not_entry}
use Rattle.layout.specs.Opened.{sheet_of}
use Rattle.cause.proofs.Numbers.{number_some}
use Rattle.call_swap.proofs.Swapping.{first_11, second_11, kinds_12}
use Rattle.call_swap.proofs.find_both.Goals.{then-is_figure-via-then-is_figure, then-is_figure-via-else-is_figure+then-is_figure-2}
use Rattle.call_swap.proofs.find_both.Goals as goal

pub returns-in_err-i-clause-number : goal.returns-in_err-i-clause-number
returns-in_err-i-clause-number c =
    rw (exit c.from_residual.ensures.1) (first_11 (sheet_of c.args.sheet.now) c.args.giver c.args.taker _ (number_some _) c.in_err-i.ensures.number)

pub returns-in_err-j-clause-number : goal.returns-in_err-j-clause-number
returns-in_err-j-clause-number c =
    rw (exit c.from_residual-in_err-j.ensures.1) (second_11 (sheet_of c.args.sheet.now) c.args.giver c.args.taker c.in_ok-i.ensures.number _ (number_some _) c.in_err-j.ensures.number)

pub returns-then-is_figure-clause-number : goal.returns-then-is_figure-clause-number
returns-then-is_figure-clause-number c =
    let S = sheet_of c.args.sheet.now in
    let kinds = kinds_12 S c.args.giver c.args.taker c.in_ok-i.ensures.number c.in_ok-j.ensures.number in
    let gives = c.is_figure.ensures ∙ ap is_figure c.item.ensures ∙ ap (λ k. is_figure (item_at S k)) c.in_ok-i.ensures.found.0 in
    elim c.then-is_figure.branch [
      | then-is_figure-via-then-is_figure w ↦ kinds true (not_entry S c.args.taker) (sym w.if-is_figure.true ∙ gives) refl
      | then-is_figure-via-else-is_figure+then-is_figure-2 w ↦
          kinds false true (sym w.if-is_figure.false ∙ gives)
          (sym w.if-is_figure-2.true ∙ w.is_figure-else-is_figure.ensures ∙ ap is_figure w.item-else-is_figure.ensures
          ∙ ap (λ k. is_figure (item_at S k)) c.in_ok-j.ensures.found.0)
    ]

pub returns-clause-number : goal.returns-clause-number
returns-clause-number c =
    let S = sheet_of c.args.sheet.now in
    kinds_12 S c.args.giver c.args.taker c.in_ok-i.ensures.number c.in_ok-j.ensures.number false false
    (sym c.if-is_figure.false ∙ c.is_figure.ensures ∙ ap is_figure c.item.ensures ∙ ap (λ k. is_figure (item_at S k)) c.in_ok-i.ensures.found.0)
    (sym c.if-is_figure-2.false ∙ c.is_figure-else-is_figure.ensures ∙ ap is_figure c.item-else-is_figure.ensures
    ∙ ap (λ k. is_figure (item_at S k)) c.in_ok-j.ensures.found.0)
