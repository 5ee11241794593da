-- `call_board::board_lent` meets its contract. Assumes nothing.
use lib.ListN.{length}
use mathlib.Core.Path.{sym, ◌∙◌}
use borrow.Author.Tests.{eqb-true, eqb-false}
use Rattle.field.proofs.Cutting.{slice_bytes}
use Rattle.call_board.proofs.Answers.{board_listed, lists_refused, item_refused, board_empty, board_done}
use Rattle.call_board.proofs.board_lent.Goals as goal

pub returns-then-lists_wrong : goal.returns-then-lists_wrong
returns-then-lists_wrong c =
    λ x.
    let a = c.args in
    lists_refused a.sheet.now a.table.now x a.items.now a.results.now (sym c.lists_wrong.ensures ∙ c.if-lists_wrong.true)

pub returns-then-some_no_item : goal.returns-then-some_no_item
returns-then-some_no_item c =
    λ x.
    let a = c.args in
    item_refused a.sheet.now a.table.now x a.items.now a.results.now (sym c.lists_wrong.ensures ∙ c.if-lists_wrong.false)
    (sym c.some_no_item.ensures ∙ c.if-some_no_item.true)

pub returns-then-is_empty : goal.returns-then-is_empty
returns-then-is_empty c =
    λ x.
    let a = c.args in
    let p = c.requires.prepared in
    board_empty p.lent (slice_bytes _ c.type_inv.table) p.owes x a.items.now a.results.now (sym c.lists_wrong.ensures ∙ c.if-lists_wrong.false)
    (eqb-true (length a.items.now) 0 (sym c.is_empty.ensures ∙ c.if-is_empty.true))

pub show-requires-clause-lists : goal.show-requires-clause-lists
show-requires-clause-lists c =
    let a = c.args in
    board_listed a.sheet.now a.items.now a.results.now (sym c.lists_wrong.ensures ∙ c.if-lists_wrong.false)
    (sym c.some_no_item.ensures ∙ c.if-some_no_item.false)

pub returns : goal.returns
returns c =
    λ x.
    let a = c.args in
    board_done a.sheet.now a.table.now x a.items.now a.results.now (sym c.lists_wrong.ensures ∙ c.if-lists_wrong.false)
    (sym c.some_no_item.ensures ∙ c.if-some_no_item.false) (eqb-false (length a.items.now) 0 (sym c.is_empty.ensures ∙ c.if-is_empty.false)) _ _ c.show.ensures _ c.settle.ensures
