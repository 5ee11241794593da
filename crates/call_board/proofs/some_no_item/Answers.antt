-- `call_board::some_no_item` meets its contract. Assumes nothing.
use Prim.Native.Nat.{◌≤◌, ◌<◌}
use Rattle.std.proofs.Common.{rules, tests}
use Rattle.std.proofs.lemmas.Iterator.{cases_from_any}
use Rattle.circuit.specs.Board.{listed}
use Rattle.layout.specs.Opened.{sheet_of}
use Rattle.call_board.proofs.Chunks.{YieldsList-from_pairs}
use Rattle.call_board.proofs.Lists.{some_item}
use Rattle.call_board.proofs.some_no_item.Goals as goal

pub returns : goal.returns
returns c =
    let a = c.args in
    some_item (sheet_of a.sheet.now) (listed a.items.now) c.len-n.result c.any.result c.len-n.ensures
    (cases_from_any c.any.new.self _ _ (λ i. c.len-n.result ≤ i) (λ i. i < c.len-n.result) c.any.ensures.ran
    (YieldsList-from_pairs a.items.now c.chunks_exact.ensures.rest c.chunks_exact.ensures.size)
    (λ x q k. search (rules, tests)) (λ x q k. search (rules, tests)))
