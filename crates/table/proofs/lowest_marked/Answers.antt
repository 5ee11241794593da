-- `table::lowest_marked` meets its contract: std's search over a range finds the first. Assumes nothing.
use mathlib.Core.Path.{◌≡◌}
use mathlib.Core.Bool.{true, false}
use borrow.Author.Tests.{tests}
use Rattle.std.proofs.Common.{rules}
use Rattle.std.proofs.lemmas.Iterator.{first_from_Range}
use Rattle.circuit.specs.Table.{is_marked}
use Rattle.table.specs.Bytes.{decode_table}
use Rattle.table.proofs.Marks.{lowest_found}
use Rattle.table.proofs.lowest_marked.Goals as goal

pub returns : goal.returns
returns c =
    lowest_found (decode_table c.args.table.now) c.args.n c.find.result
    (first_from_Range _ _ _ c.find.result (λ i. is_marked (decode_table c.args.table.now i) ≡ true) (λ i. is_marked (decode_table c.args.table.now i) ≡ false) c.find.ensures.ran
    (λ x q k. search (rules, tests)) (λ x q k. search (rules, tests)))
