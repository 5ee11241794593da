-- `item::index_matches` meets its contract: std's `all` over the entries. Assumes nothing.
use Rattle.std.proofs.Common.{rules, tests}
use native.Mathlib.Omega.{arith}
use mathlib.Core.Path.{refl, ◌∙◌}
use lib.ListN.{length}
use Rattle.std.proofs.lemmas.Iterator.{YieldsList-from_range}
use Rattle.std.proofs.lemmas.Iterator.Search.{all_from_yields_List}
use Rattle.item.proofs.Offsets.{entry_same, compared}
use Rattle.item.proofs.index_matches.Goals as goal

pub returns : goal.returns
returns c =
    let index = c.args.index.now in
    let offsets = c.args.offsets.now in
    let n = length offsets in
    all_from_yields_List (entry_same index offsets c.requires) _ _ c.all.result c.all.ensures.ran (YieldsList-from_range 0 n n refl (omega arith)) (λ x b q k. search (rules, tests))
    ∙ compared index offsets c.requires n 0 (omega arith)
