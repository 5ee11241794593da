-- `sheet::name_allowed` meets its contract. Assumes nothing.
use Rattle.std.proofs.Common.{rules, tests}
use native.Mathlib.Omega.{arith}
use mathlib.Core.Path.{◌∙◌}
use Rattle.std.proofs.lemmas.Iterator.{YieldsList-from_slice}
use Rattle.std.proofs.lemmas.Iterator.Search.{all_from_yields_List}
use Rattle.layout.specs.Layout.{name_byte, name_limit}
use Rattle.sheet.proofs.Lists.{all_listed}
use Rattle.sheet.proofs.Names.{name_tested}
use Rattle.sheet.proofs.name_allowed.Goals as goal

pub returns-in-1-to-16 : goal.returns-in-1-to-16
unfolding name_limit
returns-in-1-to-16 c =
    let name = c.args.name.now in
    all_from_yields_List name_byte _ _ c.all.result c.all.ensures.ran (YieldsList-from_slice name cc) (λ x b q k. search (rules, tests))
    ∙ all_listed name_byte name
    ∙ name_tested name (omega arith) (omega arith)
