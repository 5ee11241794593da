-- `owing::owed_matches` meets its contract: std's `all` over the items. Assumes nothing.
use mathlib.Core.Path.{◌≡◌, refl}
use native.Mathlib.Omega.{arith}
use mathlib.Core.Bool.{true, false}
use lib.ListN.{length}
use borrow.Author.Tests.{tests}
use Rattle.std.proofs.Common.{rules}
use Rattle.std.proofs.lemmas.Iterator.{cases_from_all, YieldsList-from_range}
use Rattle.owing.proofs.Writing.{matches, all_found}
use Rattle.owing.proofs.owed_matches.Goals as goal

pub returns : goal.returns
returns c =
    all_found (matches c.args.table.now c.args.owed.now) (length c.args.owed.now) c.all.result
    (cases_from_all _ _ c.all.result (λ i. matches c.args.table.now c.args.owed.now i ≡ true) (λ i. matches c.args.table.now c.args.owed.now i ≡ false) c.all.ensures.ran
    (YieldsList-from_range 0 (length c.args.owed.now) (length c.args.owed.now) refl (omega arith)) (λ x q k. search (rules, tests)) (λ x q k. search (rules, tests)))
