-- `sheet_cases::run` meets its contract. Assumes nothing.
use mathlib.Core.Path.{refl}
use Rattle.layout.specs.Layout.{most_items, item_limit}
use Rattle.sheet_cases.proofs.run.Goals as goal

pub loop-next-init : goal.loop-next-init
unfolding most_items item_limit
loop-next-init c = (refl, refl)
