-- `calls::size_for` meets its contract: no sheet needs more than the largest arrays have. Assumes nothing.
use native.Mathlib.Omega.{arith}
use Rattle.layout.specs.Layout.{item_limit, most_items}
use Rattle.layout.proofs.Rooms.{room_most}
use Rattle.calls.proofs.size_for.Goals as goal

pub returns-else-room-le-MEDIUM-clause-enough : goal.returns-else-room-le-MEDIUM-clause-enough
unfolding most_items item_limit
returns-else-room-le-MEDIUM-clause-enough c = omega (arith, c.room_for-room.ensures, room_most c.args.sheet.now)
