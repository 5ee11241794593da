-- `item::write_index` meets its contract. The loop's invariant: the entries written are those of the first k offsets. Assumes nothing.
use mathlib.Core.Path.{◌≡◌}
use Prim.Native.Nat.{◌*◌}
use lib.ListN.{length, take}
use Rattle.layout.specs.Layout.{index_width}
use Rattle.item.specs.Offsets.{offset_bytes}
use Rattle.item.proofs.write_index.Given as goal

abbrev pub invariant-loop-k : goal.invariant-loop-k
invariant-loop-k l = (length l.index ≡ index_width * length l.offsets) × (take (index_width * l.k) l.index ≡ offset_bytes (take l.k l.offsets))
