-- `item::write_index` meets its contract. The loop's invariant: the entries written are those of the first k offsets. Assumes nothing.
use native.Mathlib.Omega.{arith}
use Prim.Native.Nat.{◌+◌, ◌*◌}
use mathlib.Core.Path.{◌≡◌, refl, ap, ◌∙◌}
use lib.ListN.{length, take}
use Rattle.layout.specs.Layout.{index_width}
use Rattle.item.specs.Offsets.{offset_bytes}
use Rattle.item.proofs.Offsets.{put_length, write_next, write_done}
use Rattle.item.proofs.write_index.Goals as goal

pub loop-k-init : goal.loop-k-init
unfolding offset_bytes
loop-k-init c = (c.requires, refl)

pub loop-k-preserved : goal.loop-k-preserved
loop-k-preserved c =
    let l = c.loop-k in
    let e = c.put_offset.ensures in
    let more = c.loop-k-test.true in (
      ap length e ∙ put_length l.index (index_width * l.k) _ ∙ l.invariant.0,
      ap (take (index_width * (l.k + 1))) e ∙ write_next c.args.offsets.now l.index l.k more (omega (arith, l.invariant.0, more)) l.invariant.1,
    )

pub returns : goal.returns
returns c =
    let l = c.loop-k in
    let all : l.k ≡ length c.args.offsets.now = omega (arith, c.loop-k-test.false, l.auto.k-end) in
    write_done _ _ l.invariant.0 (rw (← all) l.invariant.1)
