-- `owing::owe` meets its contract. The loop's invariant: each item's byte says whether some child from c on leans. Assumes nothing.
use native.Mathlib.Omega.{arith}
use Prim.Native.Nat.{◌-◌}
use mathlib.Core.Path.{refl}
use Rattle.std.proofs.Common.{rules}
use Rattle.item.proofs.Located.{sheet_ordered, parents_low}
use Rattle.owing.proofs.Passing.{passed_start, passed_over, passed_on, passed_done}
use Rattle.owing.proofs.owe.Goals as goal

pub loop-c-init : goal.loop-c-init
loop-c-init c =
    passed_start _ (sheet_ordered c.args.sheet.now) _ _ _ _ c.len-c.ensures refl (omega (arith, c.requires.roomy, c.fill.ensures.len)) (λ i h. search rules)

pub leans-requires : goal.leans-requires
leans-requires c =
    let p = c.loop-c.invariant in
    record { recorded = omega (arith, c.requires.recorded, p.within, c.loop-c-test.true); roomy = omega (arith, p.within, p.fits, p.kept, c.loop-c-test.true) }

pub owe_parents-requires : goal.owe_parents-requires
owe_parents-requires c =
    let p = c.loop-c.invariant in
    parents_low c.args.sheet.now (c.loop-c.c - 1) _ c.item.ensures (omega (arith, p.within, c.loop-c-test.true)) _ (omega (arith, p.fits, p.kept))

pub loop-c-preserved-then-leans : goal.loop-c-preserved-then-leans
loop-c-preserved-then-leans c =
    rw (c.owe_parents.ensures, c.item.ensures)
    (passed_on _ (sheet_ordered c.args.sheet.now) _ _ c.loop-c.c (c.loop-c.c - 1) (omega (arith, c.loop-c-test.true)) _ c.loop-c.invariant _ c.leans.ensures c.if-leans.true)

pub loop-c-preserved : goal.loop-c-preserved
loop-c-preserved c =
    passed_over _ (sheet_ordered c.args.sheet.now) _ _ c.loop-c.c (c.loop-c.c - 1) (omega (arith, c.loop-c-test.true)) _ c.loop-c.invariant _ c.leans.ensures
    c.if-leans.false

pub returns : goal.returns
returns c = passed_done _ (sheet_ordered c.args.sheet.now) _ _ _ _ c.loop-c.invariant (omega (arith, c.loop-c-test.false))
