-- `sheet::level_over` meets its contract. Assumes nothing.
use native.Mathlib.Omega.{arith}
use mathlib.Core.Path.{ap, ◌∙◌}
use Prim.Native.Nat.{max}
use Rattle.sheet.proofs.Levels.{left_start, left_fails, left_next, left_end}
use Rattle.sheet.proofs.level_over.Goals as goal

pub loop-pair-init : goal.loop-pair-init
loop-pair-init c =
    let pairs = c.chunks_exact-pair-items.ensures in
    rw c.into_iter-pair-iterator.ensures.into_iter_gives (record {
      left = left_start c.args.levels.now c.args.parents.now pairs.rest pairs.size;
      small = omega arith;
    })

pub returns-then-levels-parent : goal.returns-then-levels-parent
returns-then-levels-parent c =
    let u = c.u16_at-parent in
    left_fails _ c.loop-pair.invariant.left c.next.new.self c.in-Some.pair c.in-Some.ensures.steps u.result u.ensures.value (omega arith)

pub loop-pair-preserved : goal.loop-pair-preserved
loop-pair-preserved c =
    let l = c.loop-pair in
    let u = c.u16_at-parent in
    record {
      left = left_next _ l.invariant.left c.next.new.self c.in-Some.pair c.in-Some.ensures.steps u.result u.ensures.value (omega arith)
          c.max-highest.result (c.max-highest.ensures ∙ ap (max l.highest) c.from.ensures);
      small = omega arith;
    }

pub returns : goal.returns
returns c = left_end _ c.loop-pair.invariant.left c.next.new.self c.in-None.ensures.steps
