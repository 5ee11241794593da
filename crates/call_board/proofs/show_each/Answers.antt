-- `call_board::show_each` meets its contract: the loop looks the items up in list order. Assumes nothing.
use Prim.Native.Nat.{◌+◌}
use native.Mathlib.Omega.{arith}
use mathlib.Core.Path.{◌∙◌}
use Rattle.call_board.proofs.Chunks.{passed_start, next_item, no_more}
use Rattle.call_board.proofs.Showing.{showing_start, showing_low, showing_room, showing_next, showing_done}
use Rattle.call_board.proofs.show_each.Goals as goal

pub loop-k-init : goal.loop-k-init
loop-k-init c =
    let p = c.requires in
    let k = c.enumerate-k-items.ensures in
    let pairs = c.chunks_exact.ensures in
    rw c.into_iter-k-iterator.ensures.into_iter_gives (record {
      passed = passed_start _ _ c.args.items.now k.source k.count pairs.rest pairs.size;
      showing = rw k.count (showing_start p.lent p.right);
    })

pub look_up-seen-requires-clause-lent : goal.look_up-seen-requires-clause-lent
look_up-seen-requires-clause-lent c = c.loop-k.invariant.showing.lent

pub look_up-seen-requires-clause-right : goal.look_up-seen-requires-clause-right
look_up-seen-requires-clause-right c = c.loop-k.invariant.showing.right

pub look_up-seen-requires-clause-within : goal.look_up-seen-requires-clause-within
look_up-seen-requires-clause-within c =
    let n = next_item {t = c.next.new.self} c.loop-k.invariant.passed c.in-Some.k c.in-Some.pair c.in-Some.ensures.steps in
    let showing = rw (← n.place_is) at c.loop-k.invariant.showing in
    showing_low c.requires.lists showing n.more c.u16_at.result (c.u16_at.ensures.value ∙ n.item_is)

pub write_result-requires : goal.write_result-requires
write_result-requires c =
    let n = next_item {t = c.next.new.self} c.loop-k.invariant.passed c.in-Some.k c.in-Some.pair c.in-Some.ensures.steps in
    let showing = rw (← n.place_is) at c.loop-k.invariant.showing in
    showing_room c.requires.lists showing n.more

pub loop-k-preserved : goal.loop-k-preserved
loop-k-preserved c =
    let n = next_item {t = c.next.new.self} c.loop-k.invariant.passed c.in-Some.k c.in-Some.pair c.in-Some.ensures.steps in
    let showing = rw (← n.place_is) at c.loop-k.invariant.showing in
    let i = c.u16_at in
    let u = c.look_up-seen in
    record {
      passed = n.passed_next;
      showing = rw n.count_is (showing_next c.requires.lists showing n.more i.result (i.ensures.value ∙ n.item_is) u.auto.table
          (u.ensures (i.result + 1) (omega arith)) c.write_result.ensures);
    }

pub returns : goal.returns
returns c =
    let i = c.loop-k.invariant in
    showing_done c.requires.lists i.showing (no_more i.passed c.in-None.ensures.steps)
