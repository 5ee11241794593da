-- `call_swap::swap_lent` meets its contract. Assumes nothing.
use Rattle.std.proofs.Common.{rules, arith, sym, ap, ◌∙◌}
use mir.Syntax.{w64}
use mir.Val.{SFits}
use Rattle.cause.proofs.Exits.{exit}
use Rattle.circuit.specs.Swap.{no_swap}
use Rattle.field.proofs.Cutting.{slice_bytes}
use Rattle.value.proofs.Signed.{back}
use Rattle.call_swap.proofs.Swapping.{held_formed, by_held, stored_value, none_swapped, some_swapped, swap_items, swap_none, swap_beyond, swap_stored}
use Rattle.call_swap.proofs.swap_lent.Goals as goal

pub returns-in_err-i : goal.returns-in_err-i
returns-in_err-i c =
    λ x.
    let a = c.args in
    rw (exit c.from_residual.ensures.1) (swap_items a.sheet.now a.table.now x a.giver a.taker a.quantity _ c.in_err-i.ensures.number)

pub returns-then-no_swap : goal.returns-then-no_swap
returns-then-no_swap c =
    λ x.
    let a = c.args in
    let n = c.no_swap.ensures ∙ ap (no_swap a.giver a.taker) (back a.quantity c.ranges.quantity) in
    swap_none a.sheet.now a.table.now x a.giver a.taker a.quantity c.in_ok-i.ensures.number (sym c.if-no_swap.true ∙ n)

pub value_at-giver_holds-requires : goal.value_at-giver_holds-requires
value_at-giver_holds-requires c = omega (arith, c.in_ok-i.ensures.found.giver_low)

pub value_at-taker_holds-requires : goal.value_at-taker_holds-requires
value_at-taker_holds-requires c = omega (arith, c.in_ok-i.ensures.found.taker_low)

pub swap_results-requires : goal.swap_results-requires
swap_results-requires c =
    let e = c.in_ok-i.ensures.found in
    record {
      giver_formed = rw c.value_at-giver_holds.ensures (held_formed c.requires.lent _ e.giver_low);
      taker_formed = rw c.value_at-taker_holds.ensures (held_formed c.requires.lent _ e.taker_low);
    }

pub returns-in_err-results : goal.returns-in_err-results
returns-in_err-results c =
    λ x.
    let a = c.args in
    let n = c.no_swap.ensures ∙ ap (no_swap a.giver a.taker) (back a.quantity c.ranges.quantity) in
    let e = c.in_ok-i.ensures.found in
    let held =
    by_held a.table.now a.giver a.taker _ _ a.quantity _ _ _ e.giver_is e.taker_is c.ranges.quantity
    c.value_at-giver_holds.ensures c.value_at-taker_holds.ensures c.swap_results.ensures in
    let p = exit c.from_residual-in_err-results.ensures.1 in
    let r = none_swapped _ held c.in_err-results.ensures.value in
    rw (p, r.0) (swap_beyond a.sheet.now a.table.now x a.giver a.taker a.quantity c.in_ok-i.ensures.number (sym c.if-no_swap.false ∙ n) r.1)

pub store_posting-requires : goal.store_posting-requires
store_posting-requires c = record { record_there = omega (arith, c.in_ok-i.ensures.found.giver_low) }

pub store_posting-requires-2 : goal.store_posting-requires-2
store_posting-requires-2 c = record { record_there = omega (arith, c.in_ok-i.ensures.found.taker_low, c.store_posting.auto.table) }

pub returns : goal.returns
returns c =
    λ x.
    let a = c.args in
    let q = c.requires in
    let e = c.in_ok-i.ensures.found in
    let n = c.no_swap.ensures ∙ ap (no_swap a.giver a.taker) (back a.quantity c.ranges.quantity) in
    let r = c.in_ok-results.results in
    let fits-left : SFits w64 r.left = search rules in
    let fits-come : SFits w64 r.come = search rules in
    let held =
    by_held a.table.now a.giver a.taker _ _ a.quantity _ _ _ e.giver_is e.taker_is c.ranges.quantity
    c.value_at-giver_holds.ensures c.value_at-taker_holds.ensures c.swap_results.ensures in
    swap_stored a.sheet.now a.table.now x a.giver a.taker a.quantity c.in_ok-i.ensures.number (sym c.if-no_swap.false ∙ n)
    q.lent (slice_bytes a.table.now (search rules)) q.owes (rw e.giver_is at e.giver_low) (rw e.taker_is at e.taker_low)
    (rw e.giver_is at e.giver_entry) (rw e.taker_is at e.taker_entry) _ r.left r.come (some_swapped _ held c.in_ok-results.ensures.value)
    c.store_posting.new.table c.store_posting-2.new.table
    (stored_value a.table.now _ _ a.giver _ r.left e.giver_is c.number.ensures fits-left c.store_posting.ensures)
    (stored_value c.store_posting.new.table _ _ a.taker _ r.come e.taker_is c.number-2.ensures fits-come c.store_posting-2.ensures)
