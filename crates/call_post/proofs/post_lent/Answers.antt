-- `call_post::post_lent` meets its contract. Assumes nothing.
use Rattle.std.proofs.Common.{rules, ap, ◌∙◌}
use Rattle.field.proofs.Cutting.{slice_bytes}
use Rattle.value.proofs.Signed.{back}
use Rattle.cause.proofs.Exits.{exit}
use Rattle.circuit.specs.Calls.{posted_value}
use Rattle.call_post.proofs.Posting.{post_item, post_value, post_stored, some_posted, none_posted}
use Rattle.call_post.proofs.post_lent.Goals as goal

pub returns-in_err-i : goal.returns-in_err-i
returns-in_err-i c =
    λ x.
    let a = c.args in
    rw (exit c.from_residual.ensures.1) (post_item a.sheet.now a.table.now x a.item a.kind a.number _ c.in_err-i.ensures.number)

pub returns-in_err-value : goal.returns-in_err-value
returns-in_err-value c =
    λ x.
    let a = c.args in
    let p = exit c.from_residual-in_err-value.ensures.1 in
    let v = none_posted _ (c.posted.ensures ∙ ap (posted_value a.kind) (back a.number c.ranges.number)) c.in_err-value.ensures.value in
    rw (p, v.0) (post_value a.sheet.now a.table.now x a.item a.kind a.number c.in_ok-i.ensures.number v.1)

pub returns : goal.returns
returns c =
    λ x.
    let a = c.args in
    let p = c.requires in
    let i = c.in_ok-i in
    let found = i.ensures.found in
    let v = some_posted _ (c.posted.ensures ∙ ap (posted_value a.kind) (back a.number c.ranges.number)) c.in_ok-value.ensures.value in
    post_stored a.sheet.now a.table.now x a.item a.kind a.number i.ensures.number _ p.lent (slice_bytes a.table.now (search rules)) p.owes
    (rw found.0 at found.1) (rw found.0 at i.ensures.kind) _ v _ (rw found.0 at c.store_posting.ensures)
