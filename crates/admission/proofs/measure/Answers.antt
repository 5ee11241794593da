-- `admission::measure` meets its contract. Assumes nothing.
use Rattle.cause.proofs.Exits.{exit}
use Rattle.admission.proofs.Admitting.{measured_refused, scanned}
use Rattle.admission.proofs.measure.Goals as goal

pub returns-in_err-opened : goal.returns-in_err-opened
returns-in_err-opened c =
    let a = c.args in
    let k = c.in_err-opened.ensures in
    let p = exit c.from_residual.ensures.1 in
    record { answer = rw p (measured_refused a.sheet.now a.index_len a.table_len _ _ k.answer); found = scanned k.found k.leveled }

pub returns-then-index_len-opened-clause-found : goal.returns-then-index_len-opened-clause-found
returns-then-index_len-opened-clause-found c = scanned c.in_ok-opened.ensures.found c.in_ok-opened.ensures.leveled

pub returns-clause-found : goal.returns-clause-found
returns-clause-found c = scanned c.in_ok-opened.ensures.found c.in_ok-opened.ensures.leveled
