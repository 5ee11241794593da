-- `field::cut_at` meets its contract: at each `return` the tests that led there say which way the cut goes.
-- Assumes nothing.
use native.Mathlib.Omega.{arith}
use mathlib.Core.Path.{sym}
use Rattle.field.proofs.Cutting.{cut_absent, cut_no_header, cut_no_content, cut_whole_at}
use Rattle.field.proofs.cut_at.Goals as goal

pub returns-then-n-at : goal.returns-then-n-at
returns-then-n-at c = sym (cut_absent _ _ c.if-n-at.true)

pub returns-then-n-at-lt-HEADER_LENGTH : goal.returns-then-n-at-lt-HEADER_LENGTH
returns-then-n-at-lt-HEADER_LENGTH c = sym (cut_no_header _ _ (omega arith) (omega arith))

pub returns-then-n-start : goal.returns-then-n-start
returns-then-n-start c = sym (cut_no_content _ _ (omega arith) (omega arith))

pub returns : goal.returns
returns c =
    let u = c.u16_at-len in
    sym (cut_whole_at _ _ u.result u.ensures.value (omega arith))
