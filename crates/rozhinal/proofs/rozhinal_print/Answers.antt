-- `rozhinal_print` gives what `print_code` gives: a signed number is passed on as its bits, and read back. Assumes nothing.
use mathlib.Core.Path.{sym, subst₂}
use borrow.Author.Rules.{rules}
use Rattle.value.proofs.Signed.{back}
use Rattle.printer.specs.Contract.{PrintsCode}
use Rattle.rozhinal.proofs.rozhinal_print.Goals as goal

pub returns : goal.returns
returns c =
    let a = c.args in
    let p = c.print_code in
    subst₂ (λ z r. PrintsCode a.kind z a.scratch.now r p.new.scratch) (back a.number (search rules)) (sym (back p.result (search rules))) p.ensures
