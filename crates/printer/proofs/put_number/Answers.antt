-- `printer::put_number` meets its contract. Assumes nothing.
use Rattle.std.proofs.Common.{sym, ap, ◌∙◌, arith, length, length-set, pos}
use lib.IntN.{nat_abs}
use lib.Signed.{lt_z}
use mir.Syntax.{w64}
use mir.ValLaws.{to_z-of_z}
use Rattle.decimal.specs.Decimal.{digits}
use Rattle.printer.proofs.Values.{magnitude_fits, number_below, number_above}
use Rattle.printer.proofs.put_number.Goals as goal

pub put_digits-requires : goal.put_digits-requires
put_digits-requires c =
    let m = c.unsigned_abs-m.ensures.value ∙ ap nat_abs (to_z-of_z w64 c.args.z c.ranges.z) in
    simp length-set (omega (arith, ap (λ k. length (digits k)) m, magnitude_fits c.args.z c.ranges.z, c.requires))

pub returns-then-z-lt0 : goal.returns-then-z-lt0
returns-then-z-lt0 c =
    let read = to_z-of_z w64 c.args.z c.ranges.z in
    number_below c.args.z c.args.scratch.now _ _ _
    (sym (ap (λ x. lt_z x (pos 0)) read) ∙ c.if-z-lt0.true)
    (c.unsigned_abs-m.ensures.value ∙ ap nat_abs read)
    (omega (arith, c.requires))
    c.put_digits.ensures

pub put_digits-requires-2 : goal.put_digits-requires-2
put_digits-requires-2 c =
    let m = c.unsigned_abs-m.ensures.value ∙ ap nat_abs (to_z-of_z w64 c.args.z c.ranges.z) in
    omega (arith, ap (λ k. length (digits k)) m, magnitude_fits c.args.z c.ranges.z, c.requires)

pub returns : goal.returns
returns c =
    let read = to_z-of_z w64 c.args.z c.ranges.z in
    number_above c.args.z c.args.scratch.now _ _ _
    (sym (ap (λ x. lt_z x (pos 0)) read) ∙ c.if-z-lt0.false)
    (c.unsigned_abs-m.ensures.value ∙ ap nat_abs read)
    c.put_digits-2.ensures
