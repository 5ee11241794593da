-- `printer::print_into` meets its contract. Assumes nothing.
use Rattle.std.proofs.Common.{rules, ◌≡◌, Some, None, Err}
use mir.Syntax.{w64}
use mir.ValLaws.{to_z-of_z}
use Rattle.cause.specs.declared.Cause.TheVariants.{Form}
use Rattle.printer.proofs.Values.{formed, unformed, refused_value, refused_scratch, accepted}
use Rattle.printer.proofs.print_into.Goals as goal

pub returns-in_err-v : goal.returns-in_err-v
returns-in_err-v c =
    let none : c.from_parts.result ≡ None = search rules in
    let form : c.from_residual.result ≡ Err Form = search rules in
    rw form (refused_value c.args.kind c.args.number c.args.scratch.now (unformed c.args.kind (to_z-of_z w64 c.args.number c.ranges.number) c.from_parts.ensures none))

pub returns-then-scratch-lt-LEAST_SCRATCH : goal.returns-then-scratch-lt-LEAST_SCRATCH
returns-then-scratch-lt-LEAST_SCRATCH c =
    let some : c.from_parts.result ≡ Some c.in_ok-v.v = search rules in
    let value = formed c.args.kind (to_z-of_z w64 c.args.number c.ranges.number) c.from_parts.ensures some in
    refused_scratch c.args.kind c.args.number _ value c.args.scratch.now c.if-scratch-lt-LEAST_SCRATCH.true

pub returns : goal.returns
returns c =
    let some : c.from_parts.result ≡ Some c.in_ok-v.v = search rules in
    let value = formed c.args.kind (to_z-of_z w64 c.args.number c.ranges.number) c.from_parts.ensures some in
    accepted c.args.kind c.args.number _ value c.args.scratch.now _ _ c.if-scratch-lt-LEAST_SCRATCH.false c.put_value.ensures
