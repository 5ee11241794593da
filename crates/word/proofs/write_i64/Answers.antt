-- `word::write_i64` meets its contract: the bytes copied are those of the number. Assumes nothing.
use Prim.Native.Nat.{◌+◌, ◌-◌}
use mathlib.Core.Path.{◌≡◌, ap, ◌∙◌}
use native.Mathlib.Omega.{arith}
use lib.ListN.{length}
use lib.Seq.{sets}
use mir.Syntax.{w64}
use mir.Val.{of_z}
use mir.ValLaws.{to_z-of_z}
use Rattle.word.specs.Word.{le_bytes, bytes64}
use Rattle.word.proofs.Bytes.{length_bytes64, le_bytes8, part_sets}
use Rattle.word.proofs.write_i64.Goals as goal

pub returns : goal.returns
returns c =
    let at = c.args.at in
    let read = to_z-of_z w64 c.args.v c.ranges.v in
    let bytes : c.copy_from_slice.new.self ≡ bytes64 c.args.v =
    c.copy_from_slice.ensures.after ∙ c.to_le_bytes.ensures ∙ le_bytes8 _ ∙ ap (λ z. le_bytes 8 (of_z w64 z)) read in
    let long = length_bytes64 c.args.v in
    let is : length c.copy_from_slice.new.self ≡ 8 = ap length bytes ∙ long in
    part_sets at (at + 8 - at) c.args.s.now c.copy_from_slice.new.self (omega arith) (omega arith) ∙ ap (sets c.args.s.now at) bytes
