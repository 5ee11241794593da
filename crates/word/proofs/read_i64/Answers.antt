-- `word::read_i64` meets its contract: the sum of the bytes copied, each times its power, is the number. Assumes nothing.
use Prim.Native.Nat.{◌+◌, ◌-◌}
use mathlib.Core.Path.{◌≡◌, ap, ◌∙◌}
use native.Mathlib.Omega.{arith}
use lib.ListN.{take, drop}
use mir.Syntax.{w64}
use mir.Val.{to_z}
use mir.ValLaws.{to_z-of_z}
use Rattle.std.specs.Int.{from_le_bytes}
use Rattle.word.proofs.Bytes.{part8}
use Rattle.word.proofs.read_i64.Goals as goal

pub returns : goal.returns
returns c =
    let r = c.from_le_bytes in
    let s = c.args.s.now in
    let at = c.args.at in
    let eight : at + 8 - at ≡ 8 = omega arith in
    to_z-of_z w64 r.result (record { sfits = r.type_inv }) ∙ r.ensures
    ∙ ap (λ bs. to_z w64 (from_le_bytes w64 bs)) (c.copy_from_slice.ensures.after ∙ ap (λ k. take k (drop at s)) eight) ∙ ap (to_z w64) (part8 s at)
