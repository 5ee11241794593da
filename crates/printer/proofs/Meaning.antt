-- The printer's answer: its number, its size, and its one number. Assumes nothing.
use Prim.Native.Nat.{ℕ, ◌≤◌}
use mathlib.Core.Path.{◌≡◌, refl, sym}
use mathlib.Core.Bool.{Bool, true, false, cond}
use mathlib.Core.List.{[]}
use mathlib.Core.Option.{Option, none, some}
use native.Mathlib.Omega.{arith}
use borrow.Author.Tests.{eqb-true}
use lib.Dec.{eqb}
use lib.IntN.{ℤ}
use lib.ListN.{length}
use Rattle.circuit.specs.Value.{Value}
use Rattle.value.specs.Meaning.{parts_of}
use Rattle.circuit.proofs.Parts.{parts_some}
use Rattle.printer.specs.Printing.{text_of, print_cause, part_of}
use Rattle.printer.specs.Contract.{written, refused, answer_of}
use Rattle.printer.proofs.Answers.{refusal_of}
use Rattle.printer.proofs.Notation.{longest, printed_fits}

-- the answer's number is the first cause that holds
pub refusal_is : (kind : ℕ) (z : ℤ) (count : ℕ) → refusal_of (answer_of kind z count) ≡ print_cause kind z count
refusal_is kind z count = go (print_cause kind z count) (length (part_of kind z count)) (eqb (print_cause kind z count) 0) refl
  where
    go : (k n : ℕ) (b : Bool) → eqb k 0 ≡ b → refusal_of (cond b (written n) (refused k)) ≡ k
    go k n true e = sym (eqb-true k 0 e)
    go k n false e = refl

-- ---- the answer's size

pub part_small : (kind : ℕ) (z : ℤ) (count : ℕ) → length (part_of kind z count) ≤ longest
part_small kind z count = go (eqb (print_cause kind z count) 0) (parts_of kind z) refl
  where
    go : (b : Bool) (o : Option Value) → parts_of kind z ≡ o → length (cond b (text_of o) []) ≤ longest
    go true none e = omega arith
    go true (some v) e = printed_fits v (parts_some kind z v e).formed
    go false o e = omega arith
