-- The printer's answer, and what its contract says. Assumes nothing.
use Rattle.std.specs.Prelude.{◌≡◌, ℕ, cond, List, eqb, ℤ, pos, neg_ℤ, length, Result, Ok, Err}
use Rattle.cause.specs.Cause.{number_of}
use Rattle.cause.specs.declared.Cause.{Cause}
use Rattle.field.specs.Bytes.{over}
use Rattle.printer.specs.Printing.{print_cause, part_of}

-- the length of the part, or the number of the cause
pub data Printed : Type 0 where
  written : (length : ℕ) → Printed
  refused : (number : ℕ) → Printed

abbrev pub answer_meaning : Result ℕ Cause → Printed
answer_meaning (Ok n) = written n
answer_meaning (Err cause) = refused (number_of cause)

abbrev pub answer_of : ℕ → ℤ → ℕ → Printed
answer_of kind z count =
    cond (eqb (print_cause kind z count) 0) (written (length (part_of kind z count))) (refused (print_cause kind z count))

-- the answer as the C form gives it: the part's length, or the cause's number negated
abbrev pub code_of : Printed → ℤ
code_of (written n) = pos n
code_of (refused number) = neg_ℤ (pos number)

-- a text written at the front of bytes, and its length
pub record Front (text before : List ℕ) (count : ℕ) (after : List ℕ) : Type 0 where
  pub size : count ≡ length text
  pub bytes : after ≡ over text before

-- a call of the printer: its arguments, with the scratch bytes before it, its answer, and the scratch bytes after it
pub record Prints (kind : ℕ) (z : ℤ) (before : List ℕ) (answer : Result ℕ Cause) (after : List ℕ) : Type 0 where
  pub answers : answer_meaning answer ≡ answer_of kind z (length before)
  pub bytes : after ≡ over (part_of kind z (length before)) before

-- the same with the C form's answer
pub record PrintsCode (kind : ℕ) (z : ℤ) (before : List ℕ) (code : ℤ) (after : List ℕ) : Type 0 where
  pub answers : code ≡ code_of (answer_of kind z (length before))
  pub bytes : after ≡ over (part_of kind z (length before)) before
