-- The number of the printer's answer. Assumes nothing.
use Prim.Native.Nat.{ℕ}
use Rattle.printer.specs.Contract.{Printed, written, refused}

-- the number of "Turned back", 0 if accepted
abbrev pub refusal_of : Printed → ℕ
refusal_of (written n) = 0
refusal_of (refused number) = number
