-- Digits written into bytes: what the contract of the writer says. Assumes nothing.
use Rattle.std.specs.Prelude.{◌≡◌, ℕ, ◌+◌, List, ◌++◌, length, take, drop}
use Rattle.decimal.specs.Decimal.{digits}

-- the digits of m written into bytes from the place `at` on, and the place after them
pub record WithDigits (m at : ℕ) (before : List ℕ) (next : ℕ) (after : List ℕ) : Type 0 where
  pub place : next ≡ at + length (digits m)
  pub bytes : after ≡ take at before ++ digits m ++ drop next before
