-- What a line of the program works out. Assumes nothing.
use Rattle.circuit.specs.Value.{Value, null, out, num, ranged}

-- a value whose number is tested against the range
abbrev pub tested : Value → Value
tested null = null
tested out = out
tested (num z) = ranged z
