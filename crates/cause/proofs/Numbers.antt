-- Laws of the causes' numbers. Assumes nothing.
use mathlib.Core.Path.{◌≡◌}
use native.Mathlib.Omega.{arith}
use Rattle.cause.specs.Cause.{number_of}
use Rattle.cause.specs.declared.Cause.{Cause}
use Rattle.cause.specs.declared.Cause.TheVariants.{Cut, Tag, LengthOrName, EditionOrCount, Rule, Parent, Level, Lengths, Index, Form, NoItem, WrongItem, Amount, NoMark, Scratch, DayField, List, Swap, TooLong}

-- no cause has the number 0, which stands for none
pub number_some : (c : Cause) → number_of c ≡ 0 → ⊥
number_some Cut e = absurd (omega arith)
number_some Tag e = absurd (omega arith)
number_some LengthOrName e = absurd (omega arith)
number_some EditionOrCount e = absurd (omega arith)
number_some Rule e = absurd (omega arith)
number_some Parent e = absurd (omega arith)
number_some Level e = absurd (omega arith)
number_some Lengths e = absurd (omega arith)
number_some Index e = absurd (omega arith)
number_some Form e = absurd (omega arith)
number_some NoItem e = absurd (omega arith)
number_some WrongItem e = absurd (omega arith)
number_some Amount e = absurd (omega arith)
number_some NoMark e = absurd (omega arith)
number_some Scratch e = absurd (omega arith)
number_some DayField e = absurd (omega arith)
number_some List e = absurd (omega arith)
number_some Swap e = absurd (omega arith)
number_some TooLong e = absurd (omega arith)
