-- The numbers of the causes, and the number and the offset that a result stands for: 0 where nothing is refused. Assumes nothing.
use Rattle.std.specs.Prelude.{ℕ, Result, Ok, Err}
use Rattle.cause.specs.declared.Cause.{Cause}
use Rattle.cause.specs.declared.Cause.TheVariants.{Cut, Tag, LengthOrName, EditionOrCount, Rule, Parent, Level, Lengths, Index, Form, NoItem, WrongItem, Amount, NoMark, Scratch, DayField, List, Swap, TooLong}
use Rattle.cause.specs.declared.Fault.{Fault}

abbrev pub number_of : Cause → ℕ
number_of Cut = 1
number_of Tag = 2
number_of LengthOrName = 3
number_of EditionOrCount = 4
number_of Rule = 5
number_of Parent = 6
number_of Level = 7
number_of Lengths = 8
number_of Index = 9
number_of Form = 10
number_of NoItem = 11
number_of WrongItem = 12
number_of Amount = 13
number_of NoMark = 14
number_of Scratch = 15
number_of DayField = 16
number_of List = 17
number_of Swap = 18
number_of TooLong = 19

-- the cause's number
abbrev pub number_in : {A : Type 0} → Result A Cause → ℕ
number_in (Ok a) = 0
number_in (Err c) = number_of c

-- the same of a refusal at an offset, and that offset
abbrev pub fault_number : {A : Type 0} → Result A Fault → ℕ
fault_number (Ok a) = 0
fault_number (Err f) = number_of f.cause

abbrev pub fault_offset : {A : Type 0} → Result A Fault → ℕ
fault_offset (Ok a) = 0
fault_offset (Err f) = f.offset
