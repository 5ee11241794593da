-- The printer: what is printed of a value, and what turns a call back. Assumes nothing.
use Rattle.std.specs.Prelude.{ℕ, Bool, cond, List, [], ◌∷◌, eqb, ltb, ℤ}
use Rattle.std.proofs.Math.Option.{Option, none, some}
use Rattle.circuit.specs.Calls.{is_none, test, first_cause}
use Rattle.circuit.specs.Value.{Value, null, out, num}
use Rattle.value.specs.Meaning.{parts_of}
use Rattle.decimal.specs.Decimal.{decimal, minus}

-- NULL is `-`, OUT is the letters O, U and T, a number is decimal
abbrev pub printed : Value → List ℕ
printed null = minus ∷ []
printed out = 79 ∷ 85 ∷ 84 ∷ []
printed (num z) = decimal z

-- what is printed, if there is a value
abbrev pub text_of : Option Value → List ℕ
text_of none = []
text_of (some v) = printed v

-- the fewest bytes of scratch that the printer takes
abbrev pub least_scratch : ℕ
least_scratch = 20

-- the printer's causes: the kind is not 1 to 3, or the number is out of form or range; the scratch is under 20 bytes
abbrev pub no_value : ℕ → ℤ → Bool
no_value kind z = is_none (parts_of kind z)

abbrev pub scratch_short : ℕ → Bool
scratch_short count = ltb count least_scratch

-- the cause that turns back a call with a kind, a number and so many scratch bytes
abbrev pub print_cause : ℕ → ℤ → ℕ → ℕ
print_cause kind z count = first_cause (test 10 (no_value kind z) ∷ test 15 (scratch_short count) ∷ [])

-- the part that is handed back: the value's text, and nothing if the call is turned back
abbrev pub part_of : ℕ → ℤ → ℕ → List ℕ
part_of kind z count = cond (eqb (print_cause kind z count) 0) (text_of (parts_of kind z)) []
