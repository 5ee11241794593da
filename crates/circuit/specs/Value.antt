-- Values, and the range of their numbers. A value is NULL, OUT or a number; UNK is none of them: only a cell of the
-- work table can be without a value. Assumes nothing.
use Rattle.std.specs.Prelude.{ℕ, Bool, true, false, cond, leb, eqb, ℤ, pos, negsuc, nat_abs}
use Rattle.std.proofs.Math.Option.{Option, none, some}

-- The range: numbers run from -limit to limit, in grams. The only place of the definitions that has its size.
unfoldable pub limit : ℕ
limit = 1_000_000_000_000_000

unfoldable pub in_range : ℤ → Bool
in_range z = leb (nat_abs z) limit

pub data Value : Type 0 where
  -- NULL: nothing recorded
  null : Value
  -- OUT: arithmetic left the range
  out : Value
  num : ℤ → Value

abbrev pub is_null : Value → Bool
is_null null = true
is_null out = false
is_null (num z) = false

abbrev pub is_out : Value → Bool
is_out null = false
is_out out = true
is_out (num z) = false

-- what the engine's values are: numbers within the range
abbrev pub well_formed : Value → Bool
well_formed null = true
well_formed out = true
well_formed (num z) = in_range z

-- an exact result: OUT if it is beyond the range
abbrev pub ranged : ℤ → Value
ranged z = cond (in_range z) (num z) out

abbrev pub same_number : ℤ → ℤ → Bool
same_number (pos a) (pos b) = eqb a b
same_number (pos a) (negsuc b) = false
same_number (negsuc a) (pos b) = false
same_number (negsuc a) (negsuc b) = eqb a b

-- equal values
abbrev pub same : Value → Value → Bool
same null null = true
same null out = false
same null (num y) = false
same out null = false
same out out = true
same out (num y) = false
same (num x) null = false
same (num x) out = false
same (num x) (num y) = same_number x y

-- A value in numbers, as the work table, a reading, a posting and the printer have it: its kind (1 NULL, 2 OUT,
-- 3 a number; 0 stands for UNK, which is no value) and its number, 0 unless the kind is 3.
abbrev pub kind_of : Value → ℕ
kind_of null = 1
kind_of out = 2
kind_of (num z) = 3

abbrev pub number_of : Value → ℤ
number_of null = pos 0
number_of out = pos 0
number_of (num z) = z

-- The value of a kind and a number, if they are in form: kind 1, 2 or 3, number 0 unless the kind is 3, and then within
-- the range.
unfoldable pub parts_of : ℕ → ℤ → Option Value
parts_of kind number =
    cond (eqb kind 1) (cond (same_number number (pos 0)) (some null) none)
    (cond (eqb kind 2) (cond (same_number number (pos 0)) (some out) none)
    (cond (eqb kind 3) (cond (in_range number) (some (num number)) none)
    none))

-- A value kept as its kind and its number. What was made by a value's own kind and number is that value again; no value has
-- a kind other than 1, 2 and 3, and any other reads as 3.
abbrev pub of_parts : ℕ → ℤ → Value
of_parts kind number = cond (eqb kind 1) null (cond (eqb kind 2) out (num number))
