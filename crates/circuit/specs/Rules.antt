-- The rules of the figures, row by row, on the exact integers. A rule takes its parents' values in their listed order.
-- Assumes nothing.
use Rattle.std.specs.Prelude.{ℕ, ◌/◌, Bool, false, cond, ◌&&◌, ◌||◌, List, [], ◌∷◌, leb, eqb, ℤ, pos, negsuc, ◌+ℤ◌, ◌-ℤ◌, ◌*ℤ◌, length, get_or}
use Rattle.std.proofs.Math.Option.{Option, none, some}
use Rattle.std.specs.Int.Signed.{le_z, lt_z}
use Rattle.circuit.specs.Value.{Value, null, out, num, is_null, is_out, ranged}

pub data Operation : Type 0 where
  sum difference smallest largest share choice count at_least : Operation

-- the column "Code"
unfoldable pub coded : ℕ → Option Operation
coded code =
    cond (eqb code 1) (some sum)
    (cond (eqb code 2) (some difference)
    (cond (eqb code 3) (some smallest)
    (cond (eqb code 4) (some largest)
    (cond (eqb code 5) (some share)
    (cond (eqb code 6) (some choice)
    (cond (eqb code 7) (some count)
    (cond (eqb code 8) (some at_least) none)))))))

-- the most parents that a figure lists
unfoldable pub max_parents : ℕ
max_parents = 16

unfoldable pub one_or_more : ℕ → Bool
one_or_more n = leb 1 n && leb n max_parents

-- the column "Parents"
unfoldable pub count_allowed : Operation → ℕ → Bool
count_allowed sum n = one_or_more n
count_allowed difference n = eqb n 2
count_allowed smallest n = one_or_more n
count_allowed largest n = one_or_more n
count_allowed share n = eqb n 2
count_allowed choice n = eqb n 3
count_allowed count n = one_or_more n
count_allowed at_least n = eqb n 2

abbrev pub allowed : Option Operation → ℕ → Option Operation
allowed none n = none
allowed (some op) n = cond (count_allowed op n) (some op) none

-- the operation of a rule code with n parents, or none: refusal 5
unfoldable pub operation_of : ℕ → ℕ → Option Operation
operation_of code n = allowed (coded code) n

-- The non-NULL, in order. (OUT never gets here: the rules that use it are `strict`.)
unfoldable pub numbers : List Value → List ℤ
numbers [] = []
numbers (null ∷ vs) = numbers vs
numbers (out ∷ vs) = numbers vs
numbers (num z ∷ vs) = z ∷ numbers vs

-- NULL if there is no number, else the exact result of the numbers, of which there is a first
abbrev pub of_numbers : (ℤ → List ℤ → ℤ) → List ℤ → Value
of_numbers f [] = null
of_numbers f (z ∷ zs) = ranged (f z zs)

unfoldable pub total : ℤ → List ℤ → ℤ
total z [] = z
total z (y ∷ zs) = total (z +ℤ y) zs

abbrev pub lesser : ℤ → ℤ → ℤ
lesser x y = cond (le_z x y) x y

abbrev pub greater : ℤ → ℤ → ℤ
greater x y = cond (le_z x y) y x

unfoldable pub least : ℤ → List ℤ → ℤ
least z [] = z
least z (y ∷ zs) = least (lesser z y) zs

unfoldable pub greatest : ℤ → List ℤ → ℤ
greatest z [] = z
greatest z (y ∷ zs) = greatest (greater z y) zs

abbrev pub how_many : ℤ → List ℤ → ℤ
how_many z zs = pos (length (z ∷ zs))

-- NULL as 0
abbrev pub or_zero : Value → ℤ
or_zero null = pos 0
or_zero out = pos 0
or_zero (num z) = z

abbrev pub difference_of : Value → Value → Value
difference_of a b = cond (is_null a && is_null b) null (ranged (or_zero a -ℤ or_zero b))

-- NULL if either is, else by the two numbers
abbrev pub of_both : (ℤ → ℤ → Value) → Value → Value → Value
of_both f a b = cond (is_null a || is_null b) null (f (or_zero a) (or_zero b))

-- the quotient by d, rounded down: that of -(n + 1) is one less than -(n / d)
abbrev pub floor_div : ℤ → ℕ → ℤ
floor_div (pos n) d = pos (n / d)
floor_div (negsuc n) d = negsuc (n / d)

-- a share is counted in parts of this whole
unfoldable pub whole : ℕ
whole = 10_000

abbrev pub share_of : ℤ → ℤ → Value
share_of x y =
    cond (le_z (pos 0) y && le_z y (pos whole)) (ranged (floor_div (x *ℤ y) whole)) out

abbrev pub at_least_of : ℤ → ℤ → Value
at_least_of x y = ranged (cond (le_z y x) (pos 1) (pos 0))

-- 02's job 6: OUT or NULL where the first is; otherwise it picks, the second if it is above 0 and else the third, whose value is the
-- result, OUT and NULL included. So the result is within the range where the parents' are.
abbrev pub choice_of : Value → Value → Value → Value
choice_of null b c = null
choice_of out b c = out
choice_of (num z) b c = cond (lt_z (pos 0) z) b c

-- the k-th parent's value
abbrev pub nth : List Value → ℕ → Value
nth vs k = get_or vs k null

unfoldable pub any_out : List Value → Bool
any_out [] = false
any_out (v ∷ vs) = is_out v || any_out vs

-- Any OUT parent gives OUT, otherwise the rule decides: 01 of every rule, and since 02's job 6 of every rule but choice.
abbrev pub strict : (List Value → Value) → List Value → Value
strict rule vs = cond (any_out vs) out (rule vs)

-- the column "Result"
unfoldable pub apply : Operation → List Value → Value
apply sum = strict λ vs. of_numbers total (numbers vs)
apply difference = strict λ vs. difference_of (nth vs 0) (nth vs 1)
apply smallest = strict λ vs. of_numbers least (numbers vs)
apply largest = strict λ vs. of_numbers greatest (numbers vs)
apply share = strict λ vs. of_both share_of (nth vs 0) (nth vs 1)
apply choice = λ vs. choice_of (nth vs 0) (nth vs 1) (nth vs 2)
apply count = strict λ vs. of_numbers how_many (numbers vs)
apply at_least = strict λ vs. of_both at_least_of (nth vs 0) (nth vs 1)
