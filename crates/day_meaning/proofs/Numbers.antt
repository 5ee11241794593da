-- The numbers that the openings, the calls and the printer give: at most two digits, and never 19, which is the day program's own. So the C
-- functions, which give these, take sheets of any length. Assumes nothing.
use Prim.Native.Nat.{ℕ, zero, suc, ◌≤◌}
use mathlib.Core.Path.{◌≡◌, refl, ap, sym}
use mathlib.Core.Bool.{Bool, true, false, not, ◌&&◌}
use mathlib.Core.List.{List, [], ◌∷◌}
use native.Mathlib.Omega.{arith}
use borrow.Author.Tests.{leb-true, le-leb, ne_eqb}
use lib.Dec.{eqb, leb}
use lib.IntN.{ℤ}
use lib.ListN.{length}
use Rattle.circuit.specs.Call.{bare, Call, post, keep, drop, step, ask, board, close, swap}
use Rattle.circuit.specs.Calls.{Test, test, first_cause, tests}
use Rattle.layout.specs.Read.{Placed, SheetRead, opens, refused, read_sheet}
use Rattle.layout.specs.Opened.{sheet_read}
use Rattle.layout.proofs.Causes.{refused_number, refused_offset}
use Rattle.table.specs.Bytes.{decode_table}
use Rattle.office.specs.Office.{Office, Given, keeping, lengths_wrong, open_on, open_read, opening_tests, call_on, call_read, call_tests, unless_refused}
use Rattle.office.specs.Demand1Words.{Invocation, opening, calling, serve}
use Rattle.printer.specs.Printing.{print_cause}
use Rattle.day_meaning.specs.Day.{long_number}

-- a number of at most two digits that is not 19
abbrev plain : ℕ → Bool
plain k = leb k 99 && not (eqb k long_number)

cause_plain : (k : ℕ) (b : Bool) (ts : List Test) → plain k ≡ true → plain (first_cause ts) ≡ true → plain (first_cause (test k b ∷ ts)) ≡ true
unfolding first_cause
cause_plain k true ts h r = h
cause_plain k false ts h r = r

none_plain : plain (first_cause []) ≡ true
unfolding first_cause
none_plain = refl

-- the sheet's numbers
low_plain : (k : ℕ) → k ≤ 7 → plain k ≡ true
low_plain k h = rw (le-leb k 99 (omega arith), ne_eqb k long_number (λ e. omega arith))

-- a refusal has the number of its cause, and what is accepted has 0
refused_plain : (k : ℕ) (results : List ℕ) (o : Office) (g : Given) → plain k ≡ true → g.number ≡ 0 → plain (unless_refused k results o g).number ≡ true
refused_plain zero results o g h z = ap plain z
refused_plain (suc k) results o g h z = h

tests_plain : (edition : ℕ) (ps : List Placed) (o : Office) (c : Call) → plain (first_cause (call_tests (sheet_read edition ps) ps o c)) ≡ true
unfolding tests
tests_plain edition ps o c = cause_plain 8 _ _ refl (cause_plain 9 _ _ refl (cause_plain 10 _ _ refl (own c)))
  where
    own : (c : Call) → plain (first_cause (tests (sheet_read edition ps) (decode_table o.table) c)) ≡ true
    own (post i kind z) = cause_plain 11 _ _ refl (cause_plain 12 _ _ refl (cause_plain 13 _ _ refl none_plain))
    own (keep i) = cause_plain 11 _ _ refl (cause_plain 12 _ _ refl none_plain)
    own (drop i) = cause_plain 11 _ _ refl (cause_plain 12 _ _ refl none_plain)
    own (step i) = cause_plain 11 _ _ refl (cause_plain 14 _ _ refl none_plain)
    own (ask i) = cause_plain 11 _ _ refl none_plain
    own (board items results) = cause_plain 17 _ _ refl (cause_plain 11 _ _ refl none_plain)
    own close = none_plain
    own (swap giver taker quantity) = cause_plain 11 _ _ refl (cause_plain 12 _ _ refl (cause_plain 18 _ _ refl (cause_plain 13 _ _ refl none_plain)))

given_plain : (r : Invocation) (s : List ℕ) (o : Office) → plain (serve r s o).number ≡ true
unfolding open_on call_on
given_plain (opening how) s o = go (read_sheet s) refl
  where
    go : (w : SheetRead) → read_sheet s ≡ w → plain (open_read how w o).number ≡ true
    go (refused k at) e = low_plain k (refused_number s k at e).1
    go (opens edition ps) e = refused_plain (first_cause (opening_tests ps o)) [] o _ (cause_plain 8 _ _ refl none_plain) refl
given_plain (calling c) s o = go (read_sheet s) refl
  where
    go : (w : SheetRead) → read_sheet s ≡ w → plain (call_read w o c).number ≡ true
    go (refused k at) e = low_plain k (refused_number s k at e).1
    go (opens edition ps) e = refused_plain (first_cause (call_tests (sheet_read edition ps) ps o c)) _ o _ (tests_plain edition ps o c) refl

plain_two : (k : ℕ) → plain k ≡ true → k ≤ 99
plain_two k h = go (leb k 99) refl h
  where
    go : (b : Bool) → leb k 99 ≡ b → (b && not (eqb k long_number)) ≡ true → k ≤ 99
    go true e q = leb-true k 99 e
    go false e q = let bad : ◌≡◌ {A = ℕ} 0 1 = cc in absurd (omega (arith, bad))

plain_other : (k : ℕ) → plain k ≡ true → ¬ (k ≡ long_number)
plain_other k h e = let bad : ◌≡◌ {A = ℕ} 0 1 = cc (sym (rw e at h)) in absurd (omega (arith, bad))

-- a number of an opening or a call has at most two digits
pub two_digits : (r : Invocation) (s : List ℕ) (o : Office) → (serve r s o).number ≤ 99
two_digits r s o = plain_two (serve r s o).number (given_plain r s o)

-- No opening and no call gives 19, whatever is lent; nor does the printer.
pub never_19 : (r : Invocation) (s : List ℕ) (o : Office) → ¬ ((serve r s o).number ≡ long_number)
never_19 r s o = plain_other (serve r s o).number (given_plain r s o)

pub print_never_19 : (kind : ℕ) (z : ℤ) (count : ℕ) → ¬ (print_cause kind z count ≡ long_number)
print_never_19 kind z count = plain_other (print_cause kind z count) (cause_plain 10 _ _ refl (cause_plain 15 _ _ refl none_plain))

-- an opening's number is at most 8, and its offset in the sheet
pub opening_small : (s x t : List ℕ) → ((open_on bare s (keeping x t)).number ≤ 8) × ((open_on bare s (keeping x t)).offset ≤ length s)
unfolding open_on first_cause
opening_small s x t = go (read_sheet s) refl
  where
    lengths : (b : Bool) (g : Given) → g.number ≡ 0 → g.offset ≡ 0
        → ((unless_refused (first_cause (test 8 b ∷ [])) [] (keeping x t) g).number ≤ 8) × ((unless_refused (first_cause (test 8 b ∷ [])) [] (keeping x t) g).offset ≤ length s)
    lengths true g n o = (omega arith, omega arith)
    lengths false g n o = (omega arith, omega arith)

    go : (r : SheetRead) → read_sheet s ≡ r → ((open_read bare r (keeping x t)).number ≤ 8) × ((open_read bare r (keeping x t)).offset ≤ length s)
    go (refused k at) e = (omega (arith, refused_number s k at e), refused_offset s k at e)
    go (opens edition ps) e = lengths (lengths_wrong ps x t) _ refl refl
