-- 19, a sheet over 65,536 bytes: its line is printed exactly then, and nothing in the sheet is read. No other day has the line: a sheet that
-- is turned back for its bytes has a number below 9, and no other line has an `H`. Assumes nothing.
use Prim.Native.Nat.{ℕ, zero, suc, ◌≤◌, ◌<◌}
use mathlib.Core.Path.{◌≡◌, refl, sym, ap, ◌∙◌}
use mathlib.Core.Bool.{Bool, true, false, not, ◌&&◌}
use mathlib.Core.List.{List, [], ◌∷◌, ◌++◌, append-nil, append_assoc}
use mathlib.Core.Option.{Option, none, some}
use native.Mathlib.Omega.{arith}
use native.Mathlib.Decide.{dec_le}
use borrow.Author.Tests.{ltb-true, ltb-false, eq-eqb, ne_eqb}
use lib.Dec.{eqb}
use lib.IntN.{ℤ, pos, negsuc}
use lib.Seq.{take_all}
use lib.ListN.{length, take, get_or, length-take}
use lib.ListN
use Rattle.circuit.specs.Value.{Value, null, out, num}
use Rattle.circuit.specs.Call.{bare, Call, post, keep, drop, step, ask, board, close, swap}
use Rattle.field.specs.Field.{Cut, absent, short, field, cut_at}
use Rattle.layout.specs.Content.{content_at}
use Rattle.decimal.specs.Decimal.{digit, digits_up_to, digits, decimal, AllDigits}
use Rattle.decimal.proofs.Digits.{digits_small}
use Rattle.decimal.proofs.Notation.{all_digits}
use Rattle.printer.specs.Printing.{text_of}
use Rattle.value.specs.Meaning.{parts_of}
use Rattle.office.specs.Office.{Given, open_on, call_on, keeping}
use Rattle.day_meaning.specs.Lines.{no_line, space, line_end}
use Rattle.day_meaning.specs.Orders.{order_of}
use Rattle.day_meaning.specs.Day.{answer_line, reading_line, line_of, fault_number, fault_line, sheet_line, play_order, play_cut, play_from}
use Rattle.day_meaning.specs.Day.{ended, day_by, day_on, index_size, table_size, file_limit, long_number, too_long, read_day, run_day}
use Rattle.day_meaning.specs.Room.{sheet_room}
use Rattle.day_meaning.specs.Causes.{SheetLong, IsIn, LongRefused}
use Rattle.day_meaning.proofs.Numbers.{opening_small}

-- a byte is not in a text
abbrev lacks : ℕ → List ℕ → Bool
lacks b [] = true
lacks b (a ∷ l) = not (eqb a b) && lacks b l

lacks_both : (b : ℕ) (l m : List ℕ) → lacks b l ≡ true → lacks b m ≡ true → lacks b (l ++ m) ≡ true
lacks_both b [] m h k = k
lacks_both b (a ∷ l) m h k = go (not (eqb a b)) h (λ q. lacks_both b l m q k)
  where
    go : (c : Bool) → (c && lacks b l) ≡ true → (lacks b l ≡ true → lacks b (l ++ m) ≡ true) → (c && lacks b (l ++ m)) ≡ true
    go true h ih = ih h
    go false h ih = h

lacks_not : (b : ℕ) (l m : List ℕ) → lacks b (l ++ (b ∷ m)) ≡ true → ⊥
lacks_not b [] m h = let bad : ◌≡◌ {A = ℕ} 0 1 = cc (rw (eq-eqb b b refl) at h) in omega (arith, bad)
lacks_not b (a ∷ l) m h = go (not (eqb a b)) h (λ q. lacks_not b l m q)
  where
    go : (c : Bool) → (c && lacks b (l ++ (b ∷ m))) ≡ true → (lacks b (l ++ (b ∷ m)) ≡ true → ⊥) → ⊥
    go true h ih = ih h
    go false h ih = let bad : ◌≡◌ {A = ℕ} 0 1 = cc in omega (arith, bad)

-- digits are no letters
lacks_digits : (b : ℕ) → 57 < b → (l : List ℕ) → AllDigits l → lacks b l ≡ true
lacks_digits b h [] a = refl
lacks_digits b h (d ∷ l) a = rw (ne_eqb d b (λ e. omega (arith, a.1)), lacks_digits b h l a.2)

-- the bytes `S` and `H`; no line but a `SHEET` line has an `H`
abbrev S : ℕ
S = 83

abbrev H : ℕ
H = 72

no-H : (n : ℕ) → lacks H (digits n) ≡ true
no-H n = lacks_digits H (omega arith) (digits n) (all_digits n)

value_lacks : (v : Option Value) → lacks H (text_of v) ≡ true
value_lacks none = refl
value_lacks (some null) = refl
value_lacks (some out) = refl
value_lacks (some (num z)) = go z
  where
    go : (z : ℤ) → lacks H (decimal z) ≡ true
    go (pos n) = unfold decimal in no-H n
    go (negsuc n) = unfold decimal in no-H (suc n)

refusal_lacks : (n : ℕ) → lacks H (no_line n) ≡ true
refusal_lacks n = lacks_both H (digits n) line_end (no-H n) refl

answer_lacks : (n : ℕ) → lacks H (answer_line n) ≡ true
answer_lacks zero = refl
answer_lacks (suc n) = refusal_lacks (suc n)

reading_lacks : (i n : ℕ) (v : Option Value) → lacks H (reading_line i n (text_of v)) ≡ true
reading_lacks i zero v = lacks_both H (digits i) (space ++ (text_of v ++ line_end)) (no-H i) (lacks_both H (text_of v) line_end (value_lacks v) refl)
reading_lacks i (suc n) v = refusal_lacks (suc n)

line_lacks : (c : Call) (g : Given) → lacks H (line_of c g) ≡ true
line_lacks (post i kind z) g = answer_lacks g.number
line_lacks (keep i) g = answer_lacks g.number
line_lacks (drop i) g = answer_lacks g.number
line_lacks (step i) g = answer_lacks g.number
line_lacks (board items results) g = answer_lacks g.number
line_lacks close g = answer_lacks g.number
line_lacks (swap giver taker quantity) g = answer_lacks g.number
line_lacks (ask i) g = reading_lacks i g.number (parts_of g.kind g.value)

fault_lacks : (at : ℕ) → lacks H (fault_line at) ≡ true
fault_lacks at =
    lacks_both H (digits fault_number) (space ++ (digits at ++ line_end)) (no-H fault_number) (lacks_both H (digits at) line_end (no-H at) refl)

-- the calls of a day
play_lacks : (f : ℕ) (s x d : List ℕ) (at : ℕ) (t : List ℕ) → lacks H (play_from f s x d at t).text ≡ true
unfolding play_from
play_lacks zero s x d at t = refl
play_lacks (suc f) s x d at t = cut (λ next u. play_lacks f s x d next u) (cut_at d at)
  where
    order : ((next : ℕ) (u : List ℕ) → lacks H (play_from f s x d next u).text ≡ true) → (next : ℕ) (o : Option Call)
        → lacks H (play_order (play_from f s x d) s x at t next o).text ≡ true
    order ih next none = fault_lacks at
    order ih next (some c) =
        let g : Given = call_on s (keeping x t) c in
        lacks_both H (line_of c g) (play_from f s x d next g.after.table).text (line_lacks c g) (ih next g.after.table)

    cut : ((next : ℕ) (u : List ℕ) → lacks H (play_from f s x d next u).text ≡ true) → (c : Cut) → lacks H (play_cut (play_from f s x d) s x d at t c).text ≡ true
    cut ih absent = refl
    cut ih short = fault_lacks at
    cut ih (field tag start len next) = order ih next (order_of tag (content_at d start len))

-- a text without an `H` has no `SHEET` line
without-H : (number at : ℕ) (text : List ℕ) → lacks H text ≡ true → IsIn (sheet_line number at) text → ⊥
without-H number at text h i =
    let e : text ≡ (i.before ++ (S ∷ [])) ++ (H ∷ _) = i.whole ∙ sym (append_assoc i.before (S ∷ []) _) in
    lacks_not H (i.before ++ (S ∷ [])) _ (rw e at h)

nineteen : digits long_number ≡ 49 ∷ 57 ∷ []
unfolding digits digits_up_to
nineteen = refl

-- a `SHEET` line with a number of one digit is not that of 19: it has one `S`, at its front, and a space in place of the second digit
other_line : (k at : ℕ) → k ≤ 8 → IsIn (sheet_line long_number 0) (sheet_line k at) → ⊥
other_line k at h i = go i.before i.whole
  where
    one : digits k ≡ digit k ∷ []
    one = digits_small k (omega arith)

    rest : lacks S (H ∷ 69 ∷ 69 ∷ 84 ∷ 32 ∷ (digits k ++ (space ++ (digits at ++ line_end)))) ≡ true
    rest =
        lacks_both S (digits k) (space ++ (digits at ++ line_end)) (lacks_digits S (omega arith) (digits k) (all_digits k))
        (lacks_both S (digits at) line_end (lacks_digits S (omega arith) (digits at) (all_digits at)) refl)

    go : (before : List ℕ) → sheet_line k at ≡ before ++ (sheet_line long_number 0 ++ i.after) → ⊥
    go [] e = omega (arith, ap (λ l. get_or l 7 0) (rw (one, nineteen) at e))
    go (a ∷ before) e = lacks_not S before _ (sym (ap (λ l. lacks S (ListN.drop 1 l)) e) ∙ rest)

-- a sheet that is read never gets the line
read_lacks : (s d x t : List ℕ) → IsIn (sheet_line long_number 0) (read_day s d x t).text → ⊥
unfolding read_day day_on
read_lacks s d x t =
    go (open_on bare s (keeping (take (index_size s) x) (take (table_size s) t))) (opening_small s (take (index_size s) x) (take (table_size s) t)).0
  where
    go : (g : Given) → g.number ≤ 8 → IsIn (sheet_line long_number 0) (day_by g.number s d g).text → ⊥
    go g = by g.number
      where
        by : (k : ℕ) → k ≤ 8 → IsIn (sheet_line long_number 0) (day_by k s d g).text → ⊥
        by zero h i = without-H long_number 0 _ (play_lacks (suc (length d)) s g.after.index d 0 g.after.table) i
        by (suc k) h i = other_line (suc k) g.offset h i

-- The day of a sheet, by 19.
pub long_refused : (s d x t : List ℕ) → LongRefused s d x t
unfolding run_day
long_refused s d x t = go (too_long s) refl
  where
    go : (b : Bool) → too_long s ≡ b → LongRefused s d x t
    go true e =
        let is : run_day s d x t ≡ ended (sheet_line long_number 0) x t = rw e in
        let long : SheetLong s = ltb-true file_limit (length s) e in
        record {
          exactly = (λ i. long, λ h. record { before = []; after = []; whole = ap (λ y. y.text) is ∙ sym (append-nil (sheet_line long_number 0)) });
          only = λ h. is;
          otherwise = λ h. absurd (h long);
        }
    go false e =
        let is : run_day s d x t ≡ read_day s d x t = rw e in
        let fits : length s ≤ file_limit = ltb-false file_limit (length s) e in
        record {
          exactly = (λ i. absurd (read_lacks s d x t (rw is at i)), λ h. absurd (omega (arith, h, fits)));
          only = λ h. absurd (omega (arith, h, fits));
          otherwise = λ h. is;
        }

-- Nothing in a sheet over the limit is read, nor in its log: any two such sheets have the same day.
pub long_unread : (s s' d d' x t : List ℕ) → SheetLong s → SheetLong s' → run_day s d x t ≡ run_day s' d' x t
long_unread s s' d d' x t h h' = (long_refused s d x t).only h ∙ sym ((long_refused s' d' x t).only h')

-- a sheet of exactly 65,536 bytes is read
pub limit_read : (s d x t : List ℕ) → length s ≡ file_limit → run_day s d x t ≡ read_day s d x t
limit_read s d x t e = (long_refused s d x t).otherwise (λ h. omega (arith, h, e))

-- one byte more than the limit is enough of a file: what stands after it changes nothing
pub first_bytes : (f d x t : List ℕ) → run_day (take sheet_room f) d x t ≡ run_day f d x t
first_bytes f d x t = go (dec_le (length f) sheet_room)
  where
    go : Dec (length f ≤ sheet_room) → run_day (take sheet_room f) d x t ≡ run_day f d x t
    go (yes h) = ap (λ s. run_day s d x t) (take_all sheet_room f h)
    go (no h) = long_unread (take sheet_room f) f d d x t (omega (arith, length-take sheet_room f, h)) (omega (arith, h))
