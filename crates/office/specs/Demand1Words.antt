-- Demand 1, its words: each row of "Turned back" from 8 to 14, and 02's 17 and 18, as a statement about what is lent, and the order in
-- which the causes of an invocation count. The rows 1 to 7 are those of the sheet (layout, Causes). Assumes nothing.
use Rattle.std.specs.Prelude.{ℕ, ◌+◌, ◌*◌, ◌^◌, ◌<◌, ◌≤◌, ◌≡◌, Bool, true, false, List, [], ◌∷◌, ◌++◌, ◌⊎◌, ◌↔◌, ℤ, pos, nat_abs, ◌+ℤ◌, ◌-ℤ◌, length}
use Rattle.std.specs.Int.Signed.{lt_z}
use Rattle.std.specs.Int.{w64}
use Rattle.std.proofs.Common.{SFits}
use Rattle.circuit.specs.Value.{limit}
use Rattle.circuit.specs.Circuit.{Listed}
use Rattle.circuit.specs.Sheet.{Sheet, Ordered, size, item_at, is_figure, parents}
use Rattle.circuit.specs.Call.{Call, post, keep, drop, step, ask, board, close, swap, Opening}
use Rattle.circuit.specs.Board.{listed_width, result_width, most_listed}
use Rattle.field.specs.Field.{Bytes, le16_at}
use Rattle.layout.specs.Read.{Placed}
use Rattle.layout.specs.Opened.{sheet_of, items_of}
use Rattle.layout.specs.Index.{index_width, index_bytes, le32_at}
use Rattle.layout.specs.Causes.{FirstFault, Faultless, item, item_count, tag_of, offset_of}
use Rattle.table.specs.Rows.{row}
use Rattle.table.specs.Record.{width, kind_in, mark_in, number_in, owed_in}
use Rattle.office.specs.Office.{Office, Given, results_lent, open_on, call_on}

-- an opening, or one of the calls with its arguments
pub data Invocation : Type 0 where
  opening : Opening → Invocation
  calling : Call → Invocation

-- the invocation on a sheet, lent with what the office keeps
abbrev pub serve : Invocation → List ℕ → Office → Given
serve (opening how) s o = open_on how s o
serve (calling c) s o = call_on s o c

-- the list of results that is lent with it
abbrev pub results_lent_to : Invocation → List ℕ
results_lent_to (opening how) = []
results_lent_to (calling c) = results_lent c

-- 8: index not 4n bytes, or table not 11n
abbrev pub LengthsWrong : ℕ → Office → Type 0
LengthsWrong n o = (¬ (length o.index ≡ index_width * n)) ⊎ (¬ (length o.table ≡ width * n))

-- how many bytes an item had before 02's job 5
abbrev pub former_width : ℕ
former_width = 10

-- 9: index not as opening writes it
abbrev pub IndexNotAsOpened : List Placed → List ℕ → Type 0
IndexNotAsOpened ps x = ¬ (x ≡ index_bytes ps)

-- a number beyond the range from -most to most
abbrev pub BeyondLimit : ℕ → ℤ → Type 0
BeyondLimit most z = most < nat_abs z

-- numbers run from -limit to limit
abbrev pub BeyondRange : ℤ → Type 0
BeyondRange z = BeyondLimit limit z

-- A record of kind k, mark m and number z breaks its form, or the number the range from -most to most; `figure` says whether the item
-- is one.
pub data RecordBroken (most : ℕ) (figure : Bool) (k m : ℕ) (z : ℤ) : Type 0 where
  kind_unknown : 3 < k → RecordBroken most figure k m z
  mark_unknown : 2 < m → RecordBroken most figure k m z
  -- an entry that is UNK, or OUT, or to be refreshed
  entry_unk : figure ≡ false → k ≡ 0 → RecordBroken most figure k m z
  entry_out : figure ≡ false → k ≡ 2 → RecordBroken most figure k m z
  entry_refresh : figure ≡ false → m ≡ 1 → RecordBroken most figure k m z
  -- an UNK figure that is to be refreshed
  unk_refresh : figure ≡ true → k ≡ 0 → m ≡ 1 → RecordBroken most figure k m z
  -- the number is 0 unless the kind is 3
  number_not_zero : ¬ (k ≡ 3) → ¬ (z ≡ pos 0) → RecordBroken most figure k m z
  beyond_range : k ≡ 3 → BeyondLimit most z → RecordBroken most figure k m z

abbrev pub RecordBrokenAt : ℕ → Sheet → List ℕ → ℕ → Type 0
RecordBrokenAt most S t i =
    RecordBroken most (is_figure (item_at S i)) (kind_in (row width t i)) (mark_in (row width t i)) (number_in (row width t i))

-- 02's "is stored, or is UNK and itself owed", by the bytes of a record
abbrev pub StoredOrOwed : List ℕ → Type 0
StoredOrOwed r = (¬ (kind_in r ≡ 0)) ⊎ ((kind_in r ≡ 0) × (owed_in r ≡ 1))

-- some child is
abbrev pub SomeChildLeans : Sheet → List ℕ → ℕ → Type 0
SomeChildLeans S t i = (c : ℕ) × Listed i (parents S c) × StoredOrOwed (row width t c)

-- The owed byte of item i is false: it is neither 1 nor 0, or 1 without such a child, or 0 with one. The children are judged by their own
-- bytes: only the true bytes are false nowhere (`Owing`, circuit/specs/Equations).
pub data OwedFalse (S : Sheet) (t : List ℕ) (i : ℕ) : Type 0 where
  owed_unknown : 1 < owed_in (row width t i) → OwedFalse S t i
  no_child : owed_in (row width t i) ≡ 1 → ¬ SomeChildLeans S t i → OwedFalse S t i
  some_child : owed_in (row width t i) ≡ 0 → SomeChildLeans S t i → OwedFalse S t i

-- the table breaks its form, or a number the range from -most to most, or an owed byte is false
abbrev pub TableBrokenUnder : ℕ → Sheet → List ℕ → Type 0
TableBrokenUnder most S t = (i : ℕ) × (i < size S) × (RecordBrokenAt most S t i ⊎ OwedFalse S t i)

-- 10: table breaks its form, or a number its range, or an owed byte is false
abbrev pub TableBroken : Sheet → List ℕ → Type 0
TableBroken S t = TableBrokenUnder limit S t

-- 11: item number n or more
abbrev pub NoSuchItem : Sheet → ℕ → Type 0
NoSuchItem S i = size S ≤ i

-- 12: post to a figure; keep or drop of an entry
abbrev pub ToFigure : Sheet → ℕ → Type 0
ToFigure S i = is_figure (item_at S i) ≡ true

abbrev pub OfEntry : Sheet → ℕ → Type 0
OfEntry S i = is_figure (item_at S i) ≡ false

-- an entry of the sheet
abbrev pub IsEntry : Sheet → ℕ → Type 0
IsEntry S i = (i < size S) × (is_figure (item_at S i) ≡ false)

-- 13: posted kind not 1 or 3, number not 0 for kind 1, or beyond the range
pub data NotPostable (kind : ℕ) (z : ℤ) : Type 0 where
  kind_other : ¬ (kind ≡ 1) → ¬ (kind ≡ 3) → NotPostable kind z
  null_not_zero : kind ≡ 1 → ¬ (z ≡ pos 0) → NotPostable kind z
  number_beyond : kind ≡ 3 → BeyondRange z → NotPostable kind z

-- 14: step where there is no mark
abbrev pub NoMark : List ℕ → ℕ → Type 0
NoMark t i = mark_in (row width t i) ≡ 0

-- 17: a board's list of odd length or over 64 items, or a result list of another length
pub data ListsWrong (items results : List ℕ) : Type 0 where
  odd : (k : ℕ) → length items ≡ listed_width * k + 1 → ListsWrong items results
  long : listed_width * most_listed < length items → ListsWrong items results
  other : (k : ℕ) → length items ≡ listed_width * k → ¬ (length results ≡ result_width * k) → ListsWrong items results

-- 11, of a board: some item of its list, in two bytes from 2k on, is n or more
abbrev pub SomeNoItem : Sheet → List ℕ → Type 0
SomeNoItem S items = (k : ℕ) × (listed_width * k + 1 < length items) × NoSuchItem S (le16_at items (listed_width * k))

-- 18: a swap with one entry on both sides, or a quantity under 1
abbrev pub NoSwap : ℕ → ℕ → ℤ → Type 0
NoSwap giver taker quantity = (giver ≡ taker) ⊎ (lt_z quantity (pos 1) ≡ true)

-- 13, of a swap: a result beyond the range, the giver's or the taker's; `before` has the entries' numbers, NULL as 0
abbrev pub ResultBeyond : (ℕ → ℤ) → ℕ → ℕ → ℤ → Type 0
ResultBeyond before giver taker quantity = BeyondRange (before giver -ℤ quantity) ⊎ BeyondRange (before taker +ℤ quantity)

-- a number with its cause
pub record Row : Type 1 where
  pub number : ℕ
  pub cause : Type 0

abbrev pub cause : ℕ → Type 0 → Row
cause k P = record { number = k; cause = P }

-- The causes of what is lent, under the range from -most to most.
abbrev pub lent_causes_under : ℕ → Sheet → List Placed → Office → List Row
lent_causes_under most S ps o =
    cause 8 (LengthsWrong (size S) o)
    ∷ cause 9 (IndexNotAsOpened ps o.index)
    ∷ cause 10 (TableBrokenUnder most S o.table)
    ∷ []

-- The causes of what is lent, which count before a call's own.
abbrev pub lent_causes : Sheet → List Placed → Office → List Row
lent_causes S ps o = lent_causes_under limit S ps o

-- The causes of a swap's own: 11 and 12 of either item, then 18, then 13.
abbrev pub swap_causes : Sheet → (ℕ → ℤ) → ℕ → ℕ → ℤ → List Row
swap_causes S before giver taker quantity =
    cause 11 (NoSuchItem S giver ⊎ NoSuchItem S taker)
    ∷ cause 12 (ToFigure S giver ⊎ ToFigure S taker)
    ∷ cause 18 (NoSwap giver taker quantity)
    ∷ cause 13 (ResultBeyond before giver taker quantity)
    ∷ []

-- the numbers in a table's records; that of NULL is 0
abbrev pub numbers_in : List ℕ → ℕ → ℤ
numbers_in t i = number_in (row width t i)

-- the causes of a call's own
abbrev pub own_causes : Sheet → List ℕ → Call → List Row
own_causes S t (post i kind z) = cause 11 (NoSuchItem S i) ∷ cause 12 (ToFigure S i) ∷ cause 13 (NotPostable kind z) ∷ []
own_causes S t (keep i) = cause 11 (NoSuchItem S i) ∷ cause 12 (OfEntry S i) ∷ []
own_causes S t (drop i) = cause 11 (NoSuchItem S i) ∷ cause 12 (OfEntry S i) ∷ []
own_causes S t (step i) = cause 11 (NoSuchItem S i) ∷ cause 14 (NoMark t i) ∷ []
own_causes S t (ask i) = cause 11 (NoSuchItem S i) ∷ []
own_causes S t (board items results) = cause 17 (ListsWrong items results) ∷ cause 11 (SomeNoItem S items) ∷ []
own_causes S t close = []
own_causes S t (swap giver taker quantity) = swap_causes S (numbers_in t) giver taker quantity

-- The causes of an invocation in the order in which they count, after the sheet has been read. Openings use 8 alone. 01's calls have
-- theirs by rising numbers; a board has 17 before 11; a season-close run has those of what is lent alone; a swap has 18 before 13. (A
-- later request's call may have a number twice.)
abbrev pub causes_in : Sheet → List Placed → Office → Invocation → List Row
causes_in S ps o (opening how) = cause 8 (LengthsWrong (size S) o) ∷ []
causes_in S ps o (calling c) = lent_causes S ps o ++ own_causes S o.table c

abbrev pub causes_of : List ℕ → Office → Invocation → List Row
causes_of s o r = causes_in (sheet_of s) (items_of s) o r

-- k is the number of the first cause that holds
abbrev pub First : List Row → ℕ → Type 0
First [] k = ⊥
First (r ∷ rs) k = ((k ≡ r.number) × r.cause) ⊎ ((¬ r.cause) × First rs k)

-- no cause holds
abbrev pub NoneHolds : List Row → Type 0
NoneHolds [] = Unit {0}
NoneHolds (r ∷ rs) = (¬ r.cause) × NoneHolds rs

-- the cause with number k holds
abbrev pub HoldsAt : List Row → ℕ → Type 0
HoldsAt [] k = ⊥
HoldsAt (r ∷ rs) k = ((k ≡ r.number) × r.cause) ⊎ HoldsAt rs k

-- the invocations whose causes count by rising numbers: the openings, 01's five calls and the season-close run
abbrev pub ByNumber : Invocation → Type 0
ByNumber (opening how) = Unit {0}
ByNumber (calling (post i kind z)) = Unit {0}
ByNumber (calling (keep i)) = Unit {0}
ByNumber (calling (drop i)) = Unit {0}
ByNumber (calling (step i)) = Unit {0}
ByNumber (calling (ask i)) = Unit {0}
ByNumber (calling (board items results)) = ⊥
ByNumber (calling close) = Unit {0}
ByNumber (calling (swap giver taker quantity)) = ⊥

-- k is the lowest number whose cause holds
pub record Lowest (rs : List Row) (k : ℕ) : Type 0 where
  pub holds : HoldsAt rs k
  pub none_below : (j : ℕ) → j < k → ¬ HoldsAt rs j

-- An invocation is to be refused with number k and an offset: for the first fault of the sheet, with its offset; else for the first
-- of its own causes, with offset 0.
pub data Refused (s : List ℕ) (o : Office) (r : Invocation) (k offset : ℕ) : Type 0 where
  by_sheet : FirstFault s k offset → Refused s o r k offset
  by_lent : Faultless s → First (causes_of s o r) k → offset ≡ 0 → Refused s o r k offset

-- no cause at all
pub record NoCause (s : List ℕ) (o : Office) (r : Invocation) : Type 0 where
  pub sheet : Faultless s
  pub lent : NoneHolds (causes_of s o r)

-- What can be lent and given: slices of bytes, arguments of 64 bits, posted numbers and a swap's quantity signed, and a board's two lists
-- of bytes.
abbrev pub FitsArguments : Invocation → Type 0
FitsArguments (opening how) = Unit {0}
FitsArguments (calling (post i kind z)) = (i < 2 ^ 64) × (kind < 2 ^ 64) × SFits w64 z
FitsArguments (calling (keep i)) = i < 2 ^ 64
FitsArguments (calling (drop i)) = i < 2 ^ 64
FitsArguments (calling (step i)) = i < 2 ^ 64
FitsArguments (calling (ask i)) = i < 2 ^ 64
FitsArguments (calling (board items results)) = Bytes items × Bytes results
FitsArguments (calling close) = Unit {0}
FitsArguments (calling (swap giver taker quantity)) = (giver < 2 ^ 64) × (taker < 2 ^ 64) × SFits w64 quantity

pub record Lendable (r : Invocation) (s : List ℕ) (o : Office) : Type 0 where
  pub sheet : Bytes s
  pub index : Bytes o.index
  pub table : Bytes o.table
  pub arguments : FitsArguments r

-- something that can be lent is given number k
pub record Gets (k : ℕ) : Type 0 where
  pub request : Invocation
  pub sheet : List ℕ
  pub office : Office
  pub lendable : Lendable request sheet office
  pub given : (serve request sheet office).number ≡ k

-- What is lent with a sheet is accepted under the range from -most to most: the sheet has no fault, and none of the causes of index
-- and table holds.
pub record AcceptedUnder (most : ℕ) (s : List ℕ) (o : Office) : Type 0 where
  pub sheet : Faultless s
  pub lent : NoneHolds (lent_causes_under most (sheet_of s) (items_of s) o)

-- what is lent with a sheet is accepted
abbrev pub AcceptedLent : List ℕ → Office → Type 0
AcceptedLent s o = AcceptedUnder limit s o

-- A board's own refusals, where sheet, index and table are accepted: 17 exactly if its lists are wrong, whatever its items are; 11
-- exactly if the lists are right and one of its items is n or more. Refused for whatever cause, it leaves the results as they were lent.
pub record BoardRefuses (s : List ℕ) (o : Office) (items results : List ℕ) : Type 0 where
  pub lists_17 : ((call_on s o (board items results)).number ≡ 17) ↔ AcceptedLent s o × ListsWrong items results
  pub item_11 : ((call_on s o (board items results)).number ≡ 11) ↔ AcceptedLent s o × (¬ ListsWrong items results) × SomeNoItem (sheet_of s) items
  pub results_left : ¬ ((call_on s o (board items results)).number ≡ 0) → (call_on s o (board items results)).results ≡ results

-- The refusals of a season-close run: it is accepted exactly if sheet, index and table are; and its numbers are 1 to 10, and no others.
pub record CloseRefuses (s : List ℕ) (o : Office) : Type 0 where
  pub accepted : ((call_on s o close).number ≡ 0) ↔ AcceptedLent s o
  pub numbers : (call_on s o close).number ≤ 10

-- A swap's own refusals, where sheet, index and table are accepted: 11 exactly if one of its items is n or more; 12 exactly if both are in
-- the sheet and one is a figure; 18, whatever its results would be, exactly if both are entries, and are one or the quantity is under 1; 13
-- exactly if none of these holds and a result is beyond the range. There are no others.
pub record SwapRefuses (s : List ℕ) (o : Office) (giver taker : ℕ) (quantity : ℤ) : Type 0 where
  pub item_11 : ((call_on s o (swap giver taker quantity)).number ≡ 11) ↔ AcceptedLent s o × (NoSuchItem (sheet_of s) giver ⊎ NoSuchItem (sheet_of s) taker)
  pub figure_12 : ((call_on s o (swap giver taker quantity)).number ≡ 12)
      ↔ AcceptedLent s o × (giver < size (sheet_of s)) × (taker < size (sheet_of s)) × (ToFigure (sheet_of s) giver ⊎ ToFigure (sheet_of s) taker)
  pub no_swap_18 : ((call_on s o (swap giver taker quantity)).number ≡ 18)
      ↔ AcceptedLent s o × IsEntry (sheet_of s) giver × IsEntry (sheet_of s) taker × NoSwap giver taker quantity
  pub beyond_13 : ((call_on s o (swap giver taker quantity)).number ≡ 13)
      ↔ AcceptedLent s o × IsEntry (sheet_of s) giver × IsEntry (sheet_of s) taker × (¬ NoSwap giver taker quantity) × ResultBeyond (numbers_in o.table) giver taker quantity
  pub accepted : ((call_on s o (swap giver taker quantity)).number ≡ 0)
      ↔ AcceptedLent s o × IsEntry (sheet_of s) giver × IsEntry (sheet_of s) taker × (¬ NoSwap giver taker quantity) × (¬ ResultBeyond (numbers_in o.table) giver taker quantity)
  pub numbers : let k : ℕ = (call_on s o (swap giver taker quantity)).number in (k ≤ 13) ⊎ (k ≡ 18)

-- What the words above come to on the bytes of a sheet without a fault: n by the first field, parents below their items, figures
-- by their tags, and the offsets in the index.
pub record SheetWords (s : List ℕ) : Type 0 where
  pub count_is : size (sheet_of s) ≡ item_count s
  pub ordered : Ordered (sheet_of s)
  pub figure_is : (i : ℕ) → i < item_count s → (is_figure (item_at (sheet_of s) i) ≡ true) ↔ (tag_of s (item i) ≡ 3)
  pub index_long : length (index_bytes (items_of s)) ≡ index_width * item_count s
  pub offset_is : (i : ℕ) → i < item_count s → le32_at (index_bytes (items_of s)) (index_width * i) ≡ offset_of s (item i)
