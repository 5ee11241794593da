-- Demand 2, its words: the layout that a sheet follows, what the openings write, the solution, and the sentences of 01 and 02 on
-- what each call leaves of the table. Looking up, working out and telling are the machine's (circuit, Machine), with their equations,
-- without a bound, in circuit, Equations. Assumes nothing.
use Rattle.std.specs.Prelude.{ℕ, ◌*◌, ◌/◌, ◌<◌, ◌≡◌, Bool, true, false, List, [], ◌∷◌, ◌++◌, map, ℤ, pos, ◌+ℤ◌, ◌-ℤ◌, ◌⊎◌, length, get_or, take}
use Rattle.circuit.specs.Value.{Value, num, kind_of, number_of}
use Rattle.circuit.specs.Rules.{Operation, apply}
use Rattle.circuit.specs.Circuit.{Listed, IsSolution}
use Rattle.circuit.specs.Sheet.{Sheet, Spread, figure, Ordered, Entries, size, item_at, is_figure, parents, circuit_of}
use Rattle.circuit.specs.Table.{Table, unmarked, notice, held, upd, notice_if, value_in, entries_of}
use Rattle.circuit.specs.Machine.{Looked, Gathered, gather, look_up, work_out, tell, clear_mark}
use Rattle.circuit.specs.Call.{Call, post, keep, drop, step, ask, board, close, swap, Opening, bare, full}
use Rattle.circuit.specs.Board.{listed_width, result_width, listed}
use Rattle.circuit.specs.Words.{CaughtUp}
use Rattle.field.specs.Field.{Bytes, le16_at}
use Rattle.word.specs.Word.{le64_at}
use Rattle.layout.specs.Layout.{Layout, LayoutItem, entry_field, figure_field, machine_sheet}
use Rattle.layout.specs.Write.{within, write_sheet}
use Rattle.layout.specs.Places.{offset_written}
use Rattle.layout.specs.Opened.{sheet_of}
use Rattle.layout.specs.Index.{index_width, le32_at}
use Rattle.table.specs.Rows.{row}
use Rattle.table.specs.Record.{width, owed_place, kind_in, mark_in, number_in, owed_in}
use Rattle.table.specs.Bytes.{encode_table, decode_table}
use Rattle.office.specs.Office.{Office, Given, call_on, results_of}
use Rattle.office.specs.Demand1Words.{SomeChildLeans, numbers_in, AcceptedLent}

-- ---- what a call answers

-- what a call answers, beside what it leaves in the lent bytes
pub record Answer : Type 0 where
  pub number : ℕ
  pub offset : ℕ
  pub kind : ℕ
  pub value : ℤ

abbrev pub answer_of : Given → Answer
answer_of g = record { number = g.number; offset = g.offset; kind = g.kind; value = g.value }

-- an accepted ask's answer
abbrev pub reading : Value → Answer
reading v = record { number = 0; offset = 0; kind = kind_of v; value = number_of v }

-- ---- the openings

-- The sheet follows the layout: it is the written form of a layout within the limits; and index and table have 4 and 11 bytes for
-- each of its items.
pub record FollowsLayout (s : List ℕ) (o : Office) : Type 0 where
  pub layout : Layout
  pub limits : within layout ≡ true
  pub written : s ≡ write_sheet layout
  pub index_long : length o.index ≡ index_width * length layout.items
  pub table_long : length o.table ≡ width * length layout.items

-- the cell of a record of a kind, without a mark, with the number 0
abbrev pub blank_record : ℕ → List ℕ
blank_record kind = kind ∷ 0 ∷ 0 ∷ 0 ∷ 0 ∷ 0 ∷ 0 ∷ 0 ∷ 0 ∷ 0 ∷ []

-- entries NULL, no marks, figures UNK (bare) or NULL (full)
abbrev pub opened_record : Opening → LayoutItem → List ℕ
opened_record how (entry_field name) = blank_record 1
opened_record bare (figure_field rule kept spread parents name) = blank_record 0
opened_record full (figure_field rule kept spread parents name) = blank_record 1

-- What an opening of a layout's sheet gives: number 0; for each item the offset of its field, in 4 bytes; for each item its record, of
-- which the owed byte is 0 after a bare opening, and after a full one 1 where there is a child.
pub record Writes (how : Opening) (l : Layout) (g : Given) : Type 0 where
  pub number_0 : g.number ≡ 0
  pub offset_0 : g.offset ≡ 0
  pub index_long : length g.after.index ≡ index_width * length l.items
  pub index_bytes_lem : Bytes g.after.index
  pub offsets : (j : ℕ) → j < length l.items → le32_at g.after.index (index_width * j) ≡ offset_written l j
  pub table_long : length g.after.table ≡ width * length l.items
  pub records : (j : ℕ) → j < length l.items
      → take owed_place (row width g.after.table j) ≡ opened_record how (get_or l.items j (entry_field []))
  pub bare_owed : how ≡ bare → (j : ℕ) → j < length l.items → owed_in (row width g.after.table j) ≡ 0
  pub full_owed : how ≡ full → (j : ℕ) → j < length l.items → (c : ℕ) → Listed j (parents (machine_sheet l) c) → owed_in (row width g.after.table j) ≡ 1
  pub full_unowed : how ≡ full → (j : ℕ) → j < length l.items → ((c : ℕ) → ¬ Listed j (parents (machine_sheet l) c))
      → owed_in (row width g.after.table j) ≡ 0

-- ---- the solution

-- no figure is stored: every figure's kind is 0, whatever its mark
abbrev pub NoneStored : List ℕ → List ℕ → Type 0
NoneStored s t =
    (k : ℕ) → k < size (sheet_of s) → is_figure (item_at (sheet_of s) k) ≡ true → kind_in (row width t k) ≡ 0

-- the value in the record of item k
abbrev pub value_of : List ℕ → ℕ → Value
value_of t k = value_in (decode_table t k)

-- the values of the table's entries
abbrev pub entries_in : List ℕ → Entries
entries_in t = entries_of (decode_table t)

-- the only solution of the sheet's circuit under the entries E
pub record OnlySolution (S : Sheet) (E : Entries) (values : ℕ → Value) : Type 0 where
  pub ordered : Ordered S
  pub solves : IsSolution (circuit_of S) E values
  pub only : (other : ℕ → Value) → IsSolution (circuit_of S) E other → (i : ℕ) → i < size S → other i ≡ values i

-- the record of item i holds the value v
abbrev pub Stores : List ℕ → ℕ → Value → Type 0
Stores t i v = (kind_in (row width t i) ≡ kind_of v) × (number_in (row width t i) ≡ number_of v)

-- every figure that is stored in the table holds these values
abbrev pub StoredRight : List ℕ → List ℕ → (ℕ → Value) → Type 0
StoredRight s t values =
    (k : ℕ) → k < size (sheet_of s) → is_figure (item_at (sheet_of s) k) ≡ true → ¬ (kind_in (row width t k) ≡ 0) → Stores t k (values k)

-- Ask answers, keep stores, and a board shows these values; and every figure that is stored on the way holds its own.
pub record Gives (s : List ℕ) (o : Office) (values : ℕ → Value) : Type 0 where
  pub asked : (i : ℕ) → i < size (sheet_of s) → answer_of (call_on s o (ask i)) ≡ reading (values i)
  pub asked_stored : (i : ℕ) → i < size (sheet_of s) → StoredRight s (call_on s o (ask i)).after.table values
  pub kept : (i : ℕ) → i < size (sheet_of s) → is_figure (item_at (sheet_of s) i) ≡ true
      → let g : Given = call_on s o (keep i) in (g.number ≡ 0) × Stores g.after.table i (values i)
  pub kept_stored : (i : ℕ) → i < size (sheet_of s) → is_figure (item_at (sheet_of s) i) ≡ true
      → StoredRight s (call_on s o (keep i)).after.table values
  pub shown : (items results : List ℕ) → let g : Given = call_on s o (board items results) in g.number ≡ 0 → g.results ≡ results_of (map values (listed items))
  pub shown_stored : (items results : List ℕ) → let g : Given = call_on s o (board items results) in g.number ≡ 0 → StoredRight s g.after.table values

-- 02's "a list of items (2 bytes each)": item k is in the two bytes from 2k on, and there are no others.
pub record ListWords (items : List ℕ) : Type 0 where
  pub count_is : length (listed items) ≡ length items / listed_width
  pub item_is : (k : ℕ) → k < length items / listed_width → get_or (listed items) k 0 ≡ le16_at items (listed_width * k)

-- 02's "table-form kinds and numbers (9 bytes each)": nine bytes, the kind in the first and the number in the other eight.
pub record ResultWords (r : List ℕ) (kind : ℕ) (z : ℤ) : Type 0 where
  pub long : length r ≡ result_width
  pub bytes : Bytes r
  pub kind_is : get_or r 0 0 ≡ kind
  pub number_is : le64_at r 1 ≡ z

-- ---- the table

-- 02's owed byte: it is 1 and some child is stored, or is UNK and itself owed; or it is 0 and there is no such child
abbrev pub OwedRight : Sheet → List ℕ → Type 0
OwedRight S t =
    (i : ℕ) → i < size S
    → ((owed_in (row width t i) ≡ 1) × SomeChildLeans S t i) ⊎ ((owed_in (row width t i) ≡ 0) × (¬ SomeChildLeans S t i))

-- the table's bytes are those of the cells T, with their owed bytes
abbrev pub HasCells : Sheet → List ℕ → Table → Type 0
HasCells S t T = t ≡ encode_table S T

-- "An equal value changes nothing. Otherwise it is stored with mark notice." The other records are as they were.
pub record PostLeaves (n : ℕ) (t : List ℕ) (i kind : ℕ) (z : ℤ) (u : List ℕ) : Type 0 where
  pub kind_is : kind_in (row width u i) ≡ kind
  pub number_is : number_in (row width u i) ≡ z
  pub equal : kind_in (row width t i) ≡ kind → number_in (row width t i) ≡ z → u ≡ t
  pub noticed : ¬ ((kind_in (row width t i) ≡ kind) × (number_in (row width t i) ≡ z)) → mark_in (row width u i) ≡ 2
  pub others : (j : ℕ) → j < n → ¬ (j ≡ i) → row width u j ≡ row width t j

-- "Look it up and store it whatever its keep byte, with the same rule on flags. A stored figure is untouched."
pub record KeepLeaves (S : Sheet) (t : List ℕ) (i : ℕ) (u : List ℕ) : Type 0 where
  pub untouched : ¬ (kind_in (row width t i) ≡ 0) → u ≡ t
  pub stored : kind_in (row width t i) ≡ 0
      → let r : Looked = look_up S (decode_table t) i in HasCells S u (upd r.table i (held r.value (notice_if r.flag)))

-- "UNK; mark refresh becomes notice, other marks remain." The other records are as they were but for their owed bytes (`OwedRight`).
pub record DropLeaves (n : ℕ) (t : List ℕ) (i : ℕ) (u : List ℕ) : Type 0 where
  pub kind_0 : kind_in (row width u i) ≡ 0
  pub number_0 : number_in (row width u i) ≡ pos 0
  pub refresh_noticed : mark_in (row width t i) ≡ 1 → mark_in (row width u i) ≡ 2
  pub other_marks : ¬ (mark_in (row width t i) ≡ 1) → mark_in (row width u i) ≡ mark_in (row width t i)
  pub others : (j : ℕ) → j < n → ¬ (j ≡ i) → take owed_place (row width u j) ≡ take owed_place (row width t j)

-- "For refresh, work it out anew from its parents; if equal, clear the mark and finish, else store it and set notice. For notice,
-- tell the children, then clear the mark."
pub record StepLeaves (S : Sheet) (t : List ℕ) (i : ℕ) (u : List ℕ) : Type 0 where
  pub equal : mark_in (row width t i) ≡ 1 → let r : Looked = work_out S (decode_table t) i in r.value ≡ value_of t i
      → HasCells S u (upd r.table i (held (value_of t i) unmarked))
  pub different : mark_in (row width t i) ≡ 1 → let r : Looked = work_out S (decode_table t) i in ¬ (r.value ≡ value_of t i)
      → HasCells S u (upd r.table i (held r.value notice))
  pub tells : mark_in (row width t i) ≡ 2 → HasCells S u (clear_mark (tell S (decode_table t) i) i)

-- "Step the lowest marked item until none is marked, then look the item up and give its value."
pub record AskLeaves (S : Sheet) (t : List ℕ) (i : ℕ) (g : Given) : Type 0 where
  pub caught_up : Table
  pub catches : CaughtUp S (decode_table t) caught_up
  pub value_is : answer_of g ≡ reading (look_up S caught_up i).value
  pub table_is : HasCells S g.after.table (look_up S caught_up i).table

-- 02's "Catching up is done once, then the items are looked up in list order"; "for an empty list nothing changes at all".
pub record BoardLeaves (S : Sheet) (o : Office) (items : List ℕ) (g : Given) : Type 0 where
  pub empty : items ≡ [] → (g.after ≡ o) × (g.results ≡ [])
  pub caught_up : Table
  pub catches : CaughtUp S (decode_table o.table) caught_up
  pub shows : ¬ (items ≡ []) → let r : Gathered = gather (look_up S) caught_up (listed items) in
      (g.results ≡ results_of r.values) × HasCells S g.after.table r.table

-- Asking for items one after another. `Asks s o is results p`: from what the office keeps, o, each ask for an item of is, in list
-- order, is accepted; the results are the kinds and numbers of their answers; and p is what the last one leaves.
pub data Asks (s : List ℕ) : Office → List ℕ → List ℕ → Office → Type 0 where
  no_more : {o : Office} → Asks s o [] [] o
  then_ask : {o p : Office} {i : ℕ} {is r rest : List ℕ} → (call_on s o (ask i)).number ≡ 0
      → ResultWords r (call_on s o (ask i)).kind (call_on s o (ask i)).value → Asks s (call_on s o (ask i)).after is rest p
      → Asks s o (i ∷ is) (r ++ rest) p

-- 01's "no mark stands": every mark byte is 0
abbrev pub NoMarkStands : Sheet → List ℕ → Type 0
NoMarkStands S t = (k : ℕ) → k < size S → mark_in (row width t k) ≡ 0

-- the answer of an ask whose value is that in the record of item i
abbrev pub reading_in : List ℕ → ℕ → Answer
reading_in t i = record { number = 0; offset = 0; kind = kind_in (row width t i); value = number_in (row width t i) }

-- 02's season-close run, from the table t to what the office then keeps, o: "entry values as they were, every figure worked out anew from
-- its parents and stored, no marks". The parents' values are those that the run leaves: it goes lowest first (circuit, Equations).
pub record CloseLeaves (s : List ℕ) (t : List ℕ) (o : Office) : Type 0 where
  pub entries : (i : ℕ) → i < size (sheet_of s) → is_figure (item_at (sheet_of s) i) ≡ false
      → (kind_in (row width o.table i) ≡ kind_in (row width t i)) × (number_in (row width o.table i) ≡ number_in (row width t i))
  pub figures : (i : ℕ) (op : Operation) (kept : Bool) (spread : Spread) (ps : List ℕ) → i < size (sheet_of s)
      → item_at (sheet_of s) i ≡ figure op kept spread ps → Stores o.table i (apply op (map (value_of o.table) ps))
  pub no_marks : NoMarkStands (sheet_of s) o.table
  -- so each item holds the solution under the entries that the table held
  pub solves : (values : ℕ → Value) × OnlySolution (sheet_of s) (entries_in t) values × ((i : ℕ) → i < size (sheet_of s) → Stores o.table i (values i))
  -- from then on an ask gives what the item's record holds, and changes nothing; nor does another run
  pub asked : (i : ℕ) → i < size (sheet_of s) → let g : Given = call_on s o (ask i) in (answer_of g ≡ reading_in o.table i) × (g.after ≡ o)
  pub again : (call_on s o close).after ≡ o

-- 02's swap, from what the office keeps, o, to what it then keeps, p: "the first loses it, the second gains it, NULL counting as 0, and both
-- are stored as by posts, the giver first". (The number in the record of NULL is 0.)
pub record SwapLeaves (s : List ℕ) (o : Office) (giver taker : ℕ) (quantity : ℤ) (p : Office) : Type 0 where
  pub giver_is : Stores p.table giver (num (numbers_in o.table giver -ℤ quantity))
  pub taker_is : Stores p.table taker (num (numbers_in o.table taker +ℤ quantity))
  pub noticed : (mark_in (row width p.table giver) ≡ 2) × (mark_in (row width p.table taker) ≡ 2)
  pub others : (j : ℕ) → j < size (sheet_of s) → ¬ (j ≡ giver) → ¬ (j ≡ taker) → row width p.table j ≡ row width o.table j
  -- both posts are accepted, and leave the same
  pub as_posts : let first : Given = call_on s o (post giver 3 (numbers_in o.table giver -ℤ quantity)) in
      let second : Given = call_on s first.after (post taker 3 (numbers_in o.table taker +ℤ quantity)) in
      (first.number ≡ 0) × (second.number ≡ 0) × (p ≡ second.after)

-- What the calls leave of what an office keeps, where it is accepted: the index as it was, an accepted table, and of an accepted
-- call the table of its sentence, in bytes.
pub record CallsLeave (s : List ℕ) (o : Office) : Type 0 where
  pub index_kept : (c : Call) → (call_on s o c).after.index ≡ o.index
  pub accepted : (c : Call) → AcceptedLent s (call_on s o c).after
  pub bytes : (c : Call) → Bytes (call_on s o c).after.table
  -- 02's "Every call keeps it true"
  pub owed_right : (c : Call) → OwedRight (sheet_of s) (call_on s o c).after.table
  pub posts : (i kind : ℕ) (z : ℤ) → let g : Given = call_on s o (post i kind z) in
      g.number ≡ 0 → PostLeaves (size (sheet_of s)) o.table i kind z g.after.table
  pub keeps : (i : ℕ) → let g : Given = call_on s o (keep i) in g.number ≡ 0 → KeepLeaves (sheet_of s) o.table i g.after.table
  pub drops : (i : ℕ) → let g : Given = call_on s o (drop i) in g.number ≡ 0 → DropLeaves (size (sheet_of s)) o.table i g.after.table
  pub steps : (i : ℕ) → let g : Given = call_on s o (step i) in g.number ≡ 0 → StepLeaves (sheet_of s) o.table i g.after.table
  pub asks : (i : ℕ) → let g : Given = call_on s o (ask i) in g.number ≡ 0 → AskLeaves (sheet_of s) o.table i g
  pub quiet : (i : ℕ) → let g : Given = call_on s o (ask i) in g.number ≡ 0 → NoMarkStands (sheet_of s) g.after.table
  pub boards : (items results : List ℕ) → let g : Given = call_on s o (board items results) in
      g.number ≡ 0 → BoardLeaves (sheet_of s) o items g
  -- 02's "Values and work table are those of asking for them one after another"
  pub board_asks : (items results : List ℕ) → let g : Given = call_on s o (board items results) in
      g.number ≡ 0 → Asks s o (listed items) g.results g.after
  pub board_quiet : (items results : List ℕ) → let g : Given = call_on s o (board items results) in
      g.number ≡ 0 → ¬ (items ≡ []) → NoMarkStands (sheet_of s) g.after.table
  pub closes : let g : Given = call_on s o close in g.number ≡ 0 → CloseLeaves s o.table g.after
  pub swaps : (giver taker : ℕ) (quantity : ℤ) → let g : Given = call_on s o (swap giver taker quantity) in
      g.number ≡ 0 → SwapLeaves s o giver taker quantity g.after
