-- How long a day's text is, and that what the program lends is enough for every day. Assumes nothing.
use Prim.Native.Nat.{ℕ, zero, suc, ◌+◌, ◌-◌, ◌*◌, ◌≤◌, ◌<◌}
use mathlib.Core.Path.{◌≡◌, refl, sym, ap, ◌∙◌}
use mathlib.Core.Bool.{Bool, true, false, cond, ◌&&◌}
use mathlib.Core.List.{List, ◌++◌}
use mathlib.Core.Option.{Option, none, some}
use native.Mathlib.Omega.{arith}
use borrow.Author.Tests.{eqb-true, eq-eqb, ltb-true, ltb-false}
use lib.Dec.{eqb}
use lib.ListN.{length, take, get_or, length-append, length-take}
use lib.ListN
use lib.Seq.{get_or-take, get_or-drop, take_all, length-take-le}
use Rattle.circuit.specs.Call.{bare, Call, post, keep, drop, step, ask, board, close, swap}
use Rattle.circuit.specs.Calls.{first_cause}
use Rattle.field.specs.Field.{Cut, absent, short, field, cut_at, Bytes}
use Rattle.field.proofs.Cutting.{FieldAt, field_iff, le16_small}
use Rattle.layout.specs.Index.{index_width}
use Rattle.layout.specs.Read.{Placed, opens, read_sheet}
use Rattle.layout.specs.Content.{content_at}
use Rattle.layout.proofs.Scan.{opened_count}
use Rattle.layout.specs.Layout.{most_items}
use Rattle.table.specs.Record.{width}
use Rattle.office.specs.Office.{Given, open_on, call_on, keeping}
use Rattle.office.specs.Demand1Words.{calling}
use Rattle.decimal.specs.Decimal.{digits}
use Rattle.printer.specs.Printing.{text_of, least_scratch}
use Rattle.value.specs.Meaning.{parts_of}
use Rattle.decimal.proofs.Digits.{length_at_most}
use Rattle.printer.proofs.Notation.{longest}
use Rattle.printer.proofs.Meaning.{part_small}
use Rattle.day_meaning.specs.Lines.{no_line, ask_line, last_line, sheet_word, day_word, space, line_end}
use Rattle.day_meaning.specs.Orders.{post_tag, ask_tag, keep_tag, drop_tag, step_tag, post_length, call_length, item_in, kind_in, number_in, kind_allowed, post_in, call_in, order_of}
use Rattle.day_meaning.specs.Day.{answer_line, reading_line, line_of, fault_number, fault_line, play_from, day_by, day_on, index_size, table_size}
use Rattle.layout.specs.Room.{count_said}
use Rattle.day_meaning.specs.Day.{file_limit, long_number, too_long, read_day, run_day, Ran}
use Rattle.day_meaning.specs.Room.{text_per_byte, text_besides, output_room, DayLent, Shown}
use Rattle.day_meaning.proofs.Storing.{part_whole}
use Rattle.day_meaning.proofs.Playing.{play_absent, play_short, play_fault, play_call_lem}
use Rattle.layout.proofs.Rooms.{item_count}
use Rattle.day_meaning.proofs.Numbers.{two_digits, opening_small}
use Rattle.day_meaning.proofs.TooLong.{long_refused}

-- the item of a call that a day log can order
abbrev item_of : Call → ℕ
item_of (post i kind z) = i
item_of (keep i) = i
item_of (drop i) = i
item_of (step i) = i
item_of (ask i) = i
item_of (board items results) = 0
item_of close = 0
item_of (swap giver taker quantity) = 0

-- a field that orders a call has at least 2 bytes, the first of which are the item
pub record Ordering (content : List ℕ) (c : Call) : Type 0 where
  pub two : 2 ≤ length content
  pub item : item_of c ≡ item_in content

call_ordering : (call : ℕ → Call) (content : List ℕ) (c : Call) → ((i : ℕ) → item_of (call i) ≡ i) → call_in call content ≡ some c → Ordering content c
unfolding call_in
call_ordering call content c named = go (eqb (length content) call_length) refl
  where
    go : (b : Bool) → eqb (length content) call_length ≡ b → cond b (some (call (item_in content))) none ≡ some c → Ordering content c
    go true e h =
        let two : length content ≡ call_length = eqb-true (length content) call_length e in
        let same : call (item_in content) ≡ c = cc in
        record { two = omega arith; item = ap item_of (sym same) ∙ named (item_in content) }
    go false e h = let z : ◌≡◌ {A = ℕ} 0 1 = cc in absurd (omega arith)

post_ordering : (content : List ℕ) (c : Call) → post_in content ≡ some c → Ordering content c
unfolding post_in
post_ordering content c = go (eqb (length content) post_length) (kind_allowed (kind_in content) (number_in content)) refl
  where
    go : (b k : Bool) → eqb (length content) post_length ≡ b → cond (b && k) (some (post (item_in content) (kind_in content) (number_in content))) none ≡ some c → Ordering content c
    go true true e h =
        let eleven : length content ≡ post_length = eqb-true (length content) post_length e in
        let same : post (item_in content) (kind_in content) (number_in content) ≡ c = cc in
        record { two = omega arith; item = ap item_of (sym same) }
    go true false e h = let z : ◌≡◌ {A = ℕ} 0 1 = cc in absurd (omega arith)
    go false true e h = let z : ◌≡◌ {A = ℕ} 0 1 = cc in absurd (omega arith)
    go false false e h = let z : ◌≡◌ {A = ℕ} 0 1 = cc in absurd (omega arith)

ordering : (tag : ℕ) (content : List ℕ) (c : Call) → order_of tag content ≡ some c → Ordering content c
unfolding order_of
ordering tag content c = a (eqb tag post_tag) (eqb tag ask_tag) (eqb tag keep_tag) (eqb tag drop_tag) (eqb tag step_tag)
  where
    e : (b : Bool) → cond b (call_in step content) none ≡ some c → Ordering content c
    e true h = call_ordering step content c (λ i. refl) h
    e false h = let z : ◌≡◌ {A = ℕ} 0 1 = cc in absurd (omega arith)

    d : (b b₅ : Bool) → cond b (call_in drop content) (cond b₅ (call_in step content) none) ≡ some c → Ordering content c
    d true b₅ h = call_ordering drop content c (λ i. refl) h
    d false b₅ h = e b₅ h

    k : (b b₄ b₅ : Bool) → cond b (call_in keep content) (cond b₄ (call_in drop content) (cond b₅ (call_in step content) none)) ≡ some c → Ordering content c
    k true b₄ b₅ h = call_ordering keep content c (λ i. refl) h
    k false b₄ b₅ h = d b₄ b₅ h

    q : (b b₃ b₄ b₅ : Bool)
        → cond b (call_in ask content) (cond b₃ (call_in keep content) (cond b₄ (call_in drop content) (cond b₅ (call_in step content) none))) ≡ some c
        → Ordering content c
    q true b₃ b₄ b₅ h = call_ordering ask content c (λ i. refl) h
    q false b₃ b₄ b₅ h = k b₃ b₄ b₅ h

    a : (b b₂ b₃ b₄ b₅ : Bool)
        → cond b (post_in content) (cond b₂ (call_in ask content) (cond b₃ (call_in keep content) (cond b₄ (call_in drop content) (cond b₅ (call_in step content) none)))) ≡ some c
        → Ordering content c
    a true b₂ b₃ b₄ b₅ h = post_ordering content c h
    a false b₂ b₃ b₄ b₅ h = q b₂ b₃ b₄ b₅ h

-- the lines
text_small : (kind : ℕ) (z : _) → length (text_of (parts_of kind z)) ≤ longest
text_small kind z = rw (sym (part_whole kind least_scratch z z refl refl)) (part_small kind z least_scratch)

no_line_short : (n : ℕ) → n ≤ 99 → length (no_line n) ≤ 30
no_line_short n h = rw (length-append (digits n) line_end) (omega (arith, length_at_most 1 n (omega arith)))

answer_short : (n : ℕ) → n ≤ 99 → length (answer_line n) ≤ 30
answer_short zero h = omega arith
answer_short (suc n) h = no_line_short (suc n) h

ask_line_short : (i : ℕ) (text : List ℕ) → i < 65536 → length text ≤ longest → length (ask_line i text) ≤ 30
ask_line_short i text h k =
    rw (length-append (digits i) (space ++ (text ++ line_end)), length-append text line_end) (omega (arith, length_at_most 4 i (omega arith)))

reading_short : (i n : ℕ) (text : List ℕ) → i < 65536 → length text ≤ longest → n ≤ 99 → length (reading_line i n text) ≤ 30
reading_short i zero text a b h = ask_line_short i text a b
reading_short i (suc n) text a b h = no_line_short (suc n) h

line_short : (c : Call) (g : Given) → g.number ≤ 99 → item_of c < 65536 → length (line_of c g) ≤ 30
line_short (post i kind z) g h k = answer_short g.number h
line_short (keep i) g h k = answer_short g.number h
line_short (drop i) g h k = answer_short g.number h
line_short (step i) g h k = answer_short g.number h
line_short (board items results) g h k = answer_short g.number h
line_short close g h k = answer_short g.number h
line_short (swap giver taker quantity) g h k = answer_short g.number h
line_short (ask i) g h k = reading_short i g.number _ k (text_small g.kind g.value) h

-- a last line: its word, a number of at most two digits and an offset of at most five
last_short : (word : List ℕ) (n at : ℕ) → n ≤ 99 → at ≤ file_limit → length (last_line word n at) ≤ length word + 9
last_short word n at k h =
    rw (
      length-append word (digits n ++ (space ++ (digits at ++ line_end))),
      length-append (digits n) (space ++ (digits at ++ line_end)),
      length-append (digits at) line_end,
    )
    (omega (arith, length_at_most 1 n (omega arith), length_at_most 4 at (omega arith)))

fault_short : (at : ℕ) → at ≤ file_limit → length (fault_line at) ≤ text_besides
fault_short at h = last_short day_word fault_number at (omega arith) h

-- the item that a field names
item_small : (d content : List ℕ) (start len : ℕ) (c : Call) → Bytes d → content ≡ content_at d start len → Ordering content c → item_of c < 65536
item_small d content start len c b e o =
    let within : length (content_at d start len) ≤ len = omega (arith, length-take len (ListN.drop start d)) in
    let two : 2 ≤ length (content_at d start len) = rw e at o.two in
    let at : (k : ℕ) → k < len → get_or (content_at d start len) k 0 < 256 =
    λ k h. rw (get_or-take len (ListN.drop start d) k 0 h, get_or-drop start d k 0) (b (start + k))
    in
    rw (o.item, e) (le16_small (get_or (content_at d start len) 0 0) (get_or (content_at d start len) 1 0) (at 0 (omega arith)) (at 1 (omega arith)))

module _ (s x d : List ℕ) (b : Bytes d) (n : length d ≤ file_limit) where
  abbrev Room : ℕ → List ℕ → ℕ → Type 0
  Room f t at = length (play_from f s x d at t).text ≤ text_per_byte * (length d - at) + text_besides

  call_room : (f : ℕ) (t : List ℕ) (at tag start len next : ℕ) (c : Call) → FieldAt d at tag start len next → order_of tag (content_at d start len) ≡ some c
      → Room f (call_on s (keeping x t) c).after.table next → length
      (line_of c (call_on s (keeping x t) c) ++ (play_from f s x d next (call_on s (keeping x t) c).after.table).text) ≤ text_per_byte * (length d - at) + text_besides
  call_room f t at tag start len next c w e ih =
      let o = ordering tag (content_at d start len) c e in
      let within : length (content_at d start len) ≤ len = omega (arith, length-take len (ListN.drop start d)) in
      let line : length (line_of c (call_on s (keeping x t) c)) ≤ 30 =
      line_short c (call_on s (keeping x t) c) (two_digits (calling c) s (keeping x t)) (item_small d (content_at d start len) start len c b refl o)
      in
      rw (length-append (line_of c (call_on s (keeping x t) c)) (play_from f s x d next (call_on s (keeping x t) c).after.table).text)
      (omega (arith, ih, o.two, w.start_is, w.next_is, w.next_in))

  room : (f : ℕ) (t : List ℕ) (at : ℕ) → at ≤ length d → Room f t at
  room zero t at h = unfold play_from in omega arith
  room (suc f) t at h = cut (λ u next k. room f u next k) (cut_at d at) refl
    where
      order : ((u : List ℕ) (next : ℕ) → next ≤ length d → Room f u next) → (tag start len next : ℕ) → cut_at d at ≡ field tag start len next
          → (o : Option Call) → order_of tag (content_at d start len) ≡ o → Room (suc f) t at
      order ih tag start len next e none o =
          rw (play_fault s x d t at f tag start len next e o) (omega (arith, fault_short at (omega arith)))
      order ih tag start len next e (some c) o =
          let w : FieldAt d at tag start len next = (field_iff d at tag start len next).0 e in
          rw (play_call_lem s x d t at f tag start len next c e o)
          (call_room f t at tag start len next c w o (ih (call_on s (keeping x t) c).after.table next w.next_in))

      cut : ((u : List ℕ) (next : ℕ) → next ≤ length d → Room f u next) → (c : Cut) → cut_at d at ≡ c → Room (suc f) t at
      cut ih absent e = rw (play_absent s x d t at f e) (omega arith)
      cut ih short e = rw (play_short s x d t at f e) (omega (arith, fault_short at (omega arith)))
      cut ih (field tag start len next) e = order ih tag start len next e (order_of tag (content_at d start len)) refl

-- the text of a day whose sheet opens
pub day_room : (s d x t : List ℕ) → (open_on bare s (keeping x t)).number ≡ 0 → Bytes d → length d ≤ file_limit
    → length (day_on s d x t).text ≤ text_per_byte * length d + text_besides
unfolding day_on
day_room s d x t h b n =
    let whole = room s (open_on bare s (keeping x t)).after.index d b n (suc (length d)) (open_on bare s (keeping x t)).after.table 0 (omega arith) in
    let all : length d - 0 ≡ length d = omega arith in
    rw h (rw all at whole)

-- the text of any day whose sheet is read
text_room : (s d x t : List ℕ) → Bytes d → length s ≤ file_limit → length d ≤ file_limit → length (day_on s d x t).text ≤ output_room
unfolding day_on
text_room s d x t b m n = go (open_on bare s (keeping x t)).number refl
  where
    go : (k : ℕ) → (open_on bare s (keeping x t)).number ≡ k → length (day_by k s d (open_on bare s (keeping x t))).text ≤ output_room
    go zero e = omega (arith, rw e at (day_room s d x t e b n))
    go (suc k) e =
        let o = opening_small s x t in
        omega (arith, last_short sheet_word (suc k) (open_on bare s (keeping x t)).offset (omega arith) (omega arith))

-- the sheet is over the limit, or it is read
run_room : (s d x t : List ℕ) → Bytes d → length d ≤ file_limit → length (run_day s d x t).text ≤ output_room
unfolding read_day
run_room s d x t b n = go (too_long s) refl
  where
    go : (long : Bool) → too_long s ≡ long → length (run_day s d x t).text ≤ output_room
    go true e =
        rw ((long_refused s d x t).only (ltb-true file_limit (length s) e)) (omega (arith, last_short sheet_word long_number 0 (omega arith) (omega arith)))
    go false e =
        let fits : length s ≤ file_limit = ltb-false file_limit (length s) e in
        rw ((long_refused s d x t).otherwise (λ h. omega (arith, h, fits)))
        (text_room s d (take (index_size s) x) (take (table_size s) t) b fits n)

-- What the program lends is enough: the whole text of the day is in the output.
pub day_shown : {s d x t out x' t' out' : List ℕ} {count : ℕ} → DayLent s d x t out → Bytes d → Ran (run_day s d x t) out count x' t' out'
    → Shown (run_day s d x t) out x' t' out' × (count ≡ length (run_day s d x t).text)
day_shown {s} {d} {x} {t} {out} l b r =
    let fits : length (run_day s d x t).text ≤ length out = omega (arith, l.output_room_is, run_room s d x t b l.log_fits) in (
      record {
        output_is = r.output_is ∙ ap (λ y. y ++ ListN.drop (length (run_day s d x t).text) out) (take_all (length out) (run_day s d x t).text fits);
        index_is = r.index_is;
        table_is = r.table_is;
      },
      omega (arith, r.count_is),
    )

-- and no sheet is turned back for want of index or table
pub day_opens : {s d x t out : List ℕ} {edition : ℕ} {ps : List Placed} → DayLent s d x t out → read_sheet s ≡ opens edition ps
    → (open_on bare s (keeping (take (index_size s) x) (take (table_size s) t))).number ≡ 0
unfolding open_on first_cause most_items
day_opens {s} {d} {x} {t} {out} {edition} {ps} l e =
    let n : count_said s ≡ length ps = item_count s edition ps e in
    let most = opened_count s edition ps e in
    let a : length (take (index_size s) x) ≡ index_width * length ps = length-take-le (index_size s) x (omega (arith, l.index_room_is)) ∙ ap (λ k. index_width * k) n in
    let b : length (take (table_size s) t) ≡ width * length ps = length-take-le (table_size s) t (omega (arith, l.table_room_is)) ∙ ap (λ k. width * k) n in
    rw (e, eq-eqb (length (take (index_size s) x)) (index_width * length ps) a, eq-eqb (length (take (table_size s) t)) (width * length ps) b)
