-- Two offices agree, and what stays stored, for the calls on lent bytes. Assumes nothing.
use Prim.Native.Nat.{ℕ, zero, suc, ◌<◌}
use native.Mathlib.Omega.{arith}
use mathlib.Core.Path.{◌≡◌, refl, sym, ap, ap₂, ◌∙◌, subst, subst₂}
use mathlib.Core.Bool.{Bool, true, false, cond, not}
use mathlib.Core.List.{List, [], ◌∷◌}
use mathlib.Core.Logic.{inl, inr}
use mathlib.Core.Option.{Option, none, some}
use lib.Dec.{eqb, ltb}
use lib.IntN.{ℤ}
use lib.ListN.{length, length-map}
use borrow.Author.Tests.{lt-ltb, le-ltb}
use Rattle.circuit.specs.Value.{Value}
use Rattle.circuit.specs.Circuit.{Listed, LeadsTo}
use Rattle.circuit.specs.Sheet.{Sheet, Ordered, Entries, size, item_at, is_figure, circuit_of}
use Rattle.circuit.specs.Table.{Table, Mark, unmarked, unk, held, is_stored, value_in, opened}
use Rattle.circuit.specs.Call.{Call, post, ask, board, close, swap, posted_to, Opening, bare, full}
use Rattle.circuit.specs.Swap.{swap_postings}
use Rattle.circuit.specs.Calls.{Outcome, first_cause, tests, swap_tests, effect, perform, run, postings_made, postings, posting_of, posted_value, if_accepted}
use Rattle.circuit.specs.Board.{listed, lists_wrong}
use Rattle.circuit.specs.Fresh.{blank, hear_all, give, fresh_ask, fresh_asks}
use Rattle.circuit.specs.Events.{fresh_run}
use Rattle.circuit.specs.Closing.{close_all}
use Rattle.circuit.specs.Words.{Holds, dropped_in}
use Rattle.circuit.proofs.Solution.{figure_below}
use Rattle.circuit.proofs.Offices.{Agree, Answers, Shows, two_offices, opened_sound}
use Rattle.circuit.proofs.Retention.{Retained, call_retention}
use Rattle.circuit.proofs.Demand.{figure_outside}
use Rattle.circuit.proofs.View.{result_below}
use Rattle.circuit.proofs.Invariant.{Justified, exact, due, awaits}
use Rattle.circuit.proofs.Closing.{close_at}
use Rattle.circuit.proofs.Sound.{Sound, run_sound}
use Rattle.circuit.proofs.Swaps.{swap_number, swap_made}
use Rattle.layout.specs.Read.{Placed, Scan, going, stopped, place_field, go_on, judge, item_tests, last_tests, head_tests, scan_item, scan, scan_end, after_last, scan_last, scan_sheet, conclude}
use Rattle.layout.specs.Read.{head_content, SheetRead, opens, refused, read_sheet, layout_of}
use Rattle.layout.specs.Content.{edition_in, count_in}
use Rattle.layout.specs.Opened.{sheet_from, sheet_of, sheet_read}
use Rattle.layout.specs.Index.{index_bytes}
use Rattle.layout.proofs.Scan.{opened_ordered}
use Rattle.layout.proofs.IndexLaws.{index_length}
use Rattle.field.specs.Field.{Cut, absent, short, field, cut_at}
use Rattle.table.specs.Rows.{row}
use Rattle.table.specs.Record.{width, kind_in, mark_in, number_in}
use Rattle.table.specs.Bytes.{encode_table, Holdable}
use Rattle.table.proofs.Tables.{encoded_kind, encoded_number, encode_table_ext, bare_holdable, full_holdable}
use Rattle.office.specs.Office.{Office, keeping, Given, results_lent, accepted, opening_tests, unless_refused, call_on, open_read, open_on, run_on, kind_read, number_read}
use Rattle.office.specs.Demand2Words.{answer_of}
use Rattle.office.specs.Demand3Words.{made_on, postings_on, fresh_answer, fresh_entries, fresh_after, SameReading, Shown, shown, board_after, fresh_shown, fresh_board, SameBoard}
use Rattle.office.specs.Demand3Words.{SameSwap, SameAnswers, stored_in, StaysStored, Retains, RetainsPost}
use Rattle.office.proofs.Cells.{kind_cell, parts_same, quiet_encoded}
use Rattle.office.proofs.Holdable.{run_holdable, perform_holdable}
use Rattle.office.proofs.Bridge.{Within, perform_within, run_within, results_by, given_by, call_performs, run_performs, made_performs, postings_performs, events_performs}

-- a reading that stops does so by a number that is not 0
abbrev Positive : Scan → Type 0
Positive (going at ps) = Unit {0}
Positive (stopped k at) = k ≡ 0 → ⊥

go_on_positive : (k at : ℕ) (next : Scan) → Positive next → Positive (go_on k at next)
go_on_positive zero at next h = h
go_on_positive (suc k) at next h = λ e. omega arith

place_positive : (s : List ℕ) (at : ℕ) (ps : List Placed) (c : Cut) → Positive (place_field s at ps c)
place_positive s at ps absent = λ e. omega arith
place_positive s at ps short = λ e. omega arith
place_positive s at ps (field tag start len next) = tt

item_positive : (s : List ℕ) (edition : ℕ) (x : Scan) → Positive x → Positive (scan_item s edition x)
item_positive s edition (stopped k at) h = h
item_positive s edition (going at ps) h =
    go_on_positive (judge (item_tests edition ps) s (cut_at s at)) at (place_field s at ps (cut_at s at)) (place_positive s at ps (cut_at s at))

scan_positive : (s : List ℕ) (edition k : ℕ) → Positive (scan s edition k)
unfolding scan
scan_positive s edition zero = tt
scan_positive s edition (suc k) = item_positive s edition (scan s edition k) (scan_positive s edition k)

end_positive : (b : Bool) (at : ℕ) (ps : List Placed) → Positive (cond b (stopped 2 at) (going at ps))
end_positive true at ps = λ e. omega arith
end_positive false at ps = tt

last_positive : (s : List ℕ) (x : Scan) → Positive x → Positive (scan_last s x)
last_positive s (stopped k at) h = h
last_positive s (going at ps) h =
    go_on_positive (judge last_tests s (cut_at s at)) at (scan_end s (after_last s (cut_at s at)) ps)
    (end_positive (ltb (after_last s (cut_at s at)) (length s)) (after_last s (cut_at s at)) ps)

-- a refused sheet has a number that is not 0
pub refused_positive : (s : List ℕ) (k at : ℕ) → read_sheet s ≡ refused k at → k ≡ 0 → ⊥
unfolding read_sheet scan_sheet
refused_positive s k at e = go (scan_sheet s) (sheet_positive (edition_in (head_content s)) (count_in (head_content s))) e
  where
    sheet_positive : (edition n : ℕ) → Positive (go_on (judge head_tests s (cut_at s 0)) 0 (scan_last s (scan s edition n)))
    sheet_positive edition n =
        go_on_positive (judge head_tests s (cut_at s 0)) 0 (scan_last s (scan s edition n)) (last_positive s (scan s edition n) (scan_positive s edition n))

    go : (x : Scan) → Positive x → conclude (edition_in (head_content s)) x ≡ refused k at → k ≡ 0 → ⊥
    go (going a ps) h q = let bad : ◌≡◌ {A = ℕ} 0 1 = cc in absurd (omega arith)
    go (stopped n a) h q = let same : n ≡ k = cc in λ z. h (same ∙ z)

-- what an accepted opening left
pub record Opens (s : List ℕ) (kept : Office) (o : Opening) : Type 0 where
  pub edition : ℕ
  pub placed : List Placed
  pub reads : read_sheet s ≡ opens edition placed
  pub gives : open_on o s kept ≡ accepted none [] (keeping (index_bytes placed) (encode_table (sheet_read edition placed) (opened o (sheet_read edition placed))))

pub opening_opens : (s : List ℕ) (kept : Office) (o : Opening) → (open_on o s kept).number ≡ 0 → Opens s kept o
unfolding open_on
opening_opens s kept o e = go (read_sheet s) refl e
  where
    go : (r : SheetRead) → read_sheet s ≡ r → (open_read o r kept).number ≡ 0 → Opens s kept o
    go (refused k at) q z = absurd (refused_positive s k at q z)
    go (opens edition ps) q z = pick (first_cause (opening_tests ps kept)) refl z
      where
        G : Given
        G = accepted none [] (keeping (index_bytes ps) (encode_table (sheet_read edition ps) (opened o (sheet_read edition ps))))

        pick : (k : ℕ) → first_cause (opening_tests ps kept) ≡ k → (unless_refused k [] kept G).number ≡ 0 → Opens s kept o
        pick zero c w =
            record { edition = edition; placed = ps; reads = q; gives = ap (λ r. open_read o r kept) q ∙ ap (λ k. unless_refused k [] kept G) c }
        pick (suc k) c w = absurd (omega arith)

-- a table with nothing beyond the sheet
abbrev pub cut : Sheet → Table → Table
cut S T = λ i. cond (ltb i (size S)) (T i) (unk false)

cut_below : (S : Sheet) (T : Table) (i : ℕ) → i < size S → cut S T i ≡ T i
cut_below S T i low = rw (lt-ltb i (size S) low)

cut_within : (S : Sheet) (T : Table) → Within S (cut S T)
cut_within S T j beyond = rw (le-ltb j (size S) beyond)

cut_holdable : (S : Sheet) (T : Table) → Holdable S T → Holdable S (cut S T)
cut_holdable S T h i low = rw (cut_below S T i low) (h i low)

-- a table that is equal below n is sound too
cut_sound : (S : Sheet) → Ordered S → (E : Entries) (T : Table) → Sound S E T → Sound S E (cut S T)
cut_sound S ordered E T sound =
    record {
      invariant = λ k f v m e.
          let low : k < size S = figure_below S k f in
          justified k low v m (sound.invariant k f v m (sym (cut_below S T k low) ∙ e));
      formed = λ i low. rw (cut_below S T i low) (sound.formed i low);
      holds = λ i low f. ap value_in (cut_below S T i low) ∙ sound.holds i low f;
    }
  where
    justified : (k : ℕ) → k < size S → (v : Value) (m : Mark) → Justified S T k v m → Justified S (cut S T) k v m
    justified k low v m (exact e) = exact (e ∙ ap (λ r. r.value) (sym (result_below S ordered (cut S T) T (size S) (λ j l. cut_below S T j l) k (omega arith))))
    justified k low v m (due e) = due e
    justified k low v m (awaits e) = awaits (ap (λ r. r.flag) (result_below S ordered (cut S T) T (size S) (λ j l. cut_below S T j l) k (omega arith)) ∙ e)

pub opened_holdable : (o : Opening) (S : Sheet) → Holdable S (opened o S)
opened_holdable bare S = bare_holdable S
opened_holdable full S = full_holdable S

answer_same : (S : Sheet) (x : List ℕ) (o : Outcome) (k : ℕ) (v : Option Value) → o.number ≡ k → o.reading ≡ v
    → answer_of (given_by S x [] o) ≡ record { number = k; offset = 0; kind = kind_read v; value = number_read v }
answer_same S x o k v n r = λ i. record { number = n i; offset = 0; kind = kind_read (r i); value = number_read (r i) }

pub answer_fresh : (S : Sheet) (x : List ℕ) (o : Outcome) (given : Option Value) → Answers given o → answer_of (given_by S x [] o) ≡ fresh_answer given
answer_fresh S x o none a = answer_same S x o 11 none a.0 a.1
answer_fresh S x o (some v) a = answer_same S x o 0 (some v) a.0 a.1

-- what a board answers
abbrev shown_by : Given → Shown
shown_by g = record { number = g.number; offset = g.offset; results = g.results }

shown_fresh : (S : Sheet) (x results : List ℕ) (wrong : Bool) (given : Option (List Value)) (o : Outcome) → Shows wrong given o
    → shown_by (given_by S x results o) ≡ fresh_shown wrong given results
shown_fresh S x results true given o a = λ i. shown (a.0 i) (results_by (a.0 i) results o.shown)
shown_fresh S x results false none o a = λ i. shown (a.0 i) (results_by (a.0 i) results o.shown)
shown_fresh S x results false (some vs) o a = λ i. shown (a.0 i) (results_by (a.0 i) results (a.1 i))

-- An opened sheet's offices: each call is the machine's, from a table that has the invariant.
module _ (s : List ℕ) (edition : ℕ) (ps : List Placed) (reads : read_sheet s ≡ opens edition ps) where
  abbrev S : Sheet
  S = sheet_read edition ps

  -- an office that keeps the sheet's index and the encoding of a table
  abbrev pub at : Table → Office
  at T = keeping (index_bytes ps) (encode_table (sheet_read edition ps) T)

  pub ordered : Ordered (sheet_read edition ps)
  ordered = opened_ordered s edition ps reads

  pub sized : size (sheet_read edition ps) ≡ length ps
  sized = length-map (layout_of edition ps).items _ ∙ length-map ps _

  pub sheet_is : sheet_of s ≡ sheet_read edition ps
  unfolding sheet_of
  sheet_is = ap sheet_from reads

  unfoldable pub start : Opening → Table
  start o = cut (sheet_read edition ps) (opened o (sheet_read edition ps))

  pub start_holdable : (o : Opening) → Holdable (sheet_read edition ps) (start o)
  unfolding start
  start_holdable o = cut_holdable (sheet_read edition ps) _ (opened_holdable o (sheet_read edition ps))

  pub start_within : (o : Opening) → Within (sheet_read edition ps) (start o)
  unfolding start
  start_within o = cut_within (sheet_read edition ps) (opened o (sheet_read edition ps))

  pub start_sound : (o : Opening) → Sound (sheet_read edition ps) blank (start o)
  unfolding start
  start_sound o = cut_sound (sheet_read edition ps) ordered blank _ (opened_sound (sheet_read edition ps) ordered o)

  start_encoded : (o : Opening) → encode_table (sheet_read edition ps) (opened o (sheet_read edition ps)) ≡ encode_table (sheet_read edition ps) (start o)
  unfolding start
  start_encoded o = encode_table_ext (sheet_read edition ps) _ _ (λ i low. sym (cut_below (sheet_read edition ps) (opened o (sheet_read edition ps)) i low))

  pub performs : (T : Table) (c : Call) → Holdable (sheet_read edition ps) T → Within (sheet_read edition ps) T
      → call_on s (at T) c ≡ given_by (sheet_read edition ps) (index_bytes ps) (results_lent c) (perform (sheet_read edition ps) T c)
  performs = call_performs s edition ps reads (index_length ps) sized ordered

  -- the postings of a call and of a list
  pub made : (T : Table) (c : Call) → Holdable (sheet_read edition ps) T → Within (sheet_read edition ps) T → made_on s (at T) c ≡ postings_made (sheet_read edition ps) T c
  made = made_performs s (index_bytes ps) (sheet_read edition ps) ordered performs

  pub posts_made : (cs : List Call) (T : Table) → Holdable (sheet_read edition ps) T → Within (sheet_read edition ps) T
      → postings_on s (at T) cs ≡ postings (sheet_read edition ps) T cs
  posts_made = postings_performs s (index_bytes ps) (sheet_read edition ps) ordered performs

  -- what the fresh office then holds
  pub fresh_is : (E : Entries) (cs : List Call) (T : Table) → Holdable (sheet_read edition ps) T → Within (sheet_read edition ps) T
      → fresh_entries s E (at T) cs ≡ fresh_run (sheet_read edition ps) E T cs
  fresh_is E cs T h w =
      ap₂ (λ Y es. hear_all Y E es) sheet_is (events_performs s (index_bytes ps) (sheet_read edition ps) ordered performs cs T h w)

  pub runs : (cs : List Call) (T : Table) → Holdable (sheet_read edition ps) T → Within (sheet_read edition ps) T
      → run_on s (at T) cs ≡ at (run (sheet_read edition ps) T cs)
  runs = run_performs s (index_bytes ps) (sheet_read edition ps) ordered performs

  -- a call after a list of calls
  called_after : (cs : List Call) (T : Table) (c : Call) → Holdable (sheet_read edition ps) T → Within (sheet_read edition ps) T
      → call_on s (run_on s (at T) cs) c
      ≡ given_by (sheet_read edition ps) (index_bytes ps) (results_lent c) (perform (sheet_read edition ps) (run (sheet_read edition ps) T cs) c)
  called_after cs T c h w =
      ap (λ k. call_on s k c) (runs cs T h w)
      ∙ performs (run (sheet_read edition ps) T cs) c (run_holdable (sheet_read edition ps) ordered cs T h) (run_within (sheet_read edition ps) ordered cs T w)

  -- a season-close run after a list of calls
  closed_after : (cs : List Call) (T : Table) → Holdable (sheet_read edition ps) T → Within (sheet_read edition ps) T
      → (call_on s (run_on s (at T) cs) close).after ≡ at (close_all (sheet_read edition ps) (run (sheet_read edition ps) T cs))
  unfolding perform tests first_cause effect
  closed_after cs T h w = ap (λ g. g.after) (called_after cs T close h w)

  -- the office that an accepted opening leaves
  unfoldable pub office : Opening → Given
  office o = accepted none [] (at (start o))

  pub opening_gives : (kept : Office) (o : Opening) → (open_on o s kept).number ≡ 0 → open_on o s kept ≡ office o
  unfolding open_on office
  opening_gives kept o e =
      ap (λ r. open_read o r kept) reads ∙ pick (first_cause (opening_tests ps kept)) (ap (λ r. (open_read o r kept).number) (sym reads) ∙ e)
      ∙ ap (λ u. accepted none [] (keeping (index_bytes ps) u)) (start_encoded o)
    where
      G : Given
      G = accepted none [] (at (opened o (sheet_read edition ps)))

      pick : (k : ℕ) → (unless_refused k [] kept G).number ≡ 0 → unless_refused k [] kept G ≡ G
      pick zero w = refl
      pick (suc k) w = absurd (omega arith)

  -- every ask and every board at two offices
  offices_same : (o p : Opening) (cs ds : List Call)
      → postings_on s (at (start o)) cs ≡ postings_on s (at (start p)) ds
      → SameAnswers s (at (start o)) cs (at (start p)) ds
  offices_same o p cs ds equal = record { asks = same_reading; boards = same_board; swaps = same_swap; closes = same_closed }
    where
      X : Sheet
      X = sheet_read edition ps

      x : List ℕ
      x = index_bytes ps

      made_same : postings X (start o) cs ≡ postings X (start p) ds
      made_same =
          sym (posts_made cs (start o) (start_holdable o) (start_within o))
          ∙ equal
          ∙ posts_made ds (start p) (start_holdable p) (start_within p)

      both : Agree X blank (start o) cs (start p) ds
      both = two_offices X ordered blank (start o) cs (start p) ds (start_sound o) (start_sound p) made_same

      -- what the fresh office holds, on the opened table
      fresh_at : (how : Opening) (es : List Call) → fresh_entries s blank (at (start how)) es ≡ fresh_run X blank (start how) es
      fresh_at how es = fresh_is blank es (start how) (start_holdable how) (start_within how)

      same_reading : (i : ℕ) → SameReading s (at (start o)) cs (at (start p)) ds i
      same_reading i =
          record {
            same = first ∙ alike ∙ sym second;
            fresh = first ∙ answer_fresh X x one (fresh_ask X (fresh_run X blank (start o) cs) i) (both.first i) ∙ in_words o cs;
            fresh_other = second ∙ sym alike ∙ answer_fresh X x one (fresh_ask X (fresh_run X blank (start p) ds) i) (both.second i) ∙ in_words p ds;
          }
        where
          in_words : (how : Opening) (es : List Call) → fresh_answer (fresh_ask X (fresh_run X blank (start how) es) i) ≡ fresh_after s (at (start how)) es i
          in_words how es = ap₂ (λ Y E. fresh_answer (fresh_ask Y E i)) (sym sheet_is) (sym (fresh_at how es))

          one : Outcome
          one = perform X (run X (start o) cs) (ask i)

          two : Outcome
          two = perform X (run X (start p) ds) (ask i)

          alike : answer_of (given_by X x [] one) ≡ answer_of (given_by X x [] two)
          alike = answer_same X x one two.number two.reading (both.numbers i) (both.readings i)

          first : answer_of (call_on s (run_on s (at (start o)) cs) (ask i)) ≡ answer_of (given_by X x [] one)
          first = ap answer_of (called_after cs (start o) (ask i) (start_holdable o) (start_within o))

          second : answer_of (call_on s (run_on s (at (start p)) ds) (ask i)) ≡ answer_of (given_by X x [] two)
          second = ap answer_of (called_after ds (start p) (ask i) (start_holdable p) (start_within p))

      same_board : (items results : List ℕ) → SameBoard s (at (start o)) cs (at (start p)) ds items results
      same_board items results =
          record {
            same = first ∙ ap (λ E. fresh_shown wrong (fresh_asks X E (listed items)) results) both.heard ∙ sym second;
            fresh = first ∙ in_words o cs;
            fresh_other = second ∙ in_words p ds;
          }
        where
          wrong : Bool
          wrong = lists_wrong items results

          fresh : Opening → List Call → Shown
          fresh how es = fresh_shown wrong (fresh_asks X (fresh_run X blank (start how) es) (listed items)) results

          in_words : (how : Opening) (es : List Call) → fresh how es ≡ fresh_board s (at (start how)) es items results
          in_words how es = ap₂ (λ Y E. fresh_shown wrong (fresh_asks Y E (listed items)) results) (sym sheet_is) (sym (fresh_at how es))

          first : board_after s (at (start o)) cs items results ≡ fresh o cs
          first =
              ap shown_by (called_after cs (start o) (board items results) (start_holdable o) (start_within o))
              ∙ shown_fresh X x results wrong _ _ (both.shows items results)

          second : board_after s (at (start p)) ds items results ≡ fresh p ds
          second =
              ap shown_by (called_after ds (start p) (board items results) (start_holdable p) (start_within p))
              ∙ shown_fresh X x results wrong _ _ (both.shows_other items results)

      held_at : (how : Opening) (es : List Call) → Holds X (run X (start how) es) (fresh_run X blank (start how) es)
      held_at how es = (run_sound X ordered es blank (start how) (start_sound how)).holds

      -- a swap's number and postings, by the fresh office's values
      swapped : (how : Opening) (es : List Call) (giver taker : ℕ) (quantity : ℤ) → let E : Entries = fresh_run X blank (start how) es in
          let k : ℕ = first_cause (swap_tests X E giver taker quantity) in
          ((call_on s (run_on s (at (start how)) es) (swap giver taker quantity)).number ≡ k)
          × (made_on s (run_on s (at (start how)) es) (swap giver taker quantity) ≡ if_accepted k (swap_postings E giver taker quantity))
      swapped how es giver taker quantity =
          let T : Table = run X (start how) es in
          let E : Entries = fresh_run X blank (start how) es in
          let c : Call = swap giver taker quantity in (
            ap (λ g. g.number) (called_after es (start how) c (start_holdable how) (start_within how)) ∙ swap_number X T E (held_at how es) giver taker quantity,
            ap (λ q. made_on s q c) (runs es (start how) (start_holdable how) (start_within how))
                ∙ made T c (run_holdable X ordered es (start how) (start_holdable how)) (run_within X ordered es (start how) (start_within how))
                ∙ swap_made X T E (held_at how es) giver taker quantity,
          )

      same_swap : (giver taker : ℕ) (quantity : ℤ) → SameSwap s (at (start o)) cs (at (start p)) ds (swap giver taker quantity)
      same_swap giver taker quantity =
          let one = swapped o cs giver taker quantity in
          let two = swapped p ds giver taker quantity in
          record {
            number = one.0 ∙ ap (λ E. first_cause (swap_tests X E giver taker quantity)) both.heard ∙ sym two.0;
            made =
                one.1 ∙ ap (λ E. if_accepted (first_cause (swap_tests X E giver taker quantity)) (swap_postings E giver taker quantity)) both.heard ∙ sym two.1;
          }

      -- what the run leaves at an office is the fresh office's values
      closed_cell : (how : Opening) (es : List Call) (i : ℕ) → i < size X → close_all X (run X (start how) es) i ≡ held (give X (fresh_run X blank (start how) es) i) unmarked
      closed_cell how es = close_at X ordered (fresh_run X blank (start how) es) (run X (start how) es) (held_at how es)

      same_closed : (call_on s (run_on s (at (start o)) cs) close).after ≡ (call_on s (run_on s (at (start p)) ds) close).after
      same_closed =
          closed_after cs (start o) (start_holdable o) (start_within o)
          ∙ ap (keeping x) (encode_table_ext X _ _
          (λ i low. closed_cell o cs i low ∙ ap (λ E. held (give X E i) unmarked) both.heard ∙ sym (closed_cell p ds i low)))
          ∙ sym (closed_after ds (start p) (start_holdable p) (start_within p))

  -- the words of what stays stored, on the encoding of a table
  stored_is : (T : Table) (k : ℕ) → k < size (sheet_read edition ps) → not (eqb (kind_in (row width (encode_table (sheet_read edition ps) T) k)) 0) ≡ is_stored (T k)
  stored_is T k low = ap (λ x. not (eqb x 0)) (encoded_kind (sheet_read edition ps) T k low) ∙ kind_cell (T k)

  -- kind and number of a stored record, by the value that its cell holds
  held_same : (T U : Table) (k : ℕ) → k < size (sheet_read edition ps) → is_stored (T k) ≡ true → is_stored (U k) ≡ true → value_in (U k) ≡ value_in (T k)
      → (kind_in (row width (at U).table k) ≡ kind_in (row width (at T).table k)) × (number_in (row width (at U).table k) ≡ number_in (row width (at T).table k))
  held_same T U k low a b same =
      let p = parts_same (T k) (U k) a b same in (
        encoded_kind (sheet_read edition ps) U k low ∙ p.0 ∙ sym (encoded_kind (sheet_read edition ps) T k low),
        encoded_number (sheet_read edition ps) U k low ∙ p.1 ∙ sym (encoded_number (sheet_read edition ps) T k low),
      )

  stays : (T : Table) (ds : List Call) (U : Table) (k : ℕ) → k < size (sheet_read edition ps) → Retained (sheet_read edition ps) T ds U k
      → stored_in (at T).table k ≡ true → StaysStored (at T).table ds (at U).table k
  stays T ds U k low r h =
      let was : is_stored (T k) ≡ true = sym (stored_is T k low) ∙ h in
      record {
        stored = λ d. stored_is U k low ∙ r.stored was d;
        value = λ g. let now : is_stored (U k) ≡ true = sym (stored_is U k low) ∙ g in held_same T U k low was now (r.unchanged was now);
      }

  table_stays : (E : Entries) (T : Table) → Sound (sheet_read edition ps) E T → Holdable (sheet_read edition ps) T → Within (sheet_read edition ps) T
      → (p : Office) → p ≡ at T → ((k : ℕ) → k < size (sheet_read edition ps) → mark_in (row width p.table k) ≡ 0)
      → (c : Call) (ds : List Call) → postings_on s (call_on s p c).after ds ≡ []
      → (k : ℕ) → k < size (sheet_read edition ps) → is_figure (item_at (sheet_read edition ps) k) ≡ true
      → ((e : ℕ) → Listed e (posted_to (made_on s p c)) → LeadsTo (circuit_of (sheet_read edition ps)) e k → ⊥)
      → stored_in p.table k ≡ true → StaysStored p.table (c ∷ ds) (run_on s (call_on s p c).after ds).table k
  table_stays E T sound h w p is marks c ds none_made k low fig away was =
      subst₂ (λ a b. StaysStored a.table (c ∷ ds) b.table k) (sym is) (sym ran)
      (stays T (c ∷ ds) (run X U ds) k low
      (call_retention X ordered T sound.invariant sound.formed (quiet_encoded X T (λ j l. ap (λ b. mark_in (row width b.table j)) (sym is) ∙ marks j l)) c ds none k low
      (figure_outside X T c k fig (λ e l. away e (subst (λ qs. Listed e (posted_to qs)) (sym postings_is) l))))
      (ap (λ b. stored_in b.table k) (sym is) ∙ was))
    where
      X : Sheet
      X = sheet_read edition ps

      U : Table
      U = (perform X T c).table

      h_u : Holdable X U
      h_u = perform_holdable X ordered T c h

      w_u : Within X U
      w_u = perform_within X ordered T c w

      after : (call_on s p c).after ≡ at U
      after = ap (λ g. g.after) (ap (λ b. call_on s b c) is ∙ performs T c h w)

      ran : run_on s (call_on s p c).after ds ≡ at (run X U ds)
      ran = ap (λ q. run_on s q ds) after ∙ runs ds U h_u w_u

      none : postings X U ds ≡ []
      none = sym (posts_made ds U h_u w_u) ∙ ap (λ q. postings_on s q ds) (sym after) ∙ none_made

      postings_is : made_on s p c ≡ postings_made X T c
      postings_is = ap (λ b. made_on s b c) is ∙ made T c h w

  -- the two parts, for openings of this sheet
  agree_at : (kept other : Office) (o p : Opening) → (open_on o s kept).number ≡ 0 → (open_on p s other).number ≡ 0
      → (cs ds : List Call) → postings_on s (open_on o s kept).after cs ≡ postings_on s (open_on p s other).after ds
      → SameAnswers s (open_on o s kept).after cs (open_on p s other).after ds
  unfolding office
  agree_at kept other o p a b cs ds equal =
      subst₂ (λ u v. SameAnswers s u.after cs v.after ds) (sym g) (sym h)
      (offices_same o p cs ds (ap (λ u. postings_on s u.after cs) (sym g) ∙ equal ∙ ap (λ v. postings_on s v.after ds) h))
    where
      g : open_on o s kept ≡ office o
      g = opening_gives kept o a

      h : open_on p s other ≡ office p
      h = opening_gives other p b

  retained_at : (kept : Office) (o : Opening) → (open_on o s kept).number ≡ 0 → Retains s (open_on o s kept).after
  unfolding office
  retained_at kept o a =
      subst (λ g. Retains s g.after) (sym (opening_gives kept o a))
      (λ cs marks c ds none_made k low fig away was.
      table_stays (fresh_run X blank (start o) cs) (run X (start o) cs) (run_sound X ordered cs blank (start o) (start_sound o))
      (run_holdable X ordered cs (start o) (start_holdable o)) (run_within X ordered cs (start o) (start_within o))
      (run_on s (at (start o)) cs) (runs cs (start o) (start_holdable o) (start_within o))
      (λ j l. marks j (subst (λ Y. j < size Y) (sym sheet_is) l)) c ds none_made k
      (subst (λ Y. k < size Y) sheet_is low) (subst (λ Y. is_figure (item_at Y k) ≡ true) sheet_is fig)
      (λ e posted l. away e posted (subst (λ Y. LeadsTo (circuit_of Y) e k) (sym sheet_is) l)) was)
    where
      X : Sheet
      X = sheet_read edition ps

-- Demand 3: two offices
pub offices_agree : (s : List ℕ) (kept other : Office) (o p : Opening) → (open_on o s kept).number ≡ 0 → (open_on p s other).number ≡ 0
    → (cs ds : List Call) → postings_on s (open_on o s kept).after cs ≡ postings_on s (open_on p s other).after ds
    → SameAnswers s (open_on o s kept).after cs (open_on p s other).after ds
offices_agree s kept other o p a b cs ds equal =
    let first : Opens s kept o = opening_opens s kept o a in
    agree_at s first.edition first.placed first.reads kept other o p a b cs ds equal

-- and what stays stored
pub offices_retain : (s : List ℕ) (kept : Office) (o : Opening) → (open_on o s kept).number ≡ 0 → Retains s (open_on o s kept).after
offices_retain s kept o a =
    let first : Opens s kept o = opening_opens s kept o a in
    retained_at s first.edition first.placed first.reads kept o a

-- the sentence of the demand, the case of one post
pub offices_retain_post : (s : List ℕ) (kept : Office) (o : Opening) → (open_on o s kept).number ≡ 0 → RetainsPost s (open_on o s kept).after
unfolding dropped_in
offices_retain_post s kept o a cs marks e kind z accepts ds none_made k low fig away was =
    let begin : Office = (open_on o s kept).after in
    let p : Office = run_on s begin cs in
    let stays = offices_retain s kept o a cs marks (post e kind z) ds none_made k low fig (λ i l led. away (subst (λ j. LeadsTo (circuit_of (sheet_of s)) j k) (only_entry p i l) led)) was in
    record { stored = stays.stored; value = stays.value }
  where
    only_posted : (o : Option Value) (i : ℕ) → Listed i (posted_to (posting_of e o)) → i ≡ e
    only_posted none i l = absurd l
    only_posted (some v) i (inl q) = q
    only_posted (some v) i (inr l) = absurd l

    by_number : (n i : ℕ) → Listed i (posted_to (if_accepted n (posting_of e (posted_value kind z)))) → i ≡ e
    by_number zero i l = only_posted (posted_value kind z) i l
    by_number (suc n) i l = absurd l

    only_entry : (p : Office) (i : ℕ) → Listed i (posted_to (made_on s p (post e kind z))) → i ≡ e
    only_entry p i l = by_number (call_on s p (post e kind z)).number i l
