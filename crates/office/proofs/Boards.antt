-- A board on lent bytes: what it leaves, and that it is the asks for its items one after another. Assumes that what is lent is
-- accepted and that the table is bytes.
use Prim.Native.Nat.{ℕ}
use native.Mathlib.Omega.{arith}
use mathlib.Core.Path.{◌≡◌, refl, sym, ap, ◌∙◌, subst}
use mathlib.Core.Bool.{true, false}
use mathlib.Core.List.{List, [], ◌∷◌, ◌++◌, map}
use borrow.Author.Tests.{leb-false}
use mir.Syntax.{w64}
use mir.Val.{to_z, of_z}
use Rattle.circuit.specs.Value.{Value, kind_of, number_of, well_formed}
use Rattle.circuit.specs.Sheet.{Sheet, Ordered, size, beyond}
use Rattle.circuit.specs.Table.{Table}
use Rattle.circuit.specs.Machine.{Looked, Gathered, gather, look_up, catch_up}
use Rattle.circuit.specs.Call.{Call, ask, board}
use Rattle.circuit.specs.Board.{listed, lists_off}
use Rattle.circuit.specs.Calls.{first_cause, tests, some_no_item, show_items, reading_of, effect, perform}
use Rattle.circuit.specs.Words.{Quiet, CaughtUp}
use Rattle.circuit.proofs.Parts.{kind_small}
use Rattle.circuit.proofs.RuleLaws.{or-false}
use Rattle.circuit.proofs.CatchUp.{look_quiet, catch_up-quiet, catch_up-still, catch_up-ends}
use Rattle.circuit.proofs.Accepted.{number_cause, accepted_effect, board_passed}
use Rattle.layout.specs.Opened.{sheet_of}
use Rattle.word.specs.Word.{Bytes, size64, bytes64}
use Rattle.field.proofs.Bytes.{Bytes-cons}
use Rattle.word.proofs.Bytes.{le_at-drop, signed_again, length_bytes64, bytes-le_bytes}
use Rattle.table.specs.Bytes.{encode_table, decode_table, Holdable}
use Rattle.table.proofs.Records.{number_fits}
use Rattle.office.specs.Office.{Office, keeping, Given, results_lent, result_of, results_of, call_on, run_on}
use Rattle.office.specs.Demand1Words.{AcceptedLent}
use Rattle.office.specs.Demand2Words.{ResultWords, BoardLeaves, Asks, no_more, then_ask}
use Rattle.office.specs.Demand3Words.{postings_on, CountsAsAsks}
use Rattle.office.proofs.Holdable.{look_formed, catch_up_holdable, perform_holdable}
use Rattle.office.proofs.Bridge.{Within, perform_within, given_by}
use Rattle.office.proofs.Lent.{ordered, holdable, within, encoded, performs}

-- the nine bytes of a value
pub result_words : (v : Value) → well_formed v ≡ true → ResultWords (result_of (kind_of v) (number_of v)) (kind_of v) (number_of v)
result_words v formed =
    record {
      long = omega (arith, length_bytes64 (number_of v));
      bytes = Bytes-cons (kind_of v) (bytes64 (number_of v)) (omega (arith, kind_small v)) (bytes-le_bytes size64 (of_z w64 (number_of v)));
      kind_is = refl;
      number_is = ap (to_z w64) (le_at-drop size64 (result_of (kind_of v) (number_of v)) 1 0) ∙ signed_again (number_of v) (number_fits v formed);
    }

-- an ask of which is known what it gives, and the asks after it
ask_then : (s : List ℕ) (o p : Office) (i : ℕ) (is r rest : List ℕ) (g : Given) → call_on s o (ask i) ≡ g → g.number ≡ 0
    → ResultWords r g.kind g.value → Asks s g.after is rest p → Asks s o (i ∷ is) (r ++ rest) p
ask_then s o p i is r rest g e =
    subst (λ h. h.number ≡ 0 → ResultWords r h.kind h.value → Asks s h.after is rest p → Asks s o (i ∷ is) (r ++ rest) p) e (λ n w a. then_ask n w a)

-- a list of calls that begins with the asks
asks_run : (s : List ℕ) (cs : List Call) {o p : Office} {is results : List ℕ} → Asks s o is results p
    → (run_on s o (map ask is ++ cs) ≡ run_on s p cs) × (postings_on s o (map ask is ++ cs) ≡ postings_on s p cs)
unfolding run_on postings_on
asks_run s cs no_more = (refl, refl)
asks_run s cs (then_ask z w rest) = let later = asks_run s cs rest in (later.0, rw (z, later.1))

-- Calls on an index and the encoding of a table are the machine's.
module _ (s x : List ℕ) (S : Sheet) (ordered : Ordered S)
    (performs : (T : Table) (c : Call) → Holdable S T → Within S T → call_on s (keeping x (encode_table S T)) c ≡ given_by S x (results_lent c) (perform S T c)) where
  abbrev office : Table → Office
  office T = keeping x (encode_table S T)

  abbrev looked_up : Table → ℕ → Looked
  looked_up T i = look_up S (catch_up S T) i

  -- an ask for an item of the sheet
  asked : (T : Table) (i : ℕ) → beyond S i ≡ false → perform S T (ask i) ≡ reading_of (looked_up T i)
  unfolding tests first_cause effect
  asked T i low = accepted_effect S T (ask i) (rw low)

  -- One ask, and those after it on the table that it leaves.
  ask_first : (T : Table) → Holdable S T → Within S T → (i : ℕ) → beyond S i ≡ false → (is rest : List ℕ) (p : Office)
      → (let U : Table = (looked_up T i).table in Holdable S U → Within S U → Quiet S U → Asks s (office U) is rest p)
      → Asks s (office T) (i ∷ is) (result_of (kind_of (looked_up T i).value) (number_of (looked_up T i).value) ++ rest) p
  ask_first T h w i low is rest p later =
      ask_then s (office T) p i is _ rest (given_by S x [] (reading_of (looked_up T i)))
      (performs T (ask i) h w ∙ ap (given_by S x []) (asked T i low)) refl
      (result_words (looked_up T i).value (look_formed S ordered (catch_up S T) i (leb-false (size S) i low) (catch_up_holdable S ordered T h)))
      (later (subst (λ o. Holdable S o.table) (asked T i low) (perform_holdable S ordered T (ask i) h))
      (subst (λ o. Within S o.table) (asked T i low) (perform_within S ordered T (ask i) w))
      (look_quiet S ordered (catch_up S T) i (catch_up-quiet S ordered T)))

  -- asks on a table without a mark: nothing is stepped
  asks_quiet : (is : List ℕ) (T : Table) → Holdable S T → Within S T → Quiet S T → some_no_item S is ≡ false
      → Asks s (office T) is (results_of (gather (look_up S) T is).values) (office (gather (look_up S) T is).table)
  unfolding gather some_no_item results_of
  asks_quiet [] T h w quiet e = no_more
  asks_quiet (i ∷ is) T h w quiet e =
      let parts = or-false (beyond S i) (some_no_item S is) e in
      let shown : Table → Gathered = λ C. gather (look_up S) C (i ∷ is) in
      subst (λ C. Asks s (office T) (i ∷ is) (results_of (shown C).values) (office (shown C).table)) (catch_up-still S ordered T quiet)
      (ask_first T h w i parts.0 is _ _ (λ g v q. asks_quiet is (looked_up T i).table g v q parts.1))

  -- asks for the items of a board are the board
  asks_shown : (is : List ℕ) (T : Table) → Holdable S T → Within S T → some_no_item S is ≡ false
      → Asks s (office T) is (results_of (show_items S T is).shown) (office (show_items S T is).table)
  unfolding gather some_no_item results_of
  asks_shown [] T h w e = no_more
  asks_shown (i ∷ is) T h w e =
      let parts = or-false (beyond S i) (some_no_item S is) e in
      ask_first T h w i parts.0 is _ _ (λ g v q. asks_quiet is (looked_up T i).table g v q parts.1)

  -- an accepted board, by its items
  board_given : (T : Table) (items results : List ℕ) → Holdable S T → Within S T → (call_on s (office T) (board items results)).number ≡ 0
      → (first_cause (tests S T (board items results)) ≡ 0) × (call_on s (office T) (board items results) ≡ given_by S x results (show_items S T (listed items)))
  unfolding effect
  board_given T items results h w z =
      let same = performs T (board items results) h w in
      let free = number_cause S T (board items results) (ap (λ g. g.number) (sym same) ∙ z) in
      (free, same ∙ ap (given_by S x results) (accepted_effect S T (board items results) free))

  board_asks_at : (T : Table) (items results : List ℕ) → Holdable S T → Within S T → (call_on s (office T) (board items results)).number ≡ 0
      → let g : Given = call_on s (office T) (board items results) in Asks s (office T) (listed items) g.results g.after
  board_asks_at T items results h w z =
      let given = board_given T items results h w z in
      subst (λ g. Asks s (office T) (listed items) g.results g.after) (sym given.1)
      (by_items (listed items) (board_passed S T items results given.0))
    where
      by_items : (is : List ℕ) → some_no_item S is ≡ false
          → let g : Given = given_by S x results (show_items S T is) in Asks s (office T) is g.results g.after
      by_items [] e = asks_shown [] T h w e
      by_items (i ∷ is) e = asks_shown (i ∷ is) T h w e

  board_leaves_at : (T : Table) (items results : List ℕ) → Holdable S T → Within S T → decode_table (encode_table S T) ≡ T
      → (call_on s (office T) (board items results)).number ≡ 0 → BoardLeaves S (office T) items (call_on s (office T) (board items results))
  unfolding listed tests first_cause lists_off results_of
  board_leaves_at T items results h w again z =
      let given = board_given T items results h w z in
      subst (BoardLeaves S (office T) items) (sym given.1) (by_items items given.0)
    where
      caught : CaughtUp S (decode_table (encode_table S T)) (catch_up S T)
      caught = rw again (catch_up-ends S ordered T)

      by_items : (bs : List ℕ) → first_cause (tests S T (board bs results)) ≡ 0 → BoardLeaves S (office T) bs (given_by S x results (show_items S T (listed bs)))
      by_items [] e = record { empty = λ q. (refl, refl); caught_up = catch_up S T; catches = caught; shows = λ n. absurd (n refl) }
      by_items (low ∷ []) e = absurd (omega arith)
      by_items (low ∷ high ∷ bs) e =
          record { empty = λ q. let bad : ◌≡◌ {A = ℕ} 0 1 = cc in absurd (omega arith); caught_up = catch_up S T; catches = caught; shows = λ n. (refl, refl) }

module _ (s : List ℕ) (kept : Office) (lent : AcceptedLent s kept) (bytes : Bytes kept.table) (items results : List ℕ)
    (accepted : (call_on s kept (board items results)).number ≡ 0) where
  abbrev T : Table
  T = decode_table kept.table

  -- the office keeps the encoding of a table
  keeps : keeping kept.index (encode_table (sheet_of s) T) ≡ kept
  keeps = ap (keeping kept.index) (encoded s kept lent bytes)

  given : (call_on s (keeping kept.index (encode_table (sheet_of s) T)) (board items results)).number ≡ 0
  given = subst (λ k. (call_on s k (board items results)).number ≡ 0) (sym keeps) accepted

  pub board_asks : let g : Given = call_on s kept (board items results) in Asks s kept (listed items) g.results g.after
  board_asks =
      subst (λ k. Asks s k (listed items) (call_on s k (board items results)).results (call_on s k (board items results)).after) keeps
      (board_asks_at s kept.index (sheet_of s) (ordered s kept lent) (performs s kept lent) T items results (holdable s kept lent) (within s kept lent) given)

  pub board_leaves : BoardLeaves (sheet_of s) kept items (call_on s kept (board items results))
  board_leaves =
      subst (λ k. BoardLeaves (sheet_of s) k items (call_on s k (board items results))) keeps
      (board_leaves_at s kept.index (sheet_of s) (ordered s kept lent) (performs s kept lent) T items results (holdable s kept lent) (within s kept lent)
      (ap decode_table (encoded s kept lent bytes)) given)

  -- and it counts as the asks in a list of calls
  pub board_counts : (cs : List Call) → CountsAsAsks s kept items results cs
  unfolding run_on postings_on
  board_counts cs = let run = asks_run s cs board_asks in record { posts = rw accepted (sym run.1); keeps = sym run.0 }
