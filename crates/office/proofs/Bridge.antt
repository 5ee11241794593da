-- The calls on bytes are the machine's calls: on the encoding of a table, a call gives what the machine gives on the table,
-- and leaves its encoding. Assumes that the sheet opens.
use Prim.Native.Nat.{ℕ, zero, suc, ◌<◌, ◌≤◌, ◌*◌}
use native.Mathlib.Nat.{mul-le-mul_left}
use native.Mathlib.Omega.{arith}
use mathlib.Core.Path.{◌≡◌, refl, sym, ap, ap₂, ◌∙◌, fun_ext}
use mathlib.Core.Bool.{Bool, true, false, not}
use mathlib.Core.List.{List, [], ◌∷◌, ◌++◌}
use lib.Dec.{ltb}
use lib.ListN.{length, take, drop_of_length-le, get_or-eq_default}
use borrow.Author.Tests.{eq-eqb, ltb-true, ltb-false}
use Rattle.circuit.specs.Value.{Value}
use Rattle.circuit.specs.Sheet.{Sheet, entry, size, item_at, Ordered}
use Rattle.circuit.specs.Table.{Table, Cell, unk, upd, entries_of}
use Rattle.circuit.specs.Machine.{store_posting, drop_figure, step_item, catch_up}
use Rattle.circuit.specs.Call.{Call, post, keep, drop, step, ask, board, close, swap, Posting}
use Rattle.circuit.specs.Board.{listed}
use Rattle.circuit.specs.Closing.{close_all}
use Rattle.circuit.specs.Calls.{Test, test, first_cause, tests, Outcome, show_items, postings_by, store_postings, effect, perform, effect_unless, run, if_accepted, postings_made, postings}
use Rattle.circuit.specs.Fresh.{fed}
use Rattle.circuit.specs.Events.{events}
use Rattle.circuit.proofs.Fill.{Fill, Filling, stays, fills, upd_cases, look_right, looks_right, work_right, keep_fill}
use Rattle.circuit.proofs.Closure.{Closed, step_closed, catch_up-closed}
use Rattle.circuit.proofs.Closing.{close_above}
use Rattle.circuit.proofs.Accepted.{effect_number, accepted_effect, refused_table, keep_passed, drop_passed, step_passed}
use Rattle.circuit.proofs.Postings.{AllFit, postings_fit}
use Rattle.layout.specs.Read.{Placed, opens, read_sheet}
use Rattle.layout.specs.Opened.{sheet_read}
use Rattle.layout.specs.Index.{index_width, index_bytes}
use Rattle.item.proofs.Offsets.{same_refl}
use Rattle.table.specs.Record.{width, decode_cell}
use Rattle.table.specs.Bytes.{encode_table, decode_table, Holdable, table_length}
use Rattle.table.proofs.Tables.{length-encode_table, decode_encode_table, encoded_table_form, encoded_owed_true, holdable_well_formed}
use Rattle.office.specs.Office.{keeping, Given, kind_read, number_read, results_lent, results_of, lengths_wrong, index_wrong, table_wrong, call_tests, unless_refused, effect_on, call_read, call_on, run_on}
use Rattle.office.specs.Demand2Words.{entries_in}
use Rattle.office.specs.Demand3Words.{made_on, postings_on, events_on}
use Rattle.office.proofs.Holdable.{perform_holdable}

-- nothing stands beyond the sheet
abbrev pub Within : Sheet → Table → Type 0
Within S T = (j : ℕ) → size S ≤ j → T j ≡ unk false

abbrev WithinAt : Sheet → ℕ → Cell → Type 0
WithinAt S j c = size S ≤ j → c ≡ unk false

-- a store below n leaves it so
upd_within : (S : Sheet) (T : Table) (i : ℕ) (c : Cell) → i < size S → Within S T → Within S (upd T i c)
upd_within S T i c low h = upd_cases (WithinAt S) T i c (λ out. absurd (omega arith)) (λ j n. h j)

-- and so does a posting, and so do postings that fit
pub posting_within : (S : Sheet) (T : Table) (e : ℕ) (v : Value) → e < size S → Within S T → Within S (store_posting T e v)
unfolding store_posting
posting_within S T e v low h = upd_within S T e _ low h

postings_within : (S : Sheet) (ps : List Posting) (T : Table) → AllFit S ps → Within S T → Within S (store_postings T ps)
unfolding store_postings
postings_within S [] T fit h = h
postings_within S (p ∷ ps) T fit h =
    postings_within S ps (store_posting T p.entry p.value) fit.1 (posting_within S T p.entry p.value fit.0.low h)

-- no figure stands beyond the sheet, so a fill leaves it so
fill_within : (S : Sheet) (T U : Table) → Fill S T U → Within S T → Within S U
fill_within S T U fill h j out = go (fill j)
  where
    go : Filling S T j (U j) → U j ≡ unk false
    go (stays e) = e ∙ h j out
    go (fills f k e x) =
        let d : item_at S j ≡ entry = get_or-eq_default S entry {n = j} out in
        let z : ◌≡◌ {A = Bool} false true = rw d at k in
        let bad : ◌≡◌ {A = ℕ} 0 1 = cc in absurd (omega arith)

module _ (S : Sheet) (ordered : Ordered S) where
  closed_within : Closed S (λ i. i < size S) (Within S)
  closed_within =
      record {
        works = λ T i low h. fill_within S T _ (work_right S ordered T i).fill h;
        stores = λ T i c low h. upd_within S T i c low h;
      }

  -- a call leaves nothing beyond the sheet
  pub perform_within : (T : Table) (c : Call) → Within S T → Within S (perform S T c).table
  unfolding effect drop_figure close_all
  perform_within T c h = go (first_cause (tests S T c)) refl
    where
      steps : (U : Table) (i : ℕ) → i < size S → Within S U → Within S (step_item S U i)
      steps U i low g =
          step_closed S (λ k. k < size S) (Within S) closed_within i low low (λ k l. parent_within k i l) U g
        where
          parent_within : (k p : ℕ) → Rattle.circuit.specs.Circuit.Listed p (Rattle.circuit.specs.Sheet.parents S k) → k < size S
          parent_within k p l = in_sheet (ltb k (size S)) refl
            where
              in_sheet : (b : Bool) → ltb k (size S) ≡ b → k < size S
              in_sheet true e = ltb-true k (size S) e
              in_sheet false e =
                  let d : item_at S k ≡ entry = get_or-eq_default S entry {n = k} (ltb-false k (size S) e) in
                  absurd (rw d at l)

      caught : Within S (catch_up S T)
      caught = catch_up-closed S (Within S) (λ U k low m g. steps U k low g) T h

      shows : (is : List ℕ) → Within S (show_items S T is).table
      shows [] = h
      shows (i ∷ is) = fill_within S (catch_up S T) _ (looks_right S ordered (catch_up S T) (i ∷ is)).fill caught

      done : (d : Call) → first_cause (tests S T d) ≡ 0 → Within S (effect S T d).table
      done (post i kind z) e = postings_within S _ T (postings_fit S T (post i kind z) e) h
      done (keep i) e = fill_within S T _ (keep_fill S ordered T i (keep_passed S T i e).1) h
      done (drop i) e = upd_within S T i _ (drop_passed S T i e).0 h
      done (step i) e = steps T i (step_passed S T i e).0 h
      done (ask i) e = fill_within S (catch_up S T) _ (look_right S ordered (catch_up S T) i).fill caught
      done (board items results) e = shows (listed items)
      done close e = λ j out. close_above S T (size S) j out ∙ h j out
      done (swap giver taker quantity) e = postings_within S _ T (postings_fit S T (swap giver taker quantity) e) h

      go : (k : ℕ) → first_cause (tests S T c) ≡ k → Within S (perform S T c).table
      go zero e = rw (accepted_effect S T c e) (done c e)
      go (suc k) e = rw (refused_table S T c k e) h

  -- nor does a list of calls
  pub run_within : (cs : List Call) (T : Table) → Within S T → Within S (run S T cs)
  unfolding run
  run_within [] T w = w
  run_within (c ∷ cs) T w = run_within cs (perform S T c).table (perform_within T c w)

-- beyond its end a table decodes to cells with nothing in them
pub decoded_beyond : (S : Sheet) (t : List ℕ) → length t ≡ table_length S → Within S (decode_table t)
unfolding decode_cell
decoded_beyond S t e j out =
    let far : length t ≤ width * j = omega (arith, mul-le-mul_left width out) in
    ap (λ r. decode_cell (take width r)) (drop_of_length-le t far)

-- the encoding of a table that may be encoded decodes to it
pub decode_within : (S : Sheet) (T : Table) → Holdable S T → Within S T → decode_table (encode_table S T) ≡ T
decode_within S T h w = fun_ext λ i. go i (ltb i (size S)) refl
  where
    go : (i : ℕ) (b : Bool) → ltb i (size S) ≡ b → decode_table (encode_table S T) i ≡ T i
    go i true e =
        let low : i < size S = ltb-true i (size S) e in
        decode_encode_table S T i low (holdable_well_formed S T h i low)
    go i false e =
        let out : size S ≤ i = ltb-false i (size S) e in
        decoded_beyond S (encode_table S T) (length-encode_table S T) i out ∙ sym (w i out)

-- what a list of results holds: what was lent, unless the call is accepted
abbrev pub results_by : ℕ → List ℕ → List Value → List ℕ
results_by zero lent vs = results_of vs
results_by (suc k) lent vs = lent

-- what the machine's outcome gives on bytes, with a list of results lent
abbrev pub given_by : Sheet → List ℕ → List ℕ → Outcome → Given
given_by S x lent o =
    record {
      number = o.number;
      offset = 0;
      kind = kind_read o.reading;
      value = number_read o.reading;
      results = results_by o.number lent o.shown;
      after = keeping x (encode_table S o.table);
    }

-- Where calls on an index and the encoding of a table are the machine's, so are lists of calls, the postings that they make, and what the
-- fresh office is fed of them.
module _ (s x : List ℕ) (S : Sheet) (ordered : Ordered S)
    (performs : (T : Table) (c : Call) → Holdable S T → Within S T → call_on s (keeping x (encode_table S T)) c ≡ given_by S x (results_lent c) (perform S T c)) where
  pub run_performs : (cs : List Call) (T : Table) → Holdable S T → Within S T → run_on s (keeping x (encode_table S T)) cs ≡ keeping x (encode_table S (run S T cs))
  unfolding run_on run
  run_performs [] T h w = refl
  run_performs (c ∷ cs) T h w =
      ap (λ g. run_on s g.after cs) (performs T c h w)
      ∙ run_performs cs (perform S T c).table (perform_holdable S ordered T c h) (perform_within S ordered T c w)

  pub made_performs : (T : Table) (c : Call) → Holdable S T → Within S T → made_on s (keeping x (encode_table S T)) c ≡ postings_made S T c
  unfolding postings_made
  made_performs T c h w =
      ap (λ g. if_accepted g.number (postings_by (entries_in (encode_table S T)) c)) (performs T c h w)
      ∙ ap (λ U. if_accepted (perform S T c).number (postings_by (entries_of U) c)) (decode_within S T h w)

  pub postings_performs : (cs : List Call) (T : Table) → Holdable S T → Within S T → postings_on s (keeping x (encode_table S T)) cs ≡ postings S T cs
  unfolding postings_on postings
  postings_performs [] T h w = refl
  postings_performs (c ∷ cs) T h w =
      ap (λ g. made_on s (keeping x (encode_table S T)) c ++ postings_on s g.after cs) (performs T c h w)
      ∙ ap₂ ◌++◌ (made_performs T c h w) (postings_performs cs (perform S T c).table (perform_holdable S ordered T c h) (perform_within S ordered T c w))

  pub events_performs : (cs : List Call) (T : Table) → Holdable S T → Within S T → events_on s (keeping x (encode_table S T)) cs ≡ events S T cs
  unfolding events_on events
  events_performs [] T h w = refl
  events_performs (c ∷ cs) T h w =
      ap (λ g. fed c (made_on s (keeping x (encode_table S T)) c) ++ events_on s g.after cs) (performs T c h w)
      ∙ ap₂ (λ ps es. fed c ps ++ es) (made_performs T c h w) (events_performs cs (perform S T c).table (perform_holdable S ordered T c h) (perform_within S ordered T c w))

-- a cause that does not hold is passed over
pass_over : (k : ℕ) (b : Bool) (ts : List Test) → b ≡ false → first_cause (test k b ∷ ts) ≡ first_cause ts
unfolding first_cause
pass_over k true ts e = cc
pass_over k false ts e = refl

module _ (s : List ℕ) (edition : ℕ) (ps : List Placed) (opening : read_sheet s ≡ opens edition ps)
    (indexed : length (index_bytes ps) ≡ index_width * length ps) (sized : size (sheet_read edition ps) ≡ length ps)
    (ordered : Ordered (sheet_read edition ps)) where
  -- a call on the index of the sheet and the encoding of a table
  pub call_performs : (T : Table) (c : Call) → Holdable (sheet_read edition ps) T → Within (sheet_read edition ps) T
      → call_on s (keeping (index_bytes ps) (encode_table (sheet_read edition ps) T)) c ≡ given_by (sheet_read edition ps) (index_bytes ps) (results_lent c) (perform (sheet_read edition ps) T c)
  unfolding call_on perform
  call_performs T c h w = ap (λ r. call_read r (keeping x t) c) opening ∙ passed ∙ by_cause (first_cause (tests S T c))
    where
      S : Sheet
      S = sheet_read edition ps

      x : List ℕ
      x = index_bytes ps

      t : List ℕ
      t = encode_table S T

      again : decode_table t ≡ T
      again = decode_within S T h w

      lengths : lengths_wrong ps x t ≡ false
      lengths =
          rw (eq-eqb (length x) (index_width * length ps) indexed, eq-eqb (length t) (width * length ps) (length-encode_table S T ∙ ap (λ n. width * n) sized))

      causes : first_cause (call_tests S ps (keeping x t) c) ≡ first_cause (tests S T c)
      causes =
          pass_over 8 (lengths_wrong ps x t) _ lengths
          ∙ pass_over 9 (index_wrong ps x) _ (ap not (same_refl x))
          ∙ pass_over 10 (table_wrong S t) _ (rw (encoded_table_form S T h, encoded_owed_true S T h))
          ∙ ap (λ U. first_cause (tests S U c)) again

      passed : call_read (opens edition ps) (keeping x t) c ≡ unless_refused (first_cause (tests S T c)) (results_lent c) (keeping x t) (effect_on S (keeping x t) (effect S T c))
      passed = rw (causes, again)

      by_cause : (k : ℕ) → unless_refused k (results_lent c) (keeping x t) (effect_on S (keeping x t) (effect S T c)) ≡ given_by S x (results_lent c) (effect_unless k S T c)
      by_cause zero = rw (effect_number S T c)
      by_cause (suc k) = refl
