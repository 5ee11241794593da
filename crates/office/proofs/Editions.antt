-- An edition 1 sheet with its edition number changed to 2: every opening and call gives the same and leaves the same bytes, and two offices
-- agree that hold the sheet under the two editions. Assumes nothing.
use Prim.Native.Nat.{ℕ}
use mathlib.Core.Path.{◌≡◌, refl}
use mathlib.Core.List.{List, [], ◌∷◌}
use Rattle.circuit.specs.Call.{Call, close, swap, ask, board, Opening}
use Rattle.layout.specs.Read.{SheetRead, opens, refused, read_sheet}
use Rattle.layout.specs.Opened.{sheet_from, sheet_of}
use Rattle.layout.specs.Edition.{with_edition, reissued}
use Rattle.layout.proofs.Editions.{edition_1_to_2}
use Rattle.office.specs.Office.{Office, call_read, call_on, open_read, open_on, run_on}
use Rattle.office.specs.Demand1Words.{Invocation, opening, calling, serve}
use Rattle.office.specs.Demand3Words.{postings_on, SameAnswers}
use Rattle.office.specs.EditionWords.{Reissuable, SameAcross}
use Rattle.office.proofs.Agreeing.{offices_agree}

-- What was read is used without its edition.

call_reissued : (edition : ℕ) (r : SheetRead) (o : Office) (c : Call) → call_read (reissued edition r) o c ≡ call_read r o c
call_reissued edition (opens e ps) o c = refl
call_reissued edition (refused k at) o c = refl

open_reissued : (edition : ℕ) (how : Opening) (r : SheetRead) (o : Office) → open_read how (reissued edition r) o ≡ open_read how r o
open_reissued edition how (opens e ps) o = refl
open_reissued edition how (refused k at) o = refl

sheet_reissued : (edition : ℕ) (r : SheetRead) → sheet_from (reissued edition r) ≡ sheet_from r
sheet_reissued edition (opens e ps) = refl
sheet_reissued edition (refused k at) = refl

-- Lists of calls on two sheets on which each call gives the same.

module _ (s t : List ℕ) (same : (o : Office) (c : Call) → call_on t o c ≡ call_on s o c) where
  pub runs_same : (o : Office) (cs : List Call) → run_on t o cs ≡ run_on s o cs
  unfolding run_on
  runs_same o [] = refl
  runs_same o (c ∷ cs) = rw (same o c) (runs_same (call_on s o c).after cs)

  pub postings_same : (o : Office) (cs : List Call) → postings_on t o cs ≡ postings_on s o cs
  unfolding postings_on
  postings_same o [] = refl
  postings_same o (c ∷ cs) = rw (same o c, postings_same (call_on s o c).after cs)

  across : (o : Office) (cs : List Call) (p : Office) (ds : List Call) → SameAnswers s o cs p ds → SameAcross s o cs t p ds
  across o cs p ds a =
      let q : Office = run_on s p ds in
      let r = runs_same p ds in
      record {
        asks = λ i. rw (r, same q (ask i)) (a.asks i).same;
        boards = λ items results. rw (r, same q (board items results)) (a.boards items results).same;
        swaps = λ giver taker quantity. let b = a.swaps giver taker quantity in rw (r, same q (swap giver taker quantity)) (b.number, b.made);
        closes = rw (r, same q close) a.closes;
      }

  -- if each opening gives the same too, two offices agree
  pub agree_across : ((how : Opening) (o : Office) → open_on how t o ≡ open_on how s o)
      → (o p : Office) (first second : Opening) → (open_on first s o).number ≡ 0 → (open_on second t p).number ≡ 0
      → (cs ds : List Call) → postings_on s (open_on first s o).after cs ≡ postings_on t (open_on second t p).after ds
      → SameAcross s (open_on first s o).after cs t (open_on second t p).after ds
  agree_across open-same o p first second a b cs ds e =
      let w = open-same second p in
      rw w
      (across (open_on first s o).after cs (open_on second s p).after ds
      (offices_agree s o p first second a (rw w at b) cs ds (rw (w, postings_same (open_on second s p).after ds) at e)))

module _ (s : List ℕ) (r : Reissuable s) where
  reads : read_sheet (with_edition 2 s) ≡ reissued 2 (read_sheet s)
  reads = edition_1_to_2 s r.edition_1 r.few r.no_forget

  pub edition_call : (o : Office) (c : Call) → call_on (with_edition 2 s) o c ≡ call_on s o c
  unfolding call_on
  edition_call o c = rw reads (call_reissued 2 (read_sheet s) o c)

  pub edition_open : (how : Opening) (o : Office) → open_on how (with_edition 2 s) o ≡ open_on how s o
  unfolding open_on
  edition_open how o = rw reads (open_reissued 2 how (read_sheet s) o)

  pub edition_serves : (v : Invocation) (o : Office) → serve v (with_edition 2 s) o ≡ serve v s o
  edition_serves (opening how) o = edition_open how o
  edition_serves (calling c) o = edition_call o c

  pub edition_circuit : sheet_of (with_edition 2 s) ≡ sheet_of s
  unfolding sheet_of
  edition_circuit = rw reads (sheet_reissued 2 (read_sheet s))

  pub edition_runs : (o : Office) (cs : List Call) → run_on (with_edition 2 s) o cs ≡ run_on s o cs
  edition_runs = runs_same s (with_edition 2 s) edition_call

  pub edition_postings : (o : Office) (cs : List Call) → postings_on (with_edition 2 s) o cs ≡ postings_on s o cs
  edition_postings = postings_same s (with_edition 2 s) edition_call

  pub edition_agree : (o p : Office) (first second : Opening) → (open_on first s o).number ≡ 0 → (open_on second (with_edition 2 s) p).number ≡ 0
      → (cs ds : List Call) → postings_on s (open_on first s o).after cs ≡ postings_on (with_edition 2 s) (open_on second (with_edition 2 s) p).after ds
      → SameAcross s (open_on first s o).after cs (with_edition 2 s) (open_on second (with_edition 2 s) p).after ds
  edition_agree = agree_across s (with_edition 2 s) edition_call edition_open
