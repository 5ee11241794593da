-- The number given is that of the first cause, and a refusal leaves everything lent. Assumes nothing.
use Prim.Native.Nat.{ℕ, zero, suc, ◌<◌, ◌≤◌}
use native.Mathlib.Omega.{arith}
use mathlib.Core.Path.{◌≡◌, refl, sym, ap, ap₂, ◌∙◌, subst}
use mathlib.Core.Bool.{Bool, true, cond, not, ◌&&◌}
use mathlib.Core.List.{List, [], ◌∷◌}
use mathlib.Core.Logic.{◌⊎◌, inl, inr, ⊎_elim, ◌↔◌}
use mathlib.Core.Option.{Option, none, some}
use lib.IntN.{ℤ, pos}
use lib.ListN.{length, length-map}
use borrow.Author.Tests.{not-false}
use Rattle.circuit.specs.Value.{Value, kind_of, number_of}
use Rattle.circuit.specs.Sheet.{Sheet, Ordered, size, item_at, is_figure}
use Rattle.circuit.specs.Call.{Call, post, keep, drop, step, ask, board, close, swap}
use Rattle.circuit.specs.Calls.{Test, first_cause, tests, posted_value, effect, is_none}
use Rattle.circuit.proofs.Parts.{posted_some}
use Rattle.circuit.proofs.RuleLaws.{and_left, and_right}
use Rattle.layout.specs.Read.{Placed, SheetRead, opens, refused, read_sheet, layout_of}
use Rattle.layout.specs.Opened.{sheet_read, sheet_of, sheet_from, items_of, placed_from}
use Rattle.layout.specs.Causes.{Faultless}
use Rattle.layout.proofs.Tests.{Tells, holds, fails, tells_or, tells_eq}
use Rattle.layout.proofs.Scan.{opened_ordered}
use Rattle.layout.proofs.Causes.{refused_exactly, opens_faultless, refused_number}
use Rattle.table.specs.Rows.{row}
use Rattle.table.specs.Record.{width}
use Rattle.table.specs.Bytes.{decode_table, table_form, owed_true}
use Rattle.office.specs.Office.{Office, Given, results_lent, refusal, opening_tests, call_tests, unless_refused, effect_on, call_read, call_on, open_read, open_on}
use Rattle.office.specs.Demand1Words.{Invocation, opening, calling, serve, results_lent_to, TableBroken, NotPostable, Row, own_causes, causes_in, causes_of, First, NoneHolds}
use Rattle.office.specs.Demand1Words.{HoldsAt, ByNumber, Lowest, Refused, by_sheet, by_lent, NoCause, ListsWrong, SomeNoItem, AcceptedLent, BoardRefuses, CloseRefuses}
use Rattle.office.specs.Demand1Words.{lent_causes, NoSuchItem, ToFigure, IsEntry, NoSwap, ResultBeyond, numbers_in, SwapRefuses}
use Rattle.office.proofs.Causes.{tells_is, tells_is_not, tells_lengths, tells_index, tells_table, tells_beyond, tells_lists, tells_listed, tells_posted, tells_mark}
use Rattle.office.proofs.Causes.{not_both, item_inside, both_entries, tells_no_swap, tells_results}

-- ---- the first cause

-- each test has its row's number, and says whether its cause holds, where no cause before it does
abbrev Tested : List Row → List Test → Type 0
Tested [] [] = Unit {0}
Tested [] (t ∷ ts) = ⊥
Tested (r ∷ rs) [] = ⊥
Tested (r ∷ rs) (t ∷ ts) =
    (t.number ≡ r.number) × (0 < r.number) × Tells r.cause t.holds × ((¬ r.cause) → Tested rs ts)

first_tested : (rs : List Row) (ts : List Test) → Tested rs ts → (k : ℕ) → ¬ (k ≡ 0) → first_cause ts ≡ k → First rs k
unfolding first_cause
first_tested [] [] h k n e = n (sym e)
first_tested [] (t ∷ ts) h k n e = absurd h
first_tested (r ∷ rs) [] h k n e = absurd h
first_tested (r ∷ rs) (t ∷ ts) h k n e = go (λ p q. first_tested rs ts (h.3 p) k n q) h.2 e
  where
    go : ((¬ r.cause) → first_cause ts ≡ k → First rs k) → {b : Bool} → Tells r.cause b → cond b t.number (first_cause ts) ≡ k → First (r ∷ rs) k
    go rest (holds p) q = inl (sym q ∙ h.0, p)
    go rest (fails p) q = inr (p, rest p q)

tested_first : (rs : List Row) (ts : List Test) → Tested rs ts → (k : ℕ) → First rs k → first_cause ts ≡ k
unfolding first_cause
tested_first [] [] h k f = absurd f
tested_first [] (t ∷ ts) h k f = absurd h
tested_first (r ∷ rs) [] h k f = absurd h
tested_first (r ∷ rs) (t ∷ ts) h k f = go (λ p q. tested_first rs ts (h.3 p) k q) h.2 f
  where
    go : ((¬ r.cause) → First rs k → first_cause ts ≡ k) → {b : Bool} → Tells r.cause b → First (r ∷ rs) k → cond b t.number (first_cause ts) ≡ k
    go rest (holds p) (inl q) = h.0 ∙ sym q.0
    go rest (holds p) (inr q) = absurd (q.0 p)
    go rest (fails p) (inl q) = absurd (p q.1)
    go rest (fails p) (inr q) = rest p q.1

none_tested : (rs : List Row) (ts : List Test) → Tested rs ts → first_cause ts ≡ 0 → NoneHolds rs
unfolding first_cause
none_tested [] [] h e = tt
none_tested [] (t ∷ ts) h e = absurd h
none_tested (r ∷ rs) [] h e = absurd h
none_tested (r ∷ rs) (t ∷ ts) h e = go (λ p q. none_tested rs ts (h.3 p) q) h.2 e
  where
    go : ((¬ r.cause) → first_cause ts ≡ 0 → NoneHolds rs) → {b : Bool} → Tells r.cause b → cond b t.number (first_cause ts) ≡ 0 → NoneHolds (r ∷ rs)
    go rest (holds p) q = absurd (omega (arith, h.0, h.1))
    go rest (fails p) q = (p, rest p q)

tested_none : (rs : List Row) (ts : List Test) → Tested rs ts → NoneHolds rs → first_cause ts ≡ 0
unfolding first_cause
tested_none [] [] h n = refl
tested_none [] (t ∷ ts) h n = absurd h
tested_none (r ∷ rs) [] h n = absurd h
tested_none (r ∷ rs) (t ∷ ts) h n = go (λ p. tested_none rs ts (h.3 p) n.1) h.2
  where
    go : ((¬ r.cause) → first_cause ts ≡ 0) → {b : Bool} → Tells r.cause b → cond b t.number (first_cause ts) ≡ 0
    go rest (holds p) = absurd (n.0 p)
    go rest (fails p) = rest p

-- the tests of a request
tests_in : Sheet → List Placed → Office → Invocation → List Test
tests_in S ps kept (opening o) = opening_tests ps kept
tests_in S ps kept (calling c) = call_tests S ps kept c

own_tested : (S : Sheet) (t : List ℕ) (c : Call) → ¬ TableBroken S t → Tested (own_causes S t c) (tests S (decode_table t) c)
unfolding tests
own_tested S t (post i kind z) form =
    (refl, omega arith, tells_beyond S i, λ low. (refl, omega arith, tells_is (is_figure (item_at S i)), λ n. (refl, omega arith, tells_posted kind z, λ m. tt)))
own_tested S t (keep i) form = (refl, omega arith, tells_beyond S i, λ low. (refl, omega arith, tells_is_not (is_figure (item_at S i)), λ n. tt))
own_tested S t (drop i) form = (refl, omega arith, tells_beyond S i, λ low. (refl, omega arith, tells_is_not (is_figure (item_at S i)), λ n. tt))
own_tested S t (step i) form =
    (refl, omega arith, tells_beyond S i, λ low. (refl, omega arith, tells_mark (is_figure (item_at S i)) (row width t i) (λ b. form (i, omega arith, inl b)), λ n. tt))
own_tested S t (ask i) form = (refl, omega arith, tells_beyond S i, λ low. tt)
own_tested S t (board items results) form = (refl, omega arith, tells_lists items results, λ n. (refl, omega arith, tells_listed S items, λ m. tt))
own_tested S t close form = tt
own_tested S t (swap giver taker quantity) form = (
  refl,
  omega arith,
  tells_or (tells_beyond S giver) (tells_beyond S taker),
  λ low. (
    refl,
    omega arith,
    tells_or (tells_is (is_figure (item_at S giver))) (tells_is (is_figure (item_at S taker))),
    λ n. (refl, omega arith, tells_no_swap giver taker quantity, λ m. (refl, omega arith, tells_results S t form giver taker quantity low, λ l. tt)),
  ),
)

tested : (S : Sheet) → Ordered S → (ps : List Placed) → size S ≡ length ps → (kept : Office) (r : Invocation) → Tested (causes_in S ps kept r) (tests_in S ps kept r)
unfolding tests_in
tested S ordered ps e kept (opening o) = (refl, omega arith, tells_lengths S ps kept e, λ n. tt)
tested S ordered ps e kept (calling c) = (
  refl,
  omega arith,
  tells_lengths S ps kept e,
  λ n. (refl, omega arith, tells_index ps kept.index, λ m. (refl, omega arith, tells_table S ordered kept.table, λ form. own_tested S kept.table c form)),
)

-- ---- the lowest number

-- the numbers rise, from above m
abbrev Rising : ℕ → List Row → Type 0
Rising m [] = Unit {0}
Rising m (r ∷ rs) = (m < r.number) × Rising r.number rs

holds_above : (m : ℕ) (rs : List Row) → Rising m rs → (j : ℕ) → HoldsAt rs j → m < j
holds_above m [] up j h = absurd h
holds_above m (r ∷ rs) up j (inl h) = omega (arith, up.0, h.0)
holds_above m (r ∷ rs) up j (inr h) = omega (arith, up.0, holds_above r.number rs up.1 j h)

first_holds : (rs : List Row) (k : ℕ) → First rs k → HoldsAt rs k
first_holds [] k f = absurd f
first_holds (r ∷ rs) k (inl f) = inl f
first_holds (r ∷ rs) k (inr f) = inr (first_holds rs k f.1)

first_below : (m : ℕ) (rs : List Row) → Rising m rs → (k : ℕ) → First rs k → (j : ℕ) → j < k → ¬ HoldsAt rs j
first_below m [] up k f j l h = h
first_below m (r ∷ rs) up k (inl f) j l (inl h) = omega (arith, f.0, h.0)
first_below m (r ∷ rs) up k (inl f) j l (inr h) = omega (arith, f.0, holds_above r.number rs up.1 j h)
first_below m (r ∷ rs) up k (inr f) j l (inl h) = f.0 h.1
first_below m (r ∷ rs) up k (inr f) j l (inr h) = first_below r.number rs up.1 k f.1 j l h

lowest_first : (m : ℕ) (rs : List Row) → Rising m rs → (k : ℕ) → HoldsAt rs k → ((j : ℕ) → j < k → ¬ HoldsAt rs j) → First rs k
lowest_first m [] up k h n = h
lowest_first m (r ∷ rs) up k (inl h) n = inl h
lowest_first m (r ∷ rs) up k (inr h) n =
    inr (
      λ c. n r.number (holds_above r.number rs up.1 k h) (inl (refl, c)),
      lowest_first r.number rs up.1 k h (λ j l g. n j l (inr g)),
    )

own_rising : (S : Sheet) (t : List ℕ) (c : Call) → ByNumber (calling c) → Rising 10 (own_causes S t c)
own_rising S t (post i kind z) b = (omega arith, (omega arith, (omega arith, tt)))
own_rising S t (keep i) b = (omega arith, (omega arith, tt))
own_rising S t (drop i) b = (omega arith, (omega arith, tt))
own_rising S t (step i) b = (omega arith, (omega arith, tt))
own_rising S t (ask i) b = (omega arith, tt)
own_rising S t (board items results) b = absurd b
own_rising S t close b = tt
own_rising S t (swap giver taker quantity) b = absurd b

causes_rising : (S : Sheet) (ps : List Placed) (kept : Office) (r : Invocation) → ByNumber r → Rising 7 (causes_in S ps kept r)
causes_rising S ps kept (opening o) b = (omega arith, tt)
causes_rising S ps kept (calling c) b = (omega arith, (omega arith, (omega arith, own_rising S kept.table c b)))

first_lowest : (s : List ℕ) (kept : Office) (r : Invocation) → ByNumber r → (k : ℕ) → First (causes_of s kept r) k ↔ Lowest (causes_of s kept r) k
first_lowest s kept r b k = (
  λ f. record { holds = first_holds (causes_of s kept r) k f; none_below = first_below 7 (causes_of s kept r) up k f },
  λ l. lowest_first 7 (causes_of s kept r) up k l.holds l.none_below,
)
  where
    up : Rising 7 (causes_of s kept r)
    up = causes_rising (sheet_of s) (items_of s) kept r b

-- ---- what a request gives

-- by the sheet's fault, or by the first of its tests
data Served (s : List ℕ) (kept : Office) (r : Invocation) (g : Given) : Type 0 where
  at_sheet : (k at : ℕ) → read_sheet s ≡ refused k at → g ≡ refusal k at (results_lent_to r) kept → Served s kept r g
  at_lent : (edition : ℕ) (ps : List Placed) (k : ℕ) → read_sheet s ≡ opens edition ps → first_cause (tests_in (sheet_read edition ps) ps kept r) ≡ suc k
      → g ≡ refusal (suc k) 0 (results_lent_to r) kept → Served s kept r g
  done : (edition : ℕ) (ps : List Placed) → read_sheet s ≡ opens edition ps → first_cause (tests_in (sheet_read edition ps) ps kept r) ≡ 0
      → g.number ≡ 0 → g.offset ≡ 0 → Served s kept r g

module _ (s : List ℕ) (kept : Office) (r : Invocation) where
  by_first : (edition : ℕ) (ps : List Placed) → read_sheet s ≡ opens edition ps → (G : Given) → G.number ≡ 0 → G.offset ≡ 0
      → (k : ℕ) → first_cause (tests_in (sheet_read edition ps) ps kept r) ≡ k → Served s kept r (unless_refused k (results_lent_to r) kept G)
  by_first edition ps e G n o zero c = done edition ps e c n o
  by_first edition ps e G n o (suc k) c = at_lent edition ps k e c refl

served : (s : List ℕ) (kept : Office) (r : Invocation) → Served s kept r (serve r s kept)
unfolding open_on call_on tests_in
served s kept (opening o) = go (read_sheet s) refl
  where
    go : (q : SheetRead) → read_sheet s ≡ q → Served s kept (opening o) (open_read o q kept)
    go (refused k at) e = at_sheet k at e refl
    go (opens edition ps) e = by_first s kept (opening o) edition ps e _ refl refl (first_cause (opening_tests ps kept)) refl
served s kept (calling c) = go (read_sheet s) refl
  where
    go : (q : SheetRead) → read_sheet s ≡ q → Served s kept (calling c) (call_read q kept c)
    go (refused k at) e = at_sheet k at e refl
    go (opens edition ps) e = by_first s kept (calling c) edition ps e _ refl refl (first_cause (call_tests (sheet_read edition ps) ps kept c)) refl

module _ (s : List ℕ) (kept : Office) (r : Invocation) where
  -- the rows and the tests of a sheet that opens
  tested_read : (edition : ℕ) (ps : List Placed) → read_sheet s ≡ opens edition ps → Tested (causes_of s kept r) (tests_in (sheet_read edition ps) ps kept r)
  unfolding sheet_of items_of
  tested_read edition ps e =
      subst (λ q. Tested (causes_in (sheet_from q) (placed_from q) kept r) (tests_in (sheet_read edition ps) ps kept r)) (sym e)
      (tested (sheet_read edition ps) (opened_ordered s edition ps e) ps (length-map (layout_of edition ps).items _ ∙ length-map ps _) kept r)

  -- a sheet that opens has no fault
  opens_not_refused : (edition : ℕ) (ps : List Placed) (k at : ℕ) → read_sheet s ≡ opens edition ps → read_sheet s ≡ refused k at → ⊥
  opens_not_refused edition ps k at e q = let bad : ◌≡◌ {A = ℕ} 0 1 = cc in omega arith

  faultless_not_refused : (k at : ℕ) → Faultless s → read_sheet s ≡ refused k at → ⊥
  faultless_not_refused k at f q =
      let o = (opens_faultless s).1 f in opens_not_refused o.0 o.1 k at o.2 q

  module _ (g : Given) where
    to_cause : Served s kept r g → (k offset : ℕ) → ¬ (k ≡ 0) → (g.number ≡ k) × (g.offset ≡ offset) → Refused s kept r k offset
    to_cause (at_sheet j at e q) k offset n (a, b) =
        let number : j ≡ k = ap (λ h. h.number) (sym q) ∙ a in
        let place : at ≡ offset = ap (λ h. h.offset) (sym q) ∙ b in
        by_sheet ((refused_exactly s k offset).0 (e ∙ ap₂ refused number place))
    to_cause (at_lent edition ps j e c q) k offset n (a, b) =
        let number : suc j ≡ k = ap (λ h. h.number) (sym q) ∙ a in
        let place : 0 ≡ offset = ap (λ h. h.offset) (sym q) ∙ b in
        by_lent ((opens_faultless s).0 (edition, ps, e)) (first_tested (causes_of s kept r) _ (tested_read edition ps e) k n (c ∙ number)) (sym place)
    to_cause (done edition ps e c z o) k offset n (a, b) = absurd (n (sym a ∙ z))

    from_cause : Served s kept r g → (k offset : ℕ) → ¬ (k ≡ 0) → Refused s kept r k offset → (g.number ≡ k) × (g.offset ≡ offset)
    from_cause (at_sheet j at e q) k offset n (by_sheet f) =
        let same : refused j at ≡ refused k offset = sym e ∙ (refused_exactly s k offset).1 f in
        let number : j ≡ k = cc in
        let place : at ≡ offset = cc in
        (ap (λ h. h.number) q ∙ number, ap (λ h. h.offset) q ∙ place)
    from_cause (at_sheet j at e q) k offset n (by_lent f c z) = absurd (faultless_not_refused j at f e)
    from_cause (at_lent edition ps j e c q) k offset n (by_sheet f) =
        absurd (opens_not_refused edition ps k offset e ((refused_exactly s k offset).1 f))
    from_cause (at_lent edition ps j e c q) k offset n (by_lent f h z) =
        let number : suc j ≡ k = sym c ∙ tested_first (causes_of s kept r) _ (tested_read edition ps e) k h in
        (ap (λ h. h.number) q ∙ number, ap (λ h. h.offset) q ∙ sym z)
    from_cause (done edition ps e c z o) k offset n (by_sheet f) =
        absurd (opens_not_refused edition ps k offset e ((refused_exactly s k offset).1 f))
    from_cause (done edition ps e c z o) k offset n (by_lent f h w) =
        absurd (n (sym (tested_first (causes_of s kept r) _ (tested_read edition ps e) k h) ∙ c))

    to_none : Served s kept r g → g.number ≡ 0 → NoCause s kept r
    to_none (at_sheet j at e q) z = absurd (omega (arith, refused_number s j at e, ap (λ h. h.number) q))
    to_none (at_lent edition ps j e c q) z = absurd (omega (arith, ap (λ h. h.number) q))
    to_none (done edition ps e c n o) z =
        record { sheet = (opens_faultless s).0 (edition, ps, e); lent = none_tested (causes_of s kept r) _ (tested_read edition ps e) c }

    from_none : Served s kept r g → NoCause s kept r → g.number ≡ 0
    from_none (at_sheet j at e q) f = absurd (faultless_not_refused j at f.sheet e)
    from_none (at_lent edition ps j e c q) f =
        absurd (omega (arith, tested_none (causes_of s kept r) _ (tested_read edition ps e) f.lent))
    from_none (done edition ps e c n o) f = n

    at_0 : Served s kept r g → g.number ≡ 0 → g.offset ≡ 0
    at_0 (at_sheet j at e q) z = absurd (omega (arith, refused_number s j at e, ap (λ h. h.number) q))
    at_0 (at_lent edition ps j e c q) z = absurd (omega (arith, ap (λ h. h.number) q))
    at_0 (done edition ps e c n o) z = o

    -- a refusal has the lent bytes as they were, and no value
    as_it_was : Served s kept r g → ¬ (g.number ≡ 0) → (k at : ℕ) × (g ≡ refusal k at (results_lent_to r) kept)
    as_it_was (at_sheet j at e q) n = (j, at, q)
    as_it_was (at_lent edition ps j e c q) n = (suc j, 0, q)
    as_it_was (done edition ps e c z o) n = absurd (n z)

-- a table that is not broken is in form, with true owed bytes
pub unbroken_form : (S : Sheet) → Ordered S → (t : List ℕ) → ¬ TableBroken S t → (table_form S t ≡ true) × (owed_true S t ≡ true)
unbroken_form S ordered t n = go (tells_table S ordered t) refl
  where
    go : {b : Bool} → Tells (TableBroken S t) b → not (table_form S t && owed_true S t) ≡ b → (table_form S t ≡ true) × (owed_true S t ≡ true)
    go (holds p) e = absurd (n p)
    go (fails p) e =
        let both : (table_form S t && owed_true S t) ≡ true = not-false (table_form S t && owed_true S t) e in
        (and_left (table_form S t) (owed_true S t) both, and_right (table_form S t) (owed_true S t) both)

pub form_unbroken : (S : Sheet) → Ordered S → (t : List ℕ) → table_form S t ≡ true → owed_true S t ≡ true → ¬ TableBroken S t
form_unbroken S ordered t form owes b = go (tells_table S ordered t) refl
  where
    go : {c : Bool} → Tells (TableBroken S t) c → not (table_form S t && owed_true S t) ≡ c → ⊥
    go (holds p) e = let both : (table_form S t && owed_true S t) ≡ true = rw (form, owes) in let bad : ◌≡◌ {A = ℕ} 0 1 = cc in omega arith
    go (fails p) e = p b

pub opens_sheet : (s : List ℕ) (edition : ℕ) (ps : List Placed) → read_sheet s ≡ opens edition ps → sheet_of s ≡ sheet_read edition ps
unfolding sheet_of
opens_sheet s edition ps e = ap sheet_from e

-- Where no cause holds, a call is the machine's on the decoded table, and leaves its table encoded.
pub call_accepted : (s : List ℕ) (kept : Office) (c : Call) → NoCause s kept (calling c)
    → call_on s kept c ≡ effect_on (sheet_of s) kept (effect (sheet_of s) (decode_table kept.table) c)
unfolding call_on tests_in
call_accepted s kept c free = go ((opens_faultless s).1 free.sheet)
  where
    go : (edition : ℕ) × (ps : List Placed) × (read_sheet s ≡ opens edition ps)
        → call_read (read_sheet s) kept c ≡ effect_on (sheet_of s) kept (effect (sheet_of s) (decode_table kept.table) c)
    go (edition, ps, e) =
        ap (λ q. call_read q kept c) e
        ∙ ap (λ k. unless_refused k (results_lent c) kept (effect_on (sheet_read edition ps) kept (effect (sheet_read edition ps) (decode_table kept.table) c)))
        (tested_none (causes_of s kept (calling c)) _ (tested_read s kept (calling c) edition ps e) free.lent)
        ∙ ap (λ S. effect_on S kept (effect S (decode_table kept.table) c)) (sym (opens_sheet s edition ps e))

-- a table in form passes a call's own tests where none of its own causes holds
pub own_passed : (S : Sheet) (t : List ℕ) (c : Call) → ¬ TableBroken S t → NoneHolds (own_causes S t c) → first_cause (tests S (decode_table t) c) ≡ 0
own_passed S t c form own = tested_none (own_causes S t c) _ (own_tested S t c form) own

-- what may be posted is a value
pub record Postable (kind : ℕ) (z : ℤ) : Type 0 where
  pub value : Value
  pub posted : posted_value kind z ≡ some value
  pub kind_is : kind_of value ≡ kind
  pub number_is : number_of value ≡ z

pub postable : (kind : ℕ) (z : ℤ) → ¬ NotPostable kind z → Postable kind z
postable kind z n = go (posted_value kind z) refl (tells_posted kind z)
  where
    go : (o : Option Value) → posted_value kind z ≡ o → Tells (NotPostable kind z) (is_none o) → Postable kind z
    go none e (holds w) = absurd (n w)
    go (some v) e t = let own = (posted_some kind z v e).0 in record { value = v; posted = e; kind_is = sym own.kind; number_is = sym own.number }

-- What is demanded of a request.
pub record TurnedBack (r : Invocation) (s : List ℕ) (kept : Office) : Type 0 where
  pub given : (k offset : ℕ) → ¬ (k ≡ 0) → (((serve r s kept).number ≡ k) × ((serve r s kept).offset ≡ offset)) ↔ Refused s kept r k offset
  pub lowest : ByNumber r → (k : ℕ) → First (causes_of s kept r) k ↔ Lowest (causes_of s kept r) k
  pub accepted : ((serve r s kept).number ≡ 0) ↔ NoCause s kept r
  pub offset_0 : (serve r s kept).number ≡ 0 → (serve r s kept).offset ≡ 0
  pub left : ¬ ((serve r s kept).number ≡ 0) → ((serve r s kept).after ≡ kept) × ((serve r s kept).results ≡ results_lent_to r)
  pub no_value : ¬ ((serve r s kept).number ≡ 0) → ((serve r s kept).kind ≡ 0) × ((serve r s kept).value ≡ pos 0)

pub turned_back : (r : Invocation) (s : List ℕ) (kept : Office) → TurnedBack r s kept
turned_back r s kept =
    record {
      given = λ k offset n. (to_cause s kept r g is k offset n, from_cause s kept r g is k offset n);
      lowest = first_lowest s kept r;
      accepted = (to_none s kept r g is, from_none s kept r g is);
      offset_0 = at_0 s kept r g is;
      left = λ n. let q = as_it_was s kept r g is n in (ap (λ h. h.after) q.2, ap (λ h. h.results) q.2);
      no_value = λ n. let q = as_it_was s kept r g is n in (ap (λ h. h.kind) q.2, ap (λ h. h.value) q.2);
    }
  where
    g : Given
    g = serve r s kept

    is : Served s kept r g
    is = served s kept r

-- what is lent with an accepted call is accepted
pub accepted_lent : (s : List ℕ) (kept : Office) (c : Call) → (call_on s kept c).number ≡ 0 → AcceptedLent s kept
accepted_lent s kept c z =
    let free = (turned_back (calling c) s kept).accepted.0 z in
    record { sheet = free.sheet; lent = (free.lent.0, (free.lent.1.0, (free.lent.1.1.0, tt))) }

-- A call's own causes are numbered from 11 on.
own_number : (S : Sheet) (t : List ℕ) (d : Call) (k : ℕ) → First (own_causes S t d) k → 11 ≤ k
own_number S t (post i kind z) k (inl f) = omega (arith, f.0)
own_number S t (post i kind z) k (inr (n, inl f)) = omega (arith, f.0)
own_number S t (post i kind z) k (inr (n, inr (m, inl f))) = omega (arith, f.0)
own_number S t (post i kind z) k (inr (n, inr (m, inr f))) = absurd f.1
own_number S t (keep i) k (inl f) = omega (arith, f.0)
own_number S t (keep i) k (inr (n, inl f)) = omega (arith, f.0)
own_number S t (keep i) k (inr (n, inr f)) = absurd f.1
own_number S t (drop i) k (inl f) = omega (arith, f.0)
own_number S t (drop i) k (inr (n, inl f)) = omega (arith, f.0)
own_number S t (drop i) k (inr (n, inr f)) = absurd f.1
own_number S t (step i) k (inl f) = omega (arith, f.0)
own_number S t (step i) k (inr (n, inl f)) = omega (arith, f.0)
own_number S t (step i) k (inr (n, inr f)) = absurd f.1
own_number S t (ask i) k (inl f) = omega (arith, f.0)
own_number S t (ask i) k (inr f) = absurd f.1
own_number S t (board items results) k (inl f) = omega (arith, f.0)
own_number S t (board items results) k (inr (n, inl f)) = omega (arith, f.0)
own_number S t (board items results) k (inr (n, inr f)) = absurd f.1
own_number S t close k f = absurd f
own_number S t (swap giver taker quantity) k (inl f) = omega (arith, f.0)
own_number S t (swap giver taker quantity) k (inr (n, inl f)) = omega (arith, f.0)
own_number S t (swap giver taker quantity) k (inr (n, inr (m, inl f))) = omega (arith, f.0)
own_number S t (swap giver taker quantity) k (inr (n, inr (m, inr (l, inl f)))) = omega (arith, f.0)
own_number S t (swap giver taker quantity) k (inr (n, inr (m, inr (l, inr f)))) = absurd f.1

-- those of what is lent from 8 on
pub cause_number : (s : List ℕ) (kept : Office) (r : Invocation) (k : ℕ) → First (causes_of s kept r) k → 8 ≤ k
cause_number s kept (opening how) k (inl f) = omega (arith, f.0)
cause_number s kept (opening how) k (inr f) = absurd f.1
cause_number s kept (calling c) k (inl f) = omega (arith, f.0)
cause_number s kept (calling c) k (inr (n, inl f)) = omega (arith, f.0)
cause_number s kept (calling c) k (inr (n, inr (m, inl f))) = omega (arith, f.0)
cause_number s kept (calling c) k (inr (n, inr (m, inr (o, f)))) = omega (arith, own_number (sheet_of s) kept.table c k f)

-- What is lent is accepted: a call has number 0, or one of its own causes.
pub lent_numbers : (s : List ℕ) (kept : Office) → AcceptedLent s kept → (c : Call) → ((call_on s kept c).number ≡ 0) ⊎ (11 ≤ (call_on s kept c).number)
lent_numbers s kept lent c = go (tells_eq (call_on s kept c).number 0)
  where
    past : (k : ℕ) → First (causes_of s kept (calling c)) k → 11 ≤ k
    past k (inl f) = absurd (lent.lent.0 f.1)
    past k (inr (n, inl f)) = absurd (lent.lent.1.0 f.1)
    past k (inr (n, inr (m, inl f))) = absurd (lent.lent.1.1.0 f.1)
    past k (inr (n, inr (m, inr (o, f)))) = own_number (sheet_of s) kept.table c k f

    refuse : (k offset : ℕ) → Refused s kept (calling c) k offset → 11 ≤ k
    refuse k offset (by_sheet f) = absurd (lent.sheet f.place f.in_sheet k f.cause)
    refuse k offset (by_lent f h z) = past k h

    go : {b : Bool} → Tells ((call_on s kept c).number ≡ 0) b → ((call_on s kept c).number ≡ 0) ⊎ (11 ≤ (call_on s kept c).number)
    go (holds e) = inl e
    go (fails n) =
        inr (refuse _ _ (((turned_back (calling c) s kept).given (call_on s kept c).number (call_on s kept c).offset n).0 (refl, refl)))

-- The refusals of a season-close run are those of what is lent.
pub close_refuses : (s : List ℕ) (kept : Office) → CloseRefuses s kept
close_refuses s kept =
    record {
      accepted = (accepted_lent s kept close, λ lent. (turned_back (calling close) s kept).accepted.1 (record { sheet = lent.sheet; lent = lent.lent }));
      numbers = go (tells_eq (call_on s kept close).number 0);
    }
  where
    lent_cause : (k : ℕ) → First (causes_of s kept (calling close)) k → k ≤ 10
    lent_cause k (inl f) = omega (arith, f.0)
    lent_cause k (inr (n, inl f)) = omega (arith, f.0)
    lent_cause k (inr (n, inr (m, inl f))) = omega (arith, f.0)
    lent_cause k (inr (n, inr (m, inr (o, f)))) = absurd f

    refuse : (k offset : ℕ) → Refused s kept (calling close) k offset → k ≤ 10
    refuse k offset (by_sheet f) = omega (arith, refused_number s k offset ((refused_exactly s k offset).1 f))
    refuse k offset (by_lent f h z) = lent_cause k h

    go : {b : Bool} → Tells ((call_on s kept close).number ≡ 0) b → (call_on s kept close).number ≤ 10
    go (holds e) = omega (arith, e)
    go (fails n) = refuse _ _ (((turned_back (calling close) s kept).given (call_on s kept close).number (call_on s kept close).offset n).0 (refl, refl))

-- A call's own refusals: those with a number over 10, where what is lent is accepted.
module _ (s : List ℕ) (kept : Office) (c : Call) where
  abbrev Own : ℕ → Type 0
  Own k = First (own_causes (sheet_of s) kept.table c) k

  -- a number of the call's own comes after those of what is lent
  past : (k : ℕ) → 10 < k → Faultless s → First (causes_of s kept (calling c)) k → AcceptedLent s kept × Own k
  past k h sound (inl f) = absurd (omega (arith, f.0))
  past k h sound (inr (n, inl f)) = absurd (omega (arith, f.0))
  past k h sound (inr (n, inr (m, inl f))) = absurd (omega (arith, f.0))
  past k h sound (inr (n, inr (m, inr (o, f)))) = (record { sheet = sound; lent = (n, (m, (o, tt))) }, f)

  by_own : (k : ℕ) → 10 < k → (call_on s kept c).number ≡ k → AcceptedLent s kept × Own k
  by_own k h e = go (((turned_back (calling c) s kept).given k _ (λ z. omega arith)).0 (e, refl))
    where
      go : {offset : ℕ} → Refused s kept (calling c) k offset → AcceptedLent s kept × Own k
      go {offset} (by_sheet f) = absurd (omega (arith, refused_number s k offset ((refused_exactly s k offset).1 f)))
      go (by_lent f q z) = past k h f q

  from_own : (k : ℕ) → 10 < k → AcceptedLent s kept → Own k → (call_on s kept c).number ≡ k
  from_own k h lent f =
      let all = lent.lent in
      (((turned_back (calling c) s kept).given k 0 (λ z. omega arith)).1 (by_lent lent.sheet (inr (all.0, inr (all.1.0, inr (all.1.1.0, f)))) refl)).0

  -- where what is lent is accepted, a call is refused for its own causes, and accepted exactly if none holds
  pub own_refused : AcceptedLent s kept → (k : ℕ) → ¬ (k ≡ 0) → ((call_on s kept c).number ≡ k) ↔ Own k
  own_refused lent k n = (to, λ f. (((turned_back (calling c) s kept).given k 0 n).1 (by_lent lent.sheet (inr (all.0, inr (all.1.0, inr (all.1.1.0, f)))) refl)).0)
    where
      all : NoneHolds (lent_causes (sheet_of s) (items_of s) kept)
      all = lent.lent

      own : First (causes_of s kept (calling c)) k → Own k
      own (inl f) = absurd (all.0 f.1)
      own (inr (a, inl f)) = absurd (all.1.0 f.1)
      own (inr (a, inr (b, inl f))) = absurd (all.1.1.0 f.1)
      own (inr (a, inr (b, inr (d, f)))) = f

      to : (call_on s kept c).number ≡ k → Own k
      to e = go (((turned_back (calling c) s kept).given k _ n).0 (e, refl))
        where
          go : {offset : ℕ} → Refused s kept (calling c) k offset → Own k
          go (by_sheet f) = absurd (lent.sheet f.place f.in_sheet k f.cause)
          go (by_lent f q z) = own q

  pub own_accepted : ((call_on s kept c).number ≡ 0) ↔ AcceptedLent s kept × NoneHolds (own_causes (sheet_of s) kept.table c)
  own_accepted = (
    λ e. (accepted_lent s kept c e, ((turned_back (calling c) s kept).accepted.0 e).lent.1.1.1),
    λ h.
        let all = h.0.lent in
        (turned_back (calling c) s kept).accepted.1 (record { sheet = h.0.sheet; lent = (all.0, (all.1.0, (all.1.1.0, h.1))) }),
  )

-- A board's own refusals, in their order.
pub board_refuses : (s : List ℕ) (kept : Office) (items results : List ℕ) → BoardRefuses s kept items results
board_refuses s kept items results =
    record {
      lists_17 = (λ e. lists (by_own s kept c 17 (omega arith) e), λ h. from_own s kept c 17 (omega arith) h.0 (inl (refl, h.1)));
      item_11 = (λ e. item (by_own s kept c 11 (omega arith) e), λ h. from_own s kept c 11 (omega arith) h.0 (inr (h.1, inl (refl, h.2))));
      results_left = λ n. ((turned_back (calling c) s kept).left n).1;
    }
  where
    c : Call
    c = board items results

    lists : AcceptedLent s kept × Own s kept c 17 → AcceptedLent s kept × ListsWrong items results
    lists (lent, inl f) = (lent, f.1)
    lists (lent, inr (n, inl f)) = absurd (omega (arith, f.0))
    lists (lent, inr (n, inr f)) = absurd f.1

    item : AcceptedLent s kept × Own s kept c 11 → AcceptedLent s kept × (¬ ListsWrong items results) × SomeNoItem (sheet_of s) items
    item (lent, inl f) = absurd (omega (arith, f.0))
    item (lent, inr (n, inl f)) = (lent, n, f.1)
    item (lent, inr (n, inr f)) = absurd f.1

-- A swap's own refusals, in their order.
module _ (s : List ℕ) (kept : Office) (giver taker : ℕ) (quantity : ℤ) where
  abbrev S : Sheet
  S = sheet_of s

  abbrev swaps : Call
  swaps = swap giver taker quantity

  abbrev Both : Type 0
  Both = IsEntry (sheet_of s) giver × IsEntry (sheet_of s) taker

  low_items : Both → ¬ (NoSuchItem (sheet_of s) giver ⊎ NoSuchItem (sheet_of s) taker)
  low_items both = ⊎_elim (λ h. omega (arith, h, both.0.0)) (λ h. omega (arith, h, both.1.0))

  plain_items : Both → ¬ (ToFigure (sheet_of s) giver ⊎ ToFigure (sheet_of s) taker)
  plain_items both = ⊎_elim (λ h. not_both h both.0.1) (λ h. not_both h both.1.1)

  pub swap_refuses : SwapRefuses s kept giver taker quantity
  swap_refuses =
      record {
        item_11 = (λ e. item (by_own s kept swaps 11 (omega arith) e), λ h. from_own s kept swaps 11 (omega arith) h.0 (inl (refl, h.1)));
        figure_12 = (
          λ e. figure (by_own s kept swaps 12 (omega arith) e),
          λ h. from_own s kept swaps 12 (omega arith) h.0 (inr (⊎_elim (λ a. omega (arith, a, h.1)) (λ a. omega (arith, a, h.2)), inl (refl, h.3))),
        );
        no_swap_18 = (
          λ e. no_swap_lem (by_own s kept swaps 18 (omega arith) e),
          λ h. from_own s kept swaps 18 (omega arith) h.0 (inr (low_items (h.1, h.2), inr (plain_items (h.1, h.2), inl (refl, h.3)))),
        );
        beyond_13 = (
          λ e. beyond_range_lem (by_own s kept swaps 13 (omega arith) e),
          λ h. from_own s kept swaps 13 (omega arith) h.0 (inr (low_items (h.1, h.2), inr (plain_items (h.1, h.2), inr (h.3, inl (refl, h.4))))),
        );
        accepted = (
          λ e. free ((own_accepted s kept swaps).0 e),
          λ h. (own_accepted s kept swaps).1 (h.0, (low_items (h.1, h.2), (plain_items (h.1, h.2), (h.3, (h.4, tt))))),
        );
        numbers = by_number (tells_eq (call_on s kept swaps).number 0);
      }
    where
      item : AcceptedLent s kept × Own s kept swaps 11 → AcceptedLent s kept × (NoSuchItem (sheet_of s) giver ⊎ NoSuchItem (sheet_of s) taker)
      item (lent, inl f) = (lent, f.1)
      item (lent, inr (n, inl f)) = absurd (omega (arith, f.0))
      item (lent, inr (n, inr (m, inl f))) = absurd (omega (arith, f.0))
      item (lent, inr (n, inr (m, inr (l, inl f)))) = absurd (omega (arith, f.0))
      item (lent, inr (n, inr (m, inr (l, inr f)))) = absurd f.1

      figure : AcceptedLent s kept × Own s kept swaps 12
          → AcceptedLent s kept × (giver < size (sheet_of s)) × (taker < size (sheet_of s)) × (ToFigure (sheet_of s) giver ⊎ ToFigure (sheet_of s) taker)
      figure (lent, inl f) = absurd (omega (arith, f.0))
      figure (lent, inr (n, inl f)) = (lent, item_inside (sheet_of s) giver (λ h. n (inl h)), item_inside (sheet_of s) taker (λ h. n (inr h)), f.1)
      figure (lent, inr (n, inr (m, inl f))) = absurd (omega (arith, f.0))
      figure (lent, inr (n, inr (m, inr (l, inl f)))) = absurd (omega (arith, f.0))
      figure (lent, inr (n, inr (m, inr (l, inr f)))) = absurd f.1

      no_swap_lem : AcceptedLent s kept × Own s kept swaps 18 → AcceptedLent s kept × IsEntry (sheet_of s) giver × IsEntry (sheet_of s) taker × NoSwap giver taker quantity
      no_swap_lem (lent, inl f) = absurd (omega (arith, f.0))
      no_swap_lem (lent, inr (n, inl f)) = absurd (omega (arith, f.0))
      no_swap_lem (lent, inr (n, inr (m, inl f))) = let both = both_entries (sheet_of s) giver taker n m in (lent, both.0, both.1, f.1)
      no_swap_lem (lent, inr (n, inr (m, inr (l, inl f)))) = absurd (omega (arith, f.0))
      no_swap_lem (lent, inr (n, inr (m, inr (l, inr f)))) = absurd f.1

      beyond_range_lem : AcceptedLent s kept × Own s kept swaps 13
          → AcceptedLent s kept × IsEntry (sheet_of s) giver × IsEntry (sheet_of s) taker × (¬ NoSwap giver taker quantity) × ResultBeyond (numbers_in kept.table) giver taker quantity
      beyond_range_lem (lent, inl f) = absurd (omega (arith, f.0))
      beyond_range_lem (lent, inr (n, inl f)) = absurd (omega (arith, f.0))
      beyond_range_lem (lent, inr (n, inr (m, inl f))) = absurd (omega (arith, f.0))
      beyond_range_lem (lent, inr (n, inr (m, inr (l, inl f)))) = let both = both_entries (sheet_of s) giver taker n m in (lent, both.0, both.1, l, f.1)
      beyond_range_lem (lent, inr (n, inr (m, inr (l, inr f)))) = absurd f.1

      free : AcceptedLent s kept × NoneHolds (own_causes (sheet_of s) kept.table swaps)
          → AcceptedLent s kept × IsEntry (sheet_of s) giver × IsEntry (sheet_of s) taker × (¬ NoSwap giver taker quantity) × (¬ ResultBeyond (numbers_in kept.table) giver taker quantity)
      free (lent, none-holds) = let both = both_entries (sheet_of s) giver taker none-holds.0 none-holds.1.0 in (lent, both.0, both.1, none-holds.1.1.0, none-holds.1.1.1.0)

      cause_number : (k : ℕ) → First (causes_of s kept (calling swaps)) k → (k ≤ 13) ⊎ (k ≡ 18)
      cause_number k (inl f) = inl (omega (arith, f.0))
      cause_number k (inr (a, inl f)) = inl (omega (arith, f.0))
      cause_number k (inr (a, inr (b, inl f))) = inl (omega (arith, f.0))
      cause_number k (inr (a, inr (b, inr (c, inl f)))) = inl (omega (arith, f.0))
      cause_number k (inr (a, inr (b, inr (c, inr (n, inl f))))) = inl (omega (arith, f.0))
      cause_number k (inr (a, inr (b, inr (c, inr (n, inr (m, inl f)))))) = inr f.0
      cause_number k (inr (a, inr (b, inr (c, inr (n, inr (m, inr (l, inl f))))))) = inl (omega (arith, f.0))
      cause_number k (inr (a, inr (b, inr (c, inr (n, inr (m, inr (l, inr f))))))) = absurd f.1

      number : (k offset : ℕ) → Refused s kept (calling swaps) k offset → (k ≤ 13) ⊎ (k ≡ 18)
      number k offset (by_sheet f) = inl (omega (arith, refused_number s k offset ((refused_exactly s k offset).1 f)))
      number k offset (by_lent f h z) = cause_number k h

      by_number : {b : Bool} → Tells ((call_on s kept swaps).number ≡ 0) b → ((call_on s kept swaps).number ≤ 13) ⊎ ((call_on s kept swaps).number ≡ 18)
      by_number (holds e) = inl (omega (arith, e))
      by_number (fails n) = number _ _ (((turned_back (calling swaps) s kept).given (call_on s kept swaps).number (call_on s kept swaps).offset n).0 (refl, refl))
