-- 02's job 8 for the calls on lent bytes: swaps keep the sum of the entries (`swaps_keep_sum`), a swap's answer and postings follow from the fresh
-- office's values (`office_swap_follows`), and in a list it counts as its two posts (`swap_counts`). Assumes nothing.
use Prim.Native.Nat.{ℕ, zero, suc}
use mathlib.Core.Path.{◌≡◌, refl, sym, ap, ap₂, ◌∙◌, subst}
use mathlib.Core.Bool.{Bool}
use mathlib.Core.List.{List, [], ◌∷◌, ◌++◌}
use mathlib.Core.Logic.{◌⊎◌, inl, inr}
use lib.IntN.{ℤ, ◌+ℤ◌, ◌-ℤ◌}
use Rattle.circuit.specs.Value.{num}
use Rattle.circuit.specs.Sheet.{Sheet, Entries, Ordered}
use Rattle.circuit.specs.Table.{Table, entries_of}
use Rattle.circuit.specs.Call.{Call, post, swap, posting, Opening}
use Rattle.circuit.specs.Swap.{counted, swap_postings, sum_of}
use Rattle.circuit.specs.Calls.{effect, run, posting_of, posted_value, if_accepted}
use Rattle.circuit.specs.Fresh.{blank}
use Rattle.circuit.specs.Events.{fresh_run}
use Rattle.circuit.specs.Words.{Holds}
use Rattle.circuit.proofs.Swaps.{swap_sum}
use Rattle.circuit.proofs.Sound.{run_sound}
use Rattle.layout.specs.Opened.{sheet_read, sheet_of}
use Rattle.layout.proofs.Tests.{Tells, holds, fails, tells_eq}
use Rattle.table.specs.Bytes.{decode_table, Holdable}
use Rattle.office.specs.Office.{Office, Given, call_on, open_on, run_on}
use Rattle.office.specs.Demand1Words.{calling, by_lent, causes_of, BeyondRange, AcceptedLent, NoSuchItem, ToFigure, IsEntry, NoSwap, ResultBeyond, First, NoneHolds, swap_causes, numbers_in}
use Rattle.office.specs.Demand2Words.{entries_in}
use Rattle.office.specs.Demand3Words.{made_on, postings_on, fresh_entries}
use Rattle.office.specs.SwapWords.{Swapping, swaps_of, sum_in, SwapFollows, CountsAsPosts}
use Rattle.office.proofs.Accepted.{office_accepted}
use Rattle.office.proofs.Agreeing as opened
use Rattle.office.proofs.Agreeing.{Opens, opening_opens}
use Rattle.office.proofs.Bridge.{Within, decode_within, perform_within, run_within}
use Rattle.office.proofs.Causes.{both_entries, item_number}
use Rattle.office.proofs.Holdable.{run_holdable}
use Rattle.office.proofs.Lent.{ordered, within}
use Rattle.office.proofs.Leaves as left
use Rattle.office.proofs.Refusals.{turned_back, own_refused, own_accepted, swap_refuses}

-- ---- the sum

-- one swap, refused or not
swap_keeps_sum : (s : List ℕ) (o : Office) (giver taker : ℕ) (quantity : ℤ)
    → sum_in s (call_on s o (swap giver taker quantity)).after.table ≡ sum_in s o.table
swap_keeps_sum s o giver taker quantity = go (tells_eq (call_on s o c).number 0)
  where
    c : Call
    c = swap giver taker quantity

    S : Sheet
    S = sheet_of s

    T : Table
    T = decode_table o.table

    go : {b : Bool} → Tells ((call_on s o c).number ≡ 0) b → sum_in s (call_on s o c).after.table ≡ sum_in s o.table
    go (fails n) = ap (λ p. sum_in s p.table) ((turned_back (calling c) s o).left n).0
    go (holds z) =
        let lent : AcceptedLent s o = ((swap_refuses s o giver taker quantity).accepted.0 z).0 in
        ap (λ g. sum_in s g.after.table) (left.is s o lent c z)
        ∙ ap (λ U. sum_of S (entries_of U))
        (decode_within S (effect S T c).table (left.effect_holdable s o lent c z)
        (subst (λ e. Within S e.table) (left.performs s o lent c z) (perform_within S (ordered s o lent) T c (within s o lent))))
        ∙ ap (λ e. sum_of S (entries_of e.table)) (sym (left.performs s o lent c z))
        ∙ swap_sum S T giver taker quantity

pub swaps_keep_sum : (s : List ℕ) (o : Office) (xs : List Swapping) → sum_in s (run_on s o (swaps_of xs)).table ≡ sum_in s o.table
unfolding run_on
swaps_keep_sum s o [] = refl
swaps_keep_sum s o (x ∷ xs) =
    let c : Call = swap x.giver x.taker x.quantity in
    swaps_keep_sum s (call_on s o c).after xs ∙ swap_keeps_sum s o x.giver x.taker x.quantity

-- ---- by the fresh office's values

-- The causes of a swap by two readings of the entries that agree at the entries of the sheet.
module _ (S : Sheet) (f g : ℕ → ℤ) (same : (e : ℕ) → IsEntry S e → f e ≡ g e) (giver taker : ℕ) (quantity : ℤ) where
  agree : ¬ (NoSuchItem S giver ⊎ NoSuchItem S taker) → ¬ (ToFigure S giver ⊎ ToFigure S taker) → (f giver ≡ g giver) × (f taker ≡ g taker)
  agree low plain = let both = both_entries S giver taker low plain in (same giver both.0, same taker both.1)

  beyond_same : ¬ (NoSuchItem S giver ⊎ NoSuchItem S taker) → ¬ (ToFigure S giver ⊎ ToFigure S taker)
      → ResultBeyond f giver taker quantity ≡ ResultBeyond g giver taker quantity
  beyond_same low plain = let both = agree low plain in ap₂ (λ x y. BeyondRange (x -ℤ quantity) ⊎ BeyondRange (y +ℤ quantity)) both.0 both.1

  pub first_same : (k : ℕ) → First (swap_causes S f giver taker quantity) k → First (swap_causes S g giver taker quantity) k
  first_same k (inl a) = inl a
  first_same k (inr (n, inl a)) = inr (n, inl a)
  first_same k (inr (n, inr (m, inl a))) = inr (n, inr (m, inl a))
  first_same k (inr (n, inr (m, inr (l, inl a)))) = inr (n, inr (m, inr (l, inl (a.0, subst (λ P. P) (beyond_same n m) a.1))))
  first_same k (inr (n, inr (m, inr (l, inr a)))) = absurd a.1

  pub none_same : NoneHolds (swap_causes S f giver taker quantity) → NoneHolds (swap_causes S g giver taker quantity)
  none_same h = (h.0, (h.1.0, (h.1.1.0, ((λ b. h.1.1.1.0 (subst (λ P. P) (sym (beyond_same h.0 h.1.0)) b)), tt))))

-- An office where the entries that the table holds are those of the fresh office.
module _ (s : List ℕ) (p : Office) (lent : AcceptedLent s p) (E : Entries) (holds-e : (e : ℕ) → IsEntry (sheet_of s) e → entries_in p.table e ≡ E e)
    (giver taker : ℕ) (quantity : ℤ) where
  number_is : (e : ℕ) → IsEntry (sheet_of s) e → numbers_in p.table e ≡ counted (E e)
  number_is e entry =
      item_number (sheet_of s) p.table lent.lent.1.1.0 e entry.0 ∙ ap counted (holds-e e entry)

  follows : SwapFollows s p E giver taker quantity
  follows =
      record {
        refused = λ k n. (
          λ e. first_same S f g number_is giver taker quantity k ((own_refused s p c lent k n).0 e),
          λ h. (own_refused s p c lent k n).1 (first_same S g f (λ e entry. sym (number_is e entry)) giver taker quantity k h),
        );
        accepted = (
          λ e. none_same S f g number_is giver taker quantity ((own_accepted s p c).0 e).1,
          λ h. (own_accepted s p c).1 (lent, none_same S g f (λ e entry. sym (number_is e entry)) giver taker quantity h),
        );
        offset_0 = at_0 (tells_eq (call_on s p c).number 0);
        made = λ e. ap (λ k. if_accepted k (swap_postings (entries_in p.table) giver taker quantity)) e ∙ by_entries e;
        none_made = none_of (call_on s p c).number;
      }
    where
      S : Sheet
      S = sheet_of s

      f : ℕ → ℤ
      f = numbers_in p.table

      g : ℕ → ℤ
      g = λ i. counted (E i)

      c : Call
      c = swap giver taker quantity

      at_0 : {b : Bool} → Tells ((call_on s p c).number ≡ 0) b → (call_on s p c).offset ≡ 0
      at_0 (holds e) = (turned_back (calling c) s p).offset_0 e
      at_0 (fails n) =
          (((turned_back (calling c) s p).given (call_on s p c).number 0 n).1
          (by_lent lent.sheet (past ((own_refused s p c lent (call_on s p c).number n).0 refl)) refl)).1
        where
          past : First (swap_causes S f giver taker quantity) (call_on s p c).number → First (causes_of s p (calling c)) (call_on s p c).number
          past h = let all = lent.lent in inr (all.0, inr (all.1.0, inr (all.1.1.0, h)))

      by_entries : (call_on s p c).number ≡ 0 → swap_postings (entries_in p.table) giver taker quantity ≡ swap_postings E giver taker quantity
      by_entries e =
          let parts = (swap_refuses s p giver taker quantity).accepted.0 e in
          rw (holds-e giver parts.1, holds-e taker parts.2)

      none_of : (k : ℕ) → ¬ (k ≡ 0) → if_accepted k (swap_postings (entries_in p.table) giver taker quantity) ≡ []
      none_of zero n = absurd (n refl)
      none_of (suc k) n = refl

-- after any list of calls since an opening
pub office_swap_follows : (s : List ℕ) (kept : Office) (o : Opening) → (open_on o s kept).number ≡ 0 → (cs : List Call)
    → let begin : Office = (open_on o s kept).after in
    (giver taker : ℕ) (quantity : ℤ) → SwapFollows s (run_on s begin cs) (fresh_entries s blank begin cs) giver taker quantity
unfolding opened.office
office_swap_follows s kept o e cs giver taker quantity =
    follows s (run_on s begin cs) (office_accepted s kept o e cs).accepted (fresh_entries s blank begin cs) entries_are giver taker quantity
  where
    begin : Office
    begin = (open_on o s kept).after

    first : Opens s kept o
    first = opening_opens s kept o e

    X : Sheet
    X = sheet_read first.edition first.placed

    T : Table
    T = opened.start s first.edition first.placed first.reads o

    h : Holdable X T
    h = opened.start_holdable s first.edition first.placed first.reads o

    w : Within X T
    w = opened.start_within s first.edition first.placed first.reads o

    lower : Ordered X
    lower = opened.ordered s first.edition first.placed first.reads

    begins : begin ≡ opened.at s first.edition first.placed first.reads T
    begins = ap (λ g. g.after) (opened.opening_gives s first.edition first.placed first.reads kept o e)

    is : sheet_of s ≡ X
    is = opened.sheet_is s first.edition first.placed first.reads

    table_is : entries_in (run_on s begin cs).table ≡ entries_of (run X T cs)
    table_is =
        ap (λ q. entries_in (run_on s q cs).table) begins
        ∙ ap (λ q. entries_in q.table) (opened.runs s first.edition first.placed first.reads cs T h w)
        ∙ ap entries_of (decode_within X (run X T cs) (run_holdable X lower cs T h) (run_within X lower cs T w))

    fresh_is : fresh_entries s blank begin cs ≡ fresh_run X blank T cs
    fresh_is =
        ap (λ q. fresh_entries s blank q cs) begins ∙ opened.fresh_is s first.edition first.placed first.reads blank cs T h w

    held_right : Holds X (run X T cs) (fresh_run X blank T cs)
    held_right = (run_sound X lower cs blank T (opened.start_sound s first.edition first.placed first.reads o)).holds

    entries_are : (i : ℕ) → IsEntry (sheet_of s) i → entries_in (run_on s begin cs).table i ≡ fresh_entries s blank begin cs i
    entries_are i entry =
        let here : IsEntry X i = subst (λ Y. IsEntry Y i) is entry in
        ap (λ E. E i) table_is ∙ held_right i here.0 here.1 ∙ ap (λ E. E i) (sym fresh_is)

-- ---- what it counts as

-- the posting of an accepted post of a number of the range
post_made : (s : List ℕ) (q : Office) (e : ℕ) (y : ℤ) → (call_on s q (post e 3 y)).number ≡ 0 → ¬ BeyondRange y → made_on s q (post e 3 y) ≡ posting e (num y) ∷ []
post_made s q e y z inside = ap (λ k. if_accepted k (posting_of e (posted_value 3 y))) z ∙ ap (posting_of e) (left.posted_number y inside)

pub swap_counts : (s : List ℕ) (o : Office) (giver taker : ℕ) (quantity : ℤ) → (call_on s o (swap giver taker quantity)).number ≡ 0
    → (cs : List Call) → CountsAsPosts s o giver taker quantity cs
unfolding run_on postings_on
swap_counts s o giver taker quantity z cs =
    record {
      posts =
          ap (λ ps. ps ++ postings_on s (call_on s o c).after cs) made ∙ ap (λ q. posting giver (num a) ∷ posting taker (num b) ∷ postings_on s q cs) posts.2
          ∙ sym (ap₂ (λ ps qs. ps ++ (qs ++ postings_on s second.after cs)) first_made second_made);
      keeps = ap (λ q. run_on s q cs) posts.2;
    }
  where
    c : Call
    c = swap giver taker quantity

    lent : AcceptedLent s o
    lent = ((swap_refuses s o giver taker quantity).accepted.0 z).0

    parts : AcceptedLent s o × IsEntry (sheet_of s) giver × IsEntry (sheet_of s) taker × (¬ NoSwap giver taker quantity) × (¬ ResultBeyond (numbers_in o.table) giver taker quantity)
    parts = (swap_refuses s o giver taker quantity).accepted.0 z

    a : ℤ
    a = numbers_in o.table giver -ℤ quantity

    b : ℤ
    b = numbers_in o.table taker +ℤ quantity

    first : Given
    first = call_on s o (post giver 3 a)

    second : Given
    second = call_on s first.after (post taker 3 b)

    posts : (first.number ≡ 0) × (second.number ≡ 0) × ((call_on s o c).after ≡ second.after)
    posts = left.swap_posts s o lent giver taker quantity z

    number_of_lem : (e : ℕ) → IsEntry (sheet_of s) e → numbers_in o.table e ≡ counted (entries_in o.table e)
    number_of_lem e entry = item_number (sheet_of s) o.table lent.lent.1.1.0 e entry.0

    made : made_on s o c ≡ posting giver (num a) ∷ posting taker (num b) ∷ []
    made =
        ap (λ k. if_accepted k (swap_postings (entries_in o.table) giver taker quantity)) z
        ∙ rw (← number_of_lem giver parts.1, ← number_of_lem taker parts.2)

    first_made : made_on s o (post giver 3 a) ≡ posting giver (num a) ∷ []
    first_made = post_made s o giver a posts.0 (λ h. parts.4 (inl h))

    second_made : made_on s first.after (post taker 3 b) ≡ posting taker (num b) ∷ []
    second_made = post_made s first.after taker b posts.1 (λ h. parts.4 (inr h))
