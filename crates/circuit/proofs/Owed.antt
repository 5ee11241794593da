-- What owed is: its equation without the bound (`owed_child`, `owed_finds`), that it alone solves it (`owed_unique`), and that an item is
-- owed exactly if it leads to some stored item (`owed_leads`, `leads_owed`). Owed follows from what is stored, and one law compares two tables
-- (`within_leans`): if what is stored in U leans in T, then what leans in U leans in T. A look-up for an item
-- that leans stores only items that lean already (`look_within`), so that it changes no owed (`within_owed`). Assumes that the sheet is
-- ordered, where it says so.
use Prim.Native.Nat.{ℕ, zero, suc, ◌<◌, ◌≤◌, ◌+◌}
use native.Mathlib.Omega.{arith}
use mathlib.Core.Path.{◌≡◌, refl, sym, ◌∙◌}
use mathlib.Core.Logic.{◌⊎◌, inl, inr}
use mathlib.Core.Bool.{Bool, true, false, ◌||◌, ◌&&◌, or-true, or-false}
use mathlib.Core.List.{List, [], ◌∷◌}
use lib.Dec.{eqb}
use borrow.Author.Tests.{eqb-true, eqb-false}
use Rattle.circuit.specs.Circuit.{Listed, LeadsTo, direct, further}
use Rattle.circuit.specs.Sheet.{Sheet, size, item_at, kept_of, parents, is_child, circuit_of, Ordered}
use Rattle.circuit.specs.Table.{Table, Cell, unk, held, upd, is_stored}
use Rattle.circuit.specs.Owed.{any_below, leaning, owed_for, owed, leans}
use Rattle.circuit.specs.Machine.{Looked, gather, work_out_by, store_if, flagged, look_cell, look_up, work_out}
use Rattle.circuit.proofs.View.{never, strong}
use Rattle.circuit.proofs.Fill.{upd_cases, look_up_is}
use Rattle.circuit.proofs.Closure.{member_listed, listed_member, parent_within}

-- induction on item numbers, with all higher numbers below n at hand
pub descend : (n : ℕ) (P : ℕ → Type 0) → ((i : ℕ) → ((c : ℕ) → i < c → c < n → P c) → P i) → (i : ℕ) → P i
descend n P rise i = go n i (omega arith)
  where
    go : (fuel j : ℕ) → n ≤ j + fuel → P j
    go zero j h = rise j (λ c l m. absurd (omega arith))
    go (suc fuel) j h = rise j (λ c l m. go fuel c (omega arith))

-- some number below n passes
pub any_holds : (p : ℕ → Bool) (n k : ℕ) → k < n → p k ≡ true → any_below p n ≡ true
unfolding any_below
any_holds p zero k l e = absurd (omega arith)
any_holds p (suc n) k l e = go (eqb k n) refl (λ m. any_holds p n k m e)
  where
    go : (b : Bool) → eqb k n ≡ b → (k < n → any_below p n ≡ true) → (any_below p n || p n) ≡ true
    go true q rest = rw (← eqb-true k n q, e) (or-true (any_below p k))
    go false q rest =
        let other : k ≡ n → ⊥ = eqb-false k n q in
        rw (rest (omega arith))

-- a number that passes
pub record Passing (p : ℕ → Bool) (n : ℕ) : Type 0 where
  pub number : ℕ
  pub below : number < n
  pub passes : p number ≡ true

pub any_passing : (p : ℕ → Bool) (n : ℕ) → any_below p n ≡ true → Passing p n
unfolding any_below
any_passing p zero e = never (cc e)
any_passing p (suc n) e = go (p n) refl (λ h. any_passing p n h)
  where
    go : (b : Bool) → p n ≡ b → (any_below p n ≡ true → Passing p n) → Passing p (suc n)
    go true h rest = record { number = n; below = omega arith; passes = h }
    go false h rest =
        let r : Passing p n = rest (sym (or-false (any_below p n)) ∙ (rw h at e)) in
        record { number = r.number; below = omega (arith, r.below); passes = r.passes }

pub both_true : (a b : Bool) → (a && b) ≡ true → (a ≡ true) × (b ≡ true)
both_true true true e = (refl, refl)
both_true true false e = never (cc e)
both_true false b e = never (cc e)

-- it depends on the numbers below n only
pub any_same : (p q : ℕ → Bool) (n : ℕ) → ((k : ℕ) → k < n → p k ≡ q k) → any_below p n ≡ any_below q n
unfolding any_below
any_same p q zero e = refl
any_same p q (suc n) e = rw (any_same p q n (λ k l. e k (omega arith)), e n (omega arith))

-- and owed on the sheet's items
owed_for_ext : (S : Sheet) (T U : Table) → ((i : ℕ) → i < size S → T i ≡ U i) → (fuel i : ℕ) → owed_for fuel S T i ≡ owed_for fuel S U i
unfolding owed_for
owed_for_ext S T U e zero i = refl
owed_for_ext S T U e (suc fuel) i =
    any_same _ _ (size S) (λ c l. rw (e c l, owed_for_ext S T U e fuel c))

pub owed_ext : (S : Sheet) (T U : Table) → ((i : ℕ) → i < size S → T i ≡ U i) → (i : ℕ) → owed S T i ≡ owed S U i
unfolding owed
owed_ext S T U e i = owed_for_ext S T U e (size S) i

-- two that are true together are equal
pub true_both : (a b : Bool) → (a ≡ true → b ≡ true) → (b ≡ true → a ≡ true) → a ≡ b
true_both true b f g = sym (f refl)
true_both false true f g = g refl
true_both false false f g = refl

pub false_before : (a b : Bool) → (b ≡ true → a ≡ true) → a ≡ false → b ≡ false
false_before a true h e = never (cc (h refl))
false_before a false h e = refl

-- leaning is monotone in owed
leaning_more : (c : Cell) (a b : Bool) → (a ≡ true → b ≡ true) → leaning c a ≡ true → leaning c b ≡ true
leaning_more (held v m) a b h e = refl
leaning_more (unk f) a b h e = h e

pub stored_leans : (c : Cell) (b : Bool) → is_stored c ≡ true → leaning c b ≡ true
stored_leans (held v m) b e = refl
stored_leans (unk f) b e = never (cc e)

-- what leans is stored, or is UNK and owed
pub leaning_cases : (c : Cell) (b : Bool) → leaning c b ≡ true → (is_stored c ≡ true) ⊎ ((is_stored c ≡ false) × (b ≡ true))
leaning_cases (held v m) b e = inl refl
leaning_cases (unk f) b e = inr (refl, e)

pub cases_leaning : (c : Cell) (b : Bool) → (is_stored c ≡ true) ⊎ ((is_stored c ≡ false) × (b ≡ true)) → leaning c b ≡ true
cases_leaning (held v m) b e = refl
cases_leaning (unk f) b (inl e) = never (cc e)
cases_leaning (unk f) b (inr (n, e)) = e

pub owed_leaning : (c : Cell) (b : Bool) → b ≡ true → leaning c b ≡ true
owed_leaning (held v m) b e = refl
owed_leaning (unk f) b e = e

-- a child of i that leans
pub record Child (S : Sheet) (T : Table) (i : ℕ) : Type 0 where
  pub item : ℕ
  pub listed : Listed i (parents S item)
  pub leans_on : leans S T item ≡ true

-- what is stored in U leans in T
abbrev pub Within : Sheet → Table → Table → Type 0
Within S T U = (j : ℕ) → is_stored (U j) ≡ true → leans S T j ≡ true

pub within_refl : (S : Sheet) (T : Table) → Within S T T
within_refl S T j e = stored_leans (T j) (owed S T j) e

pub within_upd : (S : Sheet) (T U : Table) (i : ℕ) (c : Cell) → (is_stored c ≡ true → leans S T i ≡ true) → Within S T U
    → Within S T (upd U i c)
within_upd S T U i c leant within = upd_cases (λ j x. is_stored x ≡ true → leans S T j ≡ true) U i c leant (λ j n e. within j e)

module _ (S : Sheet) (ordered : Ordered S) where
  -- a child that leans, by the bound
  record ChildFor (f : ℕ) (T : Table) (i : ℕ) : Type 0 where
    item : ℕ
    listed : Listed i (parents S item)
    leans_on : leaning (T item) (owed_for f S T item) ≡ true

  finds_for : (f : ℕ) (T : Table) (i : ℕ) → owed_for (suc f) S T i ≡ true → ChildFor f T i
  unfolding owed_for
  finds_for f T i e =
      let p : ℕ → Bool = λ c. is_child S i c && leaning (T c) (owed_for f S T c) in
      let r : Passing p (size S) = any_passing p (size S) e in
      let both = both_true (is_child S i r.number) _ r.passes in
      record { item = r.number; listed = member_listed i (parents S r.number) both.0; leans_on = both.1 }

  child_for : (f : ℕ) (T : Table) (i c : ℕ) → Listed i (parents S c) → leaning (T c) (owed_for f S T c) ≡ true
      → owed_for (suc f) S T i ≡ true
  unfolding owed_for
  child_for f T i c listed e =
      any_holds (λ d. is_child S i d && leaning (T d) (owed_for f S T d)) (size S) c (parent_within S i c listed)
      (rw (listed_member i (parents S c) listed) e)

  -- the bound plays no part
  more : (T : Table) (f g i : ℕ) → size S ≤ i + g → owed_for f S T i ≡ true → owed_for g S T i ≡ true
  unfolding owed_for
  more T zero g i h e = never (cc e)
  more T (suc f) zero i h e =
      let c : ChildFor f T i = finds_for f T i e in
      absurd (omega (arith, parent_within S i c.item c.listed, ordered c.item i c.listed))
  more T (suc f) (suc g) i h e =
      let c : ChildFor f T i = finds_for f T i e in
      child_for g T i c.item c.listed
      (leaning_more (T c.item) (owed_for f S T c.item) (owed_for g S T c.item)
      (λ q. more T f g c.item (omega (arith, ordered c.item i c.listed)) q) c.leans_on)

  -- a child that leans makes its parent owed
  pub owed_child : (T : Table) (i c : ℕ) → Listed i (parents S c) → leans S T c ≡ true → owed S T i ≡ true
  unfolding owed
  owed_child T i c listed e = more T (suc (size S)) (size S) i (omega arith) (child_for (size S) T i c listed e)

  pub parent_leans : (T : Table) (i c : ℕ) → Listed i (parents S c) → leans S T c ≡ true → leans S T i ≡ true
  parent_leans T i c listed e = owed_leaning (T i) (owed S T i) (owed_child T i c listed e)

  -- and an owed item has one
  pub owed_finds : (T : Table) (i : ℕ) → owed S T i ≡ true → Child S T i
  unfolding owed
  owed_finds T i e =
      let c : ChildFor (size S) T i = finds_for (size S) T i (more T (size S) (suc (size S)) i (omega arith) e) in
      record { item = c.item; listed = c.listed; leans_on = c.leans_on }

  -- so it is a search over the items
  pub owed_any : (T : Table) (i : ℕ) → owed S T i ≡ any_below (λ c. is_child S i c && leans S T c) (size S)
  owed_any T i = true_both (owed S T i) (any_below p (size S)) there back
    where
      p : ℕ → Bool
      p c = is_child S i c && leans S T c

      there : owed S T i ≡ true → any_below p (size S) ≡ true
      there e =
          let c : Child S T i = owed_finds T i e in
          any_holds p (size S) c.item (parent_within S i c.item c.listed) (rw (listed_member i (parents S c.item) c.listed) c.leans_on)

      back : any_below p (size S) ≡ true → owed S T i ≡ true
      back e =
          let r : Passing p (size S) = any_passing p (size S) e in
          let both = both_true (is_child S i r.number) _ r.passes in
          owed_child T i r.number (member_listed i (parents S r.number) both.0) both.1

  -- If what is stored in U leans in T, then what leans in U leans in T,
  pub within_leans : (T U : Table) → Within S T U → (j : ℕ) → leans S U j ≡ true → leans S T j ≡ true
  within_leans T U within = descend (size S) (λ j. leans S U j ≡ true → leans S T j ≡ true) rise
    where
      rise : (j : ℕ) → ((c : ℕ) → j < c → c < size S → leans S U c ≡ true → leans S T c ≡ true) → leans S U j ≡ true → leans S T j ≡ true
      rise j higher e = go (leaning_cases (U j) (owed S U j) e)
        where
          go : (is_stored (U j) ≡ true) ⊎ ((is_stored (U j) ≡ false) × (owed S U j ≡ true)) → leans S T j ≡ true
          go (inl stored) = within j stored
          go (inr (n, o)) =
              let c : Child S U j = owed_finds U j o in
              let leant : leans S T c.item ≡ true
              = higher c.item (ordered c.item j c.listed) (parent_within S j c.item c.listed) c.leans_on in
              owed_leaning (T j) (owed S T j) (owed_child T j c.item c.listed leant)

  -- and what is owed in U is owed in T
  pub within_owed : (T U : Table) → Within S T U → (i : ℕ) → owed S U i ≡ true → owed S T i ≡ true
  within_owed T U within i e =
      let c : Child S U i = owed_finds U i e in
      owed_child T i c.item c.listed (within_leans T U within c.item c.leans_on)

  -- owed is the same if what is stored in either leans in the other
  pub owed_same : (T U : Table) → Within S T U → Within S U T → (i : ℕ) → owed S T i ≡ owed S U i
  owed_same T U left right i = true_both (owed S T i) (owed S U i) (within_owed U T right i) (within_owed T U left i)

  -- it follows from what is stored
  pub owed_stored : (T U : Table) → ((j : ℕ) → is_stored (T j) ≡ is_stored (U j)) → (i : ℕ) → owed S T i ≡ owed S U i
  owed_stored T U same i =
      owed_same T U (λ j e. stored_leans (T j) (owed S T j) (same j ∙ e)) (λ j e. stored_leans (U j) (owed S U j) (sym (same j) ∙ e)) i

  -- owed alone solves its equation
  pub owed_unique : (T : Table) (w : ℕ → Bool) → ((i c : ℕ) → Listed i (parents S c) → leaning (T c) (w c) ≡ true → w i ≡ true)
      → ((i : ℕ) → w i ≡ true → (c : ℕ) × (Listed i (parents S c) × (leaning (T c) (w c) ≡ true)))
      → (i : ℕ) → w i ≡ owed S T i
  owed_unique T w child finds = descend (size S) (λ i. w i ≡ owed S T i) rise
    where
      rise : (i : ℕ) → ((c : ℕ) → i < c → c < size S → w c ≡ owed S T c) → w i ≡ owed S T i
      rise i higher = true_both (w i) (owed S T i) there back
        where
          equal : (c : ℕ) → Listed i (parents S c) → w c ≡ owed S T c
          equal c l = higher c (ordered c i l) (parent_within S i c l)

          there : w i ≡ true → owed S T i ≡ true
          there e =
              let c = finds i e in
              owed_child T i c.0 c.1.0 (rw (← equal c.0 c.1.0) c.1.1)

          back : owed S T i ≡ true → w i ≡ true
          back e =
              let c : Child S T i = owed_finds T i e in
              child i c.item c.listed (rw (equal c.item c.listed) c.leans_on)

  lead_on : {a b c : ℕ} → Listed a (parents S b) → LeadsTo (circuit_of S) b c → LeadsTo (circuit_of S) a c
  lead_on l (direct m) = further (direct l) m
  lead_on l (further p m) = further (lead_on l p) m

  -- an owed item leads to a stored one
  pub owed_leads : (T : Table) (i : ℕ) → owed S T i ≡ true → (k : ℕ) × (LeadsTo (circuit_of S) i k × (is_stored (T k) ≡ true))
  owed_leads T = descend (size S) (λ i. owed S T i ≡ true → (k : ℕ) × (LeadsTo (circuit_of S) i k × (is_stored (T k) ≡ true))) rise
    where
      rise : (i : ℕ) → ((c : ℕ) → i < c → c < size S → owed S T c ≡ true → (k : ℕ) × (LeadsTo (circuit_of S) c k × (is_stored (T k) ≡ true)))
          → owed S T i ≡ true → (k : ℕ) × (LeadsTo (circuit_of S) i k × (is_stored (T k) ≡ true))
      rise i higher e = go (leaning_cases (T c.item) (owed S T c.item) c.leans_on)
        where
          c : Child S T i
          c = owed_finds T i e

          go : (is_stored (T c.item) ≡ true) ⊎ ((is_stored (T c.item) ≡ false) × (owed S T c.item ≡ true))
              → (k : ℕ) × (LeadsTo (circuit_of S) i k × (is_stored (T k) ≡ true))
          go (inl stored) = (c.item, (direct c.listed, stored))
          go (inr (n, o)) =
              let k = higher c.item (ordered c.item i c.listed) (parent_within S i c.item c.listed) o in
              (k.0, (lead_on c.listed k.1.0, k.1.1))

  -- what leads to an item that leans is owed
  pub leads_owed : (T : Table) (i k : ℕ) → LeadsTo (circuit_of S) i k → leans S T k ≡ true → owed S T i ≡ true
  leads_owed T i k (direct l) e = owed_child T i k l e
  leads_owed T i k (further {b} p l) e = leads_owed T i b p (owed_leaning (T b) (owed S T b) (owed_child T b k l e))

  pub within_trans : (T U X : Table) → Within S T U → Within S U X → Within S T X
  within_trans T U X first second j e = within_leans T U first j (second j e)

  -- look-ups that keep it for the items of a list
  gather_within : (T : Table) (look : Table → ℕ → Looked) (ps : List ℕ)
      → ((U : Table) (p : ℕ) → Listed p ps → Within S T U → Within S T (look U p).table)
      → (U : Table) → Within S T U → Within S T (gather look U ps).table
  unfolding gather
  gather_within T look [] keep U h = h
  gather_within T look (p ∷ ps) keep U h =
      gather_within T look ps (λ X q l. keep X q (inr l)) (look U p).table (keep U p (inl refl) h)

  -- A look-up of an item that leans in T stores only items that lean in T.
  pub look_within : (T : Table) (i : ℕ) → leans S T i ≡ true → (U : Table) → Within S T U → Within S T (look_up S U i).table
  unfolding work_out_by
  look_within T = strong (λ i. leans S T i ≡ true → (U : Table) → Within S T U → Within S T (look_up S U i).table) rise
    where
      rise : (i : ℕ) → ((p : ℕ) → p < i → leans S T p ≡ true → (U : Table) → Within S T U → Within S T (look_up S U p).table)
          → leans S T i ≡ true → (U : Table) → Within S T U → Within S T (look_up S U i).table
      rise i lower leant U h = rw (look_up_is S ordered U i) (go (U i))
        where
          gathered : Within S T (gather (look_up S) U (parents S i)).table
          gathered =
              gather_within T (look_up S) (parents S i)
              (λ X p l. lower p (ordered i p l) (parent_leans T p i l leant) X) U h

          stored : (k f : Bool) → Within S T (store_if k i (flagged f (work_out_by (look_up S) S U i))).table
          stored true f = within_upd S T (gather (look_up S) U (parents S i)).table i _ (λ e. leant) gathered
          stored false f = gathered

          go : (c : Cell) → Within S T (look_cell (look_up S) S U i c).table
          go (held v m) = h
          go (unk f) = stored (kept_of (item_at S i)) f

  -- and so does working one out
  pub work_within : (T : Table) (i : ℕ) → leans S T i ≡ true → (U : Table) → Within S T U → Within S T (work_out S U i).table
  unfolding work_out work_out_by
  work_within T i leant U h =
      gather_within T (look_up S) (parents S i)
      (λ X p l. look_within T p (parent_leans T p i l leant) X) U h
