-- Rounds over a list that has every item, in whatever order, end: each rank takes two rounds (`rounds_quiet`). A rank is any number that rises from
-- parent to child. Assumes that the sheet is ordered.
use Prim.Native.Nat.{ℕ, zero, suc, ◌+◌, ◌*◌, ◌<◌, ◌≤◌}
use native.Mathlib.Omega.{arith}
use native.Mathlib.Decide.{dec_lt}
use mathlib.Core.Path.{◌≡◌, refl, sym, ap, ◌∙◌, subst, subst₂}
use mathlib.Core.Bool.{Bool, true, false, ◌||◌}
use mathlib.Core.List.{List, [], ◌∷◌, map}
use mathlib.Core.Logic.{◌⊎◌, inl, inr}
use lib.Dec.{eqb}
use borrow.Author.Tests.{eqb-true, eqb-false, lt-leb}
use Rattle.circuit.specs.Value.{Value}
use Rattle.circuit.specs.Circuit.{Listed}
use Rattle.circuit.specs.Sheet.{Sheet, size, parents, Ordered}
use Rattle.circuit.specs.Table.{Table, Cell, unmarked, refresh, notice, unk, held, is_marked, notice_if}
use Rattle.circuit.specs.Machine.{work_out, step_item}
use Rattle.circuit.specs.Call.{step}
use Rattle.circuit.specs.Calls.{tests, first_cause, effect, perform, run}
use Rattle.circuit.specs.Words.{Quiet}
use Rattle.circuit.proofs.View.{never, view, result, view_at, strong, any_none}
use Rattle.circuit.proofs.Fill.{Filling, stays, fills, upd_cases, work_right}
use Rattle.circuit.proofs.Closure.{Closed, step_closed}
use Rattle.circuit.proofs.Accepted.{accepted_effect, refused_table, step_passed}
use Rattle.circuit.proofs.CatchUp.{mark_notice, mark_flag, step_own, step_clears}

-- how many steps a mark takes at most
abbrev stage : Cell → ℕ
stage (unk false) = 0
stage (unk true) = 1
stage (held v unmarked) = 0
stage (held v refresh) = 2
stage (held v notice) = 1

stage_most : (c : Cell) → stage c ≤ 2
stage_most (unk false) = omega arith
stage_most (unk true) = omega arith
stage_most (held v unmarked) = omega arith
stage_most (held v refresh) = omega arith
stage_most (held v notice) = omega arith

stage_unmarked : (c : Cell) → stage c ≡ 0 → is_marked c ≡ false
stage_unmarked (unk false) e = refl
stage_unmarked (unk true) e = absurd (omega arith)
stage_unmarked (held v unmarked) e = refl
stage_unmarked (held v refresh) e = absurd (omega arith)
stage_unmarked (held v notice) e = absurd (omega arith)

unmarked_stage : (c : Cell) → is_marked c ≡ false → stage c ≡ 0
unmarked_stage (unk false) e = refl
unmarked_stage (unk true) e = never (cc)
unmarked_stage (held v unmarked) e = refl
unmarked_stage (held v refresh) e = never (cc)
unmarked_stage (held v notice) e = never (cc)

filled_stage : (f : Bool) (v : Value) → stage (held v (notice_if f)) ≡ stage (unk f)
filled_stage true v = refl
filled_stage false v = refl

abbrev one_less : ℕ → ℕ
one_less zero = zero
one_less (suc n) = n

less_one : (a b : ℕ) → a + 1 ≤ b → a ≤ one_less b
less_one a zero h = absurd (omega arith)
less_one a (suc b) h = omega arith

less_less : (a b : ℕ) → a ≤ b → one_less a ≤ one_less b
less_less zero b h = omega arith
less_less (suc a) zero h = absurd (omega arith)
less_less (suc a) (suc b) h = omega arith

less_twice : (a : ℕ) → a ≤ 2 → one_less (one_less a) ≡ 0
less_twice zero h = refl
less_twice (suc zero) h = refl
less_twice (suc (suc a)) h = omega arith

-- so many rounds over the items of a list: a step of each, in its order
unfoldable pub rounds : Sheet → List ℕ → ℕ → Table → Table
rounds S is zero T = T
rounds S is (suc r) T = rounds S is r (run S T (map step is))

module _ (S : Sheet) (ordered : Ordered S) (rank : ℕ → ℕ) (rises : (c p : ℕ) → Listed p (parents S c) → rank p < rank c) where
  -- no item of a rank below k is marked
  abbrev Calm : ℕ → Table → Type 0
  Calm k T = (j : ℕ) → j < size S → rank j < k → is_marked (T j) ≡ false

  -- so none of them is flagged,
  calm_flag : (k : ℕ) (T : Table) → Calm k T → (j : ℕ) → j < size S → rank j < k → (view S T j).flag ≡ false
  calm_flag k T calm = strong (λ j. j < size S → rank j < k → (view S T j).flag ≡ false) rise
    where
      rise : (j : ℕ) → ((p : ℕ) → p < j → p < size S → rank p < k → (view S T p).flag ≡ false) → j < size S → rank j < k → (view S T j).flag ≡ false
      rise j lower low below = go (T j) refl
        where
          go : (c : Cell) → T j ≡ c → (view S T j).flag ≡ false
          go (held v m) e = ap (λ s. s.flag) (view_at S ordered T j e) ∙ mark_notice m (rw e at (calm j low below))
          go (unk f) e =
              let own : f ≡ false = mark_flag f (rw e at (calm j low below)) in
              let none : (result S T j).flag ≡ false
              = any_none (view S T) (parents S j) (λ p l. lower p (ordered j p l) (omega (arith, ordered j p l)) (omega (arith, rises j p l))) in
              ap (λ s. s.flag) (view_at S ordered T j e) ∙ (rw (none, own))

  -- and an UNK item of rank k only by its own notice
  own_flag : (k : ℕ) (T : Table) → Calm k T → (j : ℕ) → j < size S → rank j ≡ k → (f : Bool) → T j ≡ unk f → (view S T j).flag ≡ f
  own_flag k T calm j low here f e =
      let none : (result S T j).flag ≡ false
      = any_none (view S T) (parents S j) (λ p l. calm_flag k T calm p (omega (arith, ordered j p l)) (omega (arith, rises j p l))) in
      ap (λ s. s.flag) (view_at S ordered T j e) ∙ ap (λ b. b || f) none

  -- What a step of i leaves, against T before it: it stays calm, and at rank k no other item has a higher stage.
  record Kept (k i : ℕ) (T U : Table) : Type 0 where
    calm : Calm k U
    others : (j : ℕ) → j < size S → rank j ≡ k → (j ≡ i → ⊥) → stage (U j) ≤ stage (T j)

  works_kept : (k i : ℕ) (T U : Table) (c : ℕ) → Kept k i T U → Kept k i T (work_out S U c).table
  works_kept k i T U c kept =
      record {
        calm = λ j low below. clear j low below ((work_right S ordered U c).fill j);
        others = λ j low here n. stays_low j low here n ((work_right S ordered U c).fill j);
      }
    where
      W : Table
      W = (work_out S U c).table

      clear : (j : ℕ) → j < size S → rank j < k → Filling S U j (W j) → is_marked (W j) ≡ false
      clear j low below (stays e) = rw e (kept.calm j low below)
      clear j low below (fills f fig e h) = rw (h, calm_flag k U kept.calm j low below)

      stays_low : (j : ℕ) → j < size S → rank j ≡ k → (j ≡ i → ⊥) → Filling S U j (W j) → stage (W j) ≤ stage (T j)
      stays_low j low here n (stays e) = rw e (kept.others j low here n)
      stays_low j low here n (fills f fig e h) =
          let same : stage (W j) ≡ stage (U j)
          = ap stage (h ∙ ap (λ b. held (view S U j).value (notice_if b)) (own_flag k U kept.calm j low here f e))
          ∙ filled_stage f (view S U j).value ∙ ap stage (sym e) in
          rw same (kept.others j low here n)

  kept_closed : (k i : ℕ) (T : Table) → k ≤ rank i → Closed S (λ c. (c ≡ i) ⊎ (k < rank c)) (Kept k i T)
  kept_closed k i T above =
      record {
        works = λ U c low kept. works_kept k i T U c kept;
        stores = λ U c x here kept.
            record {
              calm = upd_cases (λ j y. j < size S → rank j < k → is_marked y ≡ false) U c x (λ low below. absurd (away c here below)) (λ j n low below. kept.calm j low below);
              others = upd_cases (λ j y. j < size S → rank j ≡ k → (j ≡ i → ⊥) → stage y ≤ stage (T j)) U c x
                  (λ low same n. absurd (apart c here same n)) (λ j m low same n. kept.others j low same n);
            };
      }
    where
      away : (c : ℕ) → (c ≡ i) ⊎ (k < rank c) → rank c < k → ⊥
      away c (inl e) below = let same : rank c ≡ rank i = ap rank e in omega arith
      away c (inr l) below = omega arith

      apart : (c : ℕ) → (c ≡ i) ⊎ (k < rank c) → rank c ≡ k → (c ≡ i → ⊥) → ⊥
      apart c (inl e) same n = n e
      apart c (inr l) same n = omega arith

  -- the step of a marked item leaves it at a lower stage
  own_lower : (T : Table) (i : ℕ) → is_marked (T i) ≡ true → stage (step_item S T i i) + 1 ≤ stage (T i)
  own_lower T i marked = go (T i) refl
    where
      cleared : is_marked (step_item S T i i) ≡ false → stage (step_item S T i i) ≡ 0
      cleared e = unmarked_stage (step_item S T i i) e

      renewed : (is_marked (step_item S T i i) ≡ false) ⊎ ((v : Value) × (step_item S T i i ≡ held v notice)) → stage (step_item S T i i) ≤ 1
      renewed (inl e) = omega (arith, cleared e)
      renewed (inr (v, e)) = rw e (omega arith)

      go : (c : Cell) → T i ≡ c → stage (step_item S T i i) + 1 ≤ stage c
      go (unk false) e = never (cc (rw e at marked))
      go (unk true) e = omega (arith, cleared (step_clears S ordered T i (rw e)))
      go (held v unmarked) e = never (cc (rw e at marked))
      go (held v refresh) e = omega (arith, renewed (step_own S ordered T i marked))
      go (held v notice) e = omega (arith, cleared (step_clears S ordered T i (rw e)))

  step_kept : (k i : ℕ) (T : Table) → i < size S → k ≤ rank i → Calm k T → Kept k i T (step_item S T i)
  step_kept k i T low above calm =
      step_closed S (λ c. (c ≡ i) ⊎ (k < rank c)) (Kept k i T) (kept_closed k i T above) i low (inl refl)
      (λ c l. inr (omega (arith, rises c i l))) T (record { calm = calm; others = λ j low' here n. omega arith })

  -- What a step call of i leaves, accepted or not.
  record Turn (k i : ℕ) (T U : Table) : Type 0 where
    calm : Calm k U
    no_higher : (j : ℕ) → j < size S → rank j ≡ k → stage (U j) ≤ stage (T j)
    lower : i < size S → rank i ≡ k → stage (U i) ≤ one_less (stage (T i))

  turn_marked : (k i : ℕ) (T : Table) → Calm k T → i < size S → is_marked (T i) ≡ true → Dec (rank i < k) → Turn k i T (step_item S T i)
  turn_marked k i T calm low marked (yes below) = never (cc (sym (calm i low below) ∙ marked))
  turn_marked k i T calm low marked (no above) =
      let kept = step_kept k i T low (omega arith) calm in
      let own = own_lower T i marked in
      record {
        calm = kept.calm;
        no_higher = λ j low' here. by_item_lem j low' here kept (eqb j i) refl;
        lower = λ low' here. less_one (stage (step_item S T i i)) (stage (T i)) own;
      }
    where
      by_item_lem : (j : ℕ) → j < size S → rank j ≡ k → Kept k i T (step_item S T i) → (b : Bool) → eqb j i ≡ b → stage (step_item S T i j) ≤ stage (T j)
      by_item_lem j low' here kept true e = rw (eqb-true j i e) (omega (arith, own_lower T i marked))
      by_item_lem j low' here kept false e = kept.others j low' here (eqb-false j i e)

  turn : (k i : ℕ) (T : Table) → Calm k T → Turn k i T (perform S T (step i)).table
  unfolding tests first_cause effect
  turn k i T calm = go (first_cause (tests S T (step i))) refl
    where
      -- a refused step is of an item without a mark, or beyond the sheet
      left_alone : (n : ℕ) → first_cause (tests S T (step i)) ≡ suc n → i < size S → (b : Bool) → is_marked (T i) ≡ b → stage (T i) ≡ 0
      left_alone n e low true m =
          let free : first_cause (tests S T (step i)) ≡ 0 = rw (lt-leb (size S) i low, m) in
          absurd (omega (arith, e, free))
      left_alone n e low false m = unmarked_stage (T i) m

      go : (n : ℕ) → first_cause (tests S T (step i)) ≡ n → Turn k i T (perform S T (step i)).table
      go zero e =
          let place = step_passed S T i e in
          rw (accepted_effect S T (step i) e) (turn_marked k i T calm place.0 place.1 (dec_lt (rank i) k))
      go (suc n) e =
          rw (refused_table S T (step i) n e)
          (record {
            calm = calm;
            no_higher = λ j low here. omega arith;
            lower = λ low here. rw (left_alone n e low (is_marked (T i)) refl) (omega arith);
          })

  -- What the steps of a list of items leave: those of rank k that it names have a lower stage.
  record Round (k : ℕ) (is : List ℕ) (T U : Table) : Type 0 where
    calm : Calm k U
    no_higher : (j : ℕ) → j < size S → rank j ≡ k → stage (U j) ≤ stage (T j)
    lower : (j : ℕ) → j < size S → rank j ≡ k → Listed j is → stage (U j) ≤ one_less (stage (T j))

  round : (k : ℕ) (is : List ℕ) (T : Table) → Calm k T → Round k is T (run S T (map step is))
  unfolding run
  round k [] T calm = record { calm = calm; no_higher = λ j low here. omega arith; lower = λ j low here l. absurd l }
  round k (i ∷ is) T calm = go (turn k i T calm) (λ c. round k is (perform S T (step i)).table c)
    where
      U : Table
      U = (perform S T (step i)).table

      W : Table
      W = run S U (map step is)

      go : Turn k i T U → (Calm k U → Round k is U W) → Round k (i ∷ is) T W
      go first rest =
          let later = rest first.calm in
          record {
            calm = later.calm;
            no_higher = λ j low here. omega (arith, later.no_higher j low here, first.no_higher j low here);
            lower = λ j low here l. named j low here l first later;
          }
        where
          named : (j : ℕ) → j < size S → rank j ≡ k → Listed j (i ∷ is) → Turn k i T U → Round k is U W → stage (W j) ≤ one_less (stage (T j))
          named j low here (inl e) t r =
              let own : stage (U j) ≤ one_less (stage (T j))
              = subst (λ x. stage (U x) ≤ one_less (stage (T x))) (sym e) (t.lower (subst (λ x. x < size S) e low) (subst (λ x. rank x ≡ k) e here)) in
              omega (arith, r.no_higher j low here, own)
          named j low here (inr l) t r =
              omega (arith, r.lower j low here l, less_less (stage (U j)) (stage (T j)) (t.no_higher j low here))

  -- two rounds over all the items make rank k calm too
  two_rounds : (k : ℕ) (is : List ℕ) → ((i : ℕ) → i < size S → Listed i is) → (T : Table) → Calm k T
      → Calm (suc k) (run S (run S T (map step is)) (map step is))
  two_rounds k is all T calm j low below = go (dec_lt (rank j) k)
    where
      U : Table
      U = run S T (map step is)

      one : Round k is T U
      one = round k is T calm

      two : Round k is U (run S U (map step is))
      two = round k is U one.calm

      go : Dec (rank j < k) → is_marked (run S U (map step is) j) ≡ false
      go (yes l) = two.calm j low l
      go (no n) =
          let here : rank j ≡ k = omega arith in
          let first = one.lower j low here (all j low) in
          let second = two.lower j low here (all j low) in
          stage_unmarked (run S U (map step is) j)
          (omega (arith, second, less_less (stage (U j)) (one_less (stage (T j))) first, less_twice (stage (T j)) (stage_most (T j))))

  rounds_calm : (is : List ℕ) → ((i : ℕ) → i < size S → Listed i is) → (d k : ℕ) (T : Table) → Calm k T → Calm (k + d) (rounds S is (2 * d) T)
  unfolding rounds
  rounds_calm is all zero k T calm = subst (λ n. Calm n T) (omega arith) calm
  rounds_calm is all (suc d) k T calm =
      let next = rounds_calm is all d (suc k) (run S (run S T (map step is)) (map step is)) (two_rounds k is all T calm) in
      let ranks : suc k + d ≡ k + suc d = omega arith in
      let many : suc (suc (2 * d)) ≡ 2 * suc d = omega arith in
      subst₂ (λ n r. Calm n (rounds S is r T)) ranks many next

  -- Rounds end: with ranks below K, 2K rounds leave no mark, on any table.
  pub rounds_quiet : (is : List ℕ) → ((i : ℕ) → i < size S → Listed i is) → (K : ℕ) → ((i : ℕ) → i < size S → rank i < K)
      → (T : Table) → Quiet S (rounds S is (2 * K) T)
  rounds_quiet is all K below T i low = rounds_calm is all K 0 T (λ j l h. absurd (omega arith)) i low (omega (arith, below i low))
