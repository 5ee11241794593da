-- Every finite acyclic circuit has a solution, and only one. The circuit of an ordered sheet is one, and the fresh office
-- gives its solution. Assumes that the sheet is ordered, where it says so.
use Prim.Native.Nat.{ℕ, zero, suc, ◌<◌, ◌≤◌}
use mathlib.Core.Path.{◌≡◌, refl, sym, ap, ap₂, ◌∙◌}
use mathlib.Core.Bool.{Bool, true, false, cond, not}
use mathlib.Core.Logic.{inl, inr}
use mathlib.Core.List.{List, [], ◌∷◌, map}
use native.Mathlib.Omega.{arith}
use native.Mathlib.Decide.{ℕ_discrete}
use lib.Dec.{ltb}
use lib.ListN.{length, get_or-eq_default}
use borrow.Author.Tests.{ltb-true, ltb-false}
use Rattle.circuit.specs.Value.{Value, null}
use Rattle.circuit.specs.Circuit.{Circuit, Listed, LeadsTo, direct, further, FiniteAcyclic, IsSolution}
use Rattle.circuit.specs.Sheet.{Sheet, Item, entry, figure, size, item_at, is_figure, parents, parents_of, Ordered, Entries, evaluate, numbers_below, circuit_of}
use Rattle.circuit.specs.Fresh.{give, give_for, give_item}
use Rattle.circuit.proofs.Acyclic.{rank, rank_bound, rank_rises}

-- two functions that agree on what is listed map the list to the same
pub map_listed : {I A : Type 0} {f g : I → A} (ps : List I) → ((p : I) → Listed p ps → f p ≡ g p) → map f ps ≡ map g ps
map_listed [] same = refl
map_listed (p ∷ ps) same = ap₂ ◌∷◌ (same p (inl refl)) (map_listed ps (λ q h. same q (inr h)))

-- Finite acyclic circuits

-- an input's value, or the item's function of its parents' values
abbrev settled : {I A : Type 0} → Circuit I A → (inputs values : I → A) → I → A
settled C inputs values i = cond (C.is_input i) (inputs i) (C.rule i (map values (C.parents i)))

-- worked out as far up the circuit as the bound says
solve_for : {I A : Type 0} → ℕ → Circuit I A → (I → A) → I → A
solve_for zero C inputs i = inputs i
solve_for (suc bound) C inputs i = settled C inputs (solve_for bound C inputs) i

-- The solution: no way up the circuit is longer than its list of items.
pub solution : {I A : Type 0} → Circuit I A → (I → A) → I → A
solution C inputs = solve_for (suc (length C.items)) C inputs

settled_same : {I A : Type 0} (C : Circuit I A) (inputs : I → A) {m w : I → A} (i : I)
    → ((p : I) → Listed p (C.parents i) → m p ≡ w p) → settled C inputs m i ≡ settled C inputs w i
settled_same C inputs i same =
    ap (λ vs. cond (C.is_input i) (inputs i) (C.rule i vs)) (map_listed (C.parents i) same)

-- the solutions are what solves this equation
solution_settled : {I A : Type 0} (C : Circuit I A) (inputs : I → A) {m : I → A} → IsSolution C inputs m
    → (i : I) → Listed i C.items → m i ≡ settled C inputs m i
solution_settled C inputs {m} solves i h = go (C.is_input i) refl
  where
    go : (b : Bool) → C.is_input i ≡ b → m i ≡ cond b (inputs i) (C.rule i (map m (C.parents i)))
    go true e = solves.extends i h e
    go false e = solves.derives i h e

settled_solution : {I A : Type 0} (C : Circuit I A) (inputs : I → A) {m : I → A}
    → ((i : I) → Listed i C.items → m i ≡ settled C inputs m i) → IsSolution C inputs m
settled_solution C inputs {m} equation =
    record {
      extends = λ i h e. equation i h ∙ ap (λ b. cond b (inputs i) (C.rule i (map m (C.parents i)))) e;
      derives = λ i h e. equation i h ∙ ap (λ b. cond b (inputs i) (C.rule i (map m (C.parents i)))) e;
    }

module _ {I A : Type 0} (C : Circuit I A) (shape : FiniteAcyclic C) (inputs : I → A) where
  -- a bound above the rank plays no part
  solve_for_any : (a b : ℕ) (i : I) → Listed i C.items → rank C shape i < a → rank C shape i < b
      → solve_for a C inputs i ≡ solve_for b C inputs i
  unfolding solve_for
  solve_for_any zero b i h low_a low_b = absurd (omega arith)
  solve_for_any (suc a) zero i h low_a low_b = absurd (omega arith)
  solve_for_any (suc a) (suc b) i h low_a low_b =
      settled_same C inputs i
      (λ p l. let r : rank C shape p < rank C shape i = rank_rises C shape i p h l in
      solve_for_any a b p (shape.closed i p h l) (omega arith) (omega arith))

  -- A solution exists.
  pub solution_solves : IsSolution C inputs (solution C inputs)
  unfolding solution solve_for
  solution_solves = settled_solution C inputs equation
    where
      equation : (i : I) → Listed i C.items → solution C inputs i ≡ settled C inputs (solution C inputs) i
      equation i h =
          settled_same C inputs i
          (λ p l. let r : rank C shape p < rank C shape i = rank_rises C shape i p h l in
          let n : rank C shape i ≤ length C.items = rank_bound C shape i in
          solve_for_any (length C.items) (suc (length C.items)) p (shape.closed i p h l) (omega arith) (omega arith))

  agree_below : {m w : I → A} → IsSolution C inputs m → IsSolution C inputs w
      → (bound : ℕ) (i : I) → Listed i C.items → rank C shape i < bound → m i ≡ w i
  agree_below solves_m solves_w zero i h low = absurd (omega arith)
  agree_below solves_m solves_w (suc bound) i h low =
      solution_settled C inputs solves_m i h
      ∙ settled_same C inputs i
      (λ p l. let r : rank C shape p < rank C shape i = rank_rises C shape i p h l in
      agree_below solves_m solves_w bound p (shape.closed i p h l) (omega arith))
      ∙ sym (solution_settled C inputs solves_w i h)

  -- Any two solutions agree.
  pub solutions_agree : {m w : I → A} → IsSolution C inputs m → IsSolution C inputs w → (i : I) → Listed i C.items → m i ≡ w i
  solutions_agree solves_m solves_w i h = agree_below solves_m solves_w (suc (rank C shape i)) i h (omega arith)

  -- The solution is the only one.
  pub solution_unique : {m : I → A} → IsSolution C inputs m → (i : I) → Listed i C.items → m i ≡ solution C inputs i
  solution_unique solves i h = solutions_agree solves solution_solves i h

-- The circuit of a sheet

-- the items of the list are the numbers below n
pub below_listed : (n i : ℕ) → i < n → Listed i (numbers_below n)
below_listed zero i low = absurd (omega arith)
below_listed (suc n) i low = go (ℕ_discrete i n) (below_listed n i)
  where
    go : Dec (i ≡ n) → (i < n → Listed i (numbers_below n)) → Listed i (numbers_below (suc n))
    go (yes e) rest = inl e
    go (no other) rest = inr (rest (omega arith))

pub listed_below : (n i : ℕ) → Listed i (numbers_below n) → i < n
listed_below zero i l = absurd l
listed_below (suc n) i (inl e) = omega arith
listed_below (suc n) i (inr l) = omega (arith, listed_below n i l)

-- an item leads to higher ones only
leads_up : (S : Sheet) → Ordered S → {a b : ℕ} → LeadsTo (circuit_of S) a b → a < b
leads_up S ordered (direct l) = ordered _ _ l
leads_up S ordered (further h l) = omega (arith, leads_up S ordered h, ordered _ _ l)

-- The circuit of an ordered sheet is finite and acyclic.
pub sheet_acyclic : (S : Sheet) → Ordered S → FiniteAcyclic (circuit_of S)
sheet_acyclic S ordered =
    record {
      discrete = ℕ_discrete;
      closed = λ i p h l. below_listed (size S) p (omega (arith, ordered i p l, listed_below (size S) i h));
      roots = λ i h e. root (item_at S i) e;
      acyclic = λ i h k. omega (arith, leads_up S ordered k);
    }
  where
    root : (it : Item) → not (is_figure it) ≡ true → parents_of it ≡ []
    root entry e = refl
    root (figure op keep spread ps) e = let bad : ◌≡◌ {A = ℕ} 0 1 = cc in absurd (omega arith)

-- a figure is an item of the sheet
pub figure_below : (S : Sheet) (k : ℕ) → is_figure (item_at S k) ≡ true → k < size S
figure_below S k f = go (ltb k (size S)) refl
  where
    go : (b : Bool) → ltb k (size S) ≡ b → k < size S
    go true e = ltb-true k (size S) e
    go false e =
        let d : item_at S k ≡ entry = get_or-eq_default S entry {n = k} (ltb-false k (size S) e) in
        let z : ◌≡◌ {A = Bool} false true = rw d at f in
        let bad : ◌≡◌ {A = ℕ} 0 1 = cc in absurd (omega arith)

-- a solution of the sheet's circuit: an entry's value and a figure's
module _ (S : Sheet) (E : Entries) {m : ℕ → Value} (solves : IsSolution (circuit_of S) E m) (i : ℕ) (low : i < size S) where
  pub entry_value : is_figure (item_at S i) ≡ false → m i ≡ E i
  entry_value e = solves.extends i (below_listed (size S) i low) (ap not e)

  pub figure_value : is_figure (item_at S i) ≡ true → m i ≡ evaluate (item_at S i) null (map m (parents S i))
  figure_value e = solves.derives i (below_listed (size S) i low) (ap not e)

-- The fresh office

give_for_any : (S : Sheet) → Ordered S → (E : Entries) (a b : ℕ) (i : ℕ) → i < a → i < b → give_for a S E i ≡ give_for b S E i
unfolding give_for
give_for_any S ordered E zero b i low_a low_b = absurd (omega arith)
give_for_any S ordered E (suc a) zero i low_a low_b = absurd (omega arith)
give_for_any S ordered E (suc a) (suc b) i low_a low_b =
    by_item (item_at S i) (λ p h. give_for_any S ordered E a b p (omega (arith, ordered i p h)) (omega (arith, ordered i p h)))
  where
    by_item : (it : Item) → ((p : ℕ) → Listed p (parents_of it) → give_for a S E p ≡ give_for b S E p)
        → give_item (give_for a S E) it (E i) ≡ give_item (give_for b S E) it (E i)
    by_item entry same = refl
    by_item (figure op keep spread ps) same = ap (evaluate (figure op keep spread ps) (E i)) (map_listed ps same)

-- what the fresh office gives for an item, by what it gives for the parents
pub give_equation : (S : Sheet) → Ordered S → (E : Entries) (i : ℕ) → give S E i ≡ give_item (give S E) (item_at S i) (E i)
unfolding give give_for
give_equation S ordered E i =
    by_item (item_at S i) (λ p h. give_for_any S ordered E i (suc p) p (ordered i p h) (omega arith))
  where
    by_item : (it : Item) → ((p : ℕ) → Listed p (parents_of it) → give_for i S E p ≡ give_for (suc p) S E p)
        → give_item (give_for i S E) it (E i) ≡ give_item (λ p. give_for (suc p) S E p) it (E i)
    by_item entry same = refl
    by_item (figure op keep spread ps) same = ap (evaluate (figure op keep spread ps) (E i)) (map_listed ps same)

-- The fresh office gives the solution of the sheet's circuit.
pub give_solves : (S : Sheet) → Ordered S → (E : Entries) → IsSolution (circuit_of S) E (give S E)
give_solves S ordered E =
    record {
      extends = λ i h e. give_equation S ordered E i ∙ held (item_at S i) (E i) e;
      derives = λ i h e. give_equation S ordered E i ∙ ruled (item_at S i) (E i) e;
    }
  where
    held : (it : Item) (v : Value) → not (is_figure it) ≡ true → give_item (give S E) it v ≡ v
    held entry v e = refl
    held (figure op keep spread ps) v e = let bad : ◌≡◌ {A = ℕ} 0 1 = cc in absurd (omega arith)

    ruled : (it : Item) (v : Value) → not (is_figure it) ≡ false → give_item (give S E) it v ≡ evaluate it null (map (give S E) (parents_of it))
    ruled entry v e = let bad : ◌≡◌ {A = ℕ} 0 1 = cc in absurd (omega arith)
    ruled (figure op keep spread ps) v e = refl

-- So every solution has the values that the fresh office gives.
pub solution_given : (S : Sheet) → Ordered S → (E : Entries) {m : ℕ → Value} → IsSolution (circuit_of S) E m
    → (i : ℕ) → i < size S → m i ≡ give S E i
solution_given S ordered E solves i low =
    solutions_agree (circuit_of S) (sheet_acyclic S ordered) E solves (give_solves S ordered E) i (below_listed (size S) i low)
