-- The tally of a list of values: how it grows by one value, that there is room for the next, and what it says of the
-- list's numbers. Assumes nothing.
use Prim.Native.Nat.{◌+◌, ◌*◌, ◌≤◌, ◌<◌, suc}
use mathlib.Core.Bool.{Bool, true, false, cond, ◌||◌}
use mathlib.Core.List.{List, [], ◌∷◌, ◌++◌}
use mathlib.Core.Path.{◌≡◌, refl, ap, ◌∙◌}
use native.Mathlib.Nat.{zero-mul, suc-mul, mul-le-mul_right}
use native.Mathlib.Omega.{arith}
use borrow.Author.Tests.{eqb-true, eq-eqb, ne_eqb}
use lib.Dec.{eqb}
use lib.IntN.{ℤ, pos, nat_abs, ◌+ℤ◌}
use lib.ListN.{length}
use Rattle.circuit.proofs.RuleLaws.{add_size, in_range-size, and_left, and_right}
use Rattle.circuit.specs.Rules.{max_parents, sum, smallest, largest, count, apply, any_out, numbers, of_numbers, strict, total, least, greatest, lesser, greater, how_many}
use Rattle.circuit.specs.Value.{Value, null, out, num, limit, well_formed, ranged}
use Rattle.circuit.specs.WellFormed.{all_well_formed}
use Rattle.tally.specs.Tally.{Room, empty, counted, taken, taken_all, rule_result}
use Rattle.tally.specs.declared.Tally.{Tally}

-- one more value at the end
pub taken_all_snoc : (vs : List Value) (t : Tally) (v : Value) → taken_all t (vs ++ (v ∷ [])) ≡ taken (taken_all t vs) v
unfolding taken_all
taken_all_snoc [] t v = refl
taken_all_snoc (w ∷ vs) t v = taken_all_snoc vs (taken t w) v

-- ---- room for one more

cond_holds : (P : Tally → Type 0) (b : Bool) (t u : Tally) → P t → P u → P (cond b t u)
cond_holds P true t u p q = p
cond_holds P false t u p q = q

taken_count : (t : Tally) (v : Value) → (taken t v).count ≤ t.count + 1
taken_count t null = omega arith
taken_count t out = omega arith
taken_count t (num z) = cond_holds (λ u. u.count ≤ t.count + 1) (eqb t.count 0) _ _ (omega arith) (omega arith)

taken_total : (t : Tally) (v : Value) → well_formed v ≡ true → nat_abs (taken t v).total ≤ nat_abs t.total + limit
taken_total t null e = omega arith
taken_total t out e = omega arith
taken_total t (num z) e =
    cond_holds (λ u. nat_abs u.total ≤ nat_abs t.total + limit) (eqb t.count 0) _ _
    (omega (arith, in_range-size z e)) (omega (arith, in_range-size z e, add_size t.total z))

taken_all-count : (vs : List Value) (t : Tally) → (taken_all t vs).count ≤ t.count + length vs
unfolding taken_all
taken_all-count [] t = omega arith
taken_all-count (v ∷ vs) t = omega (arith, taken_all-count vs (taken t v), taken_count t v)

taken_all-total : (vs : List Value) (t : Tally) → all_well_formed vs ≡ true → nat_abs (taken_all t vs).total ≤ nat_abs t.total + length vs * limit
unfolding taken_all all_well_formed
taken_all-total [] t e = omega (arith, zero-mul limit)
taken_all-total (v ∷ vs) t e =
    omega (
      arith,
      taken_all-total vs (taken t v) (and_right (well_formed v) (all_well_formed vs) e),
      taken_total t v (and_left (well_formed v) (all_well_formed vs) e),
      suc-mul (length vs) limit,
    )

pub room : (vs : List Value) → length vs < max_parents → all_well_formed vs ≡ true → Room (taken_all empty vs)
room vs h e =
    record {
      count = omega (arith, taken_all-count vs empty);
      total = omega (
        arith,
        taken_all-total vs empty e,
        suc-mul (length vs) limit,
        mul-le-mul_right {m = suc (length vs)} {n = max_parents} limit (omega arith),
      );
    }

-- ---- what a tally says

pub taken_all-out : (vs : List Value) (t : Tally) → (taken_all t vs).out ≡ (t.out || any_out vs)
unfolding taken_all any_out
taken_all-out [] t = go t.out
  where
    go : (b : Bool) → b ≡ (b || false)
    go true = refl
    go false = refl
taken_all-out (null ∷ vs) t = taken_all-out vs t
taken_all-out (out ∷ vs) t = taken_all-out vs (taken t out) ∙ go t.out
  where
    go : (b : Bool) → true ≡ (b || true)
    go true = refl
    go false = refl
taken_all-out (num z ∷ vs) t =
    taken_all-out vs (counted t z)
    ∙ ap (λ (b : Bool). b || any_out vs) (cond_holds (λ u. u.out ≡ t.out) (eqb t.count 0) _ _ refl refl)

-- u is t with the numbers zs taken in, where t has some already
record Further (t u : Tally) (zs : List ℤ) : Type 0 where
  count : u.count ≡ t.count + length zs
  total : u.total ≡ total t.total zs
  least : u.least ≡ least t.least zs
  greatest : u.greatest ≡ greatest t.greatest zs

further : (vs : List Value) (t : Tally) → eqb t.count 0 ≡ false → Further t (taken_all t vs) (numbers vs)
unfolding taken_all numbers total least greatest
further [] t e = record { count = omega arith; total = refl; least = refl; greatest = refl }
further (null ∷ vs) t e = further vs t e
further (out ∷ vs) t e =
    let f = further vs (taken t out) e in
    record { count = f.count; total = f.total; least = f.least; greatest = f.greatest }
further (num z ∷ vs) t e = go (further vs next (ne_eqb (t.count + 1) 0 λ q. omega arith))
  where
    next : Tally
    next = record { out = t.out; count = t.count + 1; total = t.total +ℤ z; least = lesser t.least z; greatest = greater t.greatest z }

    go : Further next (taken_all next vs) (numbers vs) → Further t (taken_all (counted t z) vs) (z ∷ numbers vs)
    go f = rw e (record { count = omega (arith, f.count); total = f.total; least = f.least; greatest = f.greatest })

-- u is a tally of the numbers z and zs
record Tallied (u : Tally) (z : ℤ) (zs : List ℤ) : Type 0 where
  count : u.count ≡ length (z ∷ zs)
  total : u.total ≡ total z zs
  least : u.least ≡ least z zs
  greatest : u.greatest ≡ greatest z zs

-- u is a tally of numbers from nothing
data Fresh (u : Tally) : List ℤ → Type 0 where
  none : u.count ≡ 0 → Fresh u []
  some : (z : ℤ) (zs : List ℤ) → Tallied u z zs → Fresh u (z ∷ zs)

fresh : (vs : List Value) (t : Tally) → eqb t.count 0 ≡ true → Fresh (taken_all t vs) (numbers vs)
unfolding taken_all numbers
fresh [] t e = none (eqb-true t.count 0 e)
fresh (null ∷ vs) t e = fresh vs t e
fresh (out ∷ vs) t e = fresh vs (taken t out) e
fresh (num z ∷ vs) t e = go (further vs first refl)
  where
    first : Tally
    first = record { out = t.out; count = 1; total = z; least = z; greatest = z }

    go : Further first (taken_all first vs) (numbers vs) → Fresh (taken_all (counted t z) vs) (z ∷ numbers vs)
    go f = rw e (some z (numbers vs) (record { count = omega (arith, f.count); total = f.total; least = f.least; greatest = f.greatest }))

-- ---- the rules for any number of parents

-- the rule of f, where z is what f makes of the numbers
rule_is : (vs : List Value) (f : ℤ → List ℤ → ℤ) (z : ℤ) → ((y : ℤ) (ys : List ℤ) → Tallied (taken_all empty vs) y ys → z ≡ f y ys)
    → rule_result (taken_all empty vs) z ≡ strict (λ vs. of_numbers f (numbers vs)) vs
rule_is vs f z q = rw (taken_all-out vs empty) (ap (cond (any_out vs) out) (go {zs = numbers vs} (fresh vs empty refl)))
  where
    go : {zs : List ℤ} → Fresh (taken_all empty vs) zs → cond (eqb (taken_all empty vs).count 0) null (ranged z) ≡ of_numbers f zs
    go (none e) = rw (eq-eqb (taken_all empty vs).count 0 e)
    go (some y ys r) = rw (ne_eqb (taken_all empty vs).count 0 (λ e. omega (arith, r.count)), q y ys r)

pub sum_is : (vs : List Value) → rule_result (taken_all empty vs) (taken_all empty vs).total ≡ apply sum vs
unfolding apply
sum_is vs = rule_is vs total _ (λ y ys r. r.total)

pub smallest_is : (vs : List Value) → rule_result (taken_all empty vs) (taken_all empty vs).least ≡ apply smallest vs
unfolding apply
smallest_is vs = rule_is vs least _ (λ y ys r. r.least)

pub largest_is : (vs : List Value) → rule_result (taken_all empty vs) (taken_all empty vs).greatest ≡ apply largest vs
unfolding apply
largest_is vs = rule_is vs greatest _ (λ y ys r. r.greatest)

pub count_is : (vs : List Value) → rule_result (taken_all empty vs) (pos (taken_all empty vs).count) ≡ apply count vs
unfolding apply
count_is vs = rule_is vs how_many _ (λ y ys r. ap pos r.count)

pub count_small : (vs : List Value) → length vs ≤ max_parents → (taken_all empty vs).count ≤ max_parents
count_small vs h = omega (arith, taken_all-count vs empty)
