-- Values from before 02's job 6, when any OUT parent gave OUT by every rule: each of them is OUT, or what it is now. Assumes that the
-- sheet is ordered.
use Prim.Native.Nat.{ℕ, ◌<◌}
use native.Mathlib.Omega.{arith}
use mathlib.Core.Path.{◌≡◌, refl, sym, ap, ◌∙◌}
use mathlib.Core.Logic.{◌⊎◌, inl, inr}
use mathlib.Core.Bool.{Bool, true, false, cond}
use mathlib.Core.List.{List, [], ◌∷◌, map}
use Rattle.circuit.specs.Value.{Value, out, is_out}
use Rattle.circuit.specs.Rules.{any_out, strict}
use Rattle.circuit.specs.Circuit.{Circuit, Listed, IsSolution}
use Rattle.circuit.specs.Sheet.{Sheet, size, parents, Ordered, Entries, circuit_of}
use Rattle.circuit.proofs.RuleLaws.{or-false}
use Rattle.circuit.proofs.Solution.{map_listed, below_listed}
use Rattle.circuit.proofs.View.{never, strong}

-- 01's "Any OUT parent gives OUT. Otherwise the rule decides", of every figure
abbrev pub former_circuit : Sheet → Circuit ℕ Value
former_circuit S =
    record {
      items = (circuit_of S).items;
      parents = parents S;
      is_input = (circuit_of S).is_input;
      rule = λ i. strict ((circuit_of S).rule i);
    }

-- where no value of the list is OUT, none that is listed is
not_out : (f : ℕ → Value) (ps : List ℕ) → any_out (map f ps) ≡ false → (p : ℕ) → Listed p ps → ¬ (f p ≡ out)
unfolding any_out
not_out f [] e p l = absurd l
not_out f (q ∷ ps) e p (inl h) =
    let none : is_out (f q) ≡ false = (or-false (is_out (f q)) (any_out (map f ps)) e).0 in
    λ o. never (cc)
not_out f (q ∷ ps) e p (inr l) = not_out f ps (or-false (is_out (f q)) (any_out (map f ps)) e).1 p l

pub former_right : (S : Sheet) → Ordered S → (E : Entries) (former now : ℕ → Value) → IsSolution (former_circuit S) E former → IsSolution (circuit_of S) E now
    → (i : ℕ) → i < size S → (former i ≡ out) ⊎ (former i ≡ now i)
former_right S ordered E former now was is = strong (λ i. i < size S → (former i ≡ out) ⊎ (former i ≡ now i)) rise
  where
    rise : (i : ℕ) → ((p : ℕ) → p < i → p < size S → (former p ≡ out) ⊎ (former p ≡ now p)) → i < size S → (former i ≡ out) ⊎ (former i ≡ now i)
    rise i lower low = go ((circuit_of S).is_input i) refl
      where
        listed : Listed i (circuit_of S).items
        listed = below_listed (size S) i low

        parent : any_out (map former (parents S i)) ≡ false → (p : ℕ) → Listed p (parents S i) → former p ≡ now p
        parent none p l = by (let o : p < i = ordered i p l in lower p o (omega arith))
          where
            by : (former p ≡ out) ⊎ (former p ≡ now p) → former p ≡ now p
            by (inl o) = absurd (not_out former (parents S i) none p l o)
            by (inr e) = e

        rule : List Value → Value
        rule = (circuit_of S).rule i

        by : (circuit_of S).is_input i ≡ false → (b : Bool) → any_out (map former (parents S i)) ≡ b → former i ≡ cond b out (rule (map former (parents S i)))
            → (former i ≡ out) ⊎ (former i ≡ now i)
        by e true h derived = inl derived
        by e false h derived = inr (derived ∙ ap rule (map_listed (parents S i) (parent h)) ∙ sym (is.derives i listed e))

        go : (b : Bool) → (circuit_of S).is_input i ≡ b → (former i ≡ out) ⊎ (former i ≡ now i)
        go true e = inr (was.extends i listed e ∙ sym (is.extends i listed e))
        go false e = by e (any_out (map former (parents S i))) refl (was.derives i listed e)
