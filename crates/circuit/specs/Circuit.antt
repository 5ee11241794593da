-- Arithmetic circuits and their solution: Filardo and Eisner, "A Flexible Solver for Finite Arithmetic Circuits", section 2.
-- Their words stand in quotation marks, without the symbols. Assumes nothing.
use Rattle.std.specs.Prelude.{◌≡◌, Bool, true, false, ◌⊎◌, List, [], ◌∷◌, map}

-- a stands in the list
abbrev pub Listed : {A : Type 0} → A → List A → Type 0
Listed a [] = ⊥
Listed a (b ∷ bs) = (a ≡ b) ⊎ Listed a bs

-- A graph on finitely many "items", those that `items` lists, with values in A. Each item has its "parents", in an order.
-- The "input items" "receive their values from the environment". Each of "the remaining items" "is equipped with a
-- function to combine its parents' values": a function of these in the parents' order, which says "which parent has which
-- value". What an element of I that is no item has here counts for nothing.
pub record Circuit (I A : Type 0) : Type 0 where
  pub items : List I
  pub parents : I → List I
  pub is_input : I → Bool
  pub rule : I → List A → A

-- a is an "ancestor" of b, one of its "transitive parents"; in 01's words, a leads to each item that lists it as a parent
-- and to each that lists an item it leads to.
pub data LeadsTo {I A : Type 0} (C : Circuit I A) (a : I) : I → Type 0 where
  direct : {b : I} → Listed a (C.parents b) → LeadsTo C a b
  further : {b c : I} → LeadsTo C a b → Listed b (C.parents c) → LeadsTo C a c

-- "A finite directed acyclic graph": two items can be told apart, an item's parents are items, the input items are "those
-- without parents", and no item leads to itself. (In the paper every item without parents is an input; here it may also
-- have a function, of no values.)
pub record FiniteAcyclic {I A : Type 0} (C : Circuit I A) : Type 0 where
  pub discrete : Discrete I
  pub closed : (i p : I) → Listed i C.items → Listed p (C.parents i) → Listed p C.items
  pub roots : (i : I) → Listed i C.items → C.is_input i ≡ true → C.parents i ≡ []
  pub acyclic : (i : I) → Listed i C.items → LeadsTo C i i → ⊥

-- Given "a map that specifies the extensional data", the inputs' values, "a solution to the circuit is an extension of this
-- map" over all items such that each of the remaining items has its function's value on its parents' values. Of `inputs`
-- only the values at the inputs count.
pub record IsSolution {I A : Type 0} (C : Circuit I A) (inputs values : I → A) : Type 0 where
  pub extends : (i : I) → Listed i C.items → C.is_input i ≡ true → values i ≡ inputs i
  pub derives : (i : I) → Listed i C.items → C.is_input i ≡ false → values i ≡ C.rule i (map values (C.parents i))
