-- The level over the parents that bytes list, as the check's loop finds it, pair after pair; and that a figure's content has its parents in
-- such bytes. Assumes nothing.
use Prim.Native.Nat.{ℕ, zero, suc, ◌+◌, ◌*◌, ◌-◌, ◌<◌, ◌≤◌, max}
use native.Mathlib.Omega.{arith}
use mathlib.Core.Path.{◌≡◌, refl, sym, ap, ap₂, ◌∙◌}
use mathlib.Core.Bool.{cond}
use mathlib.Core.List.{List, [], ◌∷◌, map}
use lib.Dec.{ltb}
use lib.ListN.{length, get_or, take, drop, length-drop}
use lib.Seq.{take-suc, get_or-drop}
use borrow.Author.Tests.{lt-ltb, le-ltb}
use denote.Ref.{Bor}
use Rattle.std.specs.Prelude.{Option, Some, None}
use Rattle.std.specs.declared.slice.ChunksExact.{ChunksExact}
use Rattle.std.specs.Slice.Iter.{chunks_exact_rest, chunks_exact_size, chunks_exact_steps}
use Rattle.field.specs.Field.{le16, le16_at}
use Rattle.circuit.specs.Board.{listed_width, listed}
use Rattle.circuit.proofs.Board.{listed_pair, listed_none, listed_count, listed_at}
use Rattle.layout.specs.Layout.{all, highest, parents_at, parent_width, parent_at}
use Rattle.layout.specs.Content.{parent_in, parents_in}
use Rattle.sheet.specs.Check.{level_over}

-- ---- a loop over the pairs

module _ (levels : List ℕ) where
  -- one more than the highest of a level and the parents' levels, or none where a parent is no earlier item
  abbrev over_from : ℕ → List ℕ → Option ℕ
  over_from high parents = cond (all (λ q. ltb q (length levels)) parents) (Some (suc (max high (highest (map (λ q. get_or levels q 0) parents))))) None

  from_start : (parents : List ℕ) → level_over levels parents ≡ over_from 0 parents
  unfolding level_over
  from_start parents =
      let m : max 0 (highest (map (λ q. get_or levels q 0) parents)) ≡ highest (map (λ q. get_or levels q 0) parents) = omega arith in
      rw m refl

  from_fails : (high q : ℕ) (qs : List ℕ) → length levels ≤ q → over_from high (q ∷ qs) ≡ None
  unfolding all
  from_fails high q qs h = rw (le-ltb q (length levels) h) refl

  from_next : (high q : ℕ) (qs : List ℕ) → q < length levels → over_from high (q ∷ qs) ≡ over_from (max high (get_or levels q 0)) qs
  unfolding all highest
  from_next high q qs h =
      let level : ℕ = get_or levels q 0 in
      let rest : ℕ = highest (map (λ p. get_or levels p 0) qs) in
      let m : max high (max level rest) ≡ max (max high level) rest = omega arith in
      rw (lt-ltb q (length levels) h, m) refl

  from_end : (high : ℕ) → over_from high [] ≡ Some (high + 1)
  unfolding all highest
  from_end high = ap Some (omega arith)

  -- what is left to the loop: the level over the parents is the level over those that are left, from the highest level so far
  pub record Left (s : ChunksExact ℕ) (parents : List ℕ) (high : ℕ) : Type 0 where
    pub size_is : chunks_exact_size s ≡ listed_width
    pub left : level_over levels (listed parents) ≡ over_from high (listed (chunks_exact_rest s))

  pub left_start : {s : ChunksExact ℕ} (parents : List ℕ) → chunks_exact_rest s ≡ parents → chunks_exact_size s ≡ listed_width → Left s parents 0
  left_start parents rest size = record { size_is = size; left = rw rest (from_start (listed parents)) }

  module _ {s : ChunksExact ℕ} {parents : List ℕ} {high : ℕ} (now : Left s parents high) (t : ChunksExact ℕ) where
    module _ (pair : Bor (List ℕ)) (h : chunks_exact_steps s (Some pair) t) (q : ℕ) (is : q ≡ le16_at pair.now 0) where
      one_more : listed (chunks_exact_rest s) ≡ q ∷ listed (chunks_exact_rest t)
      one_more = ap listed h.1.0 ∙ rw is (listed_pair pair.now (chunks_exact_rest t) (h.1.1 ∙ now.size_is))

      -- a parent that is no earlier item
      pub left_fails : length levels ≤ q → None ≡ level_over levels (listed parents)
      left_fails l = sym (now.left ∙ ap (over_from high) one_more ∙ from_fails high q (listed (chunks_exact_rest t)) l)

      -- one that is
      pub left_next : q < length levels → (high' : ℕ) → high' ≡ max high (get_or levels q 0) → Left t parents high'
      left_next l high' e =
          record { size_is = h.0 ∙ now.size_is; left = rw e (now.left ∙ ap (over_from high) one_more ∙ from_next high q (listed (chunks_exact_rest t)) l) }

    -- no parent is left
    pub left_end : chunks_exact_steps s None t → Some (high + 1) ≡ level_over levels (listed parents)
    left_end h =
        let none = listed_none (chunks_exact_rest s) (omega (arith, h.1.0, now.size_is)) in
        sym (now.left ∙ ap (over_from high) none ∙ from_end high)

-- ---- the parents in a figure's content

listed_take : (n : ℕ) (xs : List ℕ) → parent_width * n ≤ length xs → listed (take (parent_width * n) xs) ≡ take n (listed xs)
unfolding listed
listed_take zero xs l = refl
listed_take (suc n) [] l = absurd (omega arith)
listed_take (suc n) (a ∷ []) l = absurd (omega arith)
listed_take (suc n) (a ∷ b ∷ xs) l =
    let two : parent_width * suc n ≡ suc (suc (parent_width * n)) = omega arith in
    rw two (ap (λ ps. le16 a b ∷ ps) (listed_take n xs (omega arith)))

parents_take : (content : List ℕ) (n : ℕ) → parent_at n ≤ length content → parents_in content n ≡ take n (listed (drop parents_at content))
unfolding parents_in
parents_take content zero h = refl
parents_take content (suc n) h =
    let rest : List ℕ = drop parents_at content in
    let count = listed_count rest in
    let long = length-drop parents_at content in
    let at = listed_at rest n (omega (arith, long)) in
    let next : parents_at + (parent_width * n + 1) ≡ parent_at n + 1 = omega arith in
    let low = get_or-drop parents_at content (parent_width * n) 0 in
    let high = get_or-drop parents_at content (parent_width * n + 1) 0 ∙ ap (λ m. get_or content m 0) next in
    let q : get_or (listed rest) n 0 ≡ parent_in content n = at ∙ ap₂ le16 low high in
    rw (take-suc (listed rest) n 0 (omega (arith, count, long)), q, ← parents_take content n (omega arith)) refl

-- the numbers in the bytes of the first n parents
abbrev pub parents_read : List ℕ → ℕ → List ℕ
parents_read content n = listed (take (parent_at n - parents_at) (drop parents_at content))

pub parents_read_are : (content : List ℕ) (n : ℕ) → parent_at n ≤ length content → parents_read content n ≡ parents_in content n
parents_read_are content n h =
    let long = length-drop parents_at content in
    let width : parent_at n - parents_at ≡ parent_width * n = omega arith in
    rw width (listed_take n (drop parents_at content) (omega (arith, long)) ∙ sym (parents_take content n h))
