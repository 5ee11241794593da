-- The lowest cause of an item's field, from what the code tests of its content. Assumes nothing.
use mathlib.Core.Path.{◌≡◌, refl, sym, ap, ap₂, ◌∙◌}
use mathlib.Core.Bool.{Bool, true, false, cond, not, ◌&&◌}
use mathlib.Core.List.{List, [], map}
use Prim.Native.Nat.{ℕ, suc, ◌-◌, ◌≤◌, ◌<◌}
use native.Mathlib.Omega.{arith}
use lib.Dec.{ltb}
use lib.ListN.{length, get_or, get_or-map, take, drop, length-drop, length-map}
use lib.Seq.{take_all}
use borrow.Author.Tests.{lt-ltb, le-ltb, ne_eqb}
use Rattle.std.specs.Prelude.{Option, Some, None}
use Rattle.circuit.specs.Calls.{first_cause}
use Rattle.layout.specs.Layout.{entry_field, entry_tag, figure_tag, level_limit, keep_allowed, spread_allowed, rule_allowed, name_allowed, all, highest}
use Rattle.layout.specs.Layout.{parents_at, parent_at}
use Rattle.layout.specs.Content.{rule_in, keep_in, spread_in, parent_count_in, parents_in, name_in, item_in}
use Rattle.layout.specs.Opened.{levels_of}
use Rattle.layout.specs.Read.{Placed, placed, level_of, item_level, length_or_name, item_tests}
use Rattle.sheet.specs.Check.{Judged, sound, at_fault, judged_of, judged_item, level_over}
use Rattle.layout.proofs.Items.{parents_count}
use Rattle.sheet.proofs.Levels.{parents_read, parents_read_are}

-- The levels of the parents, by the earlier items.
module _ (levels : List ℕ) (ps : List Placed) (at : levels ≡ levels_of ps) where
  level_is : (q : ℕ) → get_or levels q 0 ≡ level_of ps q
  level_is q = ap (λ l. get_or l q 0) at ∙ get_or-map (λ (p : Placed). p.level) ps q (placed 0 (entry_field []) 0)

  count_is : length levels ≡ length ps
  count_is = ap length at ∙ length-map ps (λ p. p.level)

  pub levels_over : (parents : List ℕ) → level_over levels parents
      ≡ cond (all (λ q. ltb q (length ps)) parents) (Some (suc (highest (map (level_of ps) parents)))) None
  unfolding level_over
  levels_over parents = simp (count_is, level_is)

-- An entry, and a field that is no item's.
module _ (edition : ℕ) (ps : List Placed) (content : List ℕ) where
  pub entry_judged : (b : Bool) → b ≡ name_allowed content → judged_item edition ps entry_tag content ≡ cond b (sound 0) (at_fault 3)
  unfolding item_tests first_cause length_or_name item_in level_limit
  entry_judged true e = simp (sym e)
  entry_judged false e = simp (sym e)

  pub other_judged : (tag : ℕ) → (tag ≡ entry_tag → ⊥) → (tag ≡ figure_tag → ⊥) → judged_item edition ps tag content ≡ at_fault 2
  unfolding item_tests first_cause
  other_judged tag a b = simp (ne_eqb tag entry_tag a, ne_eqb tag figure_tag b)

-- the answer for a figure whose tests before its parents find nothing, by the level over its parents
abbrev pub leveled : Option ℕ → Judged
leveled None = at_fault 6
leveled (Some level) = cond (ltb level_limit level) (at_fault 7) (sound level)

-- A figure, by its tests in order.
figure_cause : Bool → Bool → Bool → Bool → ℕ
figure_cause named ruled below high = cond (not named) 3 (cond (not ruled) 5 (cond (not below) 6 (cond high 7 0)))

module _ (edition : ℕ) (ps : List Placed) (content : List ℕ) where
  abbrev listed : List ℕ
  listed = parents_in content (parent_count_in content)

  figure_cause_lem : parents_at ≤ length content
      → first_cause (item_tests edition ps figure_tag content)
      ≡ figure_cause (name_allowed (name_in content))
      (rule_allowed (rule_in content) (length listed) && keep_allowed (keep_in content) && spread_allowed edition (spread_in content))
      (all (λ q. ltb q (length ps)) listed)
      (ltb level_limit (suc (highest (map (level_of ps) listed))))
  unfolding item_tests first_cause length_or_name item_in figure_cause
  figure_cause_lem h = simp (le-ltb (length content) parents_at h)

  figure_level : item_level ps (item_in figure_tag content) ≡ suc (highest (map (level_of ps) listed))
  unfolding item_in
  figure_level = refl

  figure_by : (k : ℕ) → first_cause (item_tests edition ps figure_tag content) ≡ k
      → judged_of k (suc (highest (map (level_of ps) listed))) ≡ judged_item edition ps figure_tag content
  figure_by k e = sym (ap₂ judged_of e figure_level)

  pub figure_short : length content < parents_at → at_fault 3 ≡ judged_item edition ps figure_tag content
  unfolding item_tests first_cause length_or_name
  figure_short h = figure_by 3 (simp (lt-ltb (length content) parents_at h))

  module _ (four : parents_at ≤ length content) (p : ℕ) (is : p ≡ parent_count_in content) where
    abbrev named : Bool
    named = name_allowed (take (length content - parent_at p) (drop (parent_at p) content))

    abbrev ruled : Bool
    ruled = rule_allowed (rule_in content) p && keep_allowed (keep_in content) && spread_allowed edition (spread_in content)

    abbrev below : Bool
    below = all (λ q. ltb q (length ps)) (parents_in content p)

    abbrev above : ℕ
    above = suc (highest (map (level_of ps) (parents_in content p)))

    cause_is : first_cause (item_tests edition ps figure_tag content) ≡ figure_cause named ruled below (ltb level_limit above)
    cause_is =
        let l : length listed ≡ p = parents_count content (parent_count_in content) ∙ sym is in
        let f = figure_cause_lem four in
        let n : take (length content - parent_at p) (drop (parent_at p) content) ≡ drop (parent_at p) content =
        take_all _ _ (omega (arith, length-drop (parent_at p) content)) in
        cc

    judged_by : (k : ℕ) → figure_cause named ruled below (ltb level_limit above) ≡ k → judged_of k above ≡ judged_item edition ps figure_tag content
    judged_by k e =
        ap (λ q. judged_of k (suc (highest (map (level_of ps) (parents_in content q))))) is
        ∙ figure_by k (cause_is ∙ e)

    pub figure_unnamed : named ≡ false → at_fault 3 ≡ judged_item edition ps figure_tag content
    unfolding figure_cause
    figure_unnamed e = judged_by 3 (rw e refl)

    pub figure_narrow : length content < parent_at p → at_fault 3 ≡ judged_item edition ps figure_tag content
    unfolding name_allowed
    figure_narrow h =
        let z : length content - parent_at p ≡ 0 = omega arith in
        figure_unnamed (ap (λ k. name_allowed (take k (drop (parent_at p) content))) z)

    pub figure_unruled : named ≡ true → ruled ≡ false → at_fault 5 ≡ judged_item edition ps figure_tag content
    unfolding figure_cause
    figure_unruled e f = judged_by 5 (rw (e, f) refl)

    module _ (wide : parent_at p ≤ length content) (e : named ≡ true) (f : ruled ≡ true) (levels : List ℕ) (at : levels ≡ levels_of ps) where
      level_cases : level_over levels (parents_read content p) ≡ cond below (Some above) None
      level_cases = ap (level_over levels) (parents_read_are content p wide) ∙ levels_over levels ps at (parents_in content p)

      pub figure_leveled : leveled (level_over levels (parents_read content p)) ≡ judged_item edition ps figure_tag content
      unfolding figure_cause
      figure_leveled = ap leveled level_cases ∙ go below refl
        where
          high : (b : Bool) → below ≡ true → ltb level_limit above ≡ b → cond b (at_fault 7) (sound above) ≡ judged_item edition ps figure_tag content
          high true x y = judged_by 7 (rw (e, f, x, y) refl)
          high false x y = judged_by 0 (rw (e, f, x, y) refl)

          go : (b : Bool) → below ≡ b → leveled (cond b (Some above) None) ≡ judged_item edition ps figure_tag content
          go true x = high (ltb level_limit above) x refl
          go false x = judged_by 6 (rw (e, f, x) refl)
