-- The levels of a sheet that opens: each parent's is lower, and none is above the highest allowed. Assumes nothing.
use Prim.Native.Nat.{ℕ, ◌<◌, ◌≤◌}
use native.Mathlib.Omega.{arith}
use native.Mathlib.Decide.{dec_lt}
use mathlib.Core.Path.{◌≡◌, ap}
use mathlib.Core.List.{List, [], ◌∷◌, map}
use mathlib.Core.Logic.{inl, inr}
use lib.ListN.{length, take, get_or-eq_default}
use lib.Seq.{get_or-take}
use Rattle.circuit.specs.Circuit.{Listed}
use Rattle.circuit.specs.Sheet.{parents_of, parents}
use Rattle.layout.specs.Layout.{LayoutItem, entry_field, figure_field, highest, level_limit, machine_item, machine_sheet}
use Rattle.layout.specs.Read.{Placed, placed, level_of, item_level, opens, read_sheet, layout_of}
use Rattle.layout.proofs.Scan.{placed_at, machine_item_lem, opened_fits, opened_ordered}

-- none of some levels is above the highest of them
highest_above : (xs : List ℕ) (x : ℕ) → Listed x xs → x ≤ highest xs
unfolding highest
highest_above [] x l = absurd l
highest_above (y ∷ ys) x (inl e) = omega arith
highest_above (y ∷ ys) x (inr l) = let h = highest_above ys x l in omega arith

listed_map : (f : ℕ → ℕ) (p : ℕ) (ps : List ℕ) → Listed p ps → Listed (f p) (map f ps)
listed_map f p [] l = absurd l
listed_map f p (q ∷ ps) (inl e) = inl (ap f e)
listed_map f p (q ∷ ps) (inr l) = inr (listed_map f p ps l)

-- a parent's level is lower, among the items ps
item_rises : (ps : List Placed) (p : ℕ) (it : LayoutItem) → Listed p (parents_of (machine_item it)) → level_of ps p < item_level ps it
unfolding machine_item
item_rises ps p (entry_field name) l = absurd l
item_rises ps p (figure_field rule keep spread parents name) l =
    omega (arith, highest_above (map (level_of ps) parents) (level_of ps p) (listed_map (level_of ps) p parents l))

no_parents : (p : ℕ) (ps : List Placed) (i : ℕ) → placed_at ps i ≡ placed 0 (entry_field []) 0 → Listed p (parents_of (machine_item (placed_at ps i).item)) → ⊥
unfolding machine_item
no_parents p ps i e l = rw e at l

module _ (s : List ℕ) (edition : ℕ) (ps : List Placed) (reads : read_sheet s ≡ opens edition ps) where
  pub level_rises : (c p : ℕ) → Listed p (parents (machine_sheet (layout_of edition ps)) c) → level_of ps p < level_of ps c
  level_rises c p l = go (dec_lt c (length ps)) (rw (machine_item_lem edition ps c) at l)
    where
      go : Dec (c < length ps) → Listed p (parents_of (machine_item (placed_at ps c).item)) → level_of ps p < level_of ps c
      go (yes h) q =
          let before : level_of (take c ps) p ≡ level_of ps p
          = ap (λ r. r.level) (get_or-take c ps p (placed 0 (entry_field []) 0) (opened_ordered s edition ps reads c p l)) in
          omega (arith, before, (opened_fits s edition ps reads c h).level_is, item_rises (take c ps) p (placed_at ps c).item q)
      go (no h) q = absurd (no_parents p ps c (get_or-eq_default ps (placed 0 (entry_field []) 0) (omega arith)) q)

  pub level_limited : (c : ℕ) → c < length ps → level_of ps c ≤ level_limit
  level_limited c h = (opened_fits s edition ps reads c h).level_fits
