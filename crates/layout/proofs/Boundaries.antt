-- The limits of a sheet, from both sides: the editions, counts 1,024 and 1,025 in edition 1, 4,096 and 4,097 in edition 2, levels 64 and 65,
-- names of 16 and 17 bytes, bytes 33 to 126, the rules' parent counts. Assumes nothing.
use mathlib.Core.Path.{◌≡◌, refl}
use mathlib.Core.Bool.{Bool, true, false}
use mathlib.Core.List.{List, [], ◌∷◌, ◌++◌, map}
use mathlib.Core.Logic.{◌⊎◌, inl, inr, ⊎_elim}
use Prim.Native.Nat.{ℕ, zero, suc, ◌<◌}
use native.Mathlib.Omega.{arith}
use lib.Dec.{eqb}
use lib.ListN.{length, replicate, length-replicate}
use Rattle.field.proofs.Cutting.{le16_of}
use Rattle.circuit.specs.Rules.{operation_of, coded, one_or_more, max_parents, count_allowed as parents_allowed}
use Rattle.layout.specs.Layout.{entry_field, Layout, edition_known, item_limit, count_allowed, keep_allowed, spread_limit, spread_allowed, rule_allowed, name_byte, name_limit, name_allowed, all}
use Rattle.layout.specs.Read.{opens, refused, read_sheet}
use Rattle.layout.specs.Write.{items_within, within, write_sheet}
use Rattle.layout.specs.Places.{places}
use Rattle.layout.specs.Edition.{with_edition}
use Rattle.layout.specs.Causes.{first, field_offset, CauseAt, cause1, cause2, cause3, cause4, cause5, cause6, cause7}
use Rattle.layout.proofs.Exactly.{written_opens}
use Rattle.layout.proofs.Causes.{refused_exactly}
use Rattle.layout.proofs.Editions.{edition_written}
use Rattle.layout.proofs.Examples.{chain, reading, writing, gives_7}

-- Numbers.

pub edition_bounds : map edition_known (0 ∷ 1 ∷ 2 ∷ 3 ∷ 256 ∷ 258 ∷ []) ≡ false ∷ true ∷ true ∷ false ∷ false ∷ false ∷ []
unfolding edition_known
edition_bounds = refl

pub count_bounds : (edition : ℕ) → (count_allowed edition 0 ≡ false) × (count_allowed edition 1 ≡ true)
unfolding count_allowed item_limit
count_bounds edition = go (eqb edition 1) refl
  where
    go : (b : Bool) → eqb edition 1 ≡ b → (count_allowed edition 0 ≡ false) × (count_allowed edition 1 ≡ true)
    go true e = rw e (refl, refl)
    go false e = rw e (refl, refl)

pub count_bounds_1 : (count_allowed 1 1024 ≡ true) × (count_allowed 1 1025 ≡ false)
unfolding count_allowed item_limit
count_bounds_1 = (refl, refl)

pub count_bounds_2 : (count_allowed 2 4096 ≡ true) × (count_allowed 2 4097 ≡ false)
unfolding count_allowed item_limit
count_bounds_2 = (refl, refl)

pub keep_bounds : (keep_allowed 0 ≡ true) × (keep_allowed 1 ≡ true) × (keep_allowed 2 ≡ false)
unfolding keep_allowed
keep_bounds = (refl, refl, refl)

pub spread_bounds_1 : (spread_allowed 1 0 ≡ true) × (spread_allowed 1 2 ≡ true) × (spread_allowed 1 3 ≡ false)
unfolding spread_allowed spread_limit
spread_bounds_1 = (refl, refl, refl)

pub spread_bounds_2 : (spread_allowed 2 0 ≡ true) × (spread_allowed 2 1 ≡ true) × (spread_allowed 2 2 ≡ false) × (spread_allowed 2 3 ≡ false)
unfolding spread_allowed spread_limit
spread_bounds_2 = (refl, refl, refl, refl)

-- the codes 1 to 8, each with the fewest and the most parents and one beside them
pub rule_bounds : map (λ code. map (rule_allowed code) (0 ∷ 1 ∷ 2 ∷ 3 ∷ 4 ∷ 16 ∷ 17 ∷ [])) (0 ∷ 1 ∷ 2 ∷ 3 ∷ 4 ∷ 5 ∷ 6 ∷ 7 ∷ 8 ∷ 9 ∷ [])
    ≡ (false ∷ false ∷ false ∷ false ∷ false ∷ false ∷ false ∷ [])
    ∷ (false ∷ true ∷ true ∷ true ∷ true ∷ true ∷ false ∷ [])
    ∷ (false ∷ false ∷ true ∷ false ∷ false ∷ false ∷ false ∷ [])
    ∷ (false ∷ true ∷ true ∷ true ∷ true ∷ true ∷ false ∷ [])
    ∷ (false ∷ true ∷ true ∷ true ∷ true ∷ true ∷ false ∷ [])
    ∷ (false ∷ false ∷ true ∷ false ∷ false ∷ false ∷ false ∷ [])
    ∷ (false ∷ false ∷ false ∷ true ∷ false ∷ false ∷ false ∷ [])
    ∷ (false ∷ true ∷ true ∷ true ∷ true ∷ true ∷ false ∷ [])
    ∷ (false ∷ false ∷ true ∷ false ∷ false ∷ false ∷ false ∷ [])
    ∷ (false ∷ false ∷ false ∷ false ∷ false ∷ false ∷ false ∷ [])
    ∷ []
unfolding operation_of coded one_or_more max_parents parents_allowed
rule_bounds = refl

pub byte_bounds : (name_byte 32 ≡ false) × (name_byte 33 ≡ true) × (name_byte 126 ≡ true) × (name_byte 127 ≡ false)
byte_bounds = (refl, refl, refl, refl)

pub name_bounds : (name_allowed [] ≡ false) × (name_allowed (replicate 1 65) ≡ true) × (name_allowed (replicate 16 65) ≡ true) × (name_allowed (replicate 17 65) ≡ false)
unfolding name_allowed name_limit all
name_bounds = (refl, refl, refl, refl)

-- Whole sheets.

-- a chain of 64 figures has levels to 64, and one of 65 figures a level 65
pub level_64 : read_sheet (write_sheet (chain 64)) ≡ opens 1 (places (chain 64))
unfolding reading writing
level_64 = written_opens (chain 64) refl

pub level_65 : read_sheet (write_sheet (chain 65)) ≡ refused 7 651
level_65 = gives_7

-- an edition that is not known, or more items than it has, whatever they are
pub refused_4 : (l : Layout) → ((¬ (l.edition ≡ 1)) × (¬ (l.edition ≡ 2))) ⊎ (item_limit l.edition < length l.items)
    → read_sheet (write_sheet l) ≡ refused 4 0
unfolding write_sheet field_offset
refused_4 l h =
    (refused_exactly (write_sheet l) 4 0).1
    (record {
      place = first;
      in_sheet = tt;
      cause = cause4 (rw (le16_of l.edition, le16_of (length l.items)) (⊎_elim (λ e. inl e) (λ n. inr (inr n)) h));
      lowest = lower;
      first_at_fault = λ p m b. absurd (omega arith);
      offset_is = refl;
    })
  where
    lower : (j : ℕ) → j < 4 → ¬ CauseAt (write_sheet l) first j
    lower j b (cause1 (inl x)) = omega arith
    lower j b (cause1 (inr (inl x))) = omega arith
    lower j b (cause1 (inr (inr x))) = omega arith
    lower j b (cause2 x) = x refl
    lower j b (cause3 x) = x refl
    lower j b (cause4 x) = omega arith
    lower j b (cause5 x) = omega arith
    lower j b (cause6 x) = omega arith
    lower j b (cause7 x) = omega arith

-- n entries
unfoldable pub entries : ℕ → ℕ → Layout
entries edition n = record { edition = edition; items = replicate n (entry_field (65 ∷ [])) }

entries_fit : (edition n : ℕ) (levels : List ℕ) → items_within edition levels (replicate n (entry_field (65 ∷ []))) ≡ true
unfolding items_within name_allowed name_limit all
entries_fit edition zero levels = refl
entries_fit edition (suc n) levels = entries_fit edition n (levels ++ (0 ∷ []))

entries_open : (edition n : ℕ) → edition_known edition ≡ true → count_allowed edition n ≡ true
    → read_sheet (write_sheet (entries edition n)) ≡ opens edition (places (entries edition n))
unfolding entries within
entries_open edition n known allowed =
    written_opens (entries edition n) (rw (length-replicate n (entry_field (65 ∷ [])), entries_fit edition n [], known, allowed))

entries_many : (edition n : ℕ) → item_limit edition < n → read_sheet (write_sheet (entries edition n)) ≡ refused 4 0
unfolding entries
entries_many edition n h = refused_4 (entries edition n) (inr (omega (arith, length-replicate n (entry_field (65 ∷ [])))))

pub count_1024 : read_sheet (write_sheet (entries 1 1024)) ≡ opens 1 (places (entries 1 1024))
unfolding edition_known
count_1024 = entries_open 1 1024 refl count_bounds_1.0

pub count_1025 : read_sheet (write_sheet (entries 1 1025)) ≡ refused 4 0
unfolding item_limit
count_1025 = entries_many 1 1025 (omega arith)

pub count_4096 : read_sheet (write_sheet (entries 2 4096)) ≡ opens 2 (places (entries 2 4096))
unfolding edition_known
count_4096 = entries_open 2 4096 refl count_bounds_2.0

pub count_4097 : read_sheet (write_sheet (entries 2 4097)) ≡ refused 4 0
unfolding item_limit
count_4097 = entries_many 2 4097 (omega arith)

-- 1,025 items are too many for edition 1, and with the edition changed to 2 they are not
pub count_1025_changed : read_sheet (with_edition 2 (write_sheet (entries 1 1025))) ≡ opens 2 (places (entries 2 1025))
unfolding edition_known count_allowed item_limit entries
count_1025_changed = rw (edition_written 2 (entries 1 1025)) (entries_open 2 1025 refl refl)

-- an edition that is not known, with any number of items
pub edition_0 : (n : ℕ) → read_sheet (write_sheet (entries 0 n)) ≡ refused 4 0
unfolding entries
edition_0 n = refused_4 (entries 0 n) (inl (λ e. omega arith, λ e. omega arith))

pub edition_3 : (n : ℕ) → read_sheet (write_sheet (entries 3 n)) ≡ refused 4 0
unfolding entries
edition_3 n = refused_4 (entries 3 n) (inl (λ e. omega arith, λ e. omega arith))

pub edition_256 : (n : ℕ) → read_sheet (write_sheet (entries 256 n)) ≡ refused 4 0
unfolding entries
edition_256 n = refused_4 (entries 256 n) (inl (λ e. omega arith, λ e. omega arith))

pub edition_258 : (n : ℕ) → read_sheet (write_sheet (entries 258 n)) ≡ refused 4 0
unfolding entries
edition_258 n = refused_4 (entries 258 n) (inl (λ e. omega arith, λ e. omega arith))
