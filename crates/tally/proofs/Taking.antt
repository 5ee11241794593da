-- What taking values into a tally asks, case by case, over plain variables. Assumes nothing.
use Prim.Native.Nat.{ℕ, ◌+◌, ◌≤◌, ◌<◌}
use mathlib.Core.Bool.{Bool, true, false, cond, not}
use mathlib.Core.List.{List}
use mathlib.Core.Path.{◌≡◌, refl, sym}
use native.Mathlib.Omega.{arith}
use borrow.Author.Tests.{ne_eqb}
use lib.Dec.{leb, ltb}
use lib.IntN.{ℤ, pos, negsuc, ◌+ℤ◌}
use lib.ListN.{length, take, get_or}
use lib.Signed.{le_z, lt_z}
use mir.Syntax.{w64}
use mir.Val.{SFits}
use Rattle.std.proofs.lemmas.Bool.{leb-true, leb-false, lt-ltb, le-ltb}
use Rattle.std.proofs.lemmas.List.{length-take-le, length-map, take-map}
use Rattle.std.specs.Int.{int_min, int_max}
use Rattle.circuit.specs.Rules as rules
use Rattle.circuit.specs.Value as circuit
use Rattle.circuit.specs.WellFormed.{all_well_formed}
use Rattle.value.specs.Meaning.{meaning, meanings}
use Rattle.value.specs.declared.Value.{Value}
use Rattle.value.proofs.Parents.{nothing, meaning_at, meanings_more, at-well_formed, front-well_formed}
use Rattle.value.proofs.Signed.{back, sum_fits, read}
use Rattle.tally.specs.Tally.{Room, empty, counted, taken, taken_all}
use Rattle.tally.specs.declared.Tally.{Tally}
use Rattle.tally.proofs.Tallies.{taken_all_snoc, room}

-- ---- numbers that are compared

less_not : (a b : ℤ) → lt_z b a ≡ not (le_z a b)
less_not (pos a) (pos b) = go a b (leb a b) refl
  where
    go : (a b : ℕ) (t : Bool) → leb a b ≡ t → ltb b a ≡ not t
    go a b true e = le-ltb b a (leb-true a b e)
    go a b false e = lt-ltb b a (leb-false a b e)
less_not (pos a) (negsuc b) = refl
less_not (negsuc a) (pos b) = refl
less_not (negsuc a) (negsuc b) = go a b (leb b a) refl
  where
    go : (a b : ℕ) (t : Bool) → leb b a ≡ t → ltb a b ≡ not t
    go a b true e = le-ltb a b (leb-true b a e)
    go a b false e = lt-ltb a b (leb-false b a e)

turned : (t : Bool) (a b : ℤ) → cond (not t) b a ≡ cond t a b
turned true a b = refl
turned false a b = refl

pub lesser_is : (a b : ℤ) → int_min a b ≡ rules.lesser a b
lesser_is a b = rw less_not (turned (le_z a b) a b)

pub greater_is : (a b : ℤ) → int_max a b ≡ rules.greater a b
greater_is a b = rw less_not (turned (le_z a b) b a)

-- ---- a tally with one more number

module _ (t : Tally) (z : ℤ) (room : Room t) (e : circuit.in_range z ≡ true) (ft : SFits w64 t.total) (fz : SFits w64 z) where
  pub next_fits : SFits w64 (read t.total +ℤ read z)
  next_fits = rw (back t.total ft, back z fz) (sum_fits t.total z room.total e)

module _ (t : Tally) (z : ℤ) (some : t.count ≡ 0 → ⊥) (ft : SFits w64 t.total) (fl : SFits w64 t.least) (fg : SFits w64 t.greatest) (fz : SFits w64 z)
    (fs : SFits w64 (read t.total +ℤ read z)) where
  -- with the smaller low and the larger high of the last number and z
  pub counted_next : (low high : ℤ) → SFits w64 low → SFits w64 high → low ≡ int_min (read t.least) (read z) → high ≡ int_max (read t.greatest) (read z)
      → ◌≡◌ {A = Tally} (record { out = t.out; count = t.count + 1; total = read (read t.total +ℤ read z); least = read low; greatest = read high }) (counted t z)
  counted_next low high flow fhigh el eh =
      rw (
        back (read t.total +ℤ read z) fs,
        back low flow,
        back high fhigh,
        el,
        eh,
        lesser_is,
        greater_is,
        back t.total ft,
        back t.least fl,
        back t.greatest fg,
        back z fz,
        ne_eqb t.count 0 some,
      )

-- ---- the values, one after the other

module _ (vs : List Value) (i : ℕ) (h : i < length vs) (formed : all_well_formed (meanings vs) ≡ true) where
  pub turn_room : length vs ≤ rules.max_parents → Room (taken_all empty (meanings (take i vs)))
  turn_room l =
      room (meanings (take i vs)) (rw (length-map, length-take-le i vs (omega arith)) (omega arith))
      (rw (sym (take-map meaning i vs)) (front-well_formed (meanings vs) i formed))

  pub turn_formed : circuit.well_formed (meaning (get_or vs i nothing)) ≡ true
  turn_formed =
      rw (sym (meaning_at vs i)) (at-well_formed (meanings vs) i circuit.null (rw length-map h) formed)

  pub turn_next : taken (taken_all empty (meanings (take i vs))) (meaning (get_or vs i nothing)) ≡ taken_all empty (meanings (take (i + 1) vs))
  turn_next = rw (meanings_more vs i h) (sym (taken_all_snoc (meanings (take i vs)) empty (meaning (get_or vs i nothing))))
