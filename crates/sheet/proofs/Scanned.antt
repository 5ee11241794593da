-- The scan of the items as the check's loop makes it: one more item, a stop, and what the scratch arrays hold. Assumes nothing.
use mathlib.Core.Path.{◌≡◌, refl, sym, ap, ◌∙◌}
use mathlib.Core.List.{List, [], ◌∷◌, ◌++◌, map, map-append}
use Prim.Native.Nat.{ℕ, zero, suc, ◌+◌, ◌-◌, ◌<◌}
use native.Mathlib.Omega.{arith}
use native.Mathlib.Numerals.{add-one}
use native.Mathlib.Nat.{zero-add, suc-add}
use lib.ListN.{length, take, drop, set, length-map}
use lib.Seq.{take_at}
use Rattle.std.specs.Prelude.{Result, Ok, Err}
use Rattle.cause.specs.Cause.{number_of, number_in, fault_number, fault_offset}
use Rattle.cause.specs.declared.Cause.{Cause}
use Rattle.cause.specs.declared.Fault.{Fault}
use Rattle.cause.proofs.Numbers.{number_some}
use Rattle.field.specs.Field.{cut_at}
use Rattle.field.specs.declared.Field.{Field}
use Rattle.circuit.specs.Calls.{first_cause}
use Rattle.layout.specs.Content.{item_in}
use Rattle.layout.specs.Layout.{LayoutItem}
use Rattle.layout.specs.Read.{Placed, placed, item_level, item_tests, last_tests, judge, going, stopped, scan, scan_last, conclude, go_on, place_item, place_field}
use Rattle.layout.specs.Opened.{offsets_of, levels_of}
use Rattle.field.specs.Bytes.{over}
use Rattle.sheet.specs.declared.Opened.{Opened}
use Rattle.sheet.specs.Check.{Checked, refused, checked_of, checked_meaning, Judged, sound, at_fault, judged_of, judged_item, judged_meaning, cause_at, Whole, NotWhole, latest, sound_items}
use Rattle.sheet.proofs.Fields.{content_is, judge_whole}
use Rattle.sheet.proofs.Lists.{over_more}
use Rattle.layout.proofs.Scan.{scan_length, scan_stopped}

-- what an answer says of the lowest cause
fault_is : (v level number : ℕ) → at_fault number ≡ judged_of v level → (k : ℕ) × (v ≡ suc k) × (number ≡ suc k)
fault_is zero level number e = let z : ◌≡◌ {A = ℕ} 0 1 = cc in absurd (omega arith)
fault_is (suc v) level number e = (v, refl, cc)

sound_is : (v level found : ℕ) → sound found ≡ judged_of v level → (v ≡ 0) × (found ≡ level)
sound_is zero level found e = (refl, cc)
sound_is (suc v) level found e = let z : ◌≡◌ {A = ℕ} 0 1 = cc in absurd (omega arith)

-- the same of what the code gives, with the cause at the field's offset
judged_fault : (r : Result ℕ Cause) (at : ℕ) (f : Fault) (j : Judged) → judged_meaning r ≡ j → ◌≡◌ {A = Result ℕ Fault} (Err f) (cause_at at r)
    → (f.offset ≡ at) × (at_fault (number_of f.cause) ≡ j)
judged_fault (Ok level) at f j e h = let z : ◌≡◌ {A = ℕ} 0 1 = cc in absurd (omega arith)
judged_fault (Err c) at f j e h = (ap fault_offset h, ap (λ r. at_fault (fault_number r)) h ∙ e)

pub judged_level : (r : Result ℕ Cause) (at level : ℕ) (j : Judged) → judged_meaning r ≡ j → ◌≡◌ {A = Result ℕ Fault} (Ok level) (cause_at at r) → sound level ≡ j
judged_level (Ok level') at level j e h = let l : level ≡ level' = cc in ap sound l ∙ e
judged_level (Err c) at level j e h = let z : ◌≡◌ {A = ℕ} 0 1 = cc in absurd (omega arith)

-- the last field's cause is the answer for the whole
end_fault : (s : List ℕ) (at edition k o : ℕ) (ps : List Placed) → judge last_tests s (cut_at s at) ≡ k → (k ≡ 0 → ⊥) → o ≡ at
    → refused k o ≡ checked_of (conclude edition (scan_last s (going at ps)))
end_fault s at edition zero o ps e h z = absurd (h refl)
end_fault s at edition (suc k) o ps e h z = rw (z, e) refl

pub last_fault : {s : List ℕ} {at : ℕ} (edition : ℕ) (ps : List Placed) {f : Field} (w : Whole s at f) {A : Type 0} (r : Result A Cause) {g : Fault}
    → number_in r ≡ first_cause (last_tests f.tag (take (f.next - f.start) (drop f.start s))) → ◌≡◌ {A = Result A Fault} (Err g) (cause_at at r)
    → refused (number_of g.cause) g.offset ≡ checked_of (conclude edition (scan_last s (going at ps)))
last_fault edition ps w (Ok a) n h = let z : ◌≡◌ {A = ℕ} 0 1 = cc in absurd (omega arith)
last_fault {s} {at} edition ps w {A} (Err c) {g} n h =
    let k : number_of g.cause ≡ number_of c = ap fault_number h in
    end_fault s at edition (number_of g.cause) g.offset ps (judge_whole w last_tests ∙ sym n ∙ sym k) (number_some g.cause) (ap fault_offset h)

module _ (s : List ℕ) (edition : ℕ) where
  -- One more item.
  module _ (i at : ℕ) (ps : List Placed) (e : scan s edition i ≡ going at ps) where
    scan_more : scan s edition (suc i) ≡ go_on (judge (item_tests edition ps) s (cut_at s at)) at (place_field s at ps (cut_at s at))
    unfolding scan
    scan_more = rw (scan, e)

    -- it is not there whole
    pub scan_missing : {f : Fault} → NotWhole s at f → scan s edition (suc i) ≡ stopped (number_of f.cause) at
    scan_missing w =
        let j = w.judged (item_tests edition ps) in
        scan_more ∙ rw j (ap (λ k. stopped k at) (sym w.number_is))

    module _ {f : Field} (w : Whole s at f) where
      abbrev content : List ℕ
      content = take (f.next - f.start) (drop f.start s)

      abbrev it : LayoutItem
      it = item_in f.tag content

      cut_item : scan s edition (suc i) ≡ go_on (first_cause (item_tests edition ps f.tag content)) at (going f.next (place_item at ps it))
      cut_item = let c = w.cut_is in scan_more ∙ rw (c, content_is w) refl

      scan_fault : (number : ℕ) → at_fault number ≡ judged_item edition ps f.tag content → scan s edition (suc i) ≡ stopped number at
      scan_fault number j =
          let v = fault_is (first_cause (item_tests edition ps f.tag content)) (item_level ps it) number j in
          cut_item ∙ ap (λ k. go_on k at (going f.next (place_item at ps it))) v.1 ∙ ap (λ k. stopped k at) (sym v.2)

      pub scan_judged : (r : Result ℕ Cause) {g : Fault} → judged_meaning r ≡ judged_item edition ps f.tag content
          → ◌≡◌ {A = Result ℕ Fault} (Err g) (cause_at at r) → (g.offset ≡ at) × (scan s edition (suc i) ≡ stopped (number_of g.cause) at)
      scan_judged r {g} j h = let q = judged_fault r at g _ j h in (q.0, scan_fault (number_of g.cause) q.1)

      scan_sound : (level : ℕ) → sound level ≡ judged_item edition ps f.tag content → scan s edition (suc i) ≡ going f.next (ps ++ (placed at it level ∷ []))
      scan_sound level j =
          let v = sound_is (first_cause (item_tests edition ps f.tag content)) (item_level ps it) level j in
          cut_item
          ∙ ap (λ k. go_on k at (going f.next (place_item at ps it))) v.0
          ∙ ap (λ l. going f.next (ps ++ (placed at it l ∷ []))) (sym v.1)

  -- The items so far, where the scan goes on and where it stopped.
  pub sound_more : (i at : ℕ) (ps : List Placed) → scan s edition (suc i) ≡ going at ps → sound_items s edition (suc i) ≡ ps
  unfolding sound_items
  sound_more i at ps e = rw (sound_items, e)

  sound_kept : (i number at : ℕ) → scan s edition (suc i) ≡ stopped number at → sound_items s edition (suc i) ≡ sound_items s edition i
  unfolding sound_items
  sound_kept i number at e = ap (λ r. latest r (sound_items s edition i)) e

  sound_later : (i d number at : ℕ) → scan s edition (suc i) ≡ stopped number at → sound_items s edition (d + suc i) ≡ sound_items s edition i
  sound_later i zero number at e = rw (zero-add (suc i)) (sound_kept i number at e)
  sound_later i (suc d) number at e =
      let q : scan s edition (suc d + suc i) ≡ stopped number at = scan_stopped s edition (suc i) (suc d) number at e in
      let n = suc-add d (suc i) in
      rw n (sound_kept (d + suc i) number at (rw n at q) ∙ sound_later i d number at e)

  -- a stop at item i is the answer for all
  module _ (i count number at : ℕ) (h : i < count) (e : scan s edition (suc i) ≡ stopped number at) where
    later : count ≡ (count - suc i) + suc i
    later = omega arith

    pub stop_answer : refused number at ≡ checked_of (conclude edition (scan_last s (scan s edition count)))
    stop_answer =
        let q : scan s edition count ≡ stopped number at = ap (scan s edition) later ∙ scan_stopped s edition (suc i) (count - suc i) number at e in
        rw q

    pub stop_items : sound_items s edition count ≡ sound_items s edition i
    stop_items = ap (sound_items s edition) later ∙ sound_later i (count - suc i) number at e

-- What the scratch arrays hold.
pub levels_at : (ps : List Placed) (i : ℕ) (levels levels₀ : List ℕ) → levels ≡ over (levels_of ps) levels₀ → length ps ≡ i → take i levels ≡ levels_of ps
levels_at ps i levels levels₀ e n = ap (take i) e ∙ take_at (levels_of ps) _ i (length-map ps (λ p. p.level) ∙ n)

pub array_more : (f : Placed → ℕ) (ps : List Placed) (p : Placed) (i : ℕ) (array array₀ : List ℕ) → array ≡ over (map f ps) array₀ → length ps ≡ i
    → i < length array₀ → set array i (f p) ≡ over (map f (ps ++ (p ∷ []))) array₀
array_more f ps p i array array₀ e n h =
    rw (e, map-append f ps (p ∷ [])) (over_more (map f ps) array₀ i (f p) (length-map ps f ∙ n) h)

-- A turn of the loop, and its ends.
module _ (s : List ℕ) (edition count i at : ℕ) (offsets offsets₀ levels levels₀ : List ℕ)
    (e : scan s edition i ≡ going at (sound_items s edition i))
    (o : offsets ≡ over (offsets_of (sound_items s edition i)) offsets₀)
    (l : levels ≡ over (levels_of (sound_items s edition i)) levels₀) where
  pub stop : {r : Result Opened Fault} {f : Fault} → r ≡ Err f → f.offset ≡ at → i < count → scan s edition (suc i) ≡ stopped (number_of f.cause) at
      → (checked_meaning r ≡ checked_of (conclude edition (scan_last s (scan s edition count))))
      × ((offsets ≡ over (offsets_of (sound_items s edition count)) offsets₀) × (levels ≡ over (levels_of (sound_items s edition count)) levels₀))
  stop {r} {f} is place h x =
      let q = sym (stop_items s edition i count (number_of f.cause) at h x) in (
        ap checked_meaning is
            ∙ ap (refused (number_of f.cause)) place
            ∙ stop_answer s edition i count (number_of f.cause) at h x,
        (
          o ∙ ap (λ ps. over (offsets_of ps) offsets₀) q,
          l ∙ ap (λ ps. over (levels_of ps) levels₀) q,
        ),
      )

  pub turn : {f : Field} (w : Whole s at f) (level : ℕ) → i < length offsets₀ → i < length levels₀
      → sound level ≡ judged_item edition (sound_items s edition i) f.tag (take (f.next - f.start) (drop f.start s))
      → (scan s edition (i + 1) ≡ going f.next (sound_items s edition (i + 1)))
      × (set offsets i at ≡ over (offsets_of (sound_items s edition (i + 1))) offsets₀)
      × (set levels i level ≡ over (levels_of (sound_items s edition (i + 1))) levels₀)
  turn {f} w level ho hl j =
      let ps : List Placed = sound_items s edition i in
      let p : Placed = placed at (item_in f.tag (take (f.next - f.start) (drop f.start s))) level in
      let n = scan_length s edition i at ps e in
      let x = scan_sound s edition i at ps e w level j in
      let q = sound_more s edition i f.next (ps ++ (p ∷ [])) x in
      rw (add-one i, q) (
        x,
        array_more (λ r. r.offset) ps p i offsets offsets₀ o n ho,
        array_more (λ r. r.level) ps p i levels levels₀ l n hl,
      )

  pub finish : i ≡ count → (r : Checked) → ((ps : List Placed) → length ps ≡ count → r ≡ checked_of (conclude edition (scan_last s (going at ps))))
      → (r ≡ checked_of (conclude edition (scan_last s (scan s edition count))))
      × ((offsets ≡ over (offsets_of (sound_items s edition count)) offsets₀) × (levels ≡ over (levels_of (sound_items s edition count)) levels₀))
  finish k r f =
      let n = scan_length s edition i at (sound_items s edition i) e in
      let x : scan s edition count ≡ going at (sound_items s edition i) = ap (scan s edition) (sym k) ∙ e in (
        f (sound_items s edition i) (n ∙ k) ∙ sym (ap (λ v. checked_of (conclude edition (scan_last s v))) x),
        (
          o ∙ ap (λ m. over (offsets_of (sound_items s edition m)) offsets₀) k,
          l ∙ ap (λ m. over (levels_of (sound_items s edition m)) levels₀) k,
        ),
      )
