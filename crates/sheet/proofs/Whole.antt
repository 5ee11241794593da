-- The check of a whole sheet, from its first field and its items. Assumes nothing.
use mathlib.Core.Path.{◌≡◌, refl, ap, ap₂, ◌∙◌}
use mathlib.Core.List.{List}
use Prim.Native.Nat.{ℕ, zero, suc, ◌-◌, ◌≤◌}
use lib.ListN.{take, drop}
use Rattle.std.specs.Prelude.{Result, Err}
use Rattle.cause.specs.Cause.{number_of}
use Rattle.cause.specs.declared.Fault.{Fault}
use Rattle.cause.proofs.Numbers.{number_some}
use Rattle.field.specs.Field.{cut_at, header_length}
use Rattle.field.specs.declared.Field.{Field}
use Rattle.layout.specs.Layout.{head_length}
use Rattle.layout.specs.Content.{content_at, edition_in, count_in}
use Rattle.layout.specs.Read.{head_content, head_tests, judge, scan, scan_last, scan_sheet, conclude, read_sheet}
use Rattle.layout.specs.Opened.{offsets_of, levels_of}
use Rattle.layout.specs.Room.{room_for}
use Rattle.field.specs.Bytes.{over}
use Rattle.sheet.specs.declared.Opened.{Opened}
use Rattle.sheet.specs.Check.{Checked, refused, checked_of, checked_meaning, Whole, sound_items, read_so_far}
use Rattle.sheet.proofs.Fields.{content_is}
use Rattle.layout.proofs.Scan.{head_read}
use Rattle.layout.proofs.Rooms as rooms

-- what the check answers and leaves in its arrays
abbrev pub Checks : List ℕ → Checked → (offsets offsets₀ levels levels₀ : List ℕ) → Type 0
Checks s r offsets offsets₀ levels levels₀ =
    (r ≡ checked_of (read_sheet s))
    × ((offsets ≡ over (offsets_of (read_so_far s)) offsets₀) × (levels ≡ over (levels_of (read_so_far s)) levels₀))

-- the first field is at fault
head_by : (s : List ℕ) (k at : ℕ) (offsets levels : List ℕ) → (k ≡ 0 → ⊥) → at ≡ 0 → judge head_tests s (cut_at s 0) ≡ k → Checks s (refused k at) offsets offsets levels levels
unfolding read_sheet scan_sheet read_so_far
head_by s zero at offsets levels n z e = absurd (n refl)
head_by s (suc k) at offsets levels n z e = rw (z, e) (refl, (refl, refl))

pub head_refused : (s : List ℕ) {r : Result Opened Fault} {f : Fault} (offsets levels : List ℕ) → r ≡ Err f → f.offset ≡ 0
    → judge head_tests s (cut_at s 0) ≡ number_of f.cause → Checks s (checked_meaning r) offsets offsets levels levels
head_refused s {r} {f} offsets levels is place e =
    rw is (head_by s (number_of f.cause) f.offset offsets levels (number_some f.cause) place e)

-- it is not
module _ {s : List ℕ} {f : Field} (w : Whole s 0 f) (e : judge head_tests s (cut_at s 0) ≡ 0) where
  head_content_is : take (f.next - f.start) (drop f.start s) ≡ head_content s
  head_content_is =
      let h = (head_read s e).head in
      let c = w.cut_is in
      let start : f.start ≡ header_length = cc in
      let len : f.len ≡ head_length = cc in
      content_is w ∙ ap₂ (content_at s) start len

  module _ (edition count : ℕ) (e₁ : edition ≡ edition_in (take (f.next - f.start) (drop f.start s)))
      (e₂ : count ≡ count_in (take (f.next - f.start) (drop f.start s))) where
    edition_found : edition ≡ edition_in (head_content s)
    edition_found = e₁ ∙ ap edition_in head_content_is

    count_found : count ≡ count_in (head_content s)
    count_found = e₂ ∙ ap count_in head_content_is

    pub count_room : count ≤ room_for s
    count_room = rw count_found (rooms.head_room s e)

    pub head_accepted : (r : Checked) (offsets offsets₀ levels levels₀ : List ℕ) → r ≡ checked_of (conclude edition (scan_last s (scan s edition count)))
        → offsets ≡ over (offsets_of (sound_items s edition count)) offsets₀ → levels ≡ over (levels_of (sound_items s edition count)) levels₀
        → Checks s r offsets offsets₀ levels levels₀
    unfolding read_sheet scan_sheet read_so_far
    head_accepted r offsets offsets₀ levels levels₀ a b c =
        let m = edition_found in
        let n = count_found in
        rw e (rw m at rw n at a, (rw m at rw n at b, rw m at rw n at c))
