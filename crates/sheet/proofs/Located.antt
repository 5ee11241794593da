-- What a caller of the check knows: the array locates the items; what an answer says of the sheet. Assumes nothing.
use mathlib.Core.Path.{◌≡◌, refl, sym, ap, ◌∙◌}
use mathlib.Core.List.{List, map}
use Prim.Native.Nat.{ℕ, zero, suc}
use native.Mathlib.Omega.{arith}
use lib.ListN.{length, take, length-map}
use lib.Seq.{take_at}
use Rattle.circuit.specs.Sheet.{size}
use Rattle.layout.specs.Layout.{machine_item}
use Rattle.layout.specs.Read.{Placed, going, scan, head_content, SheetRead, opens, refused, read_sheet}
use Rattle.layout.specs.Content.{count_in}
use Rattle.layout.specs.Opened.{placed_from, items_of, sheet_from, sheet_of, offsets_of, Located}
use Rattle.field.specs.Bytes.{over}
use Rattle.sheet.specs.Check as check
use Rattle.sheet.specs.Check.{checked_of, sound_items, read_so_far}
use Rattle.layout.proofs.Scan.{HeadRead, head_judged, opened}
use Rattle.sheet.proofs.Scanned.{sound_more}

sound_all : (s : List ℕ) (edition k at : ℕ) (ps : List Placed) → scan s edition k ≡ going at ps → sound_items s edition k ≡ ps
unfolding scan sound_items
sound_all s edition zero at ps e = cc
sound_all s edition (suc k) at ps e = sound_more s edition k at ps e

-- of a sheet that opens the check reads all items
pub read_all : (s : List ℕ) (edition : ℕ) (ps : List Placed) → read_sheet s ≡ opens edition ps → read_so_far s ≡ ps
unfolding read_so_far
read_all s edition ps e =
    let o = opened s edition ps e in
    let d = o.edition_is in
    let h : HeadRead s = record { head = o.head; edition_fits = rw d o.edition_fits; count_fits = rw d o.count_fits } in
    rw (head_judged s h, d) (sound_all s edition (count_in (head_content s)) o.at ps o.scanned)

pub located : (s offsets offsets₀ : List ℕ) → offsets ≡ over (offsets_of (read_so_far s)) offsets₀ → Located s offsets
unfolding Located items_of
located s offsets offsets₀ e = go (read_sheet s) refl
  where
    go : (r : SheetRead) → read_sheet s ≡ r → take (length (placed_from r)) offsets ≡ offsets_of (placed_from r)
    go (opens edition ps) q =
        let a = read_all s edition ps q in
        ap (take (length ps)) (e ∙ ap (λ l. over (offsets_of l) offsets₀) a) ∙ take_at (offsets_of ps) _ (length ps) (length-map ps (λ p. p.offset))
    go (refused k at) q = refl

-- an answer that the sheet opens
pub record Opening (s : List ℕ) (edition count : ℕ) : Type 0 where
  pub reads : read_sheet s ≡ opens edition (items_of s)
  pub count_is : count ≡ size (sheet_of s)
  pub items_count : count ≡ length (items_of s)

pub opening : (s : List ℕ) (edition count : ℕ) → check.opens edition count ≡ checked_of (read_sheet s) → Opening s edition count
unfolding items_of sheet_of
opening s edition count e = go (read_sheet s) refl e
  where
    go : (r : SheetRead) → read_sheet s ≡ r → check.opens edition count ≡ checked_of r → Opening s edition count
    go (refused k at) q x = let z : ◌≡◌ {A = ℕ} 0 1 = cc in absurd (omega arith)
    go (opens ed ps) q x =
        let a : ed ≡ edition = cc in
        let n : count ≡ length ps = cc in
        let i : items_of s ≡ ps = ap placed_from q in
        let m : count ≡ length (items_of s) = n ∙ ap length (sym i) in
        record {
          reads = q ∙ ap (λ l. opens ed l) (sym i) ∙ ap (λ d. opens d (items_of s)) a;
          count_is = n ∙ sym (ap (λ r. size (sheet_from r)) q ∙ length-map (map (λ p. p.item) ps) machine_item ∙ length-map ps (λ p. p.item));
          items_count = m;
        }

-- an answer that it is refused
pub refusal : (s : List ℕ) (number offset : ℕ) → check.refused number offset ≡ checked_of (read_sheet s) → read_sheet s ≡ refused number offset
refusal s number offset e = go (read_sheet s) refl e
  where
    go : (r : SheetRead) → read_sheet s ≡ r → check.refused number offset ≡ checked_of r → read_sheet s ≡ refused number offset
    go (opens ed ps) q x = let z : ◌≡◌ {A = ℕ} 0 1 = cc in absurd (omega arith)
    go (refused k at) q x = cc
