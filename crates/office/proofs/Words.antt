-- The words of the refusals on the sheet's bytes. Assumes that the sheet has no fault.
use Prim.Native.Nat.{ℕ, zero, suc, ◌*◌, ◌<◌}
use native.Mathlib.Omega.{arith}
use mathlib.Core.Path.{◌≡◌, refl, sym, ap, ◌∙◌, subst}
use mathlib.Core.Bool.{Bool, true, false, cond}
use mathlib.Core.List.{List}
use lib.Dec.{eqb}
use lib.ListN.{length, get_or}
use borrow.Author.Tests.{eqb-true, eq-eqb}
use Rattle.field.specs.Field.{len_at}
use Rattle.field.proofs.Cutting.{field_iff}
use Rattle.circuit.specs.Sheet.{Ordered, size, item_at, is_figure}
use Rattle.layout.specs.Layout.{entry_field, figure_field, head_tag, machine_item}
use Rattle.layout.specs.Read.{Placed, scan, head_next, head_content, opens, read_sheet}
use Rattle.layout.specs.Content.{count_in, rule_in, keep_in, spread_in, parent_count_in, parents_in, name_in, item_in}
use Rattle.layout.specs.Opened.{sheet_read, sheet_of, items_of, placed_from}
use Rattle.layout.specs.Index.{index_width, index_bytes, le32_at}
use Rattle.layout.specs.Causes.{item, field_offset, item_count, tag_of, Faultless}
use Rattle.layout.proofs.Scan.{offset_from, offset_placed, scan_prefix, scan_item_lem, opened, opened_length, machine_item_lem, opened_ordered}
use Rattle.layout.proofs.Causes.{opens_faultless, count_same}
use Rattle.layout.proofs.IndexLaws.{index_length, opened_entry}
use Rattle.office.specs.Demand1Words.{SheetWords}
use Rattle.office.proofs.Agreeing.{sized}
use Rattle.office.proofs.Refusals.{opens_sheet}

figure_tag_lem : (tag : ℕ) (content : List ℕ) → is_figure (machine_item (item_in tag content)) ≡ eqb tag 3
unfolding item_in machine_item
figure_tag_lem tag content = go (eqb tag 3)
  where
    go : (b : Bool)
        → is_figure (machine_item (cond b (figure_field (rule_in content) (keep_in content) (spread_in content) (parents_in content (parent_count_in content)) (name_in content)) (entry_field content))) ≡ b
    go true = refl
    go false = refl

items_of_lem : (s : List ℕ) (edition : ℕ) (ps : List Placed) → read_sheet s ≡ opens edition ps → items_of s ≡ ps
unfolding items_of
items_of_lem s edition ps e = ap placed_from e

module _ (s : List ℕ) (edition : ℕ) (ps : List Placed) (reads : read_sheet s ≡ opens edition ps) where
  -- item j stands after the fields before it
  item_offset : (j : ℕ) → j < length ps → offset_from (opened s edition ps reads).at ps j ≡ field_offset s (suc j)
  unfolding scan field_offset
  item_offset zero h =
      let o = opened s edition ps reads in
      let q = scan_prefix s edition (count_in (head_content s)) o.at ps o.scanned 0 (omega arith) in
      let a : head_next ≡ offset_from o.at ps 0 = cc in
      let f = (field_iff s 0 head_tag 3 4 head_next).0 o.head in
      omega (arith, f.len_is)
  item_offset (suc j) h =
      let o = opened s edition ps reads in
      let a = scan_item_lem s edition (count_in (head_content s)) o.at ps o.scanned j (omega (arith, opened_length s edition ps reads)) in
      let r = a.read in
      let f = (field_iff s (offset_from o.at ps j) r.tag r.start r.len (offset_from o.at ps (suc j))).0 r.whole in
      let i = item_offset j (omega arith) in
      let l : len_at s (offset_from o.at ps j) ≡ len_at s (field_offset s (suc j)) = ap (len_at s) i in
      omega (arith, f.len_is, f.start_is, f.next_is)

  item_figure : (j : ℕ) → j < length ps → is_figure (item_at (sheet_read edition ps) j) ≡ eqb (tag_of s (item j)) 3
  item_figure j h =
      let o = opened s edition ps reads in
      let a = scan_item_lem s edition (count_in (head_content s)) o.at ps o.scanned j (omega (arith, opened_length s edition ps reads)) in
      let r = a.read in
      let f = (field_iff s (offset_from o.at ps j) r.tag r.start r.len (offset_from o.at ps (suc j))).0 r.whole in
      let t : r.tag ≡ tag_of s (item j) = f.tag_is ∙ ap (λ n. get_or s n 0) (item_offset j h) in
      ap is_figure (machine_item_lem edition ps j ∙ ap machine_item r.item_is) ∙ figure_tag_lem r.tag _ ∙ ap (λ n. eqb n 3) t

  counted : length ps ≡ item_count s
  counted = opened_length s edition ps reads ∙ count_same s

  words : SheetWords s
  words =
      record {
        ordered = subst Ordered (sym is) (opened_ordered s edition ps reads);
        count_is = ap size is ∙ sized s edition ps reads ∙ counted;
        figure_is = λ i h. (
          λ e. eqb-true (tag_of s (item i)) 3 (sym (figure i h) ∙ e),
          λ e. figure i h ∙ eq-eqb (tag_of s (item i)) 3 e,
        );
        index_long = ap (λ qs. length (index_bytes qs)) (items_of_lem s edition ps reads) ∙ index_length ps ∙ ap (λ n. index_width * n) counted;
        offset_is = λ i h.
            ap (λ qs. le32_at (index_bytes qs) (index_width * i)) (items_of_lem s edition ps reads)
            ∙ opened_entry s edition ps reads i (omega (arith, counted))
            ∙ sym (offset_placed (opened s edition ps reads).at ps i (omega (arith, counted)))
            ∙ item_offset i (omega (arith, counted));
      }
    where
      is : sheet_of s ≡ sheet_read edition ps
      is = opens_sheet s edition ps reads

      figure : (i : ℕ) → i < item_count s → is_figure (item_at (sheet_of s) i) ≡ eqb (tag_of s (item i)) 3
      figure i h = ap (λ S. is_figure (item_at S i)) is ∙ item_figure i (omega (arith, counted))

pub sheet_words : (s : List ℕ) → Faultless s → SheetWords s
sheet_words s f = go ((opens_faultless s).1 f)
  where
    go : (edition : ℕ) × (ps : List Placed) × (read_sheet s ≡ opens edition ps) → SheetWords s
    go (edition, ps, e) = words s edition ps e
