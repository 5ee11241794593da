-- The openings accept exactly the sheets that fit, and write what is said of them; and a table without stored figures means the
-- solution. Assumes nothing.
use Prim.Native.Nat.{ℕ, zero, suc, ◌*◌, ◌<◌}
use native.Mathlib.Omega.{arith}
use mathlib.Core.Path.{◌≡◌, refl, sym, ap, ◌∙◌, subst}
use mathlib.Core.Bool.{Bool, true, false}
use mathlib.Core.List.{List, [], ◌∷◌}
use mathlib.Core.Logic.{inl, inr, ◌↔◌}
use mathlib.Core.Option.{none}
use lib.Dec.{eqb}
use lib.ListN.{length, get_or, take, length-map, get_or-map}
use Rattle.word.specs.Word.{le_bytes}
use Rattle.circuit.specs.Value.{Value}
use Rattle.circuit.specs.Circuit.{Circuit, Listed, LeadsTo, direct, further, IsSolution}
use Rattle.circuit.specs.Sheet.{Sheet, Item, entry, figure, Ordered, Entries, item_at, size, is_figure, parents_of, parents, circuit_of}
use Rattle.circuit.specs.Table.{unk, held, is_stored, bare_cell, open_bare, open_full, opened}
use Rattle.circuit.specs.Owed.{owed}
use Rattle.circuit.specs.Call.{Opening, bare, full}
use Rattle.circuit.specs.Words.{Bare}
use Rattle.circuit.proofs.Solution.{solution, solution_solves, solution_unique, sheet_acyclic, below_listed, figure_below}
use Rattle.circuit.proofs.Owed.{Child, owed_child, owed_finds, owed_leads}
use Rattle.circuit.proofs.Reading.{bare_look}
use Rattle.circuit.proofs.Sound.{Sound}
use Rattle.field.specs.Field.{Bytes}
use Rattle.field.proofs.Bytes.{Bytes-append}
use Rattle.layout.specs.Layout.{Layout, LayoutItem, entry_field, figure_field, machine_item, machine_sheet}
use Rattle.layout.specs.Read.{Placed, opens, read_sheet, layout_of}
use Rattle.layout.specs.Write.{concat, within, write_sheet}
use Rattle.layout.specs.Places.{places}
use Rattle.layout.specs.Opened.{sheet_of, sheet_from, placed_from}
use Rattle.layout.specs.Index.{index_width, bytes32, index_bytes}
use Rattle.layout.proofs.Tests.{Tells, holds, fails, tells_eq}
use Rattle.layout.proofs.Exactly.{written_opens, places_layout, places_offset, opened_written, layout_unique}
use Rattle.layout.proofs.Causes.{opens_faultless}
use Rattle.layout.proofs.Scan.{opened_ordered}
use Rattle.layout.proofs.IndexLaws.{index_length, opened_entry}
use Rattle.table.specs.Rows.{row}
use Rattle.table.specs.Record.{width, owed_place, kind_in, mark_in, number_in, owed_in, owed_code, cell_coded, encode_cell, decode_cell}
use Rattle.table.specs.Bytes.{encode_table, decode_table, Holdable}
use Rattle.table.proofs.Records.{kind_by}
use Rattle.table.proofs.Tables.{length-encode_table, encoded_cell, encoded_owed, holdable_formed}
use Rattle.office.specs.Office.{Office, keeping, accepted, open_on, run_on}
use Rattle.office.specs.Demand1Words.{opening, LengthsWrong, AcceptedLent}
use Rattle.office.specs.Demand2Words.{FollowsLayout, opened_record, Writes, NoneStored, entries_in, OnlySolution, Gives}
use Rattle.office.proofs.Agreeing.{Opens, opening_opens}
use Rattle.office.proofs.Accepted.{office_accepted}
use Rattle.office.proofs.Lent.{ordered, holdable as lent_holdable}
use Rattle.office.proofs.Giving.{gives_right}
use Rattle.office.proofs.Refusals.{turned_back, opens_sheet}

-- ---- the openings

stable : (a b : ℕ) → ¬ (¬ (a ≡ b)) → a ≡ b
stable a b n = go (tells_eq a b)
  where
    go : {t : Bool} → Tells (a ≡ b) t → a ≡ b
    go (holds e) = e
    go (fails f) = absurd (n f)

opening_fits : (how : Opening) (s : List ℕ) (kept : Office) → Bytes s → (open_on how s kept).number ≡ 0 → FollowsLayout s kept
opening_fits how s kept b z =
    record {
      layout = l;
      limits = w.0;
      written = w.1;
      index_long = stable (length kept.index) (index_width * length l.items) (λ n. right (inl n));
      table_long = stable (length kept.table) (width * length l.items) (λ n. right (inr n));
    }
  where
    o : Opens s kept how
    o = opening_opens s kept how z

    l : Layout
    l = layout_of o.edition o.placed

    w : (within l ≡ true) × (s ≡ write_sheet l)
    w = opened_written s o.edition o.placed b o.reads

    counted : size (sheet_of s) ≡ length l.items
    counted = ap size (opens_sheet s o.edition o.placed o.reads) ∙ length-map l.items machine_item

    right : ¬ LengthsWrong (length l.items) kept
    right = subst (λ n. ¬ LengthsWrong n kept) counted ((turned_back (opening how) s kept).accepted.0 z).lent.0

module _ (s : List ℕ) (kept : Office) (f : FollowsLayout s kept) where
  fits_reads : read_sheet s ≡ opens f.layout.edition (places f.layout)
  fits_reads = ap read_sheet f.written ∙ written_opens f.layout f.limits

  pub fits_sheet : sheet_of s ≡ machine_sheet f.layout
  fits_sheet = opens_sheet s f.layout.edition (places f.layout) fits_reads ∙ ap machine_sheet (places_layout f.layout)

  layout_ordered : Ordered (machine_sheet f.layout)
  layout_ordered = subst (λ l. Ordered (machine_sheet l)) (places_layout f.layout) (opened_ordered s f.layout.edition (places f.layout) fits_reads)

  places_counted : length (places f.layout) ≡ length f.layout.items
  places_counted = sym (length-map (places f.layout) (λ p. p.item)) ∙ ap (λ l. length l.items) (places_layout f.layout)

  counted : size (sheet_of s) ≡ length f.layout.items
  counted = ap size fits_sheet ∙ length-map f.layout.items machine_item

  fits_opens : (how : Opening) → (open_on how s kept).number ≡ 0
  fits_opens how =
      (turned_back (opening how) s kept).accepted.1
      (record { sheet = (opens_faultless s).0 (f.layout.edition, places f.layout, fits_reads); lent = (fitting, tt) })
    where
      long : LengthsWrong (length f.layout.items) kept → ⊥
      long (inl n) = n f.index_long
      long (inr n) = n f.table_long

      fitting : ¬ LengthsWrong (size (sheet_of s)) kept
      fitting = subst (λ n. ¬ LengthsWrong n kept) (sym counted) long

  fits_gives : (how : Opening)
      → open_on how s kept ≡ accepted none [] (keeping (index_bytes (places f.layout)) (encode_table (machine_sheet f.layout) (opened how (machine_sheet f.layout))))
  fits_gives how =
      let o : Opens s kept how = opening_opens s kept how (fits_opens how) in
      o.gives
      ∙ ap (λ q. accepted none [] (keeping (index_bytes (placed_from q)) (encode_table (sheet_from q) (opened how (sheet_from q))))) (sym o.reads ∙ fits_reads)
      ∙ ap (λ l. accepted none [] (keeping (index_bytes (places f.layout)) (encode_table (machine_sheet l) (opened how (machine_sheet l))))) (places_layout f.layout)

bytes32_bytes : (n : ℕ) → Bytes (bytes32 n)
bytes32_bytes n zero = omega arith
bytes32_bytes n (suc zero) = omega arith
bytes32_bytes n (suc (suc zero)) = omega arith
bytes32_bytes n (suc (suc (suc zero))) = omega arith
bytes32_bytes n (suc (suc (suc (suc i)))) = omega arith

index_bytes_lem : (ps : List Placed) → Bytes (index_bytes ps)
unfolding index_bytes concat
index_bytes_lem [] = λ i. omega arith
index_bytes_lem (p ∷ ps) = Bytes-append (bytes32 p.offset) (index_bytes ps) (bytes32_bytes p.offset) (index_bytes_lem ps)

-- the record of an item as opened
record_opened : (how : Opening) (it : LayoutItem) → encode_cell (opened how (machine_item it ∷ []) 0) ≡ opened_record how it
unfolding encode_cell machine_item le_bytes
record_opened bare (entry_field name) = refl
record_opened bare (figure_field rule kept spread parents name) = refl
record_opened full (entry_field name) = refl
record_opened full (figure_field rule kept spread parents name) = refl

opened_at : (how : Opening) (S : Sheet) (i : ℕ) → opened how S i ≡ opened how (item_at S i ∷ []) 0
opened_at bare S i = refl
opened_at full S i = refl

item_at_lem : (l : Layout) (i : ℕ) → item_at (machine_sheet l) i ≡ machine_item (get_or l.items i (entry_field []))
unfolding machine_item
item_at_lem l i = get_or-map machine_item l.items i (entry_field [])

-- opened bare, nothing is owed: what an item leads to is a figure
bare_unowed : (S : Sheet) → Ordered S → (j : ℕ) → owed S (open_bare S) j ≡ false
bare_unowed S ordered j = go (owed S (open_bare S) j) refl
  where
    unstored : (it : Item) (p : ℕ) → Listed p (parents_of it) → is_stored (bare_cell it) ≡ false
    unstored entry p l = absurd l
    unstored (figure op kept spread ps) p l = refl

    last : (k : ℕ) → LeadsTo (circuit_of S) j k → is_stored (open_bare S k) ≡ false
    last k (direct l) = unstored (item_at S k) j l
    last k (further {b} p l) = unstored (item_at S k) b l

    go : (b : Bool) → owed S (open_bare S) j ≡ b → b ≡ false
    go false e = refl
    go true e =
        let k = owed_leads S ordered (open_bare S) j e in
        let none : is_stored (open_bare S k.0) ≡ false = last k.0 k.1.0 in
        sym k.1.1 ∙ none

-- opened full, an item without a child is not owed
full_unowed : (S : Sheet) → Ordered S → (j : ℕ) → ((c : ℕ) → ¬ Listed j (parents S c)) → owed S (open_full S) j ≡ false
full_unowed S ordered j childless = go (owed S (open_full S) j) refl
  where
    go : (b : Bool) → owed S (open_full S) j ≡ b → b ≡ false
    go false e = refl
    go true e = let c : Child S (open_full S) j = owed_finds S ordered (open_full S) j e in absurd (childless c.item c.listed)

pub opening_writes : (how : Opening) (s : List ℕ) (kept : Office) (f : FollowsLayout s kept) → Writes how f.layout (open_on how s kept)
opening_writes how s kept f = subst (Writes how l) (sym (fits_gives s kept f how)) wrote
  where
    l : Layout
    l = f.layout

    S : Sheet
    S = machine_sheet l

    ps : List Placed
    ps = places l

    sized : size S ≡ length l.items
    sized = length-map l.items machine_item

    record_at : (j : ℕ) → j < length l.items → take owed_place (row width (encode_table S (opened how S)) j) ≡ opened_record how (get_or l.items j (entry_field []))
    record_at j low =
        encoded_cell S (opened how S) j (omega (arith, sized))
        ∙ ap encode_cell (opened_at how S j)
        ∙ ap (λ it. encode_cell (opened how (it ∷ []) 0)) (item_at_lem l j)
        ∙ record_opened how (get_or l.items j (entry_field []))

    ordered_here : Ordered S
    ordered_here = layout_ordered s kept f

    owed_at : (j : ℕ) → j < length l.items → owed_in (row width (encode_table S (opened how S)) j) ≡ owed_code (owed S (opened how S) j)
    owed_at j low = encoded_owed S (opened how S) j (omega (arith, sized))

    wrote : Writes how l (accepted none [] (keeping (index_bytes ps) (encode_table S (opened how S))))
    wrote =
        record {
          number_0 = refl;
          offset_0 = refl;
          index_long = index_length ps ∙ ap (λ n. index_width * n) (places_counted s kept f);
          index_bytes_lem = index_bytes_lem ps;
          offsets = λ j low. opened_entry s l.edition ps (fits_reads s kept f) j (omega (arith, places_counted s kept f)) ∙ places_offset l j low;
          table_long = length-encode_table S (opened how S) ∙ ap (λ n. width * n) sized;
          records = record_at;
          bare_owed = λ e j low. owed_at j low ∙ ap owed_code (ap (λ h. owed S (opened h S) j) e ∙ bare_unowed S ordered_here j);
          full_owed = λ e j low c listed. owed_at j low ∙ ap owed_code (ap (λ h. owed S (opened h S) j) e ∙ owed_child S ordered_here (open_full S) j c listed refl);
          full_unowed = λ e j low childless. owed_at j low ∙ ap owed_code (ap (λ h. owed S (opened h S) j) e ∙ full_unowed S ordered_here j childless);
        }

-- opened bare, no figure is stored
bare_record : (it : LayoutItem) → is_figure (machine_item it) ≡ true → kind_in (opened_record bare it) ≡ 0
unfolding machine_item
bare_record (entry_field name) e = let bad : ◌≡◌ {A = ℕ} 0 1 = cc in absurd (omega arith)
bare_record (figure_field rule kept spread parents name) e = refl

pub bare_unstored : (s : List ℕ) (kept : Office) (f : FollowsLayout s kept) → NoneStored s (open_on bare s kept).after.table
bare_unstored s kept f k low fig =
    kind_by (row width (open_on bare s kept).after.table k) ((opening_writes bare s kept f).records k (omega (arith, counted s kept f)))
    ∙ bare_record (get_or f.layout.items k (entry_field [])) (ap is_figure (sym (ap (λ S. item_at S k) (fits_sheet s kept f) ∙ item_at_lem f.layout k)) ∙ fig)

pub opens_exactly : (how : Opening) (s : List ℕ) (kept : Office) → Bytes s → ((open_on how s kept).number ≡ 0) ↔ FollowsLayout s kept
opens_exactly how s kept b = (opening_fits how s kept b, λ f. fits_opens s kept f how)

pub accepted_opened : (how : Opening) (s : List ℕ) (kept : Office) → FollowsLayout s kept → AcceptedLent s (open_on how s kept).after
unfolding run_on
accepted_opened how s kept f = (office_accepted s kept how (fits_opens s kept f how) []).accepted

pub one_layout : (s : List ℕ) (kept other : Office) (f : FollowsLayout s kept) (g : FollowsLayout s other) → f.layout ≡ g.layout
one_layout s kept other f g = layout_unique f.layout g.layout f.limits g.limits (sym f.written ∙ g.written)

-- ---- the solution

-- a record of kind 0
unk_cell : (r : List ℕ) → kind_in r ≡ 0 → decode_cell r ≡ unk (eqb (mark_in r) 2)
unfolding decode_cell
unk_cell r e = ap (λ k. cell_coded k (mark_in r) (number_in r)) e

module _ (s : List ℕ) (kept : Office) (lent : AcceptedLent s kept) (none-stored : NoneStored s kept.table) where
  abbrev t : List ℕ
  t = kept.table

  sheet_ordered : Ordered (sheet_of s)
  sheet_ordered = ordered s kept lent

  holdable : Holdable (sheet_of s) (decode_table t)
  holdable = lent_holdable s kept lent

  unstored : Bare (sheet_of s) (decode_table t)
  unstored k low fig = ap is_stored (unk_cell (row width t k) (none-stored k low fig))

  -- nothing is stored that could be wrong
  sound : Sound (sheet_of s) (entries_in t) (decode_table t)
  sound =
      record {
        invariant = λ k fig v m e.
            let z : is_stored (held v m) ≡ false = ap is_stored (sym e) ∙ unstored k (figure_below (sheet_of s) k fig) fig in
            let bad : ◌≡◌ {A = ℕ} 0 1 = cc in absurd (omega arith);
        formed = holdable_formed (sheet_of s) (decode_table t) holdable;
        holds = λ i low e. refl;
      }

pub gives_solution : (s : List ℕ) (kept : Office) → AcceptedLent s kept → NoneStored s kept.table
    → (values : ℕ → Value) × OnlySolution (sheet_of s) (entries_in kept.table) values × Gives s kept values
gives_solution s kept lent none-stored = (
  values,
  record { ordered = lower; solves = solves; only = λ other h i b. solution_unique C (sheet_acyclic S lower) E h i (below_listed (size S) i b) },
  gives_right s kept lent values solves (sound s kept lent none-stored)
      (bare_look S lower E values solves (decode_table kept.table) (sound s kept lent none-stored).formed (sound s kept lent none-stored).holds (unstored s kept lent none-stored)),
)
  where
    S : Sheet
    S = sheet_of s

    lower : Ordered S
    lower = sheet_ordered s kept lent none-stored

    C : Circuit ℕ Value
    C = circuit_of S

    E : Entries
    E = entries_in kept.table

    values : ℕ → Value
    values = solution C E

    solves : IsSolution C E values
    solves = solution_solves C (sheet_acyclic S lower) E
