-- A case is whole where both its fields are, and what is then given and left. Assumes nothing.
use Prim.Native.Nat.{ℕ, ◌-◌, ◌≤◌, ◌<◌}
use mathlib.Core.Path.{◌≡◌, refl, sym, ap, ◌∙◌}
use mathlib.Core.List.{List}
use native.Mathlib.Omega.{arith}
use lib.ListN.{length, take, drop}
use Rattle.std.specs.Prelude.{Result, Ok, Err, Option, None, Some}
use Rattle.std.specs.Result.{result_ok}
use Rattle.field.specs.Field.{Cut, absent, short, field, cut_at, cut_meaning}
use Rattle.field.specs.declared.Field.{Field}
use Rattle.field.specs.declared.NoField.{NoField}
use Rattle.field.specs.declared.NoField.TheVariants.{Short, Absent}
use Rattle.field.proofs.Cutting.{field_iff}
use Rattle.layout.specs.Layout.{most_items}
use Rattle.layout.specs.Content.{content_at}
use Rattle.layout.specs.Read.{read_sheet}
use Rattle.layout.proofs.Rooms.{room_most, opened_room}
use Rattle.sheet.specs.Check.{opens, checked_of}
use Rattle.sheet.proofs.Located.{opening}
use Rattle.sheet_cases.specs.Cases.{Case, second_in, case_in, case_at, Checks, Runs, no_case, a_case}

-- a whole case: its label, and its sheet in the field after that
pub record Whole (cases : List ℕ) (at : ℕ) (label sheet : Field) : Type 0 where
  pub labelled : label.start ≤ label.next
  pub label_in : label.next ≤ length cases
  pub checked : sheet.start ≤ sheet.next
  pub checked_in : sheet.next ≤ length cases
  pub onward : at < sheet.next
  pub case_is : case_at cases at ≡ Some (record { sheet = take (sheet.next - sheet.start) (drop sheet.start cases); next = sheet.next })

-- a field that is absent or runs past the end makes no case
missing : (f : Cut → Option Case) → f absent ≡ None → f short ≡ None → (r : Result Field NoField) → None ≡ result_ok r → f (cut_meaning r) ≡ None
missing f a s (Ok g) o = cc
missing f a s (Err Absent) o = a
missing f a s (Err Short) o = s

-- a whole field is what was cut
pub cut_out : {cut : Cut} (r : Result Field NoField) (g : Field) → cut_meaning r ≡ cut → Some g ≡ result_ok r → field g.tag g.start g.len g.next ≡ cut
cut_out (Ok f) g m e = cc
cut_out (Err n) g m e = cc

module _ (cases : List ℕ) (at : ℕ) where
  pub no_label : (r : Result Field NoField) → cut_meaning r ≡ cut_at cases at → None ≡ result_ok r → case_at cases at ≡ None
  no_label r e o = ap (case_in cases) (sym e) ∙ missing (case_in cases) refl refl r o

  module _ (label : Field) (e : field label.tag label.start label.len label.next ≡ cut_at cases at) where
    pub no_sheet : (r : Result Field NoField) → cut_meaning r ≡ cut_at cases label.next → None ≡ result_ok r → case_at cases at ≡ None
    no_sheet r f o = ap (case_in cases) (sym e) ∙ ap (second_in cases) (sym f) ∙ missing (second_in cases) refl refl r o

    pub whole : (sheet : Field) → field sheet.tag sheet.start sheet.len sheet.next ≡ cut_at cases label.next → Whole cases at label sheet
    whole sheet f =
        let v = (field_iff cases at label.tag label.start label.len label.next).0 (sym e) in
        let w = (field_iff cases label.next sheet.tag sheet.start sheet.len sheet.next).0 (sym f) in
        let n : sheet.len ≡ sheet.next - sheet.start = omega (arith, w.next_is) in
        record {
          labelled = omega (arith, v.next_is);
          label_in = v.next_in;
          checked = omega (arith, w.next_is);
          checked_in = w.next_in;
          onward = omega (arith, v.start_is, v.next_is, w.start_is, w.next_is);
          case_is = ap (case_in cases) (sym e) ∙ ap (second_in cases) (sym f) ∙ ap (λ k. Some (record { sheet = content_at cases sheet.start k; next = sheet.next })) n;
        }

-- what is given and left
pub runs_none : {r : Option ℕ} (cases : List ℕ) (at : ℕ) (offsets levels : List ℕ) → r ≡ None → case_at cases at ≡ None → Runs offsets levels r offsets levels (case_at cases at)
runs_none cases at offsets levels q e = rw e (no_case q refl refl)

pub runs_case : {cases offsets levels offsets' levels' : List ℕ} {at : ℕ} {label sheet : Field} → Whole cases at label sheet
    → Checks (take (sheet.next - sheet.start) (drop sheet.start cases)) offsets levels offsets' levels' → Runs offsets levels (Some sheet.next) offsets' levels' (case_at cases at)
runs_case w k = rw w.case_is (a_case refl k)

-- the items of a sheet that opens have room in arrays for the most of any
pub places : (s : List ℕ) {edition count : ℕ} → opens edition count ≡ checked_of (read_sheet s) → count ≤ most_items
places s {edition} {count} e = let o = opening s edition count e in omega (arith, o.items_count, opened_room s edition _ o.reads, room_most s)
