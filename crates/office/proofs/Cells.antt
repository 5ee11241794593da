-- The record of a cell: its kind, its number and its mark; also in the encoding of a table. Assumes nothing.
use Prim.Native.Nat.{ℕ, ◌<◌}
use mathlib.Core.Path.{◌≡◌, refl, sym, ap, ◌∙◌, subst}
use mathlib.Core.Bool.{Bool, true, false, not}
use native.Mathlib.Omega.{arith}
use mathlib.Core.List.{List}
use lib.Dec.{eqb}
use lib.IntN.{ℤ, pos}
use lib.ListN.{take}
use mir.Syntax.{w64}
use mir.Val.{to_z}
use Rattle.circuit.specs.Value.{Value, null, out, num, kind_of, number_of, well_formed}
use Rattle.circuit.specs.Sheet.{Sheet, size}
use Rattle.circuit.specs.Table.{Table, Cell, Mark, unmarked, refresh, notice, unk, held, is_stored, is_mark, mark_of, value_in}
use Rattle.circuit.specs.Words.{Quiet}
use Rattle.word.specs.Word.{bytes64, le64_at}
use Rattle.word.proofs.Bytes.{le_at-drop}
use Rattle.table.specs.Record.{width, owed_place, record_of, kind_in, mark_in, number_in, mark_code, encode_cell}
use Rattle.table.specs.Rows.{row}
use Rattle.table.specs.Bytes.{encode_table, Holdable}
use Rattle.table.proofs.Records.{kind_by, number_by, number_fits, number_again}
use Rattle.table.proofs.Tables.{encoded_cell, encoded_mark, holdable_well_formed}
use Rattle.office.specs.Demand2Words.{Stores, NoMarkStands}

-- the parts of a stored record
pub held_kind : (v : Value) (m : Mark) → kind_in (encode_cell (held v m)) ≡ kind_of v
unfolding encode_cell
held_kind v m = refl

pub held_number : (v : Value) (m : Mark) → well_formed v ≡ true → number_in (encode_cell (held v m)) ≡ number_of v
unfolding encode_cell
held_number v m w = number_again _ _ _ (number_fits v w)

pub unk_kind : (f : Bool) → kind_in (encode_cell (unk f)) ≡ 0
unfolding encode_cell
unk_kind f = refl

pub unk_number : (f : Bool) → number_in (encode_cell (unk f)) ≡ pos 0
unfolding encode_cell
unk_number f = number_again _ _ _ (number_fits null refl)

-- whether a record is stored
pub kind_cell : (c : Cell) → not (eqb (kind_in (encode_cell c)) 0) ≡ is_stored c
unfolding encode_cell
kind_cell (unk b) = refl
kind_cell (held null m) = refl
kind_cell (held out m) = refl
kind_cell (held (num z) m) = refl

-- a record's number stands in its own bytes
number_alone : (k m : ℕ) (z : ℤ) → number_in (record_of k m z) ≡ le64_at (bytes64 z) 0
number_alone k m z = ap (λ (x : ℕ). to_z w64 x) (le_at-drop 8 (record_of k m z) 2 0)

-- cells that hold the same value have the same kind and number
pub parts_same : (c d : Cell) → is_stored c ≡ true → is_stored d ≡ true → value_in d ≡ value_in c
    → (kind_in (encode_cell d) ≡ kind_in (encode_cell c)) × (number_in (encode_cell d) ≡ number_in (encode_cell c))
unfolding encode_cell
parts_same (unk b) d e f q = let bad : ◌≡◌ {A = ℕ} 0 1 = cc in absurd (omega arith)
parts_same (held v m) (unk b) e f q = let bad : ◌≡◌ {A = ℕ} 0 1 = cc in absurd (omega arith)
parts_same (held v m) (held w l) e f q = (
  ap kind_of q,
  number_alone (kind_of w) (mark_code l) (number_of w) ∙ ap (λ u. le64_at (bytes64 (number_of u)) 0) q ∙ sym (number_alone (kind_of v) (mark_code m) (number_of v)),
)

pub mark_cell : (c : Cell) → mark_in (encode_cell c) ≡ mark_code (mark_of c)
unfolding encode_cell
mark_cell (unk b) = refl
mark_cell (held v m) = refl

code_unmarked : (m : Mark) → mark_code m ≡ 0 → is_mark m ≡ false
code_unmarked unmarked e = refl
code_unmarked refresh e = absurd (omega arith)
code_unmarked notice e = absurd (omega arith)

unmarked_code : (m : Mark) → is_mark m ≡ false → mark_code m ≡ 0
unmarked_code unmarked e = refl
unmarked_code refresh e = let bad : ◌≡◌ {A = ℕ} 0 1 = cc in absurd (omega arith)
unmarked_code notice e = let bad : ◌≡◌ {A = ℕ} 0 1 = cc in absurd (omega arith)

-- the record of a stored item in the encoding of a table
pub stored_encoded : (S : Sheet) (U : Table) → Holdable S U → (k : ℕ) → k < size S → ¬ (kind_in (row width (encode_table S U) k) ≡ 0)
    → (v : Value) × (m : Mark) × (U k ≡ held v m) × Stores (encode_table S U) k v
stored_encoded S U h k low n = go (U k) refl
  where
    record_here : (d : Cell) → U k ≡ d → take owed_place (row width (encode_table S U) k) ≡ encode_cell d
    record_here d e = encoded_cell S U k low ∙ ap encode_cell e

    go : (d : Cell) → U k ≡ d → (v : Value) × (m : Mark) × (U k ≡ held v m) × Stores (encode_table S U) k v
    go (unk b) e = absurd (n (kind_by (row width (encode_table S U) k) (record_here (unk b) e) ∙ unk_kind b))
    go (held v m) e =
        let formed : well_formed v ≡ true = subst (λ d. well_formed (value_in d) ≡ true) e (holdable_well_formed S U h k low) in
        let r : List ℕ = row width (encode_table S U) k in
        (v, m, e, (kind_by r (record_here (held v m) e) ∙ held_kind v m, number_by r (record_here (held v m) e) ∙ held_number v m formed))

-- where no cell is marked, no mark stands in the encoding
pub encoded_quiet : (S : Sheet) (U : Table) → Quiet S U → NoMarkStands S (encode_table S U)
encoded_quiet S U quiet k low = encoded_mark S U k low ∙ mark_cell (U k) ∙ unmarked_code (mark_of (U k)) (quiet k low)

-- and where no mark stands in the encoding, no cell is marked
pub quiet_encoded : (S : Sheet) (U : Table) → NoMarkStands S (encode_table S U) → Quiet S U
quiet_encoded S U none-stands k low = code_unmarked (mark_of (U k)) (sym (encoded_mark S U k low ∙ mark_cell (U k)) ∙ none-stands k low)
