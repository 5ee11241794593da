-- `table::store_cell` meets its contract: each way stores the record of its case. Assumes nothing.
use mathlib.Core.Path.{◌≡◌, refl}
use lib.IntN.{pos}
use mir.Syntax.{w64}
use mir.ValLaws.{to_z-of_z}
use native.Mathlib.Omega.{arith}
use Rattle.table.specs.Record.{record_of, mark_code, encode_cell}
use Rattle.table.specs.Meaning.{mark_meaning, cell_meaning}
use Rattle.table.proofs.Cases.{record_stored}
use Rattle.table.proofs.store_cell.Goals as goal

pub returns-in-Unk-true : goal.returns-in-Unk-true
unfolding encode_cell
returns-in-Unk-true c =
    let is : encode_cell (cell_meaning c.args.cell) ≡ record_of 0 2 (pos 0) = rw (c.in-Unk-true.is, c.in-Unk-true.field-0-test) refl in
    record_stored c.args.table.now c.args.i _ _ (cell_meaning c.args.cell) _ _ is (omega arith) (omega arith) c.requires c.store_record.ensures

pub returns-in-Unk-false : goal.returns-in-Unk-false
unfolding encode_cell
returns-in-Unk-false c =
    let is : encode_cell (cell_meaning c.args.cell) ≡ record_of 0 0 (pos 0) = rw (c.in-Unk-false.is, c.in-Unk-false.field-0-test) refl in
    record_stored c.args.table.now c.args.i _ _ (cell_meaning c.args.cell) _ _ is (omega arith) (omega arith) c.requires c.store_record-in-Unk-false.ensures

pub returns-in-Held : goal.returns-in-Held
unfolding encode_cell
returns-in-Held c =
    let is : encode_cell (cell_meaning c.args.cell) ≡ record_of c.kind.result (mark_code (mark_meaning c.in-Held.m)) c.number_or_zero.result =
    rw (c.in-Held.is, c.kind.ensures, c.number_or_zero.ensures) refl in
    record_stored c.args.table.now c.args.i _ _ (cell_meaning c.args.cell) _ _ is (omega arith) (omega arith) c.requires
    (rw (to_z-of_z w64 _ (record { sfits = c.number_or_zero.type_inv })) at c.store_record-in-Held.ensures)
