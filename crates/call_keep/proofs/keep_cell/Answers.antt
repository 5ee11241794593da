-- `call_keep::keep_cell` meets its contract. Assumes nothing.
use mathlib.Core.Path.{sym, ap, ◌∙◌}
use Prim.Native.Nat.{◌+◌}
use native.Mathlib.Omega.{arith}
use Rattle.circuit.specs.Table.{is_stored}
use Rattle.memo.specs.Memo.{seen_meaning}
use Rattle.table.specs.Bytes.{decode_table}
use Rattle.table.specs.Meaning.{mark_meaning, cell_meaning}
use Rattle.stepping.proofs.Stepping.{ready_memo}
use Rattle.call_keep.proofs.Keeping.{kept_held, kept_unk}
use Rattle.call_keep.proofs.keep_cell.Goals as goal

pub look_unstored-seen-requires : goal.look_unstored-seen-requires
look_unstored-seen-requires c =
    let p = c.requires in
    record {
      lent = p.lent;
      right = ready_memo p.ready (decode_table c.args.table.now);
      within = p.within;
      unstored = ap is_stored (sym c.read_cell.ensures ∙ ap cell_meaning c.in-Unk.is);
    }

pub returns-in-Unk : goal.returns-in-Unk
returns-in-Unk c =
    let p = c.requires in
    let looks = c.look_unstored-seen in
    kept_unk p.lent c.args.i p.within p.figure _ (sym c.read_cell.ensures ∙ ap cell_meaning c.in-Unk.is) (seen_meaning looks.result) _ _
    (looks.ensures (c.args.i + 1) (omega arith)) looks.auto.table (mark_meaning c.notice_if-mark.result) c.notice_if-mark.ensures c.store_cell.ensures

pub returns-in_default : goal.returns-in_default
returns-in_default c = kept_held c.requires.lent c.args.i c.requires.within _ _ (sym c.in_default.ensures)
