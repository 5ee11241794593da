-- `call_board::board` meets its contract. Assumes nothing.
use Rattle.admission.proofs.Calls.{admits}
use Rattle.call_board.proofs.Answers.{board_refuses, board_fails, board_does}
use Rattle.call_board.proofs.board.Goals as goal

pub returns-in_err-sheet : goal.returns-in_err-sheet
returns-in_err-sheet c =
    let a = c.args in
    board_refuses a.sheet.now a.index.now a.table.now a.items.now a.results.now _ c.from_residual.ensures.1 c.in_err-sheet.ensures

pub board_lent-requires : goal.board_lent-requires
board_lent-requires c =
    let g = admits c.in_ok-sheet.ensures c.requires.room.1 c.admitted.auto.levels in
    let same = c.in_ok-sheet.ensures.sheet_is in
    record {
      prepared = record {
        lent = g.lent;
        owes = g.owes;
        owed_room = g.owed_room;
        ready = rw same c.requires.ready;
        kept = rw same c.requires.kept;
      };
    }

pub returns-in_err-board_lent : goal.returns-in_err-board_lent
returns-in_err-board_lent c =
    let a = c.args in
    board_fails c.in_ok-sheet.ensures a.items.now a.results.now c.from_residual-in_err-board_lent.ensures.1 (c.in_err-board_lent.ensures a.index.now)

pub returns : goal.returns
returns c =
    let a = c.args in
    board_does c.in_ok-sheet.ensures a.items.now a.results.now (c.in_ok-board_lent.ensures a.index.now)
