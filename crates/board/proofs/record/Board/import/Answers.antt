use Rattle.board.proofs.record.Board.import.Goals as goal

pub returns : goal.returns
returns c = c.import_status.ensures
