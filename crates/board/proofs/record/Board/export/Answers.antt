use Rattle.board.proofs.record.Board.export.Goals as goal

pub returns : goal.returns
returns c = c.export_written.ensures
