use Rattle.board.proofs.record.Board.window_write.Goals as goal

pub returns : goal.returns
returns c = c.write_status.ensures
