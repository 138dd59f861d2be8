use Rattle.board.proofs.record.Board.store.Goals as goal

pub returns : goal.returns
returns c = c.store_status.ensures
