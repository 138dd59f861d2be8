use Rattle.board.proofs.record.Board.fresh.Goals as goal

pub returns : goal.returns
returns c = rw (c.on.ensures, c.fresh.ensures, c.no_fill.ensures)
