use Rattle.board.proofs.bare.Bare.held.Goals as goal

pub returns : goal.returns
returns c = rw c.fill_taken.ensures
