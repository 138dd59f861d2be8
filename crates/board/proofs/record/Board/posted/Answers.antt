-- Each return is the case of `posted_of` that the active slot chose.
use Rattle.board.specs.Calls.{posted_of}
use Rattle.lemmas.proofs.Booleans.{first_of, second-of}
use Rattle.board.proofs.record.Board.posted.Goals as goal

pub returns-then-self : goal.returns-then-self
unfolding posted_of
returns-then-self c = first_of _ _ _ c.if-self.true

pub returns : goal.returns
unfolding posted_of
returns c = rw c.on.ensures (second-of _ _ _ c.if-self.false)
