-- Each return is the case of `settled_of` that the end of the active list chose.
use Rattle.board.specs.Steps.{settled_of}
use Rattle.lemmas.proofs.Booleans.{first_of, second-of}
use mathlib.Core.Path.{sym, ◌∙◌}
use Rattle.board.proofs.record.Board.settled.Goals as goal

pub returns-then-not-ended : goal.returns-then-not-ended
unfolding settled_of
returns-then-not-ended c = second-of _ _ _ (sym c.ended.ensures ∙ c.if-not-ended.true)

pub returns : goal.returns
unfolding settled_of
returns c = rw c.on.ensures (first_of _ _ _ (sym c.ended.ensures ∙ c.if-not-ended.false))
