-- Each return is the case of `settled_of` that the end of the active list chose.
use Rattle.board.specs.Steps.{settled_of}
use Rattle.lemmas.proofs.Booleans.{first_of, second-of}
use mathlib.Core.Path.{sym, ◌∙◌}
use Rattle.board.proofs.bare.Bare.moved.Goals as goal

pub returns-then-ended : goal.returns-then-ended
unfolding settled_of
returns-then-ended c d v = rw c.on.ensures (first_of _ _ _ (sym c.ended.ensures ∙ c.if-ended.true))

pub returns : goal.returns
unfolding settled_of
returns c d v = second-of _ _ _ (sym c.ended.ensures ∙ c.if-ended.false)
