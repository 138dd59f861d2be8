use mathlib.Core.Path.{◌∙◌}
use Rattle.board.proofs.record.Board.post.Goals as goal

pub returns : goal.returns
returns c = c.answer.ensures ∙ c.after_post.ensures
