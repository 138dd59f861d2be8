use mathlib.Core.Path.{◌∙◌}
use borrow.Author.Rules.{rules}
use Rattle.tiles.proofs.Pixels.{blank-is}
use Rattle.tiles.proofs.row_blank.Goals as goal

pub returns : goal.returns
returns c = c.eq.ensures ∙ blank-is c.args.row (search rules)
