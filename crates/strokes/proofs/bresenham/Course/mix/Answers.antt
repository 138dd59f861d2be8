-- Each pixel is drawn by the pen.
use borrow.Author.Rules.{rules}
use Rattle.strokes.proofs.bresenham.Course.mix.Goals as goal

pub returns : goal.returns
returns c = c.draw.ensures c.args.pen (λ old new small made. search rules)
