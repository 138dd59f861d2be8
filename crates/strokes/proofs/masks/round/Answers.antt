-- `strokes::masks::round` meets its contract by `round-of`.
-- Assumes nothing.
use Rattle.strokes.proofs.Masking.{round-of}
use Rattle.strokes.proofs.masks.round.Goals as goal

pub returns : goal.returns
returns c = round-of c.args.c c.requires
