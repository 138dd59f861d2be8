-- The parts but for the fill, which is well formed whatever the buffers hold (`well-tiled`).
use Rattle.board.proofs.Tiled.{well-tiled}
use Rattle.board.proofs.bare.Bare.well_formed.Goals as goal

pub returns : goal.returns
returns c d v =
    rw (c.in_limits.ensures, c.well_formed-2.ensures, c.well_formed-3.ensures, c.well_formed-4.ensures) (well-tiled c.args.self d v)
