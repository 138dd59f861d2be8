-- What `zero` and the four calls of `eight` ensure makes the fields of `inks_of`.
use Rattle.stipples.specs.Words.{inks_of}
use Rattle.stipples.proofs.Stipple.inks.Goals as goal

pub returns : goal.returns
unfolding inks_of
returns c = rw (c.eight-4.ensures, c.eight-3.ensures, c.eight-2.ensures, c.eight.ensures, c.zero-zero.ensures)
