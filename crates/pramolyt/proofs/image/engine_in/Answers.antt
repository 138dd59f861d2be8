use Rattle.pramolyt.proofs.image.engine_in.Goals as goal

pub returns : goal.returns
returns c = rw (c.registers_in-g.ensures, c.pattern_in-p.ensures)
