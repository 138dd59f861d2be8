use Rattle.pramolyt.proofs.image.decode.Goals as goal

pub returns : goal.returns
returns c = rw (c.decode_bare-b.ensures, c.fill_in.ensures)
