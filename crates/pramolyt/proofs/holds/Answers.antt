use Rattle.pramolyt.proofs.holds.Goals as goal

pub returns : goal.returns
returns c = rw (c.hatches.ensures, c.decode_bare-b.ensures)
