use Rattle.pramolyt.proofs.image.flags_ok.Goals as goal

pub returns : goal.returns
returns c = rw c.tile_blank_in.ensures
