use Rattle.pramolyt.proofs.image.decode_bare.Goals as goal

pub returns : goal.returns
returns c =
    let active = c.before.before.before in
    rw (active.sizes_in-z.ensures, active.slot_in-a.ensures, c.slot_in-p.ensures, c.engine_in-e.ensures)
