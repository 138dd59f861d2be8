use Rattle.pramolyt.proofs.image.put_command.Goals as goal

pub returns : goal.returns
returns c = rw c.flag.ensures
