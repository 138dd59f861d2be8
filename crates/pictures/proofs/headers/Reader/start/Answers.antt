-- Nothing is read yet (`at-start`).
use Rattle.pictures.proofs.Readers.{at-start}
use Rattle.pictures.proofs.headers.Reader.start.Goals as goal

pub returns : goal.returns
returns c = at-start
