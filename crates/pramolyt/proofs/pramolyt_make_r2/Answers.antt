-- The image is that of the record that `make` returns, done or refused (`make-done`).
use Rattle.pramolyt.proofs.Calls.{make-done}
use Rattle.pramolyt.proofs.pramolyt_make_r2.Goals as goal

pub returns : goal.returns
returns c =
    let answer = c.make-made in
    make-done answer.result _ c.encode.ensures _ c.number.ensures _ _ _ answer.ensures
