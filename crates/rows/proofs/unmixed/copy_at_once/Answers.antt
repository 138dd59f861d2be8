-- As visits (`copied-at-once`).
use Rattle.rows.proofs.Copies.{copied-at-once}
use Rattle.rows.proofs.unmixed.copy_at_once.Goals as goal

pub returns : goal.returns
returns c =
    let a = c.args in
    copied-at-once a.n a.buffer.now a.at c.requires.0 a.source.now a.from c.requires.1 _ c.copy_from_slice.ensures.after
