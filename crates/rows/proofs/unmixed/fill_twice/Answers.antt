-- Both parts write the same byte, and together every place (`filled-twice`).
use Rattle.rows.proofs.Parts.{filled-twice}
use Rattle.rows.proofs.unmixed.fill_twice.Goals as goal

pub returns : goal.returns
returns c =
    let a = c.args in
    filled-twice a.x a.n a.b a.b a.buffer.now _ _ a.at c.requires.2 c.requires.0 c.requires.1 c.requires.0
    c.fill_bytes.ensures c.fill_bytes-2.ensures
