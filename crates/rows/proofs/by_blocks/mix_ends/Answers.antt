-- The ends, mixed side by side with what stood there, are the row (`ends-mixed`).
use borrow.Author.Rules.{rules}
use Rattle.rows.proofs.Parts.{ends-mixed}
use Rattle.rows.proofs.by_blocks.mix_ends.Goals as goal

pub returns : goal.returns
returns g c source from e =
    let a = c.args in
    ends-mixed (g.I.Ink.byte a.ink) a.n a.buffer.now a.at source from a.pixels _ _ _ _ c.requires.0 c.requires.1 c.requires.2
    (search rules) e c.ends-new.ensures c.mix_bytes.ensures c.copy_bytes.ensures c.copy_bytes-2.ensures
