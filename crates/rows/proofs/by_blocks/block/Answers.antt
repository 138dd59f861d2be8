-- What was copied aside is the source as it was (`copied-kept`).
use lib.Dec.{lit≤}
use Rattle.rows.specs.Rows.{mixed}
use Rattle.rows.proofs.Within.{copied-kept}
use Rattle.rows.proofs.by_blocks.block.Goals as goal

pub returns : goal.returns
returns c =
    let a = c.args in
    copied-kept (mixed a.mix) 32 a.buffer.now a.at a.buffer.now a.from _ _ _ (lit≤ tt) c.copy_bytes.ensures c.mix_bytes.ensures
