-- Two copies side by side (`ends-beside`).
use lib.Dec.{lit≤}
use Rattle.rows.proofs.Parts.{ends-beside}
use Rattle.rows.proofs.by_blocks.ends.Goals as goal

pub returns : goal.returns
returns c =
    let a = c.args in
    ends-beside _ _ _ a.source.now a.from a.n (lit≤ tt) c.copy_bytes.ensures c.copy_bytes-2.ensures
