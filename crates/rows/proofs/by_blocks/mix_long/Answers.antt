-- Whole blocks, and the last 32 pixels, mixed aside with the old ones, are the row (`copied-last`).
use native.Mathlib.Omega.{arith}
use Prim.Native.Nat.{◌-◌}
use lib.Dec.{lit≤}
use Rattle.rows.specs.Rows.{mixed}
use Rattle.rows.proofs.Parts.{copied-last}
use Rattle.rows.proofs.by_blocks.mix_long.Goals as goal

pub returns : goal.returns
returns c =
    let a = c.args in
    copied-last a.n _ (a.n - 32) 32 a.buffer.now _ _ _ _ _ a.at c.requires.1 (omega arith) (omega arith) (omega arith)
    (lit≤ tt) c.copy_bytes.ensures c.copy_bytes-2.ensures (mixed a.mix) a.source.now a.from
    c.mix_bytes-2.ensures c.mix_bytes.ensures
