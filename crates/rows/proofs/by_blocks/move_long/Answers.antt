-- Blocks, and the last 32 pixels mixed aside, are the row where no visit reads what another wrote (`shifted-last`); else the
-- pixels after the blocks follow one by one (`shifted-more`).
use native.Mathlib.Omega.{arith}
use lib.Dec.{lit≤}
use Rattle.rows.specs.Rows.{mixed}
use Rattle.rows.proofs.Within.{is-back, shifted-more}
use Rattle.rows.proofs.Parts.{shifted-last}
use Rattle.rows.proofs.by_blocks.move_long.Goals as goal

pub returns-then-reads_first : goal.returns-then-reads_first
returns-then-reads_first g c =
    let a = c.args in
    shifted-last (mixed a.mix) a.n _ 32 a.buffer.now _ _ _ _ _ a.at a.from c.requires.1 c.requires.0 (omega arith) (omega arith) (lit≤ tt)
    (is-back g.row.BACK) _ _ c.by_side-first.ensures c.by_side-z.ensures (c.reads_first.ensures c.if-reads_first.true) c.blocks-2.ensures
    c.copy_bytes.ensures c.mix_bytes.ensures c.copy_bytes-then-reads_first.ensures

pub returns : goal.returns
returns g c =
    let a = c.args in
    shifted-more (is-back g.row.BACK) (mixed a.mix) a.n _ _ _ a.buffer.now _ _ a.at a.from (omega arith) c.by_side-first.ensures
    c.by_side-rest.ensures c.blocks-2.ensures c.move_bytes.ensures
