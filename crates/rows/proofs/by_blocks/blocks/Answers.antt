-- Each turn is one block more (`block-more`), at the place that the direction gives.
use native.Mathlib.Omega.{arith}
use Rattle.lemmas.proofs.Sweeps.{sweep-start}
use Rattle.rows.specs.Rows.{mixed}
use Rattle.rows.proofs.Within.{is-back, block-more, visits-end}
use Rattle.rows.proofs.by_blocks.blocks.Goals as goal

pub loop-b-init : goal.loop-b-init
loop-b-init g c = sweep-start _ _ _

pub loop-b-preserved : goal.loop-b-preserved
loop-b-preserved g c =
    let a = c.args in
    block-more (is-back g.row.BACK) (mixed a.mix) a.n a.at a.from c.loop-b.b _ a.buffer.now _ _ (omega arith) c.by_side-i.ensures
    c.requires.3 c.loop-b.invariant c.block.ensures

pub returns : goal.returns
returns g c =
    let a = c.args in
    visits-end (is-back g.row.BACK) (mixed a.mix) a.n a.at a.from a.buffer.now _ _ (omega arith) (omega arith) c.loop-b.invariant
