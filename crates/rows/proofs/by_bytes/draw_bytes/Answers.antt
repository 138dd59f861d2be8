-- Each turn is one visit more (`sweep-more`).
use Rattle.lemmas.proofs.Sweeps.{sweep-start, sweep-more, sweep-end}
use Rattle.rows.proofs.by_bytes.draw_bytes.Goals as goal

pub loop-k-init : goal.loop-k-init
loop-k-init c = sweep-start _ _ _

pub loop-k-preserved : goal.loop-k-preserved
loop-k-preserved c = sweep-more _ _ _ _ _ _ c.loop-k.invariant c.draw.ensures

pub returns : goal.returns
returns c = sweep-end _ _ _ _ _ _ c.loop-k.auto.k-end c.loop-k-test.false c.loop-k.invariant
