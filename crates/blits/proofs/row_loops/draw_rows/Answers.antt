-- The loop keeps `Stepped`: k rows are drawn and the rest are as before. Each turn is one row more.
use Rattle.blits.proofs.Stepping.{stepped-start, stepped-turn, step-far}
use Rattle.blits.proofs.row_loops.draw_rows.Goals as goal

pub loop-k-init : goal.loop-k-init
loop-k-init g c = stepped-start _ _ _

pub along-at-requires : goal.along-at-requires
along-at-requires g c =
    let r = c.args.rows in step-far r.up r.width r.at _ r.count _ c.loop-k.invariant.here c.loop-k-test.true c.requires.far

pub along-from-requires : goal.along-from-requires
along-from-requires g c =
    let r = c.args.rows in step-far r.up r.stride r.from _ r.count _ c.loop-k.invariant.there c.loop-k-test.true c.requires.source-far

pub loop-k-preserved : goal.loop-k-preserved
loop-k-preserved g c = stepped-turn c.loop-k.invariant _ _ _ c.draw.auto.buffer c.draw.ensures c.along-at.ensures c.along-from.ensures
