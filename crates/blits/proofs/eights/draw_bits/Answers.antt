-- The loop keeps `Swept`: k visits are done. Each turn is one visit more, by `sweep-more`.
use native.Mathlib.Omega.{arith}
use Rattle.lemmas.proofs.Sweeps.{sweep-start, sweep-more, swept-start, swept-set}
use Rattle.blits.proofs.eights.draw_bits.Goals as goal

pub loop-k-init : goal.loop-k-init
loop-k-init c = swept-start _ _ _ (sweep-start _ _ _)

pub loop-k-preserved : goal.loop-k-preserved
loop-k-preserved c =
    let x = c.loop-k.invariant in
    swept-set x _ _ (omega arith) (sweep-more _ _ _ _ _ _ x.done c.draw.ensures)
