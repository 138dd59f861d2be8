-- `strokes::masks::put_mask` meets its contract. The loop's invariant, `Masking`: the mask has j pixels, and the phase is j
-- pixels on; `masking-turn` gives a turn.
-- Assumes nothing.
use native.Mathlib.Omega.{arith}
use Rattle.strokes.proofs.Masking.{masking-start, masking-turn, masking-end}
use Rattle.strokes.proofs.masks.put_mask.Goals as goal

pub loop-j-init : goal.loop-j-init
loop-j-init c = masking-start _ _ _ _ c.told-mask c.new-phase.ensures

pub loop-j-preserved : goal.loop-j-preserved
loop-j-preserved c = masking-turn c.loop-j.invariant (omega arith) c.bit.ensures c.next-phase.ensures

pub returns : goal.returns
returns c = masking-end c.loop-j.invariant (omega arith)
