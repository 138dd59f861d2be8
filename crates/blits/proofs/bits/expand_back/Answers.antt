-- The loop keeps `OneByOne`, as in `expand_each`, from the last pixel to the first: p is the bit after that of the next pixel.
use native.Mathlib.Omega.{arith}
use Rattle.blits.proofs.Expanded.{one-start, one-turn}
use Rattle.blits.proofs.bits.expand_back.Goals as goal

pub loop-k-init : goal.loop-k-init
loop-k-init c = one-start _ _ _ _ _ _ _ (omega (arith, c.after-p.ensures))

pub loop-k-preserved : goal.loop-k-preserved
loop-k-preserved c =
    let x = c.loop-k.invariant in
    let e = c.previous-p.ensures in
    one-turn x (omega arith) c.previous-p.result _ _ _ _ (omega (arith, e, x.here)) (omega (arith, e, x.here)) c.draw_bits.auto.buffer
    c.draw_bits.ensures c.bits_at.ensures
