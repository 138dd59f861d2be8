-- The loop keeps `OneByOne`: k pixels are drawn, and p is the bit of the next. Each turn is one pixel more, by `one-turn`.
use native.Mathlib.Omega.{arith}
use Rattle.blits.proofs.Expanded.{one-start, one-turn}
use Rattle.blits.proofs.bits.expand_each.Goals as goal

pub loop-k-init : goal.loop-k-init
loop-k-init c = one-start _ _ _ _ _ _ _ (omega arith)

pub loop-k-preserved : goal.loop-k-preserved
loop-k-preserved c =
    let x = c.loop-k.invariant in
    one-turn x (omega arith) c.loop-k.p _ _ _ _ x.here (omega (arith, c.next-p.ensures, x.here)) c.draw_bits.auto.buffer c.draw_bits.ensures
    c.bits_at.ensures
