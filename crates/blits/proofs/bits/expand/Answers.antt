-- The loop keeps `Expanding`: k times eight pixels are drawn, by `expanding-turn`; the last ones follow by `expanding-more`. The bits that
-- are read are those of the start (`stayed`).
use mathlib.Core.Path.{refl}
use Prim.Native.Nat.{◌%◌}
use native.Mathlib.Omega.{arith}
use Rattle.blits.proofs.Expanded.{expanding-start, expanding-turn, expanding-more, stayed}
use Rattle.blits.proofs.bits.expand.Goals as goal

pub loop-k-init : goal.loop-k-init
loop-k-init g c = expanding-start _ _ _ _ _ _ _

pub loop-k-preserved : goal.loop-k-preserved
loop-k-preserved g c =
    let x = c.loop-k.invariant in
    expanding-turn x _ _ _ _ (omega arith) refl refl c.draw_eight.auto.buffer c.draw_eight.ensures
    (stayed x 8 _ (omega arith) refl _ refl c.requires.fit.1.stay _ c.read-eight.ensures)

pub returns-then-rest-gt0 : goal.returns-then-rest-gt0
returns-then-rest-gt0 g c =
    let x = c.loop-k.invariant in
    expanding-more x (c.args.n % 8) _ (omega arith) (omega arith) _ _ _ _ (omega arith) (omega arith) c.draw_some.ensures
    (stayed x (c.args.n % 8) _ (omega arith) (omega arith) _ refl c.requires.fit.1.stay _ c.read-some.ensures)
