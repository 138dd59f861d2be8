-- Each turn is one block more (`block_more`).
use native.Mathlib.Omega.{arith}
use mathlib.Core.Path.{refl}
use Rattle.lemmas.proofs.Sweeps.{sweep-start, sweep-end}
use Rattle.rows.proofs.Tiles.{block_more}
use Rattle.rows.proofs.tiled.mix_blocks.Goals as goal

pub loop-k-init : goal.loop-k-init
loop-k-init g c = (refl, omega arith, sweep-start _ _ _)

pub loop-k-preserved : goal.loop-k-preserved
loop-k-preserved g c =
    let a = c.args in
    let x = c.loop-k.invariant in (
      omega arith,
      omega arith,
      block_more (g.I.Ink.byte a.ink) a.buffer.now a.at a.pixels c.loop-k.k c.loop-k.buffer _ _ x.0 x.2
          c.mix_bytes.ensures c.mix_bytes-in-loop-k.ensures,
    )

pub returns : goal.returns
returns g c = sweep-end _ _ _ _ _ _ c.loop-k.invariant.1 c.loop-k-test.false c.loop-k.invariant.2
