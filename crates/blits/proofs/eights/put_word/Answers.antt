-- The loop keeps `Swept`: k bytes are stored. Each turn is one byte more, by `sweep-more`.
use native.Mathlib.Omega.{arith}
use Rattle.lemmas.proofs.Sweeps.{sweep-start, sweep-more, swept-start, swept-set}
use Rattle.blits.proofs.Words.{le-byte}
use Rattle.blits.proofs.eights.put_word.Goals as goal

pub loop-k-init : goal.loop-k-init
loop-k-init c = swept-start _ _ _ (sweep-start _ _ _)

pub loop-k-preserved : goal.loop-k-preserved
loop-k-preserved c =
    let x = c.loop-k.invariant in
    swept-set x _ _ (omega arith)
    (sweep-more _ _ _ _ _ _ x.done (rw c.to_le_bytes-bytes.ensures (le-byte c.args.word c.loop-k.k (omega arith))))
