-- By whether the source byte is KEY: none of the bits that the new byte has otherwise are changed, or all.
use native.Mathlib.Omega.{arith}
use Rattle.rows.proofs.Mixing.{masked-key, masked-drawn}
use Rattle.rows.proofs.inks.MixInk.byte.Goals as goal
use Rattle.rows.proofs.inks.MixInk.byte.Goals.{then-eq, else-eq}

pub returns : goal.returns
returns c =
    elim c.if-eq.branch [
      | then-eq w ↦ masked-key _ _ _ _ c.eq.ensures _ _ w.if-eq.true w.mask-is
      | else-eq w ↦ masked-drawn c.args.self _ _ _ c.eq.ensures _ (omega arith) (omega arith) (omega arith) w.if-eq.false w.mask-is
    ]
