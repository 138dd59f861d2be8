-- The loop keeps `Filled`: j rows are there twice.
use native.Mathlib.Omega.{arith}
use Prim.Native.Nat.{◌*◌}
use Rattle.lemmas.proofs.Filling.{fill_end}
use Rattle.tiles.proofs.put_twice.Goals as goal

pub returns : goal.returns
returns c =
    let o = c.loop-j in
    rw c.if-bytes-ne256.false (fill_end _ _ _ o.bytes (32 * o.j) o.invariant (omega arith))
