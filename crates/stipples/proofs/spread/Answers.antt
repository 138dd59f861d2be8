-- `stipples::spread` meets its contract: bytes 1 and 0 are small enough (`ones-most`), and the result is `spread_of`.
-- Assumes nothing.
use native.Mathlib.Omega.{arith}
use Rattle.stipples.specs.Words.{spread_of}
use Rattle.stipples.proofs.Bytes.{ones-most}
use Rattle.stipples.proofs.spread.Goals as goal

pub overflow_mul-result : goal.overflow_mul-result
overflow_mul-result c = omega (arith, c.ones.ensures, ones-most c.args.bits)

pub returns : goal.returns
unfolding spread_of
returns c = rw c.ones.ensures
