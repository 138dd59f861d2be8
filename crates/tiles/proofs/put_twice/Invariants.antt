use Prim.Native.Nat.{◌*◌}
use Rattle.lemmas.proofs.Filling.{Filled}
use Rattle.tiles.proofs.Doubling.{doubled_at}
use Rattle.tiles.proofs.put_twice.Given as goal

abbrev pub invariant-loop-j : goal.invariant-loop-j
invariant-loop-j l = Filled 0 (doubled_at l.fn.tile) 256 l.bytes (32 * l.j)
