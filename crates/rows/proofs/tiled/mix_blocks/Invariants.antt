use mathlib.Core.Path.{◌≡◌}
use Prim.Native.Nat.{◌-◌, ◌%◌, ◌≤◌}
use Rattle.rows.proofs.Tiles.{again}
use Rattle.rows.proofs.tiled.mix_blocks.Given as goal

abbrev pub invariant-loop-k : goal.invariant-loop-k
invariant-loop-k g l = (l.k % 32 ≡ 0) × (l.k ≤ l.n) × (l.buffer ≡ again (g.I.Ink.byte l.ink) l.k l.initial.buffer l.at l.pixels)

abbrev pub decreases-loop-k : goal.decreases-loop-k
decreases-loop-k g l = l.n - l.k
