use mathlib.Core.Path.{◌≡◌}
use Prim.Native.Nat.{◌+◌}
use Rattle.lemmas.specs.Sweeps.{sweep}
use Rattle.rows.proofs.by_bytes.fill_bytes.Given as goal

abbrev pub invariant-loop-k : goal.invariant-loop-k
invariant-loop-k l = l.buffer ≡ sweep (λ j. l.at + j) (λ j m. l.x) l.k l.initial.buffer
