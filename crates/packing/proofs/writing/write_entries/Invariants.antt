use mathlib.Core.Path.{◌≡◌}
use Prim.Native.Nat.{◌*◌}
use lib.Seq.{sets}
use Rattle.packing.specs.Editions.{strung, entry_bytes}
use Rattle.packing.specs.Groups.{position_of}
use Rattle.packing.proofs.writing.write_entries.Given as goal

abbrev pub invariant-loop-g : goal.invariant-loop-g
invariant-loop-g l = l.out ≡ sets l.initial.out 0 (strung (λ k. entry_bytes (position_of l.list k)) (3 * l.g))
