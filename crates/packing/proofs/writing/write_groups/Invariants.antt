use mathlib.Core.Path.{◌≡◌}
use lib.Seq.{sets}
use Rattle.packing.specs.Editions.{strung, packed_group}
use Rattle.packing.proofs.writing.write_groups.Given as goal

abbrev pub invariant-loop-g : goal.invariant-loop-g
invariant-loop-g l = l.out ≡ sets l.initial.out 0 (strung (packed_group l.list) l.g)
