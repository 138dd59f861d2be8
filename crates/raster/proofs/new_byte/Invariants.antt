use mathlib.Core.Path.{◌≡◌}
use Rattle.raster.proofs.Rule.{set_in}
use Rattle.raster.proofs.new_byte.Given as goal

abbrev pub invariant-loop-pair : goal.invariant-loop-pair
invariant-loop-pair l = l.new ≡ set_in l.code l.source l.old l.pair
