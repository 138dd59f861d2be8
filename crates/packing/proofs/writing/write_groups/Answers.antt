-- The loop's invariant: the first g groups stand in front of the output, which is else as it was; a turn adds group g
-- (`groups-more`).
use mathlib.Core.Path.{refl}
use Rattle.packing.specs.Editions.{strung}
use Rattle.packing.proofs.Puts.{groups-more}
use Rattle.packing.proofs.writing.write_groups.Goals as goal

pub loop-g-init : goal.loop-g-init
unfolding strung
loop-g-init c = refl

pub loop-g-preserved : goal.loop-g-preserved
loop-g-preserved c = groups-more _ _ _ _ _ c.loop-g.invariant c.put_packed.ensures
