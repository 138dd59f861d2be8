-- No groups have no entries (`count-groups-none`); else those that end the last group as 31s are left out (`count-groups`).
use native.Mathlib.Omega.{arith}
use Rattle.packing.proofs.Judges.{closing-most, count-groups-none, count-groups}
use Rattle.packing.proofs.groups.count_of.Goals as goal

pub returns-then-groups-eq0 : goal.returns-then-groups-eq0
returns-then-groups-eq0 c = count-groups-none _ _ c.requires c.if-groups-eq0.true

pub overflow_sub-result : goal.overflow_sub-result
overflow_sub-result c = omega (arith, c.closing.ensures, closing-most c.group_at-x.result)

pub returns : goal.returns
returns c = count-groups _ _ _ _ c.requires c.group_at-x.ensures c.closing.ensures
