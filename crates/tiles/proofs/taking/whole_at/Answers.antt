-- The four tests are those of `whole_at` (`whole_by`); a coordinate is far below 64 bits (`x-high`, `y-high`).
use native.Mathlib.Omega.{arith}
use Rattle.tiles.proofs.Corners.{x-high, y-high, whole_by}
use Rattle.tiles.proofs.taking.whole_at.Goals as goal

pub overflow_add-result : goal.overflow_add-result
overflow_add-result c = omega (arith, x-high _ _ c.point_of-p.ensures)

pub overflow_add-result-3 : goal.overflow_add-result-3
overflow_add-result-3 c = omega (arith, y-high _ _ c.point_of-p.ensures)

pub returns : goal.returns
returns c =
    let e = c.before.before.before.before.before.before in
    whole_by _ _ e.point_of-p.ensures e.args.extent
