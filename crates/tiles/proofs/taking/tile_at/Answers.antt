-- A tile that is not whole is not taken. Of one that is, the corner lies in the buffer (`whole-fits`), and the tile from its
-- place on is the one taken (`taken-whole`).
use native.Mathlib.Omega.{arith}
use mathlib.Core.Path.{sym, ◌∙◌}
use Rattle.tiles.specs.Tiles.{fill_of}
use Rattle.tiles.proofs.Corners.{place-small, whole-fits, taken-whole}
use Rattle.tiles.proofs.taking.tile_at.Goals as goal

pub returns-then-not-whole_at : goal.returns-then-not-whole_at
unfolding fill_of
returns-then-not-whole_at c = rw (← c.whole_at.ensures, c.if-not-whole_at.true) c.no_fill.ensures

pub overflow_sub-at : goal.overflow_sub-at
overflow_sub-at c =
    (whole-fits _ c.args.corner c.point_of-p.ensures c.args.extent (sym c.whole_at.ensures ∙ c.if-not-whole_at.false)).top

pub overflow_mul-at : goal.overflow_mul-at
overflow_mul-at c = omega (arith, place-small _ c.args.corner c.point_of-p.ensures c.args.extent.width (omega arith))

pub overflow_sub-at-2 : goal.overflow_sub-at-2
overflow_sub-at-2 c =
    (whole-fits _ c.args.corner c.point_of-p.ensures c.args.extent (sym c.whole_at.ensures ∙ c.if-not-whole_at.false)).left

pub overflow_add-at : goal.overflow_add-at
overflow_add-at c = omega (arith, place-small _ c.args.corner c.point_of-p.ensures c.args.extent.width (omega arith))

pub take_tile-requires : goal.take_tile-requires
take_tile-requires c =
    (omega arith, omega (arith, place-small _ c.args.corner c.point_of-p.ensures c.args.extent.width (omega arith)))

pub returns : goal.returns
returns c =
    let a = c.args in
    taken-whole _ a.corner c.point_of-p.ensures a.extent (sym c.whole_at.ensures ∙ c.if-not-whole_at.false) a.buffer.now _
    c.take_tile.ensures
