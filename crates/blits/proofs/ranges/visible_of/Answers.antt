-- `visible_range` on each axis; corners and sizes are small enough for it (`x_below`, `y-below`, `source-small`).
use borrow.Author.Rules.{rules}
use Prim.Native.Nat.{◌<◌}
use native.Mathlib.Omega.{arith}
use Rattle.blits.specs.Ranges.{visible_columns, visible_rows}
use Rattle.blits.proofs.Bounds.{source-small, x_below, y-below}
use Rattle.blits.proofs.ranges.visible_of.Goals as goal

pub visible_range-columns-requires : goal.visible_range-columns-requires
visible_range-columns-requires c =
    let wide : c.args.b.width < 4294967296 = search rules in
    rw (c.source_width-across.ensures, c.point_of-source.ensures, c.point_of-target.ensures)
    (x_below _, x_below _, source-small c.args.b.paint c.args.b.width wide)

pub visible_range-rows-requires : goal.visible_range-rows-requires
visible_range-rows-requires c =
    let high : c.args.b.height < 4294967296 = search rules in
    rw (c.point_of-source.ensures, c.point_of-target.ensures) (y-below _, y-below _, omega (arith, high))

pub returns : goal.returns
unfolding visible_columns visible_rows
returns c =
    rw (
      c.visible_range-rows.ensures,
      c.visible_range-columns.ensures,
      c.source_width-across.ensures,
      c.point_of-source.ensures,
      c.point_of-target.ensures,
      c.reads_pixels-reads.ensures,
    )
