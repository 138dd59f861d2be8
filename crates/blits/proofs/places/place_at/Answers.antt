-- The equations of its parts, one after the other; a corner's coordinates are within 17 bits (`x_below`, `y-below`).
use native.Mathlib.Omega.{arith}
use Rattle.geometry.specs.Coordinates.{point_of}
use Rattle.geometry.specs.Blit.{bottom_to_top, right_to_left}
use Rattle.blits.proofs.Visits.{x-from}
use Rattle.blits.proofs.Bounds.{x_below, y-below}
use Rattle.blits.proofs.Rooms.{edge-below, away-below}
use Rattle.blits.proofs.places.place_at.Goals as goal

pub left_edge-x-requires : goal.left_edge-x-requires
left_edge-x-requires c = let start = c.before in rw c.point_of-c.ensures (x-from start.args.corner, x_below start.args.corner, start.requires.1, start.requires.2)

pub along-y-requires : goal.along-y-requires
along-y-requires c = let start = c.before.before in rw c.point_of-c.ensures (omega (arith, y-below start.args.corner, start.requires.3))

pub place_in-requires : goal.place_in-requires
place_in-requires c =
    let start = c.before.before.before in
    let s = start.args in
    rw (c.along-y.ensures, c.left_edge-x.ensures, c.point_of-c.ensures) (
      start.requires.0,
      edge-below (right_to_left s.direction) (point_of s.corner).x s.across.from s.across.past (x_below s.corner) (omega (arith, start.requires.1, start.requires.2)),
      away-below (bottom_to_top s.direction) (point_of s.corner).y s.row (y-below s.corner) start.requires.3,
    )
