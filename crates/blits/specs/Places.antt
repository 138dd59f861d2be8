-- Where the rows of a blit lie, and begin in a buffer.
use Rattle.std.specs.Prelude.{Bool, cond, ℕ, ◌+◌, ◌-◌, ◌*◌}
use Rattle.geometry.specs.Coordinates.{origin, point_of}
use Rattle.geometry.specs.Blit.{bottom_to_top, right_to_left, away}
use Rattle.blits.specs.declared.Blit.{Blit}

abbrev pub target_row : Blit → ℕ → ℕ
target_row b r = away (bottom_to_top b.direction) (point_of b.to).y r

abbrev pub source_row : Blit → ℕ → ℕ
source_row b r = away (bottom_to_top b.direction) (point_of b.from).y r

-- The left edge of the columns from a to before z, and its place in row r of a blit that starts at a corner.
abbrev pub left_edge : Bool → ℕ → ℕ → ℕ → ℕ
left_edge back x a z = cond back (x - (z - 1)) (x + a)

abbrev pub place_at : ℕ → ℕ → ℕ → ℕ → ℕ → ℕ → ℕ
place_at corner width direction a z r =
    (away (bottom_to_top direction) (point_of corner).y r - origin) * width + (left_edge (right_to_left direction) (point_of corner).x a z - origin)
