-- The pixels of a blit (01, Pixels), from the corner that the direction asks for (003, 6.2).
use Rattle.std.specs.Prelude.{◌≡◌, Bool, cond, List, map, ℕ, ◌+◌, ◌-◌, ◌*◌, ◌/◌, ◌%◌, ◌<◌, eqb, ltb, ℤ, pos, ◌+ℤ◌, ◌-ℤ◌, Option, Some, None}
use Rattle.lemmas.specs.Numbers.{below}
use Rattle.geometry.specs.Coordinates.{whole_of, signed16, point_of}
use Rattle.geometry.specs.declared.Point.{Point}
use Rattle.geometry.specs.declared.Cell.{Cell}

-- "XY2: width, then height"
abbrev pub width_of : ℕ → ℕ
width_of size = size / 65536

abbrev pub height_of : ℕ → ℕ
height_of size = size % 65536

-- "BITBLT visits width x height pixels"
abbrev pub blit_count : ℕ → ℕ
blit_count size = width_of size * height_of size

-- "XY3 1 and 3 go bottom to top, 2 and 3 right to left"
abbrev pub bottom_to_top : ℕ → Bool
bottom_to_top direction = eqb (direction % 2) 1

abbrev pub right_to_left : ℕ → Bool
right_to_left direction = eqb (direction / 2 % 2) 1

abbrev pub away : Bool → ℕ → ℕ → ℕ
away back c k = cond back (c - k) (c + k)

-- "in rows": visit k is at column k mod width of row k div width, both counted from the corner
abbrev pub column_of : ℕ → ℕ → ℕ
column_of size k = k % width_of size

abbrev pub row_of : ℕ → ℕ → ℕ
row_of size k = k / width_of size

abbrev pub cell : ℕ → ℕ → Cell
cell column row = record { column = column; row = row }

-- the cell of visit k, where there is one
unfoldable pub blit_cell : ℕ → ℕ → Option Cell
blit_cell size k = cond (ltb k (blit_count size)) (Some (cell (column_of size k) (row_of size k))) None

abbrev pub blit_cells : ℕ → List (Option Cell)
blit_cells size = map (blit_cell size) (below (blit_count size))

-- The pixel of a cell, from a corner on; source and destination have the same cells.
abbrev pub cell_point : Point → ℕ → ℕ → ℕ → Point
cell_point corner direction column row =
    record { x = away (right_to_left direction) corner.x column; y = away (bottom_to_top direction) corner.y row }

abbrev pub cell_visit : Point → ℕ → Option Cell → Option Point
cell_visit corner direction (Some c) = Some (cell_point corner direction c.column c.row)
cell_visit corner direction None = None

-- The pixel of visit k.
abbrev pub blit_point : Point → ℕ → ℕ → ℕ → Point
blit_point corner size direction k = cell_point corner direction (column_of size k) (row_of size k)

-- "Coordinates are plain whole numbers and never wrap": the same column and row are added to, or taken from, the signed
-- coordinates of any corner; proved in proofs/Blits.antt.
abbrev pub away_z : Bool → ℤ → ℕ → ℤ
away_z back c k = cond back (c -ℤ pos k) (c +ℤ pos k)

abbrev pub NeverWraps : Type 0
NeverWraps =
    (word size direction k : ℕ) → word < 4294967296 → size < 4294967296 → k < blit_count size
    → (whole_of (blit_point (point_of word) size direction k).x
    ≡ away_z (right_to_left direction) (signed16 (word / 65536)) (column_of size k))
    × (whole_of (blit_point (point_of word) size direction k).y
    ≡ away_z (bottom_to_top direction) (signed16 (word % 65536)) (row_of size k))
