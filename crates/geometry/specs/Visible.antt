-- The part of a blit that clip and buffer let through (02, R-6): "only destination pixels inside the buffer and, with CLIP,
-- inside the clip, in the same order as before".
use Rattle.std.specs.Prelude.{◌≡◌, Bool, true, false, cond, ◌&&◌, List, [], ◌∷◌, map, ℕ, ◌+◌, ◌-◌, ◌*◌, ◌/◌, ◌%◌, ◌≤◌, ◌<◌, min, eqb, leb, ltb, Option, Some, None}
use Rattle.lemmas.specs.Numbers.{below, filtered}
use Rattle.geometry.specs.Coordinates.{point_of}
use Rattle.geometry.specs.Clip.{window_of, in_window}
use Rattle.geometry.specs.Blit.{width_of, height_of, blit_count, bottom_to_top, right_to_left, cell, blit_cell, blit_cells, cell_point}
use Rattle.geometry.specs.declared.Cell.{Cell}
use Rattle.geometry.specs.declared.Extent.{Extent}
use Rattle.geometry.specs.declared.Point.{Point}
use Rattle.geometry.specs.declared.Window.{Window}
use Rattle.geometry.specs.declared.visible.Range.{Range}
use Rattle.geometry.specs.declared.visible.Part.{Part}

-- Whether a window shows the pixel of a cell, from a corner on.
abbrev pub cell_shows : Window → Point → ℕ → Option Cell → Bool
cell_shows w corner direction (Some c) = in_window w (cell_point corner direction c.column c.row)
cell_shows w corner direction None = false

-- The j below n whose pixel, j from c on or back, is at low <= x < high.
unfoldable pub visible_range : Bool → ℕ → ℕ → ℕ → ℕ → Range
visible_range back c low high n =
    cond back (record { from = c + 1 - high; past = min n (c + 1 - low) })
    (record { from = low - c; past = min n (high - c) })

abbrev pub length_of : Range → ℕ
length_of r = r.past - r.from

-- The visible columns and rows of a blit, counted from its corner, and how many cells they have.
abbrev pub visible_part : Point → ℕ → ℕ → Window → Part
visible_part corner size direction w =
    record {
      columns = visible_range (right_to_left direction) corner.x w.left w.right (width_of size);
      rows = visible_range (bottom_to_top direction) corner.y w.top w.bottom (height_of size);
    }

abbrev pub cell_count : Part → ℕ
cell_count p = length_of p.columns * length_of p.rows

abbrev pub visible_count : Point → ℕ → ℕ → Window → ℕ
visible_count corner size direction w = cell_count (visible_part corner size direction w)

-- Whether a blit down and to the right of its corner shows whole.
abbrev pub shows_whole : Point → ℕ → ℕ → Window → Bool
shows_whole corner size direction w =
    eqb direction 0
    && leb w.left corner.x
    && leb (corner.x + width_of size) w.right
    && leb w.top corner.y
    && leb (corner.y + height_of size) w.bottom

-- Visible cell k is at column k mod columns of row k div columns of the visible part: which of all cells of the blit it is.
abbrev pub index_in : ℕ → Part → ℕ → ℕ
index_in size p k =
    width_of size * (p.rows.from + k / length_of p.columns) + (p.columns.from + k % length_of p.columns)

-- The same, or the blit's count where there is no visible cell k.
unfoldable pub visible_index : Point → ℕ → ℕ → Window → ℕ → ℕ
visible_index corner size direction w k =
    let p = visible_part corner size direction w in
    cond (ltb k (cell_count p)) (index_in size p k) (blit_count size)

abbrev pub visible_cell : Point → ℕ → ℕ → Window → ℕ → Option Cell
visible_cell corner size direction w k = blit_cell size (visible_index corner size direction w k)

abbrev pub visible_cells : Point → ℕ → ℕ → Window → List (Option Cell)
visible_cells corner size direction w = map (visible_cell corner size direction w) (below (visible_count corner size direction w))

-- What the index of a visible cell needs to be worked out.
pub record IndexFits (width row column columns k : ℕ) : Type 0 where
  pub some-columns : 0 < columns
  pub row_small : row + k / columns < 65536
  pub column-small : column + k % columns < 65536
  pub product_small : width * (row + k / columns) < 4294967296

-- What holds of them; proved in proofs/Visibility.antt. No coordinate of a window that clip and buffer make is 0.
pub record Positive (w : Window) : Type 0 where
  pub left-some : 0 < w.left
  pub top-some : 0 < w.top

-- The visible cells are the blit's cells less those that the window hides, in order.
abbrev pub VisibleInOrder : Type 0
VisibleInOrder =
    (corner : Point) (size direction : ℕ) (w : Window) → Positive w
    → visible_cells corner size direction w
    ≡ filtered (cell_shows w corner direction) (blit_cells size)

-- "No blit may take more pixel steps than width times height of the board."
abbrev pub VisibleFits : Type 0
VisibleFits =
    (extent : Extent) (clip : Bool) (top_left bottom_right : ℕ) (corner : Point) (size direction : ℕ)
    → visible_count corner size direction (window_of extent clip top_left bottom_right)
    ≤ extent.width * extent.height

-- On a board of 8 by 4: a clear of 2,048 by 2,048 from (-1000, -1000); a blit of 4 by 4 from (9, 5) up and to the left, of
-- which (7, 3), (6, 3), (7, 2) and (6, 2) are visible; a reversed clip.
abbrev pub small : Extent
small = record { width = 8; height = 4 }

abbrev pub HugeClear : Type 0
HugeClear = visible_count (point_of 0xFC18_FC18) 0x0800_0800 0 (window_of small false 0 0) ≡ 32

abbrev pub UpAndLeft : Type 0
UpAndLeft =
    visible_cells (point_of 0x0009_0005) 0x0004_0004 3 (window_of small false 0 0)
    ≡ map Some (cell 2 2 ∷ cell 3 2 ∷ cell 2 3 ∷ cell 3 3 ∷ [])

abbrev pub NothingVisible : Type 0
NothingVisible = visible_count (point_of 0x0000_0000) 0x0008_0004 0 (window_of small true 0x0003_0003 0x0002_0002) ≡ 0
