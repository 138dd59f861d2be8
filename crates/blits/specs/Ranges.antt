-- Which columns and rows of a blit are visible, counted from its corner: those in the window, and whose source pixels, where
-- pixels are read, are in the buffer.
use Rattle.std.specs.Prelude.{◌≡◌, Bool, cond, ℕ, ◌+◌, ◌-◌, ◌<◌, min, max}
use Rattle.geometry.specs.Coordinates.{origin, point_of}
use Rattle.geometry.specs.Blit.{bottom_to_top, right_to_left}
use Rattle.geometry.specs.declared.Window.{Window}
use Rattle.blits.specs.declared.Blit.{Blit}
use Rattle.geometry.specs.declared.visible.Range.{Range}
use Rattle.geometry.specs.declared.visible.Part.{Part}
use Rattle.blits.specs.Blits.{reads, source_width}

-- The j whose pixel, j from c on or back, is at lo <= x < hi.
unfoldable pub range_of : Bool → ℕ → ℕ → ℕ → Range
range_of back c lo hi =
    cond back (record { from = c + 1 - hi; past = c + 1 - lo }) (record { from = lo - c; past = hi - c })

-- The columns and the rows of a blit to a corner that are in the window.
abbrev pub window_ranges : Window → ℕ → ℕ → Part
window_ranges w to direction =
    record {
      columns = range_of (right_to_left direction) (point_of to).x w.left w.right;
      rows = range_of (bottom_to_top direction) (point_of to).y w.top w.bottom;
    }

abbrev pub in_both : Range → Range → Range
in_both p q = record { from = max p.from q.from; past = min p.past q.past }

-- The visible j: j from t on or back in the window, and where pixels are read, j from s in the buffer.
unfoldable pub visible_range : Bool → Bool → ℕ → ℕ → ℕ → ℕ → ℕ → Range
visible_range reads back t lo hi s size =
    cond reads (in_both (range_of back t lo hi) (range_of back s origin (origin + size))) (range_of back t lo hi)

-- The visible columns of a blit, and the rows.
unfoldable pub visible_columns : Blit → Range
visible_columns b =
    visible_range (reads b.paint) (right_to_left b.direction) (point_of b.to).x b.window.left b.window.right (point_of b.from).x (source_width b)

unfoldable pub visible_rows : Blit → Range
visible_rows b =
    visible_range (reads b.paint) (bottom_to_top b.direction) (point_of b.to).y b.window.top b.window.bottom (point_of b.from).y b.height

abbrev pub visible_of : Blit → Part
visible_of b = record { columns = visible_columns b; rows = visible_rows b }

-- Those of n from `from` on that are visible.
abbrev pub part_of : Range → ℕ → ℕ → Range
part_of visible from n = record { from = max from visible.from; past = min (from + n) visible.past }

-- What is visible of a blit, and its size.
pub record Shown (b : Blit) (shown : Part) (size : ℕ) : Type 0 where
  pub visible : shown ≡ visible_of b
  pub sized : size ≡ b.size
  pub narrow : b.width < 4294967296
