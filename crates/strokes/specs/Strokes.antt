-- Many pixels of a line (01, Pixels), in the order of their visits.
use Rattle.std.specs.Prelude.{Bool, cond, ◌&&◌, Option, None, Some, List, ℕ, zero, suc, ◌+◌, ◌-◌, ◌*◌, leb, ltb, length, get_or, set}
use Rattle.raster.specs.Selectors.{drawn}
use Rattle.raster.specs.declared.Pen.{Pen}
use Rattle.geometry.specs.Coordinates.{origin}
use Rattle.geometry.specs.Clip.{place_in, in_window}
use Rattle.geometry.specs.Line.{steps_of, line_point}
use Rattle.geometry.specs.declared.Point.{Point}
use Rattle.geometry.specs.declared.Window.{Window}
use Rattle.registers.specs.Patterns.{pattern_bit, next_of}
use Rattle.registers.specs.declared.dashes.Pattern.{Pattern}
use Rattle.strokes.specs.declared.Dashes.{Dashes}

-- One byte of the buffer, drawn with a pen.
abbrev pub plot : Pen → ℕ → List ℕ → List ℕ
plot pen place l = set l place (drawn pen (get_or l place 0))

-- One pixel, where it is visible in the window.
unfoldable pub plotted : ℕ → Window → Pen → Point → List ℕ → List ℕ
plotted width w pen p l = cond (in_window w p) (plot pen (place_in width p) l) l

-- n pixels from pixel `first` on.
unfoldable pub pixels_of : ℕ → Window → Pen → Point → Point → ℕ → ℕ → List ℕ → List ℕ
pixels_of width w pen a b first zero l = l
pixels_of width w pen a b first (suc n) l = plotted width w pen (line_point a b (first + n)) (pixels_of width w pen a b first n l)

-- Whether the window lies in a buffer of rows of `width` pixels.
abbrev pub window_fits : ℕ → Window → ℕ → Bool
window_fits width w long =
    leb origin w.left
    && leb w.right (origin + width)
    && leb origin w.top
    && leb w.bottom (origin + 65536)
    && leb ((w.bottom - origin) * width) long

-- A window that does not fit, a line of one pixel, or pixels past the line's end, draw nothing.
abbrev pub stroke_fits : ℕ → Window → Point → Point → ℕ → ℕ → ℕ → Bool
stroke_fits width w a b first n long = window_fits width w long && ltb 0 (steps_of a b) && leb (first + n) (steps_of a b + 1)

unfoldable pub stroke_of : ℕ → Window → Pen → Point → Point → ℕ → ℕ → List ℕ → List ℕ
stroke_of width w pen a b first n l = cond (stroke_fits width w a b first n (length l)) (pixels_of width w pen a b first n l) l

-- A buffer with a pattern state.
pub record Dashed : Type 0 where
  pub buffer : List ℕ
  pub pattern : Pattern

abbrev pub dashed : List ℕ → Pattern → Dashed
dashed l q = record { buffer = l; pattern = q }

-- The pattern's bit chooses the pen; a 0 bit has none where it draws nothing.
abbrev pub bit_pen : Dashes → Pattern → Option Pen
bit_pen d q = cond (pattern_bit d.lpat q) (Some d.fore) d.back

-- A buffer drawn on with a pen, if there is one.
abbrev pub drawn_by : Option Pen → (Pen → List ℕ) → List ℕ → List ℕ
drawn_by None draw l = l
drawn_by (Some pen) draw l = draw pen

-- One pixel of a dashed line, with the pen of the pattern's bit; the pattern moves, whether the pixel is visible or not (02, R-1).
unfoldable pub dash : ℕ → Window → Dashes → Point → Dashed → Dashed
dash width w d p s =
    record {
      buffer = drawn_by (bit_pen d s.pattern) (λ pen. plotted width w pen p s.buffer) s.buffer;
      pattern = next_of d.control s.pattern;
    }

unfoldable pub dash_pixels : ℕ → Window → Dashes → Point → Point → ℕ → ℕ → Dashed → Dashed
dash_pixels width w d a b first zero s = s
dash_pixels width w d a b first (suc n) s = dash width w d (line_point a b (first + n)) (dash_pixels width w d a b first n s)

unfoldable pub dashes_of : ℕ → Window → Dashes → Point → Point → ℕ → ℕ → Dashed → Dashed
dashes_of width w d a b first n s =
    cond (stroke_fits width w a b first n (length s.buffer)) (dash_pixels width w d a b first n s) s
