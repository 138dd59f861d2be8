-- The places of a stretch of a line that is visible whole, by Bresenham's algorithm.
use Rattle.std.specs.Prelude.{◌≡◌, cond, List, ◌⊎◌, ℕ, ◌+◌, ◌-◌, ◌*◌, ◌≤◌, ◌<◌, eqb, ltb}
use Rattle.raster.specs.Selectors.{drawn}
use Rattle.raster.specs.declared.Pen.{Pen}
use Rattle.geometry.specs.Coordinates.{origin}
use Rattle.geometry.specs.declared.Point.{Point}
use Rattle.registers.specs.Patterns.{next_of}
use Rattle.geometry.specs.Clip.{place_in}
use Rattle.strokes.specs.Strokes.{plot, Dashed, bit_pen, drawn_by}
use Rattle.lemmas.specs.Turns.{in_turn}
use Rattle.strokes.specs.Tracers.{point_on, tracer_after, Runs}
use Rattle.strokes.specs.declared.Dashes.{Dashes}
use Rattle.strokes.specs.declared.tracers.Stepper.{Stepper}
use Rattle.strokes.specs.declared.tracers.Tracer.{Tracer}
use Rattle.strokes.specs.declared.bresenham.Bresenham.{Bresenham}
use Rattle.strokes.specs.declared.bresenham.Strides.{Strides}
use Rattle.strokes.specs.declared.bresenham.Course.{Course}

-- The minor axis steps where the growth leaves no slack.
unfoldable pub moved : Strides → Bresenham → Bresenham
moved s c =
    cond (ltb s.growth c.slack) (record { place = c.place + s.ahead - s.back; slack = c.slack - s.growth })
    (record { place = c.place + s.ahead - s.back + s.up - s.down; slack = c.slack + s.wrap })

-- A move stays in the numbers of the machine.
pub record Moves (s : Strides) (c : Bresenham) : Type 0 where
  pub slack-some : 0 < c.slack
  pub slack-most : c.slack ≤ 4294967296
  pub wrap-most : s.wrap ≤ 4294967296
  pub place-most : c.place ≤ 1125899906842624
  pub ahead-most : s.ahead ≤ 4294967296
  pub up-most : s.up ≤ 4294967296
  pub back-enough : s.back ≤ c.place + s.ahead
  pub down-enough : c.slack ≤ s.growth → s.down ≤ c.place + s.ahead - s.back + s.up

-- k pixels on
abbrev pub bresenham_after : Strides → Bresenham → ℕ → Bresenham
bresenham_after s c k = in_turn (λ _. moved s) k c

unfoldable pub course_by : Stepper → Stepper → ℕ → ℕ → ℕ → Course
course_by major minor along across full =
    record {
      start =
          record {
            place = (major.coordinate - origin) * along + (minor.coordinate - origin) * across;
            slack = full - minor.error;
          };
      strides =
          record {
            growth = minor.growth;
            wrap = full - minor.growth;
            ahead = major.up * along;
            back = major.down * along;
            up = minor.up * across;
            down = minor.down * across;
          };
    }

-- x is the major axis where its error term is full at each pixel
unfoldable pub course_of : ℕ → Tracer → Course
course_of width t =
    cond (eqb t.x.growth t.full) (course_by t.x t.y 1 width t.full) (course_by t.y t.x width 1 t.full)

-- Pixel k of a course.
abbrev pub course_at : Course → ℕ → Bresenham
course_at o k = bresenham_after o.strides o.start k

-- The places of n pixels, at least one, are in the buffer, and each but the last can move on.
pub record Places (o : Course) (n long : ℕ) : Type 0 where
  pub some : 0 < n
  pub slack-some : 0 < o.start.slack
  pub inside : (k : ℕ) → k < n → (course_at o k).place < long
  pub moves : (k : ℕ) → k + 1 < n → Moves o.strides (course_at o k)

-- Each place is next to the one before it.
pub record InRow (s : Strides) : Type 0 where
  pub level : s.growth ≡ 0
  pub next : s.ahead + s.back ≡ 1

-- One visible pixel of a dashed line.
unfoldable pub plot_dash : Dashes → ℕ → Dashed → Dashed
plot_dash d place s =
    record {
      buffer = drawn_by (bit_pen d s.pattern) (λ pen. plot pen place s.buffer) s.buffer;
      pattern = next_of d.control s.pattern;
    }

-- What makes a new byte of an old one draws as a pen does.
abbrev pub Draws : Pen → (ℕ → ℕ → Type 0) → Type 0
Draws pen makes = (old new : ℕ) → old < 256 → makes old new → new ≡ drawn pen old

-- At pixel k of a course.
abbrev pub plot_at : Pen → Course → ℕ → List ℕ → List ℕ
plot_at pen o k = plot pen (course_at o k).place

abbrev pub plot_dash_at : Dashes → Course → ℕ → Dashed → Dashed
plot_dash_at d o k = plot_dash d (course_at o k).place

-- At pixel k from a tracer on.
abbrev pub plot_on : ℕ → Pen → Tracer → ℕ → List ℕ → List ℕ
plot_on width pen t k = plot pen (place_in width (point_on (tracer_after t k)))

abbrev pub plot_dash_on : ℕ → Dashes → Tracer → ℕ → Dashed → Dashed
plot_dash_on width d t k = plot_dash d (place_in width (point_on (tracer_after t k)))

-- A tracer's pixel is at the origin or past it, on both axes.
abbrev pub FromOrigin : Tracer → Type 0
FromOrigin t = (origin ≤ t.x.coordinate) × (origin ≤ t.y.coordinate)

-- A pixel in a buffer of `long` bytes.
pub record Placed (width long : ℕ) (p : Point) : Type 0 where
  pub x-in : origin ≤ p.x
  pub y-in : origin ≤ p.y
  pub place-in : place_in width p < long

-- n pixels of a line, at least one, all in the buffer.
pub record Stretch (width : ℕ) (t : Tracer) (n long : ℕ) : Type 0 where
  pub some : 0 < n
  pub runs : Runs t n
  pub major : (t.x.growth ≡ t.full) ⊎ (t.y.growth ≡ t.full)
  pub inside : (k : ℕ) → k < n → Placed width long (point_on (tracer_after t k))
