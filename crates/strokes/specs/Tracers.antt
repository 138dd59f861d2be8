-- A line's pixels by an error term: what the term is at each pixel, and the step to the next.
use Rattle.std.specs.Prelude.{◌≡◌, true, cond, ◌⊎◌, ℕ, ◌+◌, ◌-◌, ◌*◌, ◌/◌, ◌%◌, ◌≤◌, ◌<◌, ltb}
use Rattle.geometry.specs.Clip.{in_window}
use Rattle.geometry.specs.Line.{exact, distance, steps_of, line_point}
use Rattle.geometry.specs.declared.Point.{Point}
use Rattle.geometry.specs.declared.Window.{Window}
use Rattle.lemmas.specs.Turns.{in_turn}
use Rattle.strokes.specs.declared.tracers.Stepper.{Stepper}
use Rattle.strokes.specs.declared.tracers.Tracer.{Tracer}

-- One axis of a line of n steps, from a to b, in the numbers of the machine.
pub record Axis (n a b : ℕ) : Type 0 where
  pub some : 0 < n
  pub steps-few : n < 65536
  pub from-small : a < 131072
  pub to-small : b < 131072
  pub slope : distance a b ≤ n

-- Upward the term is 2(E - nv) + n - 1, downward 2(nv - E) + n.
pub record Up (n e a b : ℕ) (g : Stepper) : Type 0 where
  pub order : a ≤ b
  pub up_is : g.up ≡ 1
  pub down_is : g.down ≡ 0
  pub term : 2 * (n * g.coordinate) + g.error + 1 ≡ 2 * e + n

pub record Down (n e a b : ℕ) (g : Stepper) : Type 0 where
  pub order : b ≤ a
  pub up_is : g.up ≡ 0
  pub down_is : g.down ≡ 1
  pub term : 2 * (n * g.coordinate) + n ≡ 2 * e + g.error

-- The stepper at pixel i of n, from a to b.
pub record On (n i a b : ℕ) (g : Stepper) : Type 0 where
  pub small : g.error < 2 * n
  pub slope : distance a b ≤ n
  pub grows : g.growth ≡ 2 * distance a b
  pub way : Up n (exact n i a b) a b g ⊎ Down n (exact n i a b) a b g

unfoldable pub stepped : ℕ → Stepper → Stepper
stepped full g =
    cond (ltb (g.error + g.growth) full)
    (record {
      coordinate = g.coordinate;
      error = g.error + g.growth;
      growth = g.growth;
      up = g.up;
      down = g.down;
    })
    (record {
      coordinate = g.coordinate + g.up - g.down;
      error = g.error + g.growth - full;
      growth = g.growth;
      up = g.up;
      down = g.down;
    })

-- The terms are in the numbers of the machine.
pub record Room (full : ℕ) (g : Stepper) : Type 0 where
  pub full-most : full ≤ 4294967296
  pub error-less : g.error < full
  pub growth-most : g.growth ≤ full
  pub coordinate-most : g.coordinate ≤ 131072
  pub up-most : g.up ≤ 1
  pub down-most : g.down ≤ 1

-- i pixels on, the coordinate steps each time that the term is full.
abbrev pub grown : ℕ → Stepper → ℕ
grown i g = g.error + i * g.growth

unfoldable pub stepped_by : ℕ → ℕ → Stepper → Stepper
stepped_by full i g =
    record {
      coordinate = g.coordinate + g.up * (grown i g / full) - g.down * (grown i g / full);
      error = grown i g % full;
      growth = g.growth;
      up = g.up;
      down = g.down;
    }

-- These are in the numbers of the machine.
pub record Leaps (full i : ℕ) (g : Stepper) : Type 0 where
  pub full-some : 0 < full
  pub room : Room full g
  pub pixels-few : i ≤ 65536
  pub down-enough : g.down * (grown i g / full) ≤ g.coordinate + g.up * (grown i g / full)

abbrev pub point_on : Tracer → Point
point_on t = record { x = t.x.coordinate; y = t.y.coordinate }

pub record Traces (a b : Point) (i : ℕ) (t : Tracer) : Type 0 where
  pub along-x : On (steps_of a b) i a.x b.x t.x
  pub along-y : On (steps_of a b) i a.y b.y t.y
  pub full_is : t.full ≡ 2 * steps_of a b

pub record RoomBoth (t : Tracer) : Type 0 where
  pub x-room : Room t.full t.x
  pub y-room : Room t.full t.y

unfoldable pub traced : Tracer → Tracer
traced t = record { x = stepped t.full t.x; y = stepped t.full t.y; full = t.full }

-- k pixels on
abbrev pub tracer_after : Tracer → ℕ → Tracer
tracer_after t k = in_turn (λ _. traced) k t

abbrev pub Runs : Tracer → ℕ → Type 0
Runs t n = (k : ℕ) → k < n → RoomBoth (tracer_after t k)

-- Where both ends of a stretch of a line are visible in a window, all of it is; proved in proofs/Between.antt.
abbrev pub Between : Type 0
Between =
    (w : Window) (a b : Point) (i k j : ℕ) → i ≤ k → k ≤ j → j ≤ steps_of a b
    → in_window w (line_point a b i) ≡ true → in_window w (line_point a b j) ≡ true → in_window w (line_point a b k) ≡ true
