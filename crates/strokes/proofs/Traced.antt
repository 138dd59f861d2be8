-- A tracer follows its line.
-- Assumes nothing.
use mathlib.Core.Path.{◌≡◌, refl, ap, subst}
use mathlib.Core.List.{List}
use Prim.Native.Nat.{ℕ, zero, suc, ◌+◌, ◌*◌, ◌≤◌, ◌<◌}
use native.Mathlib.Omega.{arith}
use Rattle.raster.specs.declared.Pen.{Pen}
use Rattle.geometry.specs.Coordinates.{point_of}
use Rattle.geometry.specs.Line.{distance, steps_of, line_point}
use Rattle.geometry.specs.declared.Point.{Point}
use Rattle.geometry.specs.declared.Window.{Window}
use Rattle.geometry.proofs.Whole.{x-within, y-within}
use Rattle.geometry.proofs.Lines.{steps-lt}
use Rattle.strokes.specs.Strokes.{plotted, pixels_of, Dashed, dash, dash_pixels}
use Rattle.lemmas.specs.Turns.{in_turn}
use Rattle.strokes.specs.Tracers.{Axis, On, point_on, Traces, RoomBoth, traced, tracer_after, Runs}
use Rattle.strokes.specs.declared.Dashes.{Dashes}
use Rattle.strokes.specs.declared.tracers.Stepper.{Stepper}
use Rattle.strokes.specs.declared.tracers.Tracer.{Tracer}
use Rattle.strokes.proofs.Terms.{on-nearest, on-next, on_room}

x-slope : (a b : Point) → distance a.x b.x ≤ steps_of a b
x-slope a b = omega arith

y-slope : (a b : Point) → distance a.y b.y ≤ steps_of a b
y-slope a b = omega arith

within : (first k n steps : ℕ) → k < n → first + n ≤ steps + 1 → first + k ≤ steps
within first k n steps h l = omega arith

-- both axes of a line that the machine draws
module _ (v w : ℕ) (some : 0 < steps_of (point_of v) (point_of w)) where
  pub x-axis : Axis (steps_of (point_of v) (point_of w)) (point_of v).x (point_of w).x
  x-axis =
      record {
        some = some;
        steps-few = steps-lt v w;
        from-small = (x-within v).high;
        to-small = (x-within w).high;
        slope = x-slope (point_of v) (point_of w);
      }

  pub y-axis : Axis (steps_of (point_of v) (point_of w)) (point_of v).y (point_of w).y
  y-axis =
      record {
        some = some;
        steps-few = steps-lt v w;
        from-small = (y-within v).high;
        to-small = (y-within w).high;
        slope = y-slope (point_of v) (point_of w);
      }

pub traces-of : (a b : Point) (n i : ℕ) (x y : Stepper) → n ≡ steps_of a b → On n i a.x b.x x → On n i a.y b.y y
    → Traces a b i (record { x = x; y = y; full = 2 * n })
traces-of a b n i x y e u v = record { along-x = rw e at u; along-y = rw e at v; full_is = ap (λ (k : ℕ). 2 * k) e }

module _ (a b : Point) where
  traces-point : (i : ℕ) (t : Tracer) → 0 < steps_of a b → Traces a b i t → point_on t ≡ line_point a b i
  traces-point i t some o =
      let x = on-nearest (steps_of a b) i a.x b.x t.x o.along-x some in
      let y = on-nearest (steps_of a b) i a.y b.y t.y o.along-y some in
      λ k. record { x = x k; y = y k }

  traces-next : (i : ℕ) (t : Tracer) → i < steps_of a b → Traces a b i t → Traces a b (i + 1) (traced t)
  unfolding traced
  traces-next i t more o =
      let n = steps_of a b in
      record {
        along-x = rw o.full_is (on-next n i a.x b.x t.x more o.along-x);
        along-y = rw o.full_is (on-next n i a.y b.y t.y more o.along-y);
        full_is = o.full_is;
      }

  traces-after : (i : ℕ) (t : Tracer) (k : ℕ) → i + k ≤ steps_of a b → Traces a b i t → Traces a b (i + k) (tracer_after t k)
  unfolding in_turn
  traces-after i t zero l o = let none : i ≡ i + 0 = omega arith in subst (λ (j : ℕ). Traces a b j t) none o
  traces-after i t (suc k) l o =
      let one : i + k + 1 ≡ i + suc k = omega arith in
      subst (λ (j : ℕ). Traces a b j (traced (tracer_after t k))) one
      (traces-next (i + k) (tracer_after t k) (omega arith) (traces-after i t k (omega arith) o))

-- a line that the machine draws
module _ (a b : Point) (x : Axis (steps_of a b) a.x b.x) (y : Axis (steps_of a b) a.y b.y) where
  traces-room : (i : ℕ) (t : Tracer) → i ≤ steps_of a b → Traces a b i t → RoomBoth t
  traces-room i t l o =
      record {
        x-room = rw o.full_is (on_room (steps_of a b) i a.x b.x t.x o.along-x x l);
        y-room = rw o.full_is (on_room (steps_of a b) i a.y b.y t.y o.along-y y l);
      }

  pub traces-run : (first n : ℕ) (t : Tracer) → first + n ≤ steps_of a b + 1 → Traces a b first t → Runs t n
  traces-run first n t l o k h =
      let on : first + k ≤ steps_of a b = within first k n (steps_of a b) h l in
      traces-room (first + k) (tracer_after t k) on (traces-after a b first t k on o)

-- the line's pixels, in turn
pub pixels-in-turn : (width : ℕ) (w : Window) (pen : Pen) (a b : Point) (first n : ℕ) (l : List ℕ)
    → in_turn (λ k. plotted width w pen (line_point a b (first + k))) n l ≡ pixels_of width w pen a b first n l
unfolding in_turn pixels_of
pixels-in-turn width w pen a b first zero l = refl
pixels-in-turn width w pen a b first (suc n) l =
    ap (plotted width w pen (line_point a b (first + n))) (pixels-in-turn width w pen a b first n l)

pub dashes-in-turn : (width : ℕ) (w : Window) (d : Dashes) (a b : Point) (first n : ℕ) (s : Dashed)
    → in_turn (λ k. dash width w d (line_point a b (first + k))) n s ≡ dash_pixels width w d a b first n s
unfolding in_turn dash_pixels
dashes-in-turn width w d a b first zero s = refl
dashes-in-turn width w d a b first (suc n) s =
    ap (dash width w d (line_point a b (first + n))) (dashes-in-turn width w d a b first n s)

pub pixel : (a b : Point) (first n : ℕ) (t : Tracer) → 0 < steps_of a b → first + n ≤ steps_of a b + 1 → Traces a b first t
    → (k : ℕ) → k < n → point_on (tracer_after t k) ≡ line_point a b (first + k)
pixel a b first n t some l o k h =
    let on : first + k ≤ steps_of a b = within first k n (steps_of a b) h l in
    traces-point a b (first + k) (tracer_after t k) some (traces-after a b first t k on o)
