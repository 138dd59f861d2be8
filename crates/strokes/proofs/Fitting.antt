-- A visible pixel of a window that fits its buffer has a place in it.
-- Assumes nothing.
use mathlib.Core.Path.{◌≡◌}
use mathlib.Core.Bool.{Bool, true, ◌&&◌}
use Prim.Native.Nat.{ℕ, ◌+◌, ◌-◌, ◌*◌, ◌≤◌}
use native.Mathlib.Nat.{mul_comm}
use native.Mathlib.Omega.{arith}
use borrow.Author.Tests.{leb-true}
use lib.Dec.{leb}
use Rattle.lemmas.proofs.Booleans.{and_left, and_right}
use Rattle.geometry.specs.Coordinates.{origin}
use Rattle.geometry.specs.Clip.{in_window}
use Rattle.geometry.specs.declared.Point.{Point}
use Rattle.geometry.specs.declared.Window.{Window}
use Rattle.geometry.proofs.Clips.{area}
use Rattle.geometry.proofs.Windows.{shown_of}
use Rattle.strokes.specs.Strokes.{window_fits}
use Rattle.strokes.specs.Bresenham.{Placed}

record Fits (width : ℕ) (w : Window) (long : ℕ) : Type 0 where
  left_in : origin ≤ w.left
  right-in : w.right ≤ origin + width
  top_in : origin ≤ w.top
  rows_in : (w.bottom - origin) * width ≤ long

five : (a b c d e : Bool) → (a && b && c && d && e) ≡ true → (a ≡ true) × (b ≡ true) × (c ≡ true) × (e ≡ true)
five a b c d e h =
    let abcd = and_left (a && b && c && d) e h in
    let abc = and_left (a && b && c) d abcd in
    let ab = and_left (a && b) c abc in
    (and_left a b ab, and_right a b ab, and_right (a && b) c abc, and_right (a && b && c && d) e h)

fits-of : (width : ℕ) (w : Window) (long : ℕ) → window_fits width w long ≡ true → Fits width w long
fits-of width w long h =
    let t = five (leb origin w.left) (leb w.right (origin + width)) (leb origin w.top) (leb w.bottom (origin + 65536)) (leb ((w.bottom - origin) * width) long) h in
    record {
      left_in = leb-true origin w.left t.0;
      right-in = leb-true w.right (origin + width) t.1;
      top_in = leb-true origin w.top t.2;
      rows_in = leb-true ((w.bottom - origin) * width) long t.3;
    }

-- a visible pixel has a place in the buffer
pub placed : (width : ℕ) (w : Window) (long : ℕ) (p : Point) → window_fits width w long ≡ true → in_window w p ≡ true → Placed width long p
placed width w long p h g =
    let f = fits-of width w long h in
    let s = shown_of w p g in
    let inside = area width (w.bottom - origin) (p.x - origin) (p.y - origin) (omega (arith, f, s)) (omega (arith, f, s)) in
    record {
      x-in = omega (arith, f, s);
      y-in = omega (arith, f, s);
      place-in = omega (arith, f, inside, mul_comm width (w.bottom - origin));
    }
