-- A window lets through what clip and buffer do.
-- Assumes nothing.
use mathlib.Core.Path.{◌≡◌, refl, sym, ◌∙◌}
use mathlib.Core.Bool.{Bool, true, false, not, ◌&&◌, false≢true}
use Prim.Native.Nat.{ℕ, ◌+◌, ◌-◌, ◌≤◌, ◌<◌, min, max}
use native.Mathlib.Omega.{arith}
use borrow.Author.Tests.{leb-true, ltb-true, le-leb, lt-ltb}
use lib.Dec.{leb, ltb}
use Rattle.lemmas.proofs.Booleans.{and_left, and_right, both}
use Rattle.geometry.specs.Coordinates.{origin}
use Rattle.geometry.specs.Clip.{rect_of, in_rect, in_buffer, window_of, in_window, WindowLetsThrough}
use Rattle.geometry.specs.declared.Point.{Point}
use Rattle.geometry.specs.declared.Rect.{Rect}
use Rattle.geometry.specs.declared.Window.{Window}

-- two tests that follow from each other are one
same_test : (a b : Bool) → (a ≡ true → b ≡ true) → (b ≡ true → a ≡ true) → a ≡ b
same_test true b f g = sym (f refl)
same_test false true f g = absurd (false≢true (g refl))
same_test false false f g = refl

four : (a b c d : Bool) → (a && b && c && d) ≡ true → (a ≡ true) × (b ≡ true) × (c ≡ true) × (d ≡ true)
four a b c d h =
    let abc = and_left (a && b && c) d h in
    let ab = and_left (a && b) c abc in
    (and_left a b ab, and_right a b ab, and_right (a && b) c abc, and_right (a && b && c) d h)

pub record Shown (w : Window) (p : Point) : Type 0 where
  pub from-left : w.left ≤ p.x
  pub to-right : p.x < w.right
  pub from-top : w.top ≤ p.y
  pub to-bottom : p.y < w.bottom

pub shown_of : (w : Window) (p : Point) → in_window w p ≡ true → Shown w p
shown_of w p h =
    let t = four (leb w.left p.x) (ltb p.x w.right) (leb w.top p.y) (ltb p.y w.bottom) h in
    record {
      from-left = leb-true w.left p.x t.0;
      to-right = ltb-true p.x w.right t.1;
      from-top = leb-true w.top p.y t.2;
      to-bottom = ltb-true p.y w.bottom t.3;
    }

pub shown_by : (w : Window) (p : Point) → Shown w p → in_window w p ≡ true
shown_by w p s =
    both
    (both (both (le-leb w.left p.x s.from-left) (lt-ltb p.x w.right s.to-right)) (le-leb w.top p.y s.from-top))
    (lt-ltb p.y w.bottom s.to-bottom)

pub buffer-of : (width height : ℕ) (p : Point) → in_buffer width height p ≡ true
    → (origin ≤ p.x) × (origin ≤ p.y) × (p.x - origin < width) × (p.y - origin < height)
buffer-of width height p h =
    let t = four (leb origin p.x) (leb origin p.y) (ltb (p.x - origin) width) (ltb (p.y - origin) height) h in
    (leb-true origin p.x t.0, leb-true origin p.y t.1, ltb-true (p.x - origin) width t.2, ltb-true (p.y - origin) height t.3)

pub buffer-by : (width height : ℕ) (p : Point) → origin ≤ p.x → origin ≤ p.y → p.x - origin < width → p.y - origin < height
    → in_buffer width height p ≡ true
buffer-by width height p a b c d =
    both (both (both (le-leb origin p.x a) (le-leb origin p.y b)) (lt-ltb (p.x - origin) width c)) (lt-ltb (p.y - origin) height d)

rect-of : (r : Rect) (p : Point) → in_rect r p ≡ true → (r.left ≤ p.x) × (p.x ≤ r.right) × (r.top ≤ p.y) × (p.y ≤ r.bottom)
rect-of r p h =
    let t = four (leb r.left p.x) (leb p.x r.right) (leb r.top p.y) (leb p.y r.bottom) h in
    (leb-true r.left p.x t.0, leb-true p.x r.right t.1, leb-true r.top p.y t.2, leb-true p.y r.bottom t.3)

rect-by : (r : Rect) (p : Point) → r.left ≤ p.x → p.x ≤ r.right → r.top ≤ p.y → p.y ≤ r.bottom → in_rect r p ≡ true
rect-by r p a b c d =
    both (both (both (le-leb r.left p.x a) (le-leb p.x r.right b)) (le-leb r.top p.y c)) (le-leb p.y r.bottom d)

twice-not : (a : Bool) → not (not a) ≡ a
twice-not true = refl
twice-not false = refl

pub window-lets-through : WindowLetsThrough
unfolding window_of
window-lets-through extent false a b p =
    let width = extent.width in
    let height = extent.height in
    let w : Window = record { left = origin; right = origin + width; top = origin; bottom = origin + height } in
    same_test (in_window w p) (in_buffer width height p)
    (λ h. let s = shown_of w p h in buffer-by width height p s.from-left s.from-top (omega (arith, s.from-left, s.to-right)) (omega (arith, s.from-top, s.to-bottom)))
    (λ h.
    let t = buffer-of width height p h in
    shown_by w p (record { from-left = t.0; to-right = omega (arith, t.0, t.2); from-top = t.1; to-bottom = omega (arith, t.1, t.3) }))
window-lets-through extent true a b p =
    let width = extent.width in
    let height = extent.height in
    let r = rect_of a b in
    let w : Window =
    record { left = max origin r.left; right = min (origin + width) (r.right + 1); top = max origin r.top; bottom = min (origin + height) (r.bottom + 1) } in
    let inside = not (not (in_rect r p)) in
    same_test (in_window w p) (inside && in_buffer width height p)
    (λ h.
    let s = shown_of w p h in
    both
    (twice-not (in_rect r p)
    ∙ rect-by r p (omega (arith, s.from-left)) (omega (arith, s.to-right)) (omega (arith, s.from-top)) (omega (arith, s.to-bottom)))
    (buffer-by width height p (omega (arith, s.from-left)) (omega (arith, s.from-top)) (omega (arith, s.from-left, s.to-right)) (omega (arith, s.from-top, s.to-bottom))))
    (λ h.
    let t = buffer-of width height p (and_right inside (in_buffer width height p) h) in
    let u = rect-of r p (sym (twice-not (in_rect r p)) ∙ and_left inside (in_buffer width height p) h) in
    shown_by w p
    (record {
      from-left = omega (arith, t.0, u.0);
      to-right = omega (arith, t.0, t.2, u.1);
      from-top = omega (arith, t.1, u.2);
      to-bottom = omega (arith, t.1, t.3, u.3);
    }))
