-- Where a line crosses a border of a window, and what of it lies between the borders.
-- Assumes nothing.
use mathlib.Core.Path.{◌≡◌, ap, sym, ◌∙◌}
use mathlib.Core.Bool.{Bool, true, ◌&&◌}
use Prim.Native.Nat.{ℕ, ◌+◌, ◌-◌, ◌*◌, ◌≤◌, ◌<◌, min, max}
use native.Mathlib.Nat.{mul-zero, mul-one, mul-add, mul-suc, mul-le-mul_left, mul-le-mul_right}
use native.Mathlib.Omega.{arith}
use borrow.Author.Tests.{leb-true, leb-false}
use lib.Dec.{leb}
use Rattle.lemmas.proofs.Booleans.{by_cases, and_left, and_right}
use Rattle.geometry.specs.Clip.{in_window}
use Rattle.geometry.specs.Line.{exact, nearest_of, line_point, steps_of}
use Rattle.geometry.specs.declared.Point.{Point}
use Rattle.geometry.specs.declared.Window.{Window}
use Rattle.geometry.proofs.Lines.{Near, near, below, le_of_not_lt, parts, from-a-to-b}
use Rattle.geometry.proofs.Windows.{shown_of, shown_by}
use Rattle.strokes.specs.Ranges.{Counts, Before, Below, AtLeast, Ranges, Visible}
use Rattle.geometry.specs.declared.visible.Range.{Range}
use Rattle.strokes.proofs.Between.{between}
use Rattle.strokes.proofs.Terms.{nearest-below, exact-up, exact-down}

-- a coordinate by twice the exact one
under : (n e v c : ℕ) → Near n e v → 2 * e + n ≤ 2 * (n * c) → v < c
under n e v c p l = le_of_not_lt (λ h. omega (arith, p.high, mul-le-mul_left {m = c} {n = v} n (omega arith)))

over : (n e v c : ℕ) → Near n e v → 2 * (n * c) < 2 * e + n → c ≤ v
over n e v c p l = le_of_not_lt (λ h. omega (arith, p.low, below n v c h))

-- no coordinate is below both ends
nearest-above : (n i a b m : ℕ) → 0 < n → i ≤ n → m ≤ a → m ≤ b → m ≤ nearest_of n i a b
nearest-above n i a b m some l p q =
    over n (exact n i a b) (nearest_of n i a b) m (near n i a b some)
    (omega (arith, mul-le-mul_left {m = m} {n = a} (n - i) p, mul-le-mul_left {m = m} {n = b} i q, parts n i m l))

-- the whole way is less than any past it, and between none and the whole `count` counts
pub before-all : (n d way half : ℕ) → d < way → Before n d way half (n + 1)
before-all n d way half h =
    record {
      before =
          λ i l g.
          omega (arith, mul-le-mul_right {m = i} {n = n} d l, mul-le-mul_left {m = d + 1} {n = way} n (omega arith), mul-add n d 1, mul-one n);
      after = λ i l g. absurd (omega arith);
    }

pub before-count : (n d way half r : ℕ) → (way ≡ 0 → ⊥) → Counts n d (way - 1) half r → Before n d way half r
before-count n d way half r some k =
    let parted : n * way ≡ n * (way - 1) + n = ap (λ (j : ℕ). n * j) (omega (arith, some)) ∙ mul-suc n (way - 1) ∙ omega arith in
    record { before = λ i l g. omega (arith, k.within i g, parted); after = λ i l g. omega (arith, k.past i g, parted) }

-- the pixels below a border of an axis that goes up, and those at one or above of an axis that goes down
module _ (n a b c r : ℕ) (some : 0 < n) where
  pub below-border : a ≤ b → Before n (b - a) (c - a) n r → Below n a b c r
  below-border up k =
      by_cases (leb c a)
      (λ t.
      let none : c - a ≡ 0 = omega (arith, leb-true c a t) in
      let zero : n * (c - a) ≡ 0 = ap (λ (j : ℕ). n * j) none ∙ mul-zero n in
      record {
        before = λ i h g. absurd (omega (arith, k.before i h g, zero));
        after = λ i h g. nearest-above n i a b c some h (leb-true c a t) (omega (arith, leb-true c a t));
      })
      (λ t.
      let parted : n * c ≡ n * a + n * (c - a) = ap (λ (j : ℕ). n * j) (omega (arith, leb-false c a t)) ∙ mul-add n a (c - a) in
      record {
        before = λ i h g. under n (exact n i a b) (nearest_of n i a b) c (near n i a b some) (omega (arith, k.before i h g, exact-up n i a b h up, parted));
        after = λ i h g. over n (exact n i a b) (nearest_of n i a b) c (near n i a b some) (omega (arith, k.after i h g, exact-up n i a b h up, parted));
      })

  pub least-border : b ≤ a → Before n (a - b) (a + 1 - c) (n - 1) r → AtLeast n a b c r
  least-border down k =
      by_cases (leb c a)
      (λ t.
      let parted : n * a + n ≡ n * c + n * (a + 1 - c) =
      sym (mul-add n a 1 ∙ ap (λ (j : ℕ). n * a + j) (mul-one n)) ∙ ap (λ (j : ℕ). n * j) (omega (arith, leb-true c a t)) ∙ mul-add n c (a + 1 - c) in
      record {
        before = λ i h g. over n (exact n i a b) (nearest_of n i a b) c (near n i a b some) (omega (arith, k.before i h g, exact-down n i a b h down, parted));
        after = λ i h g. under n (exact n i a b) (nearest_of n i a b) c (near n i a b some) (omega (arith, k.after i h g, exact-down n i a b h down, parted));
      })
      (λ t.
      let less : a < c = leb-false c a t in
      let none : a + 1 - c ≡ 0 = omega arith in
      let zero : n * (a + 1 - c) ≡ 0 = ap (λ (j : ℕ). n * j) none ∙ mul-zero n in
      record {
        before = λ i h g. absurd (omega (arith, k.before i h g, zero));
        after = λ i h g. nearest-below n i a b c some h less (omega arith);
      })

-- what lies between two borders
module _ (n a b low high from past : ℕ) where
  ranges-up : Below n a b low from → Below n a b high past → Ranges n a b low high (record { from = from; past = past })
  ranges-up p q =
      record {
        inside = λ i h l g. (p.after i h l, q.before i h g);
        only =
            λ i h l g. (
              le_of_not_lt (λ t. omega (arith, p.before i h t)),
              le_of_not_lt (λ t. omega (arith, q.after i h (omega arith))),
            );
      }

  ranges-down : AtLeast n a b high from → AtLeast n a b low past → Ranges n a b low high (record { from = from; past = past })
  ranges-down p q =
      record {
        inside = λ i h l g. (q.before i h g, p.after i h l);
        only =
            λ i h l g. (
              le_of_not_lt (λ t. omega (arith, p.before i h t)),
              le_of_not_lt (λ t. omega (arith, q.after i h (omega arith))),
            );
      }

  pub range-up : 0 < n → a ≤ b → Before n (b - a) (low - a) n from → Before n (b - a) (high - a) n past
      → Ranges n a b low high (record { from = from; past = past })
  range-up some up p q = ranges-up (below-border n a b low from some up p) (below-border n a b high past some up q)

  pub range-down : 0 < n → b ≤ a → Before n (a - b) (a + 1 - high) (n - 1) from → Before n (a - b) (a + 1 - low) (n - 1) past
      → Ranges n a b low high (record { from = from; past = past })
  range-down some down p q = ranges-down (least-border n a b high from some down p) (least-border n a b low past some down q)

short : (i last steps : ℕ) → i < last → last ≤ steps + 1 → i ≤ steps
short i last steps g l = omega arith

-- a line whose ends are visible is visible whole
pub visible-whole : (w : Window) (a b : Point) (first n : ℕ) (t : Bool) → first + n ≤ steps_of a b + 1
    → t ≡ (in_window w a && in_window w b) → t ≡ true → Visible w a b first n (record { from = first; past = first + n })
visible-whole w a b first n t l e f =
    let ends = from-a-to-b a b in
    let both = sym e ∙ f in
    let at_a : in_window w (line_point a b 0) ≡ true = ap (in_window w) ends.0 ∙ and_left (in_window w a) (in_window w b) both in
    let at_b : in_window w (line_point a b (steps_of a b)) ≡ true = ap (in_window w) ends.1 ∙ and_right (in_window w a) (in_window w b) both in
    record {
      from_first = omega arith;
      to_last = omega arith;
      inside = λ i k g. between w a b 0 i (steps_of a b) (omega arith) (short i (first + n) (steps_of a b) g l) (omega arith) at_a at_b;
      only = λ i k g t. (k, g);
    }

-- the largest of three, and the smallest
from_all : (f x y i : ℕ) → max (max f x) y ≤ i → (f ≤ i) × (x ≤ i) × (y ≤ i)
from_all f x y i h = (omega arith, omega arith, omega arith)

to-all : (f x y i : ℕ) → i < min (min f x) y → (i < f) × (i < x) × (i < y)
to-all f x y i h = (omega arith, omega arith, omega arith)

by_all : (f g x y z w i : ℕ) → f ≤ i → i < g → (x ≤ i) × (i < z) → (y ≤ i) × (i < w)
    → (max (max f x) y ≤ i) × (i < min (min g z) w)
by_all f g x y z w i h k p q = (omega (arith, p, q), omega (arith, p, q))

first-most : (f x y : ℕ) → f ≤ max (max f x) y
first-most f x y = omega arith

last-least : (f x y : ℕ) → min (min f x) y ≤ f
last-least f x y = omega arith

visible-part : (w : Window) (a b : Point) (first n : ℕ) (x y : Range) → first + n ≤ steps_of a b + 1
    → Ranges (steps_of a b) a.x b.x w.left w.right x → Ranges (steps_of a b) a.y b.y w.top w.bottom y
    → Visible w a b first n
    (record { from = max (max first x.from) y.from; past = min (min (first + n) x.past) y.past })
visible-part w a b first n x y l p q =
    record {
      from_first = first-most first x.from y.from;
      to_last = last-least (first + n) x.past y.past;
      inside =
          λ i h g.
          let low = from_all first x.from y.from i h in
          let high = to-all (first + n) x.past y.past i g in
          let on = short i (first + n) (steps_of a b) high.0 l in
          let wide = p.inside i on low.1 high.1 in
          let tall = q.inside i on low.2 high.2 in
          shown_by w (line_point a b i) (record { from-left = wide.0; to-right = wide.1; from-top = tall.0; to-bottom = tall.1 });
      only =
          λ i h g t.
          let on = short i (first + n) (steps_of a b) g l in
          let s = shown_of w (line_point a b i) t in
          by_all first (first + n) x.from y.from x.past y.past i h g (p.only i on s.from-left s.to-right)
          (q.only i on s.from-top s.to-bottom);
    }

-- by the axes of a line and the range of each, however the line's fields have them
module _ (w : Window) (a b : Point) (first n steps : ℕ) (x : Range) (l : first + n ≤ steps + 1) (are : steps ≡ steps_of a b)
    (wide : Ranges steps a.x b.x w.left w.right x) where
  pub visible-by : (y : Range) (f₁ f₂ p₁ p₂ : ℕ) → Ranges steps a.y b.y w.top w.bottom y → f₁ ≡ max first x.from → f₂ ≡ max f₁ y.from
      → p₁ ≡ min (first + n) x.past → p₂ ≡ min p₁ y.past → Visible w a b first n (record { from = f₂; past = p₂ })
  visible-by y f₁ f₂ p₁ p₂ tall h i j k =
      rw (i, h, k, j) (visible-part w a b first n x y (rw are at l) (rw are at wide) (rw are at tall))

  -- a line that lies left or right of the window
  pub hidden-beside : x.past ≤ x.from → Visible w a b first n (record { from = first; past = first })
  hidden-beside none =
      let ranges = rw are at wide in
      record {
        from_first = omega arith;
        to_last = omega arith;
        inside = λ i h k. absurd (omega (arith, h, k));
        only =
            λ i h k t.
            let on = short i (first + n) (steps_of a b) k (rw are at l) in
            let s = shown_of w (line_point a b i) t in
            let within = ranges.only i on s.from-left s.to-right in
            absurd (omega (arith, within, none));
      }
