-- The pixels of a line (01, Pixels), from A to B.
use Rattle.std.specs.Prelude.{◌≡◌, Bool, true, false, cond, ℕ, ◌+◌, ◌-◌, ◌*◌, ◌/◌, ◌≤◌, ◌<◌, max, eqb, leb, ltb, ℤ, pos, neg_ℤ, ◌+ℤ◌, ◌-ℤ◌, ◌*ℤ◌, ◌≤ℤ◌, ◌<ℤ◌, Option, Some, None}
use Rattle.geometry.specs.Coordinates.{whole_of}
use Rattle.geometry.specs.declared.Point.{Point}

abbrev pub distance : ℕ → ℕ → ℕ
distance a b = (a - b) + (b - a)

-- "n = max(|dx|, |dy|)"
abbrev pub steps_of : Point → Point → ℕ
steps_of a b = max (distance a.x b.x) (distance a.y b.y)

-- "x being major where |dx| >= |dy|"
abbrev pub x_major : Point → Point → Bool
x_major a b = leb (distance a.y b.y) (distance a.x b.x)

-- "n + 1 pixels"; "NLST leaves out the pixel at B"
abbrev pub line_count : Point → Point → Bool → ℕ
line_count a b nlst = cond nlst (steps_of a b) (steps_of a b + 1)

-- "E = n x (A's minor) + i x (signed minor difference)", with no difference taken, for i up to n
abbrev pub exact : ℕ → ℕ → ℕ → ℕ → ℕ
exact n i a b = (n - i) * a + i * b

-- "the whole number nearest the exact line, a half going to the smaller coordinate"; "where n = 0 v is A's".
-- On the major axis the exact line is at a whole number at each pixel, so the one rule serves both axes.
unfoldable pub nearest_of : ℕ → ℕ → ℕ → ℕ → ℕ
nearest_of n i a b = cond (eqb n 0) a ((2 * exact n i a b + n - 1) / (2 * n))

-- pixel i, from 0 at A to n at B
abbrev pub line_point : Point → Point → ℕ → Point
line_point a b i = record { x = nearest_of (steps_of a b) i a.x b.x; y = nearest_of (steps_of a b) i a.y b.y }

-- the pixel of visit k, where there is one
unfoldable pub line_visit : Point → Point → Bool → ℕ → Option Point
line_visit a b nlst k = cond (ltb k (line_count a b nlst)) (Some (line_point a b k)) None

-- What document 01 says of these pixels; proved in proofs/LineRule.antt, in whole numbers, and proofs/Lines.antt.

-- "E = n x (A's minor) + i x (signed minor difference)"
abbrev pub exact_z : ℕ → ℕ → ℤ → ℤ → ℤ
exact_z n i a b = pos n *ℤ a +ℤ pos i *ℤ (b -ℤ a)

-- "-n <= 2(nv - E) < n"
pub record Nearest (n : ℕ) (e v : ℤ) : Type 0 where
  pub low : neg_ℤ (pos n) ≤ℤ (pos 2 *ℤ (pos n *ℤ v -ℤ e))
  pub high : (pos 2 *ℤ (pos n *ℤ v -ℤ e)) <ℤ pos n

-- each coordinate of a line's pixel is nearest
abbrev pub IsNearest : Type 0
IsNearest =
    (n i a b : ℕ) → 0 < n → i ≤ n → Nearest n (exact_z n i (whole_of a) (whole_of b)) (whole_of (nearest_of n i a b))

-- no other whole number is
abbrev pub NearestUnique : Type 0
NearestUnique = (n : ℕ) (e v w : ℤ) → 0 < n → Nearest n e v → Nearest n e w → v ≡ w

-- the coordinate i from a on the way to b
abbrev pub towards : ℕ → ℕ → ℕ → ℕ
towards a b i = cond (leb a b) (a + i) (a - i)

-- "one at each major coordinate": pixel i is i from A along the major axis
abbrev pub OneAtEach : Type 0
OneAtEach =
    (a b : Point) (i : ℕ) → i ≤ steps_of a b
    → (x_major a b ≡ true → (line_point a b i).x ≡ towards a.x b.x i)
    × (x_major a b ≡ false → (line_point a b i).y ≡ towards a.y b.y i)

abbrev pub FromAToB : Type 0
FromAToB = (a b : Point) → (line_point a b 0 ≡ a) × (line_point a b (steps_of a b) ≡ b)

-- No two pixels of a line are the same point.
abbrev pub PointsDiffer : Type 0
PointsDiffer = (a b : Point) (i j : ℕ) → i ≤ steps_of a b → j ≤ steps_of a b → line_point a b i ≡ line_point a b j → i ≡ j

-- "The manual asks only that A to B match B to A": pixel i from A is pixel n - i from B; proved in proofs/Ends.antt.
abbrev pub SameFromB : Type 0
SameFromB = (a b : Point) (i : ℕ) → i ≤ steps_of a b → line_point a b i ≡ line_point b a (steps_of a b - i)
