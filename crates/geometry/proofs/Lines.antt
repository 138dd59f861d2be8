-- The coordinates of a line's pixels, in naturals: each is nearest the exact line, no other is, on the major axis it is
-- on the exact line, so that no two pixels are the same, and the ends are A and B.
-- Assumes nothing.
use mathlib.Core.Path.{◌≡◌, refl, ap, sym, ◌∙◌}
use mathlib.Core.Bool.{Bool, true, false, ◌&&◌}
use Prim.Native.Nat.{ℕ, zero, suc, ◌+◌, ◌-◌, ◌*◌, ◌/◌, ◌%◌, ◌≤◌, ◌<◌, max}
use native.Mathlib.Nat.{mul-le-mul, mul-le-mul_left, add-mul, mul-add, mul_assoc, mul_comm, mul-suc, zero-mul, le_antisymm, div-add-mod, mod-lt}
use native.Mathlib.Omega.{arith}
use borrow.Author.Tests.{eqb-true, eqb-false, eq-eqb, ne_eqb, leb-true, leb-false, le-leb, lt-ltb}
use lib.Dec.{eqb, leb, ltb, ltb→lt, nltb→le, not_T}
use Rattle.lemmas.proofs.Booleans.{by_cases}
use Rattle.geometry.specs.Coordinates.{coordinate_of, point_of}
use Rattle.geometry.specs.Line.{distance, steps_of, line_count, exact, nearest_of, line_point, line_visit, x_major, towards, OneAtEach, FromAToB, PointsDiffer}
use Rattle.geometry.specs.declared.Point.{Point}
use Rattle.std.specs.Prelude.{Some}
use Rattle.geometry.proofs.Whole.{x-within, y-within}

pub nearest_zero : (n i a b : ℕ) → n ≡ 0 → nearest_of n i a b ≡ a
unfolding nearest_of
nearest_zero n i a b e = rw (eq-eqb n 0 e)

pub nearest-pos : (n i a b : ℕ) → (n ≡ 0 → ⊥) → nearest_of n i a b ≡ (2 * exact n i a b + n - 1) / (2 * n)
unfolding nearest_of
nearest-pos n i a b h = rw (ne_eqb n 0 h)

-- -n <= 2(nv - E) < n with no difference taken
pub record Near (n e v : ℕ) : Type 0 where
  pub low : 2 * e ≤ 2 * (n * v) + n
  pub high : 2 * (n * v) < 2 * e + n

rounded : (n e : ℕ) → 0 < n → Near n e ((2 * e + n - 1) / (2 * n))
rounded n e h =
    let v : ℕ = (2 * e + n - 1) / (2 * n) in
    let whole : 2 * n * v + (2 * e + n - 1) % (2 * n) ≡ 2 * e + n - 1 = div-add-mod (2 * e + n - 1) (2 * n) in
    let rest : (2 * e + n - 1) % (2 * n) < 2 * n = mod-lt (2 * e + n - 1) (omega arith) in
    let split : 2 * n * v ≡ 2 * (n * v) = mul_assoc 2 n v in
    record { low = omega arith; high = omega arith }

pub near : (n i a b : ℕ) → 0 < n → Near n (exact n i a b) (nearest_of n i a b)
near n i a b h = rw (nearest-pos n i a b (λ e. omega arith)) (rounded n (exact n i a b) h)

-- a coordinate below another is a whole n less
pub below : (n v w : ℕ) → v < w → n * v + n ≤ n * w
below n v w h = omega (arith, mul-le-mul_left {m = suc v} {n = w} n h, mul-suc n v)

pub le_of_not_lt : {v w : ℕ} → (w < v → ⊥) → v ≤ w
le_of_not_lt {v} {w} h = nltb→le w v (not_T (ltb w v) (λ t. h (ltb→lt w v t)))

not-less : (n e v w : ℕ) → Near n e v → Near n e w → v < w → ⊥
not-less n e v w p q l = omega (arith, below n v w l)

pub near-unique : (n e v w : ℕ) → Near n e v → Near n e w → v ≡ w
near-unique n e v w p q =
    le_antisymm (le_of_not_lt (λ l. not-less n e w v q p l)) (le_of_not_lt (λ l. not-less n e v w p q l))

-- a pixel on the exact line is the pixel
on_line : (n i a b v : ℕ) → 0 < n → exact n i a b ≡ n * v → nearest_of n i a b ≡ v
on_line n i a b v h e =
    near-unique n (exact n i a b) (nearest_of n i a b) v (near n i a b h) (record { low = omega arith; high = omega arith })

pub parts : (n i a : ℕ) → i ≤ n → (n - i) * a + i * a ≡ n * a
parts n i a l =
    let same : (n - i + i) * a ≡ n * a = ap (λ (k : ℕ). k * a) (omega arith) in
    omega (arith, add-mul (n - i) i a)

-- where the axis is n long, pixel i is i on
up : (n i a b : ℕ) → 0 < n → i ≤ n → b ≡ a + n → nearest_of n i a b ≡ a + i
up n i a b h l e =
    on_line n i a b (a + i) h
    (ap (exact n i a) e ∙ omega (arith, parts n i a l, mul-add i a n, mul-add n a i, mul_comm i n))

down : (n i a b : ℕ) → 0 < n → i ≤ n → a ≡ b + n → nearest_of n i a b ≡ a - i
down n i a b h l e =
    on_line n i a b (a - i) h
    (let back : a - i ≡ b + (n - i) = omega arith in
    ap (λ (k : ℕ). exact n i k b) e ∙ omega (arith, parts n i b l, mul-add (n - i) b n, mul-add n b (n - i), mul_comm (n - i) n) ∙ ap (λ (k : ℕ). n * k) (sym back))

along : (n i a b : ℕ) → i ≤ n → distance a b ≡ n → nearest_of n i a b ≡ towards a b i
along zero i a b l e = nearest_zero 0 i a b refl ∙ rw (le-leb a b (omega arith)) (omega arith)
along (suc n) i a b l e =
    by_cases (leb a b) (λ t. rw t (up (suc n) i a b (omega arith) l (omega (arith, leb-true a b t))))
    (λ t. rw t (down (suc n) i a b (omega arith) l (omega (arith, leb-false a b t))))

pub one-at-each : OneAtEach
one-at-each a b i l = (
  λ e. along (steps_of a b) i a.x b.x l (omega (arith, leb-true (distance a.y b.y) (distance a.x b.x) e)),
  λ e. along (steps_of a b) i a.y b.y l (omega (arith, leb-false (distance a.y b.y) (distance a.x b.x) e)),
)

towards-differ : (a b i j : ℕ) → i ≤ distance a b → j ≤ distance a b → towards a b i ≡ towards a b j → i ≡ j
towards-differ a b i j h k e =
    by_cases (leb a b) (λ t. let q : a + i ≡ a + j = rw t at e in omega arith)
    (λ t. let q : a - i ≡ a - j = rw t at e in omega (arith, leb-false a b t))

pub points-differ : PointsDiffer
points-differ a b i j h k e =
    let dx = distance a.x b.x in
    let dy = distance a.y b.y in
    by_cases (x_major a b)
    (λ t.
    let long = leb-true dy dx t in
    towards-differ a.x b.x i j (omega (arith, h, long)) (omega (arith, k, long))
    (sym ((one-at-each a b i h).0 t) ∙ ap (λ (p : Point). p.x) e ∙ (one-at-each a b j k).0 t))
    (λ t.
    let long = leb-false dy dx t in
    towards-differ a.y b.y i j (omega (arith, h, long)) (omega (arith, k, long))
    (sym ((one-at-each a b i h).1 t) ∙ ap (λ (p : Point). p.y) e ∙ (one-at-each a b j k).1 t))

first : (n a b : ℕ) → nearest_of n 0 a b ≡ a
first zero a b = nearest_zero 0 0 a b refl
first (suc n) a b =
    on_line (suc n) 0 a b a (omega arith)
    (let whole : suc n - 0 ≡ suc n = omega arith in
    ap (λ (k : ℕ). k * a + 0 * b) whole ∙ omega (arith, zero-mul b))

last : (n a b : ℕ) → distance a b ≤ n → nearest_of n n a b ≡ b
last zero a b l = nearest_zero 0 0 a b refl ∙ omega arith
last (suc n) a b l =
    on_line (suc n) (suc n) a b b (omega arith)
    (let none : suc n - suc n ≡ 0 = omega arith in
    ap (λ (k : ℕ). k * a + suc n * b) none ∙ omega (arith, zero-mul a))

pub from-a-to-b : FromAToB
from-a-to-b a b =
    let n = steps_of a b in (
      λ i. record { x = first n a.x b.x i; y = first n a.y b.y i },
      λ i. record { x = last n a.x b.x (omega arith) i; y = last n a.y b.y (omega arith) i },
    )

-- bounds for the arithmetic of the code
pub product_lt : (x y : ℕ) → x < 65536 → y < 131072 → x * y < 8589934592
product_lt x y h k =
    let p : x * y ≤ 65535 * 131071 = mul-le-mul {n₁ = x} {m₁ = y} {n₂ = 65535} {m₂ = 131071} (omega arith) (omega arith) in
    omega arith

pub steps-lt : (v w : ℕ) → steps_of (point_of v) (point_of w) < 65536
steps-lt v w = omega (arith, x-within v, x-within w, y-within v, y-within w)

-- a visit by the test that it passes
module _ (a b : Point) (nlst : Bool) (k : ℕ) where
  pub line_at : k < line_count a b nlst → Some (line_point a b k) ≡ line_visit a b nlst k
  unfolding line_visit
  line_at h = rw (lt-ltb k (line_count a b nlst) h)

pub count-le : (a b : Point) (nlst : Bool) → line_count a b nlst ≤ steps_of a b + 1
count-le a b true = omega arith
count-le a b false = omega arith

-- two words with the same coordinates are the same
same_half : (g h : ℕ) → g < 65536 → h < 65536 → distance (coordinate_of g) (coordinate_of h) ≡ 0 → g ≡ h
same_half g h hg hh e = omega arith

same_word : (v w : ℕ) → v < 4294967296 → w < 4294967296 → steps_of (point_of v) (point_of w) ≡ 0 → v ≡ w
unfolding point_of
same_word v w hv hw e =
    let n = distance (coordinate_of (v / 65536)) (coordinate_of (w / 65536)) in
    let m = distance (coordinate_of (v % 65536)) (coordinate_of (w % 65536)) in
    let x = same_half (v / 65536) (w / 65536) (omega (arith, hv)) (omega (arith, hw)) (neither n m e) in
    let y = same_half (v % 65536) (w % 65536) (omega arith) (omega arith) (neither m n (swap m n e)) in
    omega (arith, x, y)
  where
    neither : (n m : ℕ) → max n m ≡ 0 → n ≡ 0
    neither n m e = omega arith

    swap : (n m : ℕ) → max m n ≡ 0 → max n m ≡ 0
    swap n m e = omega arith

pub line-empty : (v w : ℕ) (nlst : Bool) → v < 4294967296 → w < 4294967296
    → (nlst && eqb v w) ≡ eqb (line_count (point_of v) (point_of w) nlst) 0
line-empty v w true hv hw =
    by_cases (eqb v w)
    (λ t. t ∙ sym (eq-eqb (steps_of (point_of v) (point_of w)) 0 (ap (λ (u : ℕ). steps_of (point_of u) (point_of w)) (eqb-true v w t) ∙ omega arith)))
    (λ t. t ∙ sym (ne_eqb (steps_of (point_of v) (point_of w)) 0 (λ e. eqb-false v w t (same_word v w hv hw e))))
line-empty v w false hv hw = sym (ne_eqb (steps_of (point_of v) (point_of w) + 1) 0 (λ e. omega arith))
