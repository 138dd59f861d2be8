-- The rule of document 01 for a line's pixels, in whole numbers: each coordinate is nearest, and no other is.
-- Assumes nothing.
use mathlib.Core.Path.{◌≡◌, refl, ap, ap₂, sym, subst, ◌∙◌}
use mathlib.Core.Bool.{Bool, true, false}
use Prim.Native.Nat.{ℕ, suc, ◌+◌, ◌-◌, ◌*◌, ◌≤◌, ◌<◌}
use native.Mathlib.Nat.{mul-add, le_antisymm}
use native.Mathlib.Omega.{arith}
use borrow.Author.Tests.{leb-true, ltb-true, le-leb, lt-ltb}
use lib.Dec.{T, leb, ltb}
use lib.IntN.{ℤ, pos, negsuc, neg_ℤ, sub_ℕ, ◌+ℤ◌, ◌-ℤ◌, ◌*ℤ◌}
use lib.Signed.{le_z, lt_z, le_z_yes, lt_z_yes}
use Rattle.geometry.specs.Coordinates.{origin, whole_of}
use Rattle.geometry.specs.Line.{exact, exact_z, nearest_of, Nearest, IsNearest, NearestUnique}
use Rattle.geometry.proofs.Integers.{sub_same, sub-zero, sub-down, sub-neg, sub-add, sub-sub, sub-mul, sub-le, sub-lt}
use Rattle.geometry.proofs.Lines.{Near, near, parts, below, le_of_not_lt}

holds : {t : Bool} → t ≡ true → T t
holds e = subst T (sym e) tt

is_true : (t : Bool) → T t → t ≡ true
is_true true h = refl
is_true false h = absurd h

-- E as a difference, and 2(nv - E) for v any difference
exact-is : (n i a b : ℕ) → exact_z n i (whole_of a) (whole_of b) ≡ sub_ℕ (n * a + i * (b + origin)) (n * origin + i * (origin + a))
exact-is n i a b =
    ap₂ ◌+ℤ◌ (sub-mul n a origin) (ap (λ z. pos i *ℤ z) (sub-sub b origin a origin) ∙ sub-mul i (b + origin) (origin + a))
    ∙ sub-add (n * a) (n * origin) (i * (b + origin)) (i * (origin + a))

twice : (n v w p q : ℕ) → pos 2 *ℤ (pos n *ℤ sub_ℕ v w -ℤ sub_ℕ p q) ≡ sub_ℕ (2 * (n * v + q)) (2 * (n * w + p))
twice n v w p q =
    ap (λ z. pos 2 *ℤ z) (ap (λ z. z -ℤ sub_ℕ p q) (sub-mul n v w) ∙ sub-sub (n * v) (n * w) p q)
    ∙ sub-mul 2 (n * v + q) (n * w + p)

-- the rule in naturals: v - w for the pixel's coordinate, p - q for E
module _ (n v w p q : ℕ) where
  low-is : le_z (neg_ℤ (pos n)) (pos 2 *ℤ (pos n *ℤ sub_ℕ v w -ℤ sub_ℕ p q)) ≡ leb (0 + 2 * (n * w + p)) (2 * (n * v + q) + n)
  low-is =
      ap₂ le_z (ap neg_ℤ (sym (sub-zero n)) ∙ sub-neg n 0) (twice n v w p q)
      ∙ sub-le 0 n (2 * (n * v + q)) (2 * (n * w + p))

  high_is : lt_z (pos 2 *ℤ (pos n *ℤ sub_ℕ v w -ℤ sub_ℕ p q)) (pos n) ≡ ltb (2 * (n * v + q) + 0) (n + 2 * (n * w + p))
  high_is = ap₂ lt_z (twice n v w p q) (sym (sub-zero n)) ∙ sub-lt (2 * (n * v + q)) (2 * (n * w + p)) n 0

  -- both ways
  in-wholes : 2 * (n * w + p) ≤ 2 * (n * v + q) + n → 2 * (n * v + q) < n + 2 * (n * w + p) → Nearest n (sub_ℕ p q) (sub_ℕ v w)
  in-wholes l h =
      record {
        low = le_z_yes (holds (low-is ∙ le-leb (0 + 2 * (n * w + p)) (2 * (n * v + q) + n) (omega arith)));
        high = lt_z_yes (holds (high_is ∙ lt-ltb (2 * (n * v + q) + 0) (n + 2 * (n * w + p)) (omega arith)));
      }

  low_of : Nearest n (sub_ℕ p q) (sub_ℕ v w) → 2 * (n * w + p) ≤ 2 * (n * v + q) + n
  low_of near = omega (arith, leb-true (0 + 2 * (n * w + p)) (2 * (n * v + q) + n) (sym low-is ∙ is_true _ near.low.le))

  high-of : Nearest n (sub_ℕ p q) (sub_ℕ v w) → 2 * (n * v + q) < n + 2 * (n * w + p)
  high-of near = omega (arith, ltb-true (2 * (n * v + q) + 0) (n + 2 * (n * w + p)) (sym high_is ∙ is_true _ near.high.lt))

pub is-nearest : IsNearest
is-nearest n i a b h l =
    let v = nearest_of n i a b in
    let p = n * a + i * (b + origin) in
    let q = n * origin + i * (origin + a) in
    let round : Near n (exact n i a b) v = near n i a b h in
    let split : (n - i) * a + i * a ≡ n * a = parts n i a l in
    rw (exact-is n i a b)
    (in-wholes n v origin p q (omega (arith, mul-add i b origin, mul-add i origin a))
    (omega (arith, mul-add i b origin, mul-add i origin a)))

-- every integer is a difference
as-difference : (P : ℤ → Type 0) → ((a b : ℕ) → P (sub_ℕ a b)) → (z : ℤ) → P z
as-difference P f (pos k) = subst P (sub-zero k) (f k 0)
as-difference P f (negsuc k) = subst P (sub-down 0 (suc k) (omega arith) ∙ ap negsuc (omega arith)) (f 0 (suc k))

-- of two coordinates nearest to one exact place neither is the smaller
not-smaller : (n p q a b c d : ℕ) → Nearest n (sub_ℕ p q) (sub_ℕ a b) → Nearest n (sub_ℕ p q) (sub_ℕ c d) → c + b ≤ a + d
not-smaller n p q a b c d f g =
    le_of_not_lt
    (λ l.
    let low : 2 * (n * b + p) ≤ 2 * (n * a + q) + n = low_of n a b p q f in
    let high : 2 * (n * c + q) < n + 2 * (n * d + p) = high-of n c d p q g in
    omega (arith, below n (a + d) (c + b) l, mul-add n a d, mul-add n c b))

pub nearest-unique : NearestUnique
nearest-unique n e v w h =
    as-difference (λ e. Nearest n e v → Nearest n e w → v ≡ w)
    (λ p q.
    as-difference (λ v. Nearest n (sub_ℕ p q) v → Nearest n (sub_ℕ p q) w → v ≡ w)
    (λ a b.
    as-difference (λ w. Nearest n (sub_ℕ p q) (sub_ℕ a b) → Nearest n (sub_ℕ p q) w → sub_ℕ a b ≡ w)
    (λ c d f g. sub_same a b c d (le_antisymm (not-smaller n p q c d a b g f) (not-smaller n p q a b c d f g))) w)
    v)
    e
