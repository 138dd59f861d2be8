-- Along each axis a line's pixels go one way, so what lies between two visible pixels is visible too.
-- Assumes nothing.
use mathlib.Core.Path.{◌≡◌, refl, ap}
use mathlib.Core.Logic.{◌⊎◌, ⊎_elim, inl, inr}
use Prim.Native.Nat.{ℕ, zero, suc, ◌+◌, ◌-◌, ◌*◌, ◌≤◌, ◌<◌}
use native.Mathlib.Nat.{mul-add, mul-le-mul_right}
use native.Mathlib.Omega.{arith}
use borrow.Author.Tests.{leb-true, leb-false}
use lib.Dec.{leb}
use Rattle.lemmas.proofs.Booleans.{by_cases}
use Rattle.geometry.specs.Line.{exact, nearest_of, line_point, steps_of}
use Rattle.geometry.proofs.Lines.{Near, near, below, le_of_not_lt, parts, nearest_zero}
use Rattle.geometry.proofs.Windows.{shown_of, shown_by}
use Rattle.strokes.specs.Tracers.{Between}

exact-rises : (n i j a b : ℕ) → a ≤ b → i ≤ j → j ≤ n → exact n i a b ≤ exact n j a b
exact-rises n i j a b o l h =
    let d : ℕ = b - a in
    let at_i : i * b ≡ i * (a + d) = ap (λ (k : ℕ). i * k) (omega arith) in
    let at_j : j * b ≡ j * (a + d) = ap (λ (k : ℕ). j * k) (omega arith) in
    omega (arith, at_i, at_j, mul-add i a d, mul-add j a d, parts n i a (omega arith), parts n j a h, mul-le-mul_right {m = i} {n = j} d l)

-- from the other end
exact-back : (n i a b : ℕ) → i ≤ n → exact n (n - i) b a ≡ exact n i a b
exact-back n i a b l = let back : n - (n - i) ≡ i = omega arith in rw back (omega arith)

exact-falls : (n i j a b : ℕ) → b ≤ a → i ≤ j → j ≤ n → exact n j a b ≤ exact n i a b
exact-falls n i j a b o l h =
    omega (arith, exact-back n i a b (omega arith), exact-back n j a b h, exact-rises n (n - j) (n - i) b a o (omega arith) (omega arith))

-- the nearest of a larger number is no smaller
near-order : (n e f v w : ℕ) → Near n e v → Near n f w → e ≤ f → v ≤ w
near-order n e f v w p q l = le_of_not_lt (λ g. omega (arith, below n w v g))

-- one end of a stretch is no larger, and the other no smaller
one_way : (n i k j a b : ℕ) → i ≤ k → k ≤ j → j ≤ n
    → ((nearest_of n i a b ≤ nearest_of n k a b) × (nearest_of n k a b ≤ nearest_of n j a b))
    ⊎ ((nearest_of n j a b ≤ nearest_of n k a b) × (nearest_of n k a b ≤ nearest_of n i a b))
one_way zero i k j a b l h t =
    let all : (p : ℕ) → nearest_of 0 p a b ≡ a = λ p. nearest_zero 0 p a b refl in
    inl (omega (arith, all i, all k), omega (arith, all k, all j))
one_way (suc m) i k j a b l h t =
    let n : ℕ = suc m in
    let some : 0 < n = omega arith in
    let order : (p q : ℕ) → exact n p a b ≤ exact n q a b → nearest_of n p a b ≤ nearest_of n q a b =
    λ p q. near-order n (exact n p a b) (exact n q a b) (nearest_of n p a b) (nearest_of n q a b) (near n p a b some) (near n q a b some) in
    by_cases (leb a b)
    (λ e.
    let up : a ≤ b = leb-true a b e in
    inl (order i k (exact-rises n i k a b up l (omega arith)), order k j (exact-rises n k j a b up h t)))
    (λ e.
    let down : b ≤ a = omega (arith, leb-false a b e) in
    inr (order j k (exact-falls n k j a b down h t), order k i (exact-falls n i k a b down l (omega arith))))

bounded : (n i k j a b lo hi : ℕ) → i ≤ k → k ≤ j → j ≤ n → lo ≤ nearest_of n i a b → nearest_of n i a b < hi
    → lo ≤ nearest_of n j a b → nearest_of n j a b < hi → (lo ≤ nearest_of n k a b) × (nearest_of n k a b < hi)
bounded n i k j a b lo hi l h t p q r s =
    ⊎_elim (λ w. (omega (arith, w), omega (arith, w))) (λ w. (omega (arith, w), omega (arith, w))) (one_way n i k j a b l h t)

pub between : Between
between w a b i k j l h t p q =
    let n = steps_of a b in
    let first = shown_of w (line_point a b i) p in
    let last = shown_of w (line_point a b j) q in
    let wide = bounded n i k j a.x b.x w.left w.right l h t first.from-left first.to-right last.from-left last.to-right in
    let tall = bounded n i k j a.y b.y w.top w.bottom l h t first.from-top first.to-bottom last.from-top last.to-bottom in
    shown_by w (line_point a b k) (record { from-left = wide.0; to-right = wide.1; from-top = tall.0; to-bottom = tall.1 })
