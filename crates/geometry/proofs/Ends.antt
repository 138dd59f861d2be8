-- A line from either end: E is the same number, and which coordinate is nearest is asked of E alone.
-- Assumes nothing.
use mathlib.Core.Path.{◌≡◌}
use Prim.Native.Nat.{ℕ, ◌-◌, ◌≤◌}
use native.Mathlib.Omega.{arith}
use borrow.Author.Tests.{eqb-true}
use lib.Dec.{eqb}
use Rattle.lemmas.proofs.Booleans.{by_cases}
use Rattle.geometry.specs.Line.{distance, steps_of, exact, nearest_of, SameFromB}
use Rattle.geometry.specs.declared.Point.{Point}

exact-turned : (n i a b : ℕ) → i ≤ n → exact n i a b ≡ exact n (n - i) b a
exact-turned n i a b h = let back : n - (n - i) ≡ i = omega arith in rw back (omega arith)

nearest-turned : (n i a b : ℕ) → i ≤ n → distance a b ≤ n → nearest_of n i a b ≡ nearest_of n (n - i) b a
unfolding nearest_of
nearest-turned n i a b h l =
    by_cases (eqb n 0) (λ t. rw t (omega (arith, eqb-true n 0 t))) (λ t. rw (t, exact-turned n i a b h))

pub steps-turned : (a b : Point) → steps_of b a ≡ steps_of a b
steps-turned a b = omega arith

pub same-from-b : SameFromB
same-from-b a b i h =
    let n = steps_of a b in
    let x = nearest-turned n i a.x b.x h (omega arith) in
    let y = nearest-turned n i a.y b.y h (omega arith) in
    rw (steps-turned a b) (λ j. record { x = x j; y = y j })
