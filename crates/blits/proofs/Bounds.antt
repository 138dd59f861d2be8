-- Bounds of products and sums of coordinates.
-- Assumes nothing.
use mathlib.Core.Path.{◌≡◌, ap}
use Prim.Native.Nat.{ℕ, ◌+◌, ◌*◌, ◌^◌, ◌/◌, ◌≤◌, ◌<◌}
use native.Mathlib.Nat.{mul_comm, mul-le-mul, div-add-mod, mod-lt}
use native.Mathlib.Omega.{arith}
use borrow.Author.Tests.{leb-true, leb-false}
use lib.Dec.{leb}
use Rattle.lemmas.proofs.Booleans.{by_cases}
use Rattle.geometry.specs.Coordinates.{point_of}
use Rattle.blits.specs.Blits.{source_pixels}
use Rattle.blits.specs.declared.Paint.{Paint}
use Rattle.blits.specs.declared.Paint.TheVariants.{Solid, Copied, Moved, Stippled, StippledWithin}

pub product_small : (a b : ℕ) → a < 262144 → b < 2 ^ 35 → a * b < 2 ^ 53
product_small a b h k =
    let most : a * b ≤ 262143 * 34359738367 = mul-le-mul {n₁ = a} {m₁ = b} {n₂ = 262143} {m₂ = 34359738367} (omega arith) (omega arith) in
    omega arith

pub x_below : (word : ℕ) → (point_of word).x < 131072
unfolding point_of
x_below word = omega arith

pub y-below : (word : ℕ) → (point_of word).y < 131072
unfolding point_of
y-below word = omega arith

-- whole rows of a width
pub div-fits : (n w : ℕ) → w * (n / w) ≤ n
div-fits n w = omega (arith, div-add-mod n w)

pub div-some : (n w : ℕ) → 0 < w → w ≤ n → 0 < n / w
div-some n w some h =
    by_cases (leb (n / w) 0)
    (λ t.
    let few = leb-true (n / w) 0 t in
    let none : n / w ≡ 0 = omega arith in
    let nothing : w * (n / w) ≡ w * 0 = ap (λ q. w * q) none in
    absurd (omega (arith, nothing, div-add-mod n w, mod-lt n some)))
    (λ t. leb-false (n / w) 0 t)

-- the width of a source
pub source-small : (paint : Paint) (width : ℕ) → width < 2 ^ 32 → source_pixels paint width < 2 ^ 35
source-small (Solid pen) width h = omega arith
source-small (Copied mix) width h = omega arith
source-small (Moved mix) width h = omega arith
source-small (Stippled s) width h = omega arith
source-small (StippledWithin s) width h = omega arith

-- so many rows from a place on
pub rows-far : (width y e rows : ℕ) → width < 2 ^ 35 → y < 262144 → e < 262144 → rows ≤ 65536
    → y * width + e + width * rows < 18446744073709551616
rows-far width y e rows wide high h k =
    omega (arith, product_small y width high wide, product_small rows width (omega arith) wide, mul_comm width rows)
