-- What the naturals that hold coordinates mean in whole numbers, and their bounds.
-- Assumes nothing.
use mathlib.Core.Path.{◌∙◌}
use Prim.Native.Nat.{ℕ, ◌+◌, ◌≤◌, ◌<◌}
use native.Mathlib.Omega.{arith}
use borrow.Author.Tests.{ltb-true, ltb-false}
use lib.Dec.{ltb}
use Rattle.lemmas.proofs.Booleans.{by_cases}
use Rattle.geometry.specs.Coordinates.{origin, coordinate_of, point_of, Signed, Ordered}
use Rattle.geometry.proofs.Integers.{leb-is, sub_same, sub-zero, sub-le}

pub signed : Signed
signed h k =
    by_cases (ltb h 32768)
    (λ e. rw e (sub_same (coordinate_of h) origin h 0 (omega (arith, ltb-true h 32768 e)) ∙ sub-zero h))
    (λ e. rw e (sub_same (coordinate_of h) origin h 65536 (omega (arith, ltb-false h 32768 e))))

pub ordered : Ordered
ordered p q =
    sub-le p origin q origin ∙ leb-is (p + origin) (q + origin) p q (λ h. omega arith) (λ h. omega arith)

-- a coordinate out of a register
pub record Within (p : ℕ) : Type 0 where
  pub low : 65536 ≤ p
  pub high : p < 131072

pub x-within : (word : ℕ) → Within (point_of word).x
unfolding point_of
x-within word = record { low = omega arith; high = omega arith }

pub y-within : (word : ℕ) → Within (point_of word).y
unfolding point_of
y-within word = record { low = omega arith; high = omega arith }
