-- The column and the row of a blit's visit, and what they do to a coordinate in whole numbers.
-- Assumes nothing.
use mathlib.Core.Path.{◌≡◌, ap, ap₂, sym, ◌∙◌}
use mathlib.Core.Bool.{Bool, true, false}
use Prim.Native.Nat.{ℕ, zero, suc, ◌+◌, ◌-◌, ◌*◌, ◌/◌, ◌%◌, ◌≤◌, ◌<◌}
use native.Mathlib.Nat.{mul-le-mul, zero-mul, mul_comm, mod-lt, div-lt_iff_lt-mul}
use native.Mathlib.Omega.{arith}
use borrow.Author.Tests.{lt-ltb, le-ltb}
use lib.IntN.{◌+ℤ◌, ◌-ℤ◌}
use Rattle.geometry.specs.Coordinates.{origin, whole_of, signed16, coordinate_of, point_of}
use Rattle.geometry.specs.Blit.{width_of, height_of, blit_count, bottom_to_top, right_to_left, column_of, row_of, cell, blit_cell, away, away_z, blit_point, cell_visit, NeverWraps}
use Rattle.geometry.specs.declared.Point.{Point}
use Rattle.std.specs.Prelude.{Some, None}
use Rattle.geometry.proofs.Integers.{sub_same, sub-zero, sub-add, sub-sub}
use Rattle.geometry.proofs.Whole.{signed}

pub count-lt : (size : ℕ) → size < 4294967296 → blit_count size < 4294967296
count-lt size h =
    let p : width_of size * height_of size ≤ 65535 * 65535 = mul-le-mul {n₁ = width_of size} {m₁ = height_of size} {n₂ = 65535} {m₂ = 65535} (omega arith) (omega arith) in
    omega arith

-- a product above a number has positive factors
pub factor-pos : (w h k : ℕ) → k < w * h → 0 < w
factor-pos zero h k l = absurd (omega (arith, zero-mul h))
factor-pos (suc w) h k l = omega arith

pub column-lt : (w h k : ℕ) → k < w * h → k % w < w
column-lt w h k l = mod-lt k (factor-pos w h k l)

pub row_lt : (w h k : ℕ) → k < w * h → k / w < h
row_lt w h k l = (div-lt_iff_lt-mul (factor-pos w h k l)).1 (omega (arith, mul_comm w h))

-- a coordinate out of a register, moved by less than 65,536
moves : (back : Bool) (h k : ℕ) → h < 65536 → k < 65536 → whole_of (away back (coordinate_of h) k) ≡ away_z back (signed16 h) k
moves true h k hh hk =
    sub_same (coordinate_of h - k) origin (coordinate_of h + 0) (origin + k) (omega arith)
    ∙ sym (sub-sub (coordinate_of h) origin k 0) ∙ ap₂ ◌-ℤ◌ (signed h hh) (sub-zero k)
moves false h k hh hk =
    sub_same (coordinate_of h + k) origin (coordinate_of h + k) (origin + 0) (omega arith)
    ∙ sym (sub-add (coordinate_of h) origin k 0) ∙ ap₂ ◌+ℤ◌ (signed h hh) (sub-zero k)

pub never-wraps : NeverWraps
unfolding point_of
never-wraps word size direction k hw hs l = (
  moves (right_to_left direction) (word / 65536) (k % width_of size) (omega arith)
      (omega (arith, column-lt (width_of size) (height_of size) k l)),
  moves (bottom_to_top direction) (word % 65536) (k / width_of size) (omega arith)
      (omega (arith, row_lt (width_of size) (height_of size) k l)),
)

-- a visit's cell, by the test that it passes
module _ (size k : ℕ) where
  pub cell-past : blit_count size ≤ k → None ≡ blit_cell size k
  unfolding blit_cell
  cell-past h = rw (le-ltb k (blit_count size) h)

  pub cell_at : k < blit_count size → Some (cell (column_of size k) (row_of size k)) ≡ blit_cell size k
  unfolding blit_cell
  cell_at h = rw (lt-ltb k (blit_count size) h)

-- the pixel of a visit within the blit
pub cell-visit : (corner : Point) (size direction k : ℕ) → k < blit_count size
    → cell_visit corner direction (blit_cell size k) ≡ Some (blit_point corner size direction k)
cell-visit corner size direction k h = ap (cell_visit corner direction) (sym (cell_at size k h))
