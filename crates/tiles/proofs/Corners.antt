-- The corner of a tile: where it is whole, and its place in the buffer.
-- Assumes nothing.
use mathlib.Core.Path.{◌≡◌, ◌∙◌}
use mathlib.Core.Bool.{Bool, true, ◌&&◌}
use mathlib.Core.List.{List}
use Prim.Native.Nat.{ℕ, ◌+◌, ◌-◌, ◌*◌, ◌≤◌, ◌<◌}
use native.Mathlib.Nat.{mul-le-mul}
use native.Mathlib.Omega.{arith}
use borrow.Author.Tests.{leb-true, le-leb}
use lib.Dec.{leb}
use Rattle.lemmas.proofs.Booleans.{both, and_left, and_right}
use Rattle.geometry.specs.Coordinates.{origin, point_of}
use Rattle.geometry.specs.declared.Extent.{Extent}
use Rattle.geometry.specs.declared.Point.{Point}
use Rattle.geometry.proofs.Windows.{buffer-of, buffer-by}
use Rattle.tiles.specs.Tiles.{whole_at, tile_of, filled_with, fill_of, in_tile, Inside, WholeIsInside}
use Rattle.tiles.specs.declared.Tile.{Tile}

-- a product below 2 ^ 50
pub product_small : (a b : ℕ) → a < 131072 → b < 4294967296 → a * b < 1125899906842624
product_small a b h l =
    let most : a * b ≤ 131071 * 4294967295 = mul-le-mul {n₁ = a} {m₁ = b} {n₂ = 131071} {m₂ = 4294967295} (omega arith) (omega arith) in
    omega arith

-- where eight rows of sixteen are in a buffer, each is
pub row_inside : (at width j own : ℕ) → j < 8 → at + 7 * width + 16 ≤ own → at + j * width + 16 ≤ own
row_inside at width j own h l =
    let most : j * width ≤ 7 * width = mul-le-mul {n₁ = j} {m₁ = width} {n₂ = 7} {m₂ = width} (omega arith) (omega arith) in
    omega arith

-- what the four tests say together
pub record Fits (extent : Extent) (p : Point) : Type 0 where
  pub left : origin ≤ p.x
  pub top : origin ≤ p.y
  pub right : p.x + 16 ≤ origin + extent.width
  pub bottom : p.y + 8 ≤ origin + extent.height

module _ (extent : Extent) (p : Point) where
  abbrev a : Bool
  a = leb origin p.x

  abbrev b : Bool
  b = leb origin p.y

  abbrev c : Bool
  c = leb (p.x + 16) (origin + extent.width)

  abbrev d : Bool
  d = leb (p.y + 8) (origin + extent.height)

  fits : (a && b && c && d) ≡ true → Fits extent p
  fits h =
      let three = and_left (a && b && c) d h in
      let two = and_left (a && b) c three in
      record {
        left = leb-true _ _ (and_left a b two);
        top = leb-true _ _ (and_right a b two);
        right = leb-true _ _ (and_right (a && b) c three);
        bottom = leb-true _ _ (and_right (a && b && c) d h);
      }

  tests : Fits extent p → (a && b && c && d) ≡ true
  tests h =
      both (both (both (le-leb _ _ h.left) (le-leb _ _ h.top)) (le-leb _ _ h.right)) (le-leb _ _ h.bottom)

-- the point of the corner
module _ (p : Point) (corner : ℕ) (e : p ≡ point_of corner) where
  pub x-high : p.x < 131072
  unfolding point_of
  x-high = rw e (omega arith)

  pub y-high : p.y < 131072
  unfolding point_of
  y-high = rw e (omega arith)

  -- its place
  pub place-small : (width : ℕ) → width < 4294967296 → (p.y - origin) * width + (p.x - origin) < 2251799813685248
  place-small width h =
      omega (arith, x-high, product_small (p.y - origin) width (omega (arith, y-high)) h)

  module _ (extent : Extent) where
    pub whole_by : (a extent p && b extent p && c extent p && d extent p) ≡ whole_at extent corner
    unfolding whole_at
    whole_by = rw e

    module _ (good : whole_at extent corner ≡ true) where
      pub whole-fits : Fits extent p
      whole-fits = fits extent p (whole_by ∙ good)

      pub taken-whole : (buffer : List ℕ) (tile : Tile)
          → tile ≡ tile_of buffer extent.width ((p.y - origin) * extent.width + (p.x - origin))
          → filled_with tile ≡ fill_of extent corner buffer
      unfolding fill_of
      taken-whole buffer tile q = rw (good, ← e, q)

-- ---- whole exactly where each pixel is in the buffer
-- the first pixel and the last
corners-fit : (extent : Extent) (corner : ℕ) → Inside extent corner → Fits extent (point_of corner)
corners-fit extent corner h =
    let first = buffer-of extent.width extent.height (in_tile corner 0 0) (h 0 0 (omega arith) (omega arith)) in
    let last = buffer-of extent.width extent.height (in_tile corner 15 7) (h 15 7 (omega arith) (omega arith)) in
    record {
      left = omega (arith, first.0);
      top = omega (arith, first.1);
      right = omega (arith, first.0, last.2);
      bottom = omega (arith, first.1, last.3);
    }

pub whole-is-inside : WholeIsInside
unfolding whole_at
whole-is-inside extent corner =
    let p = point_of corner in (
      λ h i j k l.
          let f = fits extent p h in
          buffer-by extent.width extent.height (in_tile corner i j) (omega (arith, f.left)) (omega (arith, f.top))
          (omega (arith, f.left, f.right)) (omega (arith, f.top, f.bottom)),
      λ h. tests extent p (corners-fit extent corner h),
    )
