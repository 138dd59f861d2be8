-- The doubled tile, read row by row.
-- Assumes nothing.
use mathlib.Core.Path.{◌≡◌, ◌∙◌}
use Prim.Native.Nat.{ℕ, ◌+◌, ◌*◌, ◌/◌, ◌%◌}
use native.Mathlib.Omega.{arith}
use lib.ListN.{get_or}
use Rattle.lemmas.proofs.Numbers.{map-below-at}
use Rattle.tiles.specs.Tiles.{no_row, pixel_of, RowsTwice}
use Rattle.tiles.specs.declared.Tile.{Tile}

-- byte i of the doubled tile
abbrev pub doubled_at : Tile → ℕ → ℕ
doubled_at t i = pixel_of t i (i / 32)

-- the pixel in its row
in_row : (t : Tile) (j i x y : ℕ) → y % 8 ≡ j → x % 16 ≡ i → get_or (get_or t.rows j no_row).pixels i 0 ≡ pixel_of t x y
in_row t j i x y e f = rw (← e, ← f)

pub rows-twice : RowsTwice
rows-twice t x y =
    let i = 32 * (y % 8) + x % 16 in
    let j = 32 * (y % 8) + 16 + x % 16 in (
      map-below-at (doubled_at t) 256 0 i (omega arith) ∙ in_row t (i / 32 % 8) (i % 16) x y (omega arith) (omega arith),
      map-below-at (doubled_at t) 256 0 j (omega arith) ∙ in_row t (j / 32 % 8) (j % 16) x y (omega arith) (omega arith),
    )
