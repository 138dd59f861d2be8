-- Tiles (02, R-7): "the engine takes a tile of eight rows of sixteen pixels whose upper left corner is XY0".
use Rattle.std.specs.Prelude.{◌≡◌, Bool, true, false, not, cond, ◌&&◌, List, [], map, ℕ, ◌+◌, ◌*◌, ◌/◌, ◌%◌, ◌<◌, eqb, leb, length, get_or, replicate}
use Rattle.lemmas.specs.Numbers.{below}
use Rattle.lemmas.specs.Turns.{in_turn}
use Rattle.geometry.specs.Coordinates.{origin, point_of}
use Rattle.geometry.specs.Clip.{in_buffer, place_in}
use Rattle.geometry.specs.declared.Extent.{Extent}
use Rattle.geometry.specs.declared.Point.{Point}
use Rattle.tiles.specs.declared.Row.{Row}
use Rattle.tiles.specs.declared.Tile.{Tile}
use Rattle.tiles.specs.declared.Fill.{Fill}

-- The tile whose upper left pixel is a buffer's byte `at`; a byte past the buffer's end is 0.
abbrev pub bytes_of : List ℕ → ℕ → List ℕ
bytes_of buffer at = map (λ i. get_or buffer (at + i) 0) (below 16)

abbrev pub row_of : List ℕ → ℕ → Row
row_of buffer at = record { pixels = bytes_of buffer at }

abbrev pub tile_of : List ℕ → ℕ → ℕ → Tile
tile_of buffer width at = record { rows = map (λ j. row_of buffer (at + j * width)) (below 8) }

-- "Destination (x, y) then uses column x mod 16, row y mod 8 of the tile."
abbrev pub no_row : Row
no_row = record { pixels = [] }

abbrev pub pixel_of : Tile → ℕ → ℕ → ℕ
pixel_of t x y = get_or (get_or t.rows (y % 8) no_row).pixels (x % 16) 0

-- "wholly inside its source buffer"
unfoldable pub whole_at : Extent → ℕ → Bool
whole_at extent corner =
    let p = point_of corner in
    leb origin p.x
    && leb origin p.y
    && leb (p.x + 16) (origin + extent.width)
    && leb (p.y + 8) (origin + extent.height)

-- What is held: "whether the tile was whole, and if so the tile, [..] and zeros otherwise".
abbrev pub blank_row : Row
blank_row = record { pixels = replicate 16 0 }

abbrev pub no_fill : Fill
no_fill = record { whole = false; tile = record { rows = replicate 8 blank_row } }

abbrev pub filled_with : Tile → Fill
filled_with t = record { whole = true; tile = t }

unfoldable pub fill_of : Extent → ℕ → List ℕ → Fill
fill_of extent corner buffer =
    cond (whole_at extent corner) (filled_with (tile_of buffer extent.width (place_in extent.width (point_of corner)))) no_fill

-- Whether a test passes at every number below n; and whether zeros are held.
abbrev pub all_below : ℕ → (ℕ → Bool) → Bool
all_below n test = in_turn (λ k passed. passed && test k) n true

abbrev pub row_blank : Row → Bool
row_blank r = all_below 16 (λ i. eqb (get_or r.pixels i 0) 0)

abbrev pub tile_blank : Tile → Bool
tile_blank t = all_below 8 (λ j. row_blank (get_or t.rows j no_row))

abbrev pub is_none : Fill → Bool
is_none f = not f.whole && tile_blank f.tile

-- Each row of a tile twice, in 256 bytes.
abbrev pub doubled_of : Tile → List ℕ
doubled_of t = map (λ i. pixel_of t i (i / 32)) (below 256)

-- Those put into a memory of that size.
abbrev pub twice_in : Tile → List ℕ → List ℕ
twice_in t bytes = cond (eqb (length bytes) 256) (doubled_of t) bytes

-- What holds of them; proved in proofs/Corners.antt. A tile is whole exactly where each of its pixels is in the buffer.
abbrev pub in_tile : ℕ → ℕ → ℕ → Point
in_tile corner i j = record { x = (point_of corner).x + i; y = (point_of corner).y + j }

abbrev pub Inside : Extent → ℕ → Type 0
Inside extent corner = (i j : ℕ) → i < 16 → j < 8 → in_buffer extent.width extent.height (in_tile corner i j) ≡ true

abbrev pub WholeIsInside : Type 0
WholeIsInside =
    (extent : Extent) (corner : ℕ)
    → (whole_at extent corner ≡ true → Inside extent corner)
    × (Inside extent corner → whole_at extent corner ≡ true)

-- Then its pixels are the buffer's; proved in proofs/Pixels.antt, as what follows.
abbrev pub PixelsOfWhole : Type 0
PixelsOfWhole =
    (extent : Extent) (corner : ℕ) (buffer : List ℕ) (x y : ℕ) → whole_at extent corner ≡ true
    → ((fill_of extent corner buffer).whole ≡ true)
    × (pixel_of (fill_of extent corner buffer).tile x y
    ≡ get_or buffer (place_in extent.width (in_tile corner (x % 16) (y % 8))) 0)

-- What the types say of a tile: eight rows of sixteen pixels. If it is blank, it is that of no fill.
pub record Sized (t : Tile) : Type 0 where
  pub rows : length t.rows ≡ 8
  pub pixels : (j : ℕ) → j < 8 → length (get_or t.rows j no_row).pixels ≡ 16

abbrev pub NoneIsNoFill : Type 0
NoneIsNoFill = (is_none no_fill ≡ true) × ((f : Fill) → Sized f.tile → is_none f ≡ true → f ≡ no_fill)

-- Each row is there twice, so that sixteen bytes from any column of the first on are the row, and round; proved in
-- proofs/Doubling.antt.
abbrev pub RowsTwice : Type 0
RowsTwice =
    (t : Tile) (x y : ℕ)
    → (get_or (doubled_of t) (32 * (y % 8) + x % 16) 0 ≡ pixel_of t x y)
    × (get_or (doubled_of t) (32 * (y % 8) + 16 + x % 16) 0 ≡ pixel_of t x y)
