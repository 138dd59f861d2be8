-- The fill of a board record as words (02, R-7): "The record holds whether the tile was whole, and if so the tile, until the fill
-- ends, and zeros otherwise": a flag, and the tile's rows in order, four pixels a word, the least significant first.
use Rattle.std.specs.Prelude.{◌≡◌, Bool, false, cond, List, ◌∷◌, map, ℕ, ◌+◌, ◌*◌, ◌/◌, ◌%◌, ◌^◌, ◌<◌, eqb, get_or, replicate}
use Rattle.lemmas.specs.Numbers.{below}
use Rattle.tiles.specs.Tiles.{pixel_of, no_fill, filled_with, all_below, Sized}
use Rattle.tiles.specs.declared.Row.{Row}
use Rattle.tiles.specs.declared.Tile.{Tile}
use Rattle.tiles.specs.declared.Fill.{Fill}

-- Where the flag stands, and where the tile's words begin.
abbrev pub fill_at : ℕ
fill_at = 28

abbrev pub tile_at : ℕ
tile_at = 29

-- ---- the words of a fill
abbrev pub word_of : ℕ → ℕ → ℕ → ℕ → ℕ
word_of a b c d = a + 256 * b + 65536 * c + 16777216 * d

-- Word i has the pixels 4 i to 4 i + 3, all of row i / 4.
abbrev pub tile_word : Tile → ℕ → ℕ
tile_word t i =
    word_of (pixel_of t (4 * i) (i / 4)) (pixel_of t (4 * i + 1) (i / 4)) (pixel_of t (4 * i + 2) (i / 4)) (pixel_of t (4 * i + 3) (i / 4))

abbrev pub fill_words : Fill → List ℕ
fill_words f = cond f.whole (1 ∷ map (tile_word f.tile) (below 32)) (replicate 33 0)

-- ---- the fill of some words. A word has 32 bits: what is left after three pixels is the last.
abbrev pub pixel_in : ℕ → ℕ → ℕ
pixel_in x m = cond (eqb m 3) (x / 16777216) (x / 2 ^ (8 * m) % 256)

abbrev pub row_in : List ℕ → ℕ → Row
row_in w j = record { pixels = map (λ i. pixel_in (get_or w (tile_at + 4 * j + i / 4) 0) (i % 4)) (below 16) }

abbrev pub tile_in : List ℕ → Tile
tile_in w = record { rows = map (row_in w) (below 8) }

abbrev pub fill_in : List ℕ → Fill
fill_in w = cond (eqb (get_or w fill_at 0) 1) (filled_with (tile_in w)) no_fill

-- Whether zeros stand where a tile would.
abbrev pub tile_blank_in : List ℕ → Bool
tile_blank_in w = all_below 32 (λ i. eqb (get_or w (tile_at + i) 0) 0)

-- What the types say of a fill, and that zeros are held where no tile is.
pub record Kept (f : Fill) : Type 0 where
  pub sized : Sized f.tile
  pub bytes : (x y : ℕ) → pixel_of f.tile x y < 256
  pub none : f.whole ≡ false → f ≡ no_fill
