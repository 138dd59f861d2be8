-- Blits from a tile (02, R-7).
use Rattle.std.specs.Prelude.{◌≡◌, List, map, ℕ, ◌+◌, ◌*◌, ◌/◌, ◌%◌, get_or}
use Rattle.lemmas.specs.Numbers.{below}
use Rattle.rows.specs.Rows.{unkeyed}
use Rattle.tiles.specs.Tiles.{pixel_of, doubled_of}
use Rattle.tiles.specs.declared.Tile.{Tile}
use Rattle.blits.specs.declared.Blit.{Blit}
use Rattle.blits.specs.declared.Paint.TheVariants.{Copied}
use Rattle.blits.specs.declared.tiled.Tiling.{Tiling}

-- "Destination (x, y) then uses column x mod 16, row y mod 8 of the tile": a buffer that the tile covers.
unfoldable pub plane_of : ℕ → ℕ → Tile → List ℕ
plane_of width height tile = map (λ i. pixel_of tile (i % width) (i / width)) (below (width * height))

-- The copy from that buffer that draws what the tile does, each pixel from its own place.
abbrev pub copy_of : Tiling → Blit
copy_of t =
    record {
      paint = Copied (unkeyed t.selectors);
      width = t.width;
      height = t.height;
      window = t.window;
      from = t.to;
      to = t.to;
      size = t.size;
      direction = t.direction;
    }

-- A tile whose rows are there, each twice.
pub record Doubled (wide : List ℕ) : Type 0 where
  pub tile : Tile
  pub twice : wide ≡ doubled_of tile

-- Pixel i of row y of a tile whose rows are there, each twice.
abbrev pub wide_pixel : List ℕ → ℕ → ℕ → ℕ
wide_pixel wide y i = get_or wide (32 * (y % 8) + i % 16) 0
