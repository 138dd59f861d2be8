-- The source of a pixel (01, Pixels): a value, or nothing where nothing is drawn. c is the command in CMD, g the registers.
use Rattle.std.specs.Prelude.{Bool, cond, ◌&&◌, List, ℕ, ◌+◌, ◌-◌, ◌*◌, ◌/◌, ◌%◌, eqb, get_or, Option, Some, None}
use Rattle.raster.specs.Raster.{bit}
use Rattle.geometry.specs.Coordinates.{origin, point_of}
use Rattle.geometry.specs.Clip.{in_buffer, place_of}
use Rattle.geometry.specs.Blit.{cell_visit}
use Rattle.geometry.specs.declared.Cell.{Cell}
use Rattle.geometry.specs.declared.Extent.{Extent}
use Rattle.geometry.specs.declared.Point.{Point}
use Rattle.entries.specs.Fields.{is_blit}
use Rattle.entries.specs.declared.fields.Command.{Command}
use Rattle.registers.specs.Patterns.{pattern_bit}
use Rattle.registers.specs.declared.file.Registers.{Registers}
use Rattle.registers.specs.declared.dashes.Pattern.{Pattern}
use Rattle.tiles.specs.Tiles.{pixel_of}
use Rattle.tiles.specs.declared.Fill.{Fill}

-- A blit reads at the same cell of the rectangle whose corner is XY0.
abbrev pub read_from : Registers → Option Cell → Option Point
read_from g cell = cell_visit (point_of g.xy0) g.xy3 cell

-- "a source pixel outside its buffer, or equal to KEY with KEY set, draws nothing"
abbrev pub keyed : Command → Registers → ℕ → Option ℕ
keyed c g v = cond (c.key && eqb v g.key) None (Some v)

abbrev pub read_at : Command → Registers → List ℕ → Option ℕ → Option ℕ
read_at c g buffer (Some i) = keyed c g (get_or buffer i 0)
read_at c g buffer None = None

abbrev pub copied_at : Command → Registers → Extent → List ℕ → Option Point → Option ℕ
copied_at c g extent buffer (Some p) = read_at c g buffer (place_of extent p)
copied_at c g extent buffer None = None

unfoldable pub copied_of : Command → Registers → Extent → Option Cell → List ℕ → Option ℕ
copied_of c g extent cell buffer = copied_at c g extent buffer (read_from g cell)

-- "1 FORE, 0 BACK, or nothing with TRNSP".
abbrev pub by_bit : Command → Registers → Bool → Option ℕ
by_bit c g one = cond one (Some g.fore) (cond c.trnsp None (Some g.back))

-- A blit with STPL (02, R-2): "XY0 is then a bit position, bit x of row y being bit 7 - (x mod 8) of byte x div 8 in row y of
-- the source buffer."
abbrev pub bit_of : ℕ → List ℕ → Point → Bool
bit_of width buffer p =
    let x = p.x - origin in
    let y = p.y - origin in
    eqb (bit (7 - x % 8) (get_or buffer (y * width + x / 8) 0)) 1

-- "A 1 draws FORE; a 0 draws BACK, or nothing with TRNSP." "a bit outside the buffer draws nothing."
abbrev pub stippled_at : Command → Registers → Extent → List ℕ → Option Point → Option ℕ
stippled_at c g extent buffer (Some p) =
    cond (in_buffer (8 * extent.width) extent.height p) (by_bit c g (bit_of extent.width buffer p)) None
stippled_at c g extent buffer None = None

unfoldable pub stippled_of : Command → Registers → Extent → Option Cell → List ℕ → Option ℕ
stippled_of c g extent cell buffer = stippled_at c g extent buffer (read_from g cell)

-- A blit with APAT (02, R-7): "Destination (x, y) then uses column x mod 16, row y mod 8 of the tile." "If the tile isn't wholly
-- inside its source buffer, nothing is drawn".
abbrev pub tiled_at : Fill → Option Point → Option ℕ
tiled_at fill (Some p) = cond fill.whole (Some (pixel_of fill.tile (p.x - origin) (p.y - origin))) None
tiled_at fill None = None

unfoldable pub tiled_of : Registers → Fill → Option Cell → Option ℕ
tiled_of g fill cell = tiled_at fill (cell_visit (point_of g.xy1) g.xy3 cell)

-- A line: "the pattern bit: 1 FORE, 0 BACK, or nothing with TRNSP".
unfoldable pub dash_of : Command → Registers → Pattern → Option ℕ
dash_of c g p = by_bit c g (pattern_bit g.lpat p)

-- "Source is FORE with SOLID"; else the tile's pixel, or the source buffer's bit or pixel, for a blit, and the pattern's for a
-- line. "Each visit reads source and destination as they stand at that visit": the buffers are those before the visit.
abbrev pub read_of : Command → Registers → Extent → Option Cell → List ℕ → Option ℕ
read_of c g extent cell buffer = cond c.stpl (stippled_of c g extent cell buffer) (copied_of c g extent cell buffer)

abbrev pub blit_of : Command → Registers → Extent → Fill → Option Cell → List ℕ → Option ℕ
blit_of c g extent fill cell buffer = cond c.apat (tiled_of g fill cell) (read_of c g extent cell buffer)

unfoldable pub source_of : Command → Registers → Pattern → Extent → Fill → Option Cell → List ℕ → List ℕ → Option ℕ
source_of c g p extent fill cell display virt =
    cond c.solid (Some g.fore)
    (cond (is_blit c) (blit_of c g extent fill cell (cond c.from_virtual virt display)) (dash_of c g p))
