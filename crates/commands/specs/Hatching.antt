-- The tile of a fill (02, R-7), in the step that takes it and in those that draw with it. "Demand 3 reads the tile as it stood at
-- the trigger."
use Rattle.std.specs.Prelude.{Bool, cond, ◌&&◌, List, ℕ}
use Rattle.geometry.specs.declared.Extent.{Extent}
use Rattle.entries.specs.Fields.{is_blit}
use Rattle.entries.specs.declared.fields.Command.{Command}
use Rattle.tiles.specs.Tiles.{no_fill, fill_of}
use Rattle.tiles.specs.declared.Fill.{Fill}
use Rattle.commands.specs.Visits.{command_in}
use Rattle.commands.specs.declared.Engine.{Engine}

-- Whether a fill with a tile is under way: a BITBLT with APAT.
abbrev pub tiles : Command → Bool
tiles c = is_blit c && c.apat

abbrev pub hatches : Engine → Bool
hatches e = e.under_way && tiles (command_in e)

-- "When triggered, the engine takes a tile of eight rows of sixteen pixels whose upper left corner is XY0." The engine is that
-- after the entry; one that the entry left with nothing to visit takes none.
abbrev pub fill_taken : Extent → Engine → List ℕ → List ℕ → Fill
fill_taken extent e display virt =
    cond (hatches e) (fill_of extent e.registers.xy0 (cond (command_in e).from_virtual virt display)) no_fill

-- "until the fill ends". The engine is that after the visit.
abbrev pub fill_after : Engine → Fill → Fill
fill_after e fill = cond e.under_way fill no_fill
