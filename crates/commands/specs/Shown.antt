-- What holds of a blit's visits (02, R-6); proved in proofs/Shown.antt, Bounds.antt and Unchanged.antt.
use Rattle.std.specs.Prelude.{◌≡◌, true, false, List, ◌*◌, ◌≤◌}
use Rattle.geometry.specs.Coordinates.{point_of}
use Rattle.geometry.specs.Visible.{visible_cells}
use Rattle.geometry.specs.declared.Extent.{Extent}
use Rattle.entries.specs.Fields.{is_blit}
use Rattle.entries.specs.declared.decoding.Entry.{Entry}
use Rattle.registers.specs.declared.file.Registers.{Registers}
use Rattle.commands.specs.Visits.{command_in, window_in, Rule, shows, every, cells_by, count_by, count_of}
use Rattle.commands.specs.Steps.{Scene}
use Rattle.commands.specs.Wholes.{done_by}
use Rattle.commands.specs.declared.Engine.{Engine}

-- They are a rectangle of its cells.
abbrev pub ShownCells : Type 0
ShownCells =
    (extent : Extent) (g : Registers)
    → visible_cells (point_of g.xy1) g.xy2 g.xy3 (window_in extent g)
    ≡ cells_by shows extent g

-- "No blit may take more pixel steps than width times height of the board."
abbrev pub BlitsFit : Type 0
BlitsFit =
    (extent : Extent) (e : Engine) → is_blit (command_in e) ≡ true → count_of extent e ≤ extent.width * extent.height

-- "Lines keep theirs."
abbrev pub OthersKeep : Type 0
OthersKeep =
    (rule : Rule) (extent : Extent) (e : Engine) → is_blit (command_in e) ≡ false → count_by rule extent e ≡ count_by every extent e

-- "The picture after each whole list is to be proved unchanged": any entries, from any scene with no command under way, leave
-- the same buffers, registers, pattern state and last point by either rule.
abbrev pub PictureUnchanged : Type 0
PictureUnchanged =
    (extent : Extent) (s : Scene) (es : List Entry) → s.engine.under_way ≡ false
    → done_by shows extent s es ≡ done_by every extent s es
