-- What a command visits, and which of its pixels clip and buffer let through (01, Pixels; 02, R-6), on buffers of a given
-- extent.
use Rattle.std.specs.Prelude.{Bool, true, false, not, cond, ◌&&◌, List, ℕ, length, get_or, Option, Some, None}
use Rattle.lemmas.specs.Numbers.{filtered}
use Rattle.geometry.specs.Coordinates.{point_of}
use Rattle.geometry.specs.Clip.{rect_of, in_rect, in_buffer, place_of, window_of}
use Rattle.geometry.specs.Line.{line_count, line_visit}
use Rattle.geometry.specs.Blit.{blit_cells, cell_point, cell_visit}
use Rattle.geometry.specs.declared.Cell.{Cell}
use Rattle.geometry.specs.declared.Extent.{Extent}
use Rattle.geometry.specs.declared.Point.{Point}
use Rattle.geometry.specs.declared.Window.{Window}
use Rattle.entries.specs.Fields.{command_of, is_blit, is_polyline, is_line}
use Rattle.entries.specs.declared.fields.Command.{Command}
use Rattle.registers.specs.declared.file.Registers.{Registers}
use Rattle.sources.specs.Sources.{source_of}
use Rattle.tiles.specs.declared.Fill.{Fill}
use Rattle.commands.specs.declared.Engine.{Engine}

-- The command in CMD.
abbrev pub command_in : Engine → Command
command_in e = command_of e.registers.cmd

-- "LINE runs from XY0 to XY1; PLINE from the last point."
abbrev pub line_start : Engine → ℕ
line_start e = cond (is_polyline (command_in e)) e.last e.registers.xy0

-- "A pixel outside the destination buffer, or with CLIP set outside CLPTL to CLPBR (both corners inside)" is not drawn.
abbrev pub clipped_out : Registers → Point → Bool
clipped_out g p = (command_of g.cmd).clip && not (in_rect (rect_of g.clptl g.clpbr) p)

-- What clip and buffer let through, as one window.
abbrev pub window_in : Extent → Registers → Window
window_in extent g = window_of extent (command_of g.cmd).clip g.clptl g.clpbr

-- Which cells of a blit it visits. "A blit is to visit only destination pixels inside the buffer and, with CLIP, inside the
-- clip, in the same order as before" (02, R-6). Before, it visited all of them.
abbrev pub Rule : Type 0
Rule = Extent → Registers → Option Cell → Bool

unfoldable pub shows : Rule
shows extent g (Some c) =
    let p = cell_point (point_of g.xy1) g.xy3 c.column c.row in
    not (clipped_out g p) && in_buffer extent.width extent.height p
shows extent g None = false

unfoldable pub every : Rule
every extent g cell = true

-- The cells that a blit visits, in order. What follows takes the rule as `_by`, and is that of R-6 as `_of` or `_at`.
abbrev pub cells_by : Rule → Extent → Registers → List (Option Cell)
cells_by rule extent g = filtered (rule extent g) (blit_cells g.xy2)

-- How many pixels the command visits: a blit its cells, a line n + 1 or, with NLST, n, a NOOP none.
unfoldable pub count_by : Rule → Extent → Engine → ℕ
count_by rule extent e =
    cond (is_blit (command_in e)) (length (cells_by rule extent e.registers))
    (cond (is_line (command_in e))
    (line_count (point_of (line_start e)) (point_of e.registers.xy1) (command_in e).nlst)
    0)

abbrev pub count_of : Extent → Engine → ℕ
count_of extent e = count_by shows extent e

-- The cell of a blit's visit k, which its target and its source share.
unfoldable pub cell_by : Rule → Extent → Engine → ℕ → Option Cell
cell_by rule extent e k = cond (is_blit (command_in e)) (get_or (cells_by rule extent e.registers) k None) None

abbrev pub cell_at : Extent → Engine → ℕ → Option Cell
cell_at extent e k = cell_by shows extent e k

-- Where visit k lies: a blit's at its cell, from the corner XY1; a line's at its pixel k.
unfoldable pub position_of : Engine → ℕ → Option Cell → Option Point
position_of e k cell =
    cond (is_blit (command_in e)) (cell_visit (point_of e.registers.xy1) e.registers.xy3 cell)
    (cond (is_line (command_in e))
    (line_visit (point_of (line_start e)) (point_of e.registers.xy1) (command_in e).nlst k)
    None)

abbrev pub visit_at : Extent → Engine → ℕ → Option Point
visit_at extent e k = position_of e k (cell_at extent e k)

-- The place of a pixel that is let through.
abbrev pub through_to : Extent → Registers → Option Point → Option ℕ
through_to extent g (Some p) = cond (clipped_out g p) None (place_of extent p)
through_to extent g None = None

abbrev pub target_from : Extent → Engine → ℕ → Option Cell → Option ℕ
target_from extent e k cell = through_to extent e.registers (position_of e k cell)

abbrev pub target_of : Extent → Engine → ℕ → Option ℕ
target_of extent e k = target_from extent e k (cell_at extent e k)

-- The source of a visit.
abbrev pub source_from : Extent → Engine → Fill → Option Cell → List ℕ → List ℕ → Option ℕ
source_from extent e fill cell display virt = source_of (command_in e) e.registers e.pattern extent fill cell display virt

abbrev pub source_at : Extent → Engine → Fill → ℕ → List ℕ → List ℕ → Option ℕ
source_at extent e fill k display virt = source_from extent e fill (cell_at extent e k) display virt
