use mathlib.Core.Path.{◌≡◌}
use lib.ListN.{get_or}
use Rattle.tiles.specs.Tiles.{no_row, all_below, row_blank}
use Rattle.tiles.proofs.tile_blank.Given as goal

abbrev pub invariant-loop-row : goal.invariant-loop-row
invariant-loop-row l = l.blank ≡ all_below l.row-index (λ j. row_blank (get_or l.fn.tile.rows j no_row))
