-- The loop keeps that so far the test is `all_below row-index`; each turn is one row more (`turn_more`).
use mathlib.Core.Bool.{◌&&◌}
use mathlib.Core.Path.{ap}
use Rattle.lemmas.proofs.Turns.{turn-none, turn_more}
use Rattle.tiles.proofs.tile_blank.Goals as goal

pub loop-row-init : goal.loop-row-init
loop-row-init c = turn-none _ _

pub loop-row-preserved : goal.loop-row-preserved
loop-row-preserved c =
    let o = c.loop-row in
    turn_more _ _ o.row-index o.blank _ o.invariant (ap (λ t. o.blank && t) c.row_blank-blank.ensures)
