-- One that the budget cuts, or that was cut before, is left (`tiled-none`); else all visits are the rows that the tile draws (`tiled-drawn`), or
-- none where it is not whole (`tiled-missing`).
use Rattle.leaps.proofs.Rows.{tiled-none, tiled-drawn, tiled-missing}
use Rattle.leaps.proofs.visits.visit_tiled.Goals as goal
use Rattle.leaps.proofs.visits.visit_tiled.Goals.{then-fill, else-fill}

pub returns-then-count-budget : goal.returns-then-count-budget
returns-then-count-budget c =
    let s = c.args in
    rw c.none.ensures (tiled-none s.budget s.extent s.e s.own.now s.other.now c.requires.0 _ _ c.window.ensures c.visible_count-count.ensures)

pub returns : goal.returns
returns c =
    let s = c.args in
    rw c.some.ensures
    (elim c.if-fill.branch [
      | then-fill w ↦
          rw w.own-is
          (tiled-drawn s.budget s.extent s.e s.own.now s.other.now c.requires.0 _ _ c.window.ensures c.visible_count-count.ensures _
          c.command_of-c.ensures c.if-count-budget.false _ c.within.ensures _ c.source_tile-fill.ensures w.if-fill.true _ w.tiling.ensures
          _ w.blit_count.ensures _ w.draw_tiled.ensures)
      | else-fill w ↦
          tiled-missing s.budget s.extent s.e s.own.now s.other.now c.requires.0 _ _ c.window.ensures c.visible_count-count.ensures _
          c.command_of-c.ensures c.if-count-budget.false _ c.within.ensures _ c.source_tile-fill.ensures w.if-fill.false _ w.own-is
    ])
