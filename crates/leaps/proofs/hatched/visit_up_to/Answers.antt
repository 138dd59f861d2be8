-- But for a fill with a tile that the budget cuts, all that it reaches is visited, with the tile that stands in the buffers (`burst-done`).
use Rattle.leaps.proofs.Hatching.{burst-done}
use Rattle.leaps.proofs.hatched.visit_up_to.Goals as goal

pub returns : goal.returns
returns c =
    let s = c.args in
    let made = c.new-c.ensures in
    burst-done s.budget s.extent s.e s.display.now s.virt.now c.requires.0 c.requires.1 _ (rw (made.0, made.1) at c.visit_within.ensures.steps)
    (rw (c.left.ensures, made.0, made.1, c.hatches.ensures) at c.if-hatches-budget.false) _ c.fill_taken.ensures _ _
    (rw (made.0, made.1) at c.visit_within.ensures.visited)
