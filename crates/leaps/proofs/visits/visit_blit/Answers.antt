-- With no pixel, or from a tile, nothing is done (`blit-none`); else the rows of the stretch that the visits lie in (`blit-some`).
use borrow.Author.Rules.{rules}
use Rattle.leaps.proofs.Rows.{blit-none, some_left, blit-some}
use Rattle.leaps.proofs.visits.visit_blit.Goals as goal

pub returns-then-s-command_of : goal.returns-then-s-command_of
returns-then-s-command_of c =
    let s = c.args in
    rw c.none.ensures (blit-none s.budget s.extent s.e s.own.now s.other.now c.requires _ _ c.window-window.ensures c.visible_count-count.ensures)

pub stretch-r-requires : goal.stretch-r-requires
stretch-r-requires c =
    let s = c.args in
    some_left s.budget s.extent s.e s.own.now s.other.now c.requires _ _ c.window-window.ensures c.visible_count-count.ensures _ c.new-s.ensures
    _ c.command_of.ensures c.if-s-command_of.false

pub returns : goal.returns
returns c =
    let s = c.args in
    rw c.some.ensures
    (blit-some s.budget s.extent s.e s.own.now s.other.now c.requires _ _ c.window-window.ensures c.visible_count-count.ensures _ c.new-s.ensures
    _ c.command_of.ensures c.if-s-command_of.false _ c.blit-b.ensures _ c.stretch-r.ensures _ (search rules) _ c.draw_blit.ensures)
