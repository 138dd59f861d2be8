-- With no tile held the run goes on (`held-none`); else it is as far as the steps of the fill take it (`held-fill`).
use mathlib.Core.Path.{sym}
use Rattle.pramolyt.proofs.RunParts.{held-fill, held-none}
use Rattle.pramolyt.proofs.hatch_held.Goals as goal

pub returns-then-not-holds : goal.returns-then-not-holds
returns-then-not-holds c =
    let s = c.args in
    held-none s.budget s.list.now s.board.now s.display.now s.virt.now (sym c.if-not-holds.ensures)

pub returns : goal.returns
returns c =
    let s = c.args in
    held-fill s.budget s.list.now s.board.now s.display.now s.virt.now _ _ _ _ c.hatch_image.ensures
