-- A blit's visit has its cell (`cell-blit`), and another command's has none (`cell-none`).
use mathlib.Core.Bool.{true, false}
use Rattle.entries.specs.Fields.{is_blit}
use Rattle.commands.proofs.Tests.{test-is, cell-blit, cell-none}
use Rattle.commands.proofs.Engine.cell.Goals as goal

pub returns-then-not-is_blit : goal.returns-then-not-is_blit
returns-then-not-is_blit c =
    let s = c.args in
    cell-none s.extent s.self s.k (test-is s.self _ c.command_of-c.ensures is_blit _ c.is_blit.ensures false c.if-not-is_blit.true)

pub returns : goal.returns
returns c =
    let s = c.args in
    rw (c.blit_cell.ensures, c.visible_index-i.ensures, c.window.ensures)
    (cell-blit s.extent s.self s.k (test-is s.self _ c.command_of-c.ensures is_blit _ c.is_blit.ensures true c.if-not-is_blit.false))
