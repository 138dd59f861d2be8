-- By the kind of the decoded command, which is that of every engine with these numbers: the pixels of a blit
-- (`count-blit`), those of a line (`count-line`), or none (`count_none`).
use mathlib.Core.Bool.{true, false}
use Rattle.entries.specs.Fields.{is_blit, is_line}
use Rattle.commands.specs.Entering.{numbered}
use Rattle.commands.proofs.Tests.{test-is, count-blit, count-line, count_none}
use Rattle.commands.proofs.visits.count_by.Goals as goal

pub returns-then-is_blit : goal.returns-then-is_blit
returns-then-is_blit c e =
    let s = c.args in
    let e = numbered e s.cmd s.last s.xy0 s.xy1 s.xy2 s.xy3 s.clptl s.clpbr in
    rw (c.visible_count.ensures, c.window_of.ensures, c.command_of-c.ensures)
    (count-blit _ e (test-is e _ c.command_of-c.ensures is_blit _ c.is_blit.ensures true c.if-is_blit.true))

pub returns-then-is_line : goal.returns-then-is_line
returns-then-is_line c e =
    let s = c.args in
    let e = numbered e s.cmd s.last s.xy0 s.xy1 s.xy2 s.xy3 s.clptl s.clpbr in
    rw (c.line_count.ensures, c.start_of-start.ensures, c.is_polyline.ensures, c.command_of-c.ensures)
    (count-line _ e (test-is e _ c.command_of-c.ensures is_blit _ c.is_blit.ensures false c.if-is_blit.false)
    (test-is e _ c.command_of-c.ensures is_line _ c.is_line.ensures true c.if-is_line.true))

pub returns : goal.returns
returns c e =
    let s = c.args in
    let e = numbered e s.cmd s.last s.xy0 s.xy1 s.xy2 s.xy3 s.clptl s.clpbr in
    count_none _ e (test-is e _ c.command_of-c.ensures is_blit _ c.is_blit.ensures false c.if-is_blit.false)
    (test-is e _ c.command_of-c.ensures is_line _ c.is_line.ensures false c.if-is_line.false)
