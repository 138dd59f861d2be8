-- By the mix and the length: each branch is a kind of row, which is the same in either direction (`copied-rows`).
use mathlib.Core.Path.{◌∙◌}
use Rattle.blits.proofs.Stepping.{copied-rows}
use Rattle.blits.proofs.row_loops.copy_rows.Goals as goal

pub returns-then-is_plain : goal.returns-then-is_plain
returns-then-is_plain c = λ back. c.draw_rows_apart.ensures ∙ copied-rows back c.args.mix c.args.other.now c.args.rows c.args.buffer.now

pub returns-then-rows : goal.returns-then-rows
returns-then-rows c = λ back. c.draw_rows_apart-then-rows.ensures ∙ copied-rows back c.args.mix c.args.other.now c.args.rows c.args.buffer.now

pub returns-then-rows-ge32 : goal.returns-then-rows-ge32
returns-then-rows-ge32 c = λ back. c.draw_rows_apart-then-rows-ge32.ensures ∙ copied-rows back c.args.mix c.args.other.now c.args.rows c.args.buffer.now

pub returns : goal.returns
returns c = λ back. c.draw_rows_apart-2.ensures ∙ copied-rows back c.args.mix c.args.other.now c.args.rows c.args.buffer.now
