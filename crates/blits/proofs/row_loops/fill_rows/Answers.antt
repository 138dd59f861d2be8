-- No pixel is read, so that the rows are the same from whatever source (`solid-rows`).
use mathlib.Core.Path.{◌∙◌}
use Rattle.blits.proofs.Stepping.{solid-rows}
use Rattle.blits.proofs.row_loops.fill_rows.Goals as goal

pub returns : goal.returns
returns c = λ back stride from other. c.draw_rows.ensures ∙ solid-rows back c.args.pen other stride from c.args.rows c.args.buffer.now
