-- By the mix, the length and the direction: each branch is a kind of row, which reads no other buffer (`moved-rows`).
use mathlib.Core.Path.{◌∙◌}
use mathlib.Core.Bool.{true, false}
use Rattle.blits.proofs.Stepping.{moved-rows}
use Rattle.blits.proofs.row_loops.move_rows.Goals as goal

pub returns-then-is_plain : goal.returns-then-is_plain
returns-then-is_plain c = λ other. c.draw_rows_apart.ensures ∙ moved-rows c.args.back c.args.mix other c.args.rows c.args.buffer.now

pub returns-then-rows-reads_last_row : goal.returns-then-rows-reads_last_row
returns-then-rows-reads_last_row c = λ other. c.draw_rows_apart-then-rows-reads_last_row.ensures ∙ moved-rows c.args.back c.args.mix other c.args.rows c.args.buffer.now

pub returns-then-back : goal.returns-then-back
returns-then-back c = λ other. rw c.if-back.true (c.draw_rows_apart-then-back.ensures ∙ moved-rows true c.args.mix other c.args.rows c.args.buffer.now)

pub returns : goal.returns
returns c = λ other. rw c.if-back.false (c.draw_rows_apart-2.ensures ∙ moved-rows false c.args.mix other c.args.rows c.args.buffer.now)
