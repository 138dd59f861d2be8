-- Where all pixels may be read before the first is written, the row is a copy (`clear-copied`); else byte by byte.
use mathlib.Core.Path.{◌∙◌, sym}
use Rattle.rows.proofs.Tests.{and-at-most, and-between}
use Rattle.rows.proofs.Within.{is-back, clear-copied}
use Rattle.rows.proofs.unmixed.move_plain.Goals as goal

pub returns-then-clear-n : goal.returns-then-clear-n
returns-then-clear-n g c =
    let a = c.args in
    let t = and-between _ 8 a.n 16 c.if-clear-n.true in
    c.mix_ends.ensures a.buffer.now a.from c.ends-pixels.ensures
    ∙ sym (clear-copied (is-back g.row.BACK) (λ s d. s) a.n a.buffer.now a.at a.from (c.reads_first-clear.ensures t.0))

pub returns-then-clear-n-2 : goal.returns-then-clear-n-2
returns-then-clear-n-2 g c =
    let a = c.args in
    let t = and-at-most _ a.n 4096 c.if-clear-n-2.true in
    c.move_at_once.ensures
    ∙ sym (clear-copied (is-back g.row.BACK) (λ s d. s) a.n a.buffer.now a.at a.from (c.reads_first-clear.ensures t.0))
