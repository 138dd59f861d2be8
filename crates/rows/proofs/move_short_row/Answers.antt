-- Where all pixels may be read before the first is written, the row is a copy (`clear-copied`).
use mathlib.Core.Path.{◌∙◌, sym}
use Rattle.rows.specs.Rows.{mixed, shifted_row}
use Rattle.rows.proofs.Within.{clear-copied}
use Rattle.rows.proofs.move_short_row.Goals as goal

pub returns-then-reads_first : goal.returns-then-reads_first
unfolding shifted_row
returns-then-reads_first c _ _ =
    let a = c.args in
    rw (sym c.both_fit.ensures ∙ c.if-not-both_fit.false)
    (c.mix_ends.ensures a.buffer.now a.from c.ends-pixels.ensures
    ∙ sym (clear-copied a.back (mixed a.mix) a.n a.buffer.now a.at a.from (c.reads_first.ensures c.if-reads_first.true)))
