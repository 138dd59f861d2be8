-- Where every new byte is the source byte, copying is mixing (`copied-plain`).
use mathlib.Core.Path.{◌∙◌, sym}
use native.Mathlib.Omega.{arith}
use Rattle.rows.specs.Rows.{mixed, copied_row}
use Rattle.rows.proofs.Plain.{copied-plain}
use Rattle.rows.proofs.copy_plain_row.Goals as goal

pub returns-then-not-both_fit : goal.returns-then-not-both_fit
unfolding copied_row
returns-then-not-both_fit c mix plain = rw (sym c.both_fit.ensures ∙ c.if-not-both_fit.true)

pub returns : goal.returns
unfolding copied_row
returns c mix plain =
    let a = c.args in
    rw (sym c.both_fit.ensures ∙ c.if-not-both_fit.false)
    (c.copy_plain.ensures
    ∙ copied-plain (mixed mix) plain a.n a.buffer.now a.at a.source.now a.from (λ k. omega (arith, c.type_inv.source k)))
