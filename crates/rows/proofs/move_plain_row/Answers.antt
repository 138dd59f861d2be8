-- Where every new byte is the source byte, moving is mixing (`shifted-plain`).
use mathlib.Core.Bool.{true, false}
use mathlib.Core.Path.{◌∙◌, sym}
use borrow.Author.Rules.{rules}
use Rattle.rows.specs.Rows.{mixed, shifted_row}
use Rattle.rows.proofs.Plain.{shifted-plain}
use Rattle.rows.proofs.move_plain_row.Goals as goal

pub returns-then-not-both_fit : goal.returns-then-not-both_fit
unfolding shifted_row
returns-then-not-both_fit c mix plain = rw (sym c.both_fit.ensures ∙ c.if-not-both_fit.true)

pub returns-then-back : goal.returns-then-back
unfolding shifted_row
returns-then-back c mix plain =
    let a = c.args in
    rw (sym c.both_fit.ensures ∙ c.if-not-both_fit.false, c.if-back.true)
    (c.move_plain.ensures ∙ shifted-plain (mixed mix) plain true a.n a.buffer.now a.at a.from (λ k. search rules))

pub returns : goal.returns
unfolding shifted_row
returns c mix plain =
    let a = c.args in
    rw (sym c.both_fit.ensures ∙ c.if-not-both_fit.false, c.if-back.false)
    (c.move_plain-2.ensures ∙ shifted-plain (mixed mix) plain false a.n a.buffer.now a.at a.from (λ k. search rules))
