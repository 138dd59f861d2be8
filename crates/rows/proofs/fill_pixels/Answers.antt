-- A pen that keeps nothing writes one byte everywhere (`filled-flat`); any other draws, by the length.
use borrow.Author.Tests.{eqb-true}
use mathlib.Core.Path.{◌∙◌}
use Rattle.rows.proofs.Plain.{filled-flat}
use Rattle.rows.proofs.Tests.{and-at-most}
use Rattle.rows.proofs.fill_pixels.Goals as goal

pub returns-then-pen-n : goal.returns-then-pen-n
returns-then-pen-n c =
    let a = c.args in
    let t = and-at-most _ 8 a.n c.if-pen-n.true in
    c.fill_plain.ensures ∙ filled-flat a.pen (eqb-true a.pen.keep 0 t.0) a.n a.buffer.now a.at
