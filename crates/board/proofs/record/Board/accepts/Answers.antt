use mathlib.Core.Path.{refl, sym}
use Rattle.std.proofs.Common.{inl, inr}
use Rattle.answers.proofs.Refusals.{refused}
use Rattle.board.proofs.record.Board.accepts.Goals as goal

pub returns-in_err-checked : goal.returns-in_err-checked
returns-in_err-checked c =
    rw (refused c.from_residual.ensures.1 c.in_err-checked.ensures.0) (inl (refl, c.in_err-checked.ensures.1))

pub returns-then-not-lent_ok : goal.returns-then-not-lent_ok
returns-then-not-lent_ok c = inr (refl, c.in_ok-checked.ensures, sym c.if-not-lent_ok.ensures)

pub returns : goal.returns
returns c = (c.in_ok-checked.ensures, sym c.if-not-lent_ok.ensures)
