use mathlib.Core.Path.{refl, sym}
use Rattle.std.proofs.Common.{inl, inr}
use Rattle.board.proofs.bare.Bare.accepts.Goals as goal

pub returns-then-not-well_formed : goal.returns-then-not-well_formed
returns-then-not-well_formed c d v = inl (refl, sym (c.if-not-well_formed.ensures d v))

pub returns-then-not-lent_ok : goal.returns-then-not-lent_ok
returns-then-not-lent_ok c d v = inr (refl, sym (c.if-not-well_formed.ensures d v), sym c.if-not-lent_ok.ensures)

pub returns : goal.returns
returns c d v = (sym (c.if-not-well_formed.ensures d v), sym c.if-not-lent_ok.ensures)
