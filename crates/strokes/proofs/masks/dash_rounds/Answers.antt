-- `strokes::masks::dash_rounds` meets its contract. The mask holds a round of the pattern (`rounds-of`), so that what is mixed by
-- it round after round is the row in dashes (`dashes-mixed`).
-- Assumes nothing.
use borrow.Author.Rules.{rules}
use Rattle.strokes.proofs.Masking.{goes_of, rounds-of, dashes-mixed}
use Rattle.strokes.proofs.masks.dash_rounds.Goals as goal

pub round-m-requires : goal.round-m-requires
round-m-requires c = let a = c.args in (goes_of a.dashes.control a.pattern a.n c.requires.2).sizes

pub returns : goal.returns
returns c =
    let a = c.args in
    let rounds = rounds-of a.dashes a.pattern _ _ c.put_mask.ensures c.round-m.ensures (goes_of a.dashes.control a.pattern a.n c.requires.2).range in
    dashes-mixed _ _ c.mix_of-mix.ensures _ _ _ (λ m. search rules) _ _ _
    (c.mix_rounds.ensures _ rounds) c.after.ensures
