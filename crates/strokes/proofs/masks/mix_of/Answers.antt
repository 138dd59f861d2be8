-- `strokes::masks::mix_of` meets its contract by `mixes`: its pens are bytes.
-- Assumes nothing.
use borrow.Author.Rules.{rules}
use Rattle.strokes.proofs.Masking.{mixes}
use Rattle.strokes.proofs.masks.mix_of.Goals as goal

pub returns : goal.returns
returns c =
    mixes _ _ c.back_pen-back.ensures (search rules) (search rules) (search rules) (search rules)
