-- `strokes::masks::mix_rounds` meets its contract. The loop's invariant, `Mixing`: j pixels are mixed, and the mask begins anew;
-- `mixing-turn` gives a turn.
-- Assumes nothing.
use native.Mathlib.Omega.{arith}
use Rattle.strokes.proofs.Masking.{mixing-start, mixing-turn, mixing-end}
use Rattle.strokes.proofs.masks.mix_rounds.Goals as goal

pub loop-j-init : goal.loop-j-init
loop-j-init c = mixing-start _ _ _ _ _ _

pub loop-j-preserved : goal.loop-j-preserved
loop-j-preserved c =
    mixing-turn c.loop-j.invariant c.loop-j-test.true c.min.ensures c.mix_places.auto.buffer c.mix_places.ensures

pub returns : goal.returns
returns c = mixing-end c.loop-j.invariant c.loop-j-test.false

-- the last round, after which there is no pixel left
pub returns-2 : goal.returns-2
returns-2 c =
    mixing-end
    (mixing-turn c.loop-j.invariant c.loop-j-test.true c.min.ensures c.mix_places.auto.buffer c.mix_places.ensures)
    (omega arith)
