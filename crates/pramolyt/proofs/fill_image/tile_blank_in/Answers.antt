-- The loop keeps that so far the test is `all_below i`; each turn is one word more (`turn_more`).
use mathlib.Core.Path.{refl}
use Rattle.lemmas.proofs.Turns.{turn-none, turn_more}
use Rattle.pramolyt.proofs.fill_image.tile_blank_in.Goals as goal

pub loop-i-init : goal.loop-i-init
loop-i-init c = turn-none _ _

pub loop-i-preserved : goal.loop-i-preserved
loop-i-preserved c = turn_more _ _ c.loop-i.i c.loop-i.blank _ c.loop-i.invariant refl
