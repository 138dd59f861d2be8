-- `raster::new_byte` meets its contract. The loop's invariant: `new` is what the first `pair` pairs of a source bit and an
-- old bit have set (`set_in`), and `next-turn` gives a turn. After the loop, `rule`: what four turns have set, masked, is
-- the raster rule's byte.
-- Assumes nothing.
use native.Mathlib.Omega.{arith}
use mathlib.Core.Path.{ap, ◌∙◌}
use Rattle.lemmas.proofs.Turns.{turn-none, turn_end}
use Rattle.raster.proofs.Rule.{next-turn, masked, rule}
use Rattle.raster.proofs.new_byte.Goals as goal

pub loop-pair-init : goal.loop-pair-init
loop-pair-init c = turn-none _ _

pub loop-pair-preserved : goal.loop-pair-preserved
loop-pair-preserved c =
    let args = c.args in
    let o = c.loop-pair in
    next-turn args.code args.source args.old o.pair o.new _ _ o.invariant c.places.ensures c.places-in-loop-pair.ensures

pub returns : goal.returns
returns c =
    let args = c.args in
    let o = c.loop-pair in
    ap (λ x. masked x args.old args.mask) (turn_end _ 0 o.pair 4 o.new (omega arith) (omega arith) o.invariant)
    ∙ rule args.code args.source args.old args.mask (omega arith) (omega arith) (omega arith)
