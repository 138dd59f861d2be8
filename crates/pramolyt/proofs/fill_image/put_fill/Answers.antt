-- The loop keeps that so far i words are put in turn; each turn puts one more (`turn_more`), and all of them are the fill's
-- (`tile-put`).
use native.Mathlib.Omega.{arith}
use borrow.Author.Rules.{rules}
use borrow.Author.Tests.{not-true, not-false}
use mathlib.Core.Path.{ap, ◌∙◌}
use Prim.Native.Nat.{◌+◌}
use lib.ListN.{length-set, set}
use Rattle.lemmas.proofs.Turns.{turn-none, turn_more, turn_end}
use Rattle.pramolyt.specs.FillImage.{fill_at, tile_at}
use Rattle.pramolyt.proofs.FillTrips.{none-put, tile-put}
use Rattle.pramolyt.proofs.fill_image.put_fill.Goals as goal

pub returns-then-not-f : goal.returns-then-not-f
returns-then-not-f c = none-put c.args.f c.args.w (not-true _ c.if-not-f.true) c.requires

pub loop-i-init : goal.loop-i-init
loop-i-init c = record { long = length-set c.args.w fill_at 1 ∙ search rules; put = turn-none _ _ }

pub loop-i-preserved : goal.loop-i-preserved
loop-i-preserved c =
    let o = c.loop-i in
    record {
      long = length-set o.w _ _ ∙ o.invariant.long;
      put = turn_more _ _ o.i o.w _ o.invariant.put (ap (set o.w (tile_at + o.i)) c.tile_word.ensures);
    }

pub returns : goal.returns
returns c =
    let o = c.loop-i in
    turn_end _ _ o.i 32 o.w (omega arith) (omega arith) o.invariant.put
    ∙ tile-put c.args.f c.args.w (not-false _ c.if-not-f.false) (search rules)
