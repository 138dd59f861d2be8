-- `strokes::phases::Phase::new` meets its contract. From place 32 on LPAT has no bit left (`bits-past`); below it the shift
-- leaves those from the place on.
-- Assumes nothing.
use mathlib.Core.Path.{◌∙◌}
use native.Mathlib.Omega.{arith}
use borrow.Author.Rules.{rules}
use Rattle.strokes.proofs.Dashing.{bits-past}
use Rattle.strokes.proofs.phases.Phase.new.Goals.{then-p-lt32, else-p-lt32}
use Rattle.strokes.proofs.phases.Phase.new.Goals as goal

pub invariant_of-result : goal.invariant_of-result
invariant_of-result c =
    record {
      bits_are =
          elim c.if-p-lt32.branch [
            | then-p-lt32 w ↦ w.bits-is
            | else-p-lt32 w ↦ w.bits-is ∙ bits-past _ _ (search rules) w.if-p-lt32.false
          ];
      place_small = omega arith;
      repeat_small = omega arith;
    }
