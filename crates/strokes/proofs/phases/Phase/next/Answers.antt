-- `strokes::phases::Phase::next` meets its contract. Each return is the case of `next_of` that the two tests chose, and its
-- bits are LPAT's from the new place on: those it had, those without the lowest (`bits-next`), or all.
-- Assumes nothing.
use mathlib.Core.Path.{refl}
use native.Mathlib.Omega.{arith}
use Rattle.strokes.proofs.Dashing.{bits-next, next-repeat, next_place, next-first}
use Rattle.strokes.proofs.phases.Phase.next.Goals as goal

pub returns-then-repeat-control : goal.returns-then-repeat-control
returns-then-repeat-control c = (next-repeat _ _ c.if-repeat-control.true, refl)

pub invariant_of-result-then-place-control : goal.invariant_of-result-then-place-control
invariant_of-result-then-place-control c =
    record { bits_are = bits-next _ _ _ c.args.self.bits_are; place_small = omega arith; repeat_small = omega arith }

pub returns-then-place-control : goal.returns-then-place-control
returns-then-place-control c = (next_place _ _ c.if-repeat-control.false c.if-place-control.true, refl)

pub returns : goal.returns
returns c = (next-first _ _ c.if-repeat-control.false c.if-place-control.false, refl)
