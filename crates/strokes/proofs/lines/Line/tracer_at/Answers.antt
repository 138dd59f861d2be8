-- `strokes::lines::Line::tracer_at` meets its contract: what `stepper` ensures of the first pixel, or `after` of pixel i
-- (`leaps-on`), is `Traces`.
-- Assumes nothing.
use mathlib.Core.Path.{◌≡◌}
use Prim.Native.Nat.{ℕ}
use Rattle.strokes.specs.Tracers.{On}
use Rattle.strokes.specs.declared.tracers.Stepper.{Stepper}
use Rattle.strokes.proofs.Terms.{can-leap, leaps-on}
use Rattle.strokes.proofs.Traced.{traces-of}
use Rattle.strokes.proofs.lines.Line.tracer_at.Goals as goal

-- a ramp's stepper is on the line's axis
along : {n m a b c d : ℕ} {g : Stepper} → (m ≡ n) × (c ≡ a) × (d ≡ b) → On m 0 c d g → On n 0 a b g
along e o = rw (e.0, e.1, e.2) at o

pub after-requires : goal.after-requires
after-requires c = can-leap _ _ _ _ _ c.args.self.x_axis c.requires (along c.x.ensures c.stepper-x.ensures)

pub after-requires-2 : goal.after-requires-2
after-requires-2 c = can-leap _ _ _ _ _ c.args.self.y_axis c.requires (along c.y.ensures c.stepper-y.ensures)

pub returns : goal.returns
returns c =
    traces-of _ _ _ _ _ _ c.args.self.steps_are
    (leaps-on _ _ _ _ _ c.args.self.x_axis c.requires (along c.x.ensures c.stepper-x.ensures) _ c.after.ensures)
    (leaps-on _ _ _ _ _ c.args.self.y_axis c.requires (along c.y.ensures c.stepper-y.ensures) _ c.after-2.ensures)
