-- `strokes::lines::Line::clipped` meets its contract. Where no x lies in the window no pixel is visible (`hidden-beside`);
-- else those are whose x and y both do (`visible-by`).
-- Assumes nothing.
use mathlib.Core.Path.{◌≡◌}
use Prim.Native.Nat.{ℕ}
use Rattle.geometry.specs.declared.visible.Range.{Range}
use Rattle.strokes.specs.Ranges.{Ranges}
use Rattle.strokes.proofs.Crossings.{visible-by, hidden-beside}
use Rattle.strokes.proofs.lines.Line.clipped.Goals as goal

-- a ramp's range is that of the line's axis
wide : {n m a b c d low high : ℕ} {s : Range} → (m ≡ n) × (c ≡ a) × (d ≡ b) → Ranges m c d low high s → Ranges n a b low high s
wide e r = rw (e.0, e.1, e.2) at r

pub returns-then-x : goal.returns-then-x
returns-then-x c =
    hidden-beside _ _ _ _ _ _ _ c.requires c.args.self.steps_are (wide c.x.ensures c.range-x.ensures) c.if-x.true

pub returns : goal.returns
returns c =
    visible-by _ _ _ _ _ _ _ c.requires c.args.self.steps_are (wide c.x.ensures c.range-x.ensures) _ _ _ _ _
    (wide c.y.ensures c.range-y.ensures) c.max.ensures c.max-2.ensures c.min.ensures c.min-2.ensures
