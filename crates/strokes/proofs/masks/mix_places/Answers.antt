-- `strokes::masks::mix_places` meets its contract. Each place is next to the one before it, so that the pixels are the row that
-- `copy_row` mixes, from its first place on (`mix-right`) or from its last (`mix-left`).
-- Assumes nothing.
use mathlib.Core.Path.{refl}
use native.Mathlib.Omega.{arith}
use Rattle.strokes.proofs.Levels.{left-room, right-room, mix-right, mix-left}
use Rattle.strokes.proofs.masks.mix_places.Goals as goal

pub overflow_add-place : goal.overflow_add-place
overflow_add-place c =
    omega (arith, right-room _ _ _ c.requires.0 c.requires.1.level c.requires.1.next c.if-course-eq0.true)

pub returns-then-course-eq0 : goal.returns-then-course-eq0
returns-then-course-eq0 c pixel masks =
    mix-right _ _ _ _ c.requires.0 c.requires.1.level c.requires.1.next c.requires.2 c.requires.3 _ c.told-mask _ _ _ refl pixel masks
    c.if-course-eq0.true c.copy_row.ensures

pub overflow_sub-place : goal.overflow_sub-place
overflow_sub-place c =
    omega (arith, left-room _ _ _ c.requires.0 c.requires.1.level c.requires.1.next c.if-course-eq0.false)

pub overflow_sub-place-else-course-eq0 : goal.overflow_sub-place-else-course-eq0
overflow_sub-place-else-course-eq0 c =
    omega (arith, left-room _ _ _ c.requires.0 c.requires.1.level c.requires.1.next c.if-course-eq0.false)

pub returns-else-course-eq0 : goal.returns-else-course-eq0
returns-else-course-eq0 c pixel masks =
    mix-left _ _ _ _ c.requires.0 c.requires.1.level c.requires.1.next c.requires.2 c.requires.3 _ c.told-mask _ _ _ refl pixel masks
    c.if-course-eq0.false c.copy_row-else-course-eq0.ensures
