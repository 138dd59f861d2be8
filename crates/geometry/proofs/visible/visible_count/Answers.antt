-- A blit that shows whole has all its pixels (`whole-count`); the product of two numbers below 65,536 fits (`count_fits`).
use borrow.Author.Rules.{rules}
use mathlib.Core.Path.{sym, ◌∙◌}
use native.Mathlib.Omega.{arith}
use Rattle.geometry.specs.Coordinates.{point_of}
use Rattle.geometry.proofs.Visibility.{whole-count, count_fits}
use Rattle.geometry.proofs.visible.visible_count.Goals as goal

pub returns-then-shows_whole : goal.returns-then-shows_whole
returns-then-shows_whole c =
    let s = c.args in
    c.blit_count.ensures ∙ whole-count (point_of s.corner) s.size s.direction s.window (sym c.shows_whole.ensures ∙ c.if-shows_whole.true)

pub overflow_mul-result : goal.overflow_mul-result
overflow_mul-result c =
    let s = c.args in
    let fits = count_fits (point_of s.corner) s.size s.direction s.window _ (search rules) c.visible_part-part.ensures in
    rw (c.len-2.ensures, c.len.ensures) (omega (arith, fits))
