-- Visit k is one of the visible part that was found, so that the number of its cell fits (`index-fits`).
use borrow.Author.Rules.{rules}
use Rattle.geometry.specs.Coordinates.{point_of}
use Rattle.geometry.proofs.Visibility.{index-fits}
use Rattle.geometry.proofs.visible.visible_index.Goals as goal

pub index-requires : goal.index-requires
index-requires c =
    let s = c.args in
    let part = c.visible_part-part in
    index-fits (point_of s.corner) s.size s.direction s.window part.result (search rules) part.ensures s.k
    (rw (part.ensures, ← c.visible_count.ensures) c.if-visible_count-k.false)
