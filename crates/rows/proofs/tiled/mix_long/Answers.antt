-- All but the last sixteen pixels at most (`Begun`), and these, drawn aside, are the row (`mixed-long`).
use lib.Dec.{lit≤}
use Rattle.rows.proofs.Tiles.{Begun, begun-blocks, begun_more, mixed-long}
use Rattle.rows.proofs.tiled.mix_long.Goals as goal
use Rattle.rows.proofs.tiled.mix_long.Goals.{then-done-z, else-done-z}

pub returns : goal.returns
returns g c =
    let a = c.args in
    let f = g.I.Ink.byte a.ink in
    let begun : Begun f a.n a.buffer.now a.at c.copy_bytes.new.buffer c.if-done-z.buffer =
    elim c.if-done-z.branch [
      | then-done-z w ↦ begun_more f a.n a.buffer.now a.at _ _ c.mix_blocks.ensures _ w.if-done-z.true (rw w.buffer-is w.mix_bytes-then-done-z.ensures)
      | else-done-z w ↦ begun-blocks f a.n a.buffer.now a.at _ _ (rw w.buffer-is c.mix_blocks.ensures) w.if-done-z.false
    ] in
    mixed-long f a.n a.buffer.now a.at a.source.now a.from a.last c.requires.0 c.requires.1
    _ _ _ _ _ _ (lit≤ tt) (lit≤ tt) c.copy_bytes.ensures c.copy_bytes-2.ensures begun _ _ _ (lit≤ tt) c.copy_bytes-3.ensures
    c.mix_bytes.ensures c.copy_bytes-4.ensures
