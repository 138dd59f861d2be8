-- At most sixteen pixels are the first sixteen bytes as they stand (`few-tiled`).
use native.Mathlib.Omega.{arith}
use Rattle.rows.proofs.Tiles.{few-tiled}
use Rattle.rows.proofs.tiled.mix_tile.Goals as goal

pub returns-then-n-lt8 : goal.returns-then-n-lt8
returns-then-n-lt8 g c =
    let a = c.args in
    few-tiled (g.I.Ink.byte a.ink) a.n a.buffer.now a.at a.source.now a.from a.last _ (omega arith) c.mix_bytes.ensures

pub returns-then-n-le16 : goal.returns-then-n-le16
returns-then-n-le16 g c =
    let a = c.args in
    few-tiled (g.I.Ink.byte a.ink) a.n a.buffer.now a.at a.source.now a.from a.last _ (omega arith)
    (c.mix_ends.ensures a.source.now a.from c.ends-pixels.ensures)
