-- Eight pixels, and for 16 eight more (`expanding-turn`), by bits that are those of the start (`stayed`).
use mathlib.Core.Path.{refl}
use Prim.Native.Nat.{◌+◌}
use native.Mathlib.Omega.{arith}
use Rattle.blits.proofs.Expanded.{expanding-start, expanding-turn, expanding-end, stayed, eight-of, only-eight}
use Rattle.blits.proofs.bits.expand_narrow.Goals as goal

pub returns-then-n-eq16 : goal.returns-then-n-eq16
returns-then-n-eq16 g c =
    let a = c.args in
    let start = expanding-start a.ink.stipple a.n a.buffer.now a.at (g.B.Bits.bytes a.bits a.buffer.now) a.byte a.first in
    let first =
    expanding-turn start a.byte a.at _ _ (omega arith) (omega arith) (omega arith) c.draw_glyph_byte.auto.buffer c.draw_glyph_byte.ensures
    (stayed start 8 a.byte (omega arith) (omega arith) (g.B.Bits.bytes a.bits) refl c.requires.2.stay _ c.read-left.ensures) in
    expanding-end
    (expanding-turn first (a.byte + 1) (a.at + 8) _ _ (omega arith) (omega arith) (omega arith) c.draw_glyph_byte-then-n-eq16.auto.buffer
    c.draw_glyph_byte-then-n-eq16.ensures
    (stayed first 8 (a.byte + 1) (omega arith) (omega arith) (g.B.Bits.bytes a.bits) refl c.requires.2.stay _ c.read-right.ensures))
    (omega arith)

pub returns-else-n-eq16 : goal.returns-else-n-eq16
returns-else-n-eq16 g c =
    let start = expanding-start c.args.ink.stipple c.args.n c.args.buffer.now c.args.at (g.B.Bits.bytes c.args.bits c.args.buffer.now) c.args.byte c.args.first in
    let some = eight-of c.args.n c.requires.0 in
    let few = only-eight c.args.n c.requires.0 c.if-n-eq16.false in
    expanding-end
    (expanding-turn start c.args.byte c.args.at _ _ (omega arith) (omega arith) (omega arith) c.draw_glyph_byte.auto.buffer c.draw_glyph_byte.ensures
    (stayed start 8 c.args.byte (omega arith) (omega arith) (g.B.Bits.bytes c.args.bits) refl c.requires.2.stay _ c.read-left.ensures))
    (omega arith)
