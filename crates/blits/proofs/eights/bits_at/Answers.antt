-- Bits of one byte (`here-bit`), and bits of two (`either-bit`).
use native.Mathlib.Omega.{arith}
use Rattle.blits.proofs.Words.{here-bit, either-bit}
use Rattle.blits.proofs.eights.bits_at.Goals as goal

pub returns-then-first-m-le8 : goal.returns-then-first-m-le8
returns-then-first-m-le8 c =
    let two = c.before.before in
    let start = two.before.before.before in
    let s = start.args in
    λ j h. here-bit s.source.now s.byte s.first j _ _ (c.joined.ensures j (omega (arith, h, start.requires.1))) (omega (arith, h, two.if-first-m-le8.true))

pub returns : goal.returns
returns c =
    let start = c.before.before.before.before.before.before in
    let s = start.args in
    λ j h. either-bit s.source.now s.byte s.first j _ (c.joined-2.ensures j (omega (arith, h, start.requires.1))) (omega (arith, h, start.requires.1, start.requires.2.in-byte))
