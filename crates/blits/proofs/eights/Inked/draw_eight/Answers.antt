-- Byte k of the new word is what its bit draws (`inks-byte`), so that one store is eight visits (`word-drawn`); where no byte is kept
-- the old ones are no matter (`plain-drawn`).
use borrow.Author.Rules.{rules}
use native.Mathlib.Omega.{arith}
use lib.Dec.{lit≤}
use Rattle.stipples.specs.Words.{Bytes}
use Rattle.blits.proofs.Blocks.{inks-byte, word-drawn, plain-drawn}
use Rattle.blits.proofs.eights.Inked.draw_eight.Goals as goal

pub returns-then-this-ne0 : goal.returns-then-this-ne0
returns-then-this-ne0 g c =
    let q = c.args.self in
    let bytes : Bytes q.stipple = (search rules, search rules, search rules, search rules) in
    plain-drawn q.stipple q.inks c.args.bits _ c.args.buffer.now _ c.args.at q.made bytes (search rules) (c.requires.0 (search rules))
    c.draw.ensures (λ i. search rules) c.put_word.ensures

pub returns : goal.returns
returns g c =
    let q = c.args.self in
    let bytes : Bytes q.stipple = (search rules, search rules, search rules, search rules) in
    word-drawn q.stipple c.args.bits _ _ 8 c.args.buffer.now _ c.args.at (lit≤ tt) c.word_at-old.ensures
    (inks-byte q.stipple q.inks c.args.bits _ _ q.made bytes (search rules) c.draw-2.ensures)
    (λ k p h. absurd (omega arith)) c.put_word-2.ensures
