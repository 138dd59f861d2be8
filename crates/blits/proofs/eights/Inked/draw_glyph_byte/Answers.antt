-- Each byte of the new word is what its bit draws, so that one store is eight visits (`word-drawn`).
use borrow.Author.Rules.{rules}
use native.Mathlib.Omega.{arith}
use lib.Dec.{lit≤}
use Rattle.stipples.specs.Words.{Bytes}
use Rattle.blits.proofs.Blocks.{word-drawn}
use Rattle.blits.proofs.eights.Inked.draw_glyph_byte.Goals as goal

pub returns : goal.returns
returns c =
    let q = c.args.self in
    let bytes : Bytes q.stipple = (search rules, search rules, search rules, search rules) in
    word-drawn q.stipple c.args.bits _ _ 8 c.args.buffer.now _ c.args.at (lit≤ tt) c.word_at-old.ensures
    (c.draw_by_products.ensures q.stipple bytes q.made) (λ k p h. absurd (omega arith)) c.put_word.ensures
