-- The first m bytes are drawn and the others stored as they stood (`some-drawn`); pixel by pixel at the buffer's end.
use borrow.Author.Rules.{rules}
use Rattle.stipples.specs.Words.{Bytes}
use Rattle.blits.proofs.Blocks.{some-drawn}
use Rattle.blits.proofs.eights.Inked.draw_some.Goals as goal

pub returns : goal.returns
returns c =
    let q = c.args.self in
    let bytes : Bytes q.stipple = (search rules, search rules, search rules, search rules) in
    some-drawn q.stipple q.inks c.args.bits _ _ c.args.m c.args.buffer.now _ c.args.at c.requires.0 q.made bytes (search rules) c.word_at-old.ensures
    c.draw-new.ensures c.put_word.ensures
