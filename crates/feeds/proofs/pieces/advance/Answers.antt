-- Where no entry is completed the piece goes behind the held bytes (`after_none`); else its last bytes are held (`after-some`).
use borrow.Author.Rules.{rules}
use mathlib.Core.Path.{◌≡◌, sym, ◌∙◌}
use native.Mathlib.Omega.{arith}
use lib.ListN.{length}
use Rattle.slots.proofs.Grounds.{put-fits}
use Rattle.feeds.proofs.Holding.{few, after_none, over-fits, after-some}
use Rattle.feeds.proofs.pieces.advance.Goals as goal

pub cut-n-requires : goal.cut-n-requires
cut-n-requires c = few c.args.f c.requires.f_value

pub overflow_sub-start : goal.overflow_sub-start
overflow_sub-start c =
    let four : length c.args.f.held ≡ 4 = search rules in
    over-fits c.args.f c.args.piece.now c.requires.f_value four c.cut-n.result.0 c.cut-n.result.1 c.cut-n.ensures.entries
    c.cut-n.ensures.over c.if-n-eq0.false

pub returns-then-n-eq0 : goal.returns-then-n-eq0
returns-then-n-eq0 c =
    let four : length c.args.f.held ≡ 4 = search rules in
    after_none c.args.f c.args.piece.now c.requires.f_value four c.cut-n.result.0 c.cut-n.result.1 c.cut-n.ensures.entries
    c.cut-n.ensures.over c.if-n-eq0.true _
    (c.put_fitting.ensures ∙ sym (put-fits _ _ _ (omega (arith, four, c.cut-n.ensures.entries, c.if-n-eq0.true))))

pub returns : goal.returns
returns c =
    let four : length c.args.f.held ≡ 4 = search rules in
    after-some c.args.f c.args.piece.now c.requires.f_value four c.cut-n.result.0 c.cut-n.result.1 c.cut-n.ensures.entries
    c.cut-n.ensures.over c.if-n-eq0.false _ (c.put_fitting-2.ensures ∙ sym (put-fits _ _ _ (omega arith)))
