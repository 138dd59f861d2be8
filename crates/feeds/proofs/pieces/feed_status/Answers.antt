-- Each refusal is the ground of its test (`feed-malformed`, `feed-wrong-size`, `feed-past`, `feed-held`); else the piece is accepted
-- (`feed-done`).
use borrow.Author.Rules.{rules}
use borrow.Author.Tests.{leb-true, leb-false, not-true, not-false}
use mathlib.Core.Path.{◌≡◌, sym, ◌∙◌}
use lib.ListN.{length}
use Rattle.feeds.proofs.Holding.{count-is}
use Rattle.feeds.proofs.Reporting.{good-held, handed-on, feed-malformed, feed-wrong-size, feed-past, feed-held, feed-done}
use Rattle.feeds.proofs.pieces.feed_status.Goals as goal

pub returns-then-not-well_formed : goal.returns-then-not-well_formed
returns-then-not-well_formed c = feed-malformed _ _ _ _ _ _ (sym c.if-not-well_formed.ensures)

pub returns-then-list-list_len : goal.returns-then-list-list_len
returns-then-list-list_len c =
    feed-wrong-size _ _ _ _ _ _ (sym c.if-not-well_formed.ensures) (rw c.list_len.ensures at c.if-list-list_len.true)

pub returns-in_err-within : goal.returns-in_err-within
returns-in_err-within c =
    let s = c.args in
    let ok = sym c.if-not-well_formed.ensures in
    let four : length s.f.held ≡ 4 = search rules in
    handed-on _ _ _ _ c.in_err-within.ensures.0 (search rules)
    (feed-past s.z s.a s.p s.list.now s.f s.piece.now ok (c.if-list-list_len.false ∙ c.list_len.ensures) c.cut-n.result.0
    (count-is s.f s.piece.now (good-held s.z s.f ok) four c.cut-n.result.0 c.cut-n.result.1 c.cut-n.ensures.entries c.cut-n.ensures.over)
    (leb-false _ _ c.in_err-within.ensures.1))

pub returns-in_err-none_held : goal.returns-in_err-none_held
returns-in_err-none_held c =
    let s = c.args in
    let ok = sym c.if-not-well_formed.ensures in
    let four : length s.f.held ≡ 4 = search rules in
    handed-on _ _ _ _ c.in_err-none_held.ensures.0 (search rules)
    (feed-held s.z s.a s.p s.list.now s.f s.piece.now ok (c.if-list-list_len.false ∙ c.list_len.ensures) c.cut-n.result.0
    (count-is s.f s.piece.now (good-held s.z s.f ok) four c.cut-n.result.0 c.cut-n.result.1 c.cut-n.ensures.entries c.cut-n.ensures.over)
    (leb-true _ _ (search rules)) (not-false _ c.in_err-none_held.ensures.1))

pub returns : goal.returns
returns c =
    let s = c.args in
    let ok = sym c.if-not-well_formed.ensures in
    let four : length s.f.held ≡ 4 = search rules in
    feed-done s.z s.a s.p s.list.now s.f s.piece.now ok (c.if-list-list_len.false ∙ c.list_len.ensures) c.cut-n.result.0
    (count-is s.f s.piece.now (good-held s.z s.f ok) four c.cut-n.result.0 c.cut-n.result.1 c.cut-n.ensures.entries c.cut-n.ensures.over)
    (leb-true _ _ c.in_ok-within.ensures) (not-true _ c.in_ok-none_held.ensures)
