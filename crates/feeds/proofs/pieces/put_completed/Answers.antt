-- Where no entry is completed nothing is put (`stored-none`); else the held bytes and the piece up to its last whole entry are
-- the entries completed (`stored_some`).
use borrow.Author.Rules.{rules}
use mathlib.Core.Path.{◌≡◌}
use Prim.Native.Nat.{◌*◌}
use lib.ListN.{length}
use Rattle.feeds.proofs.Holding.{stored-none, stored_some}
use Rattle.feeds.proofs.pieces.put_completed.Goals as goal

pub returns-then-n-eq0 : goal.returns-then-n-eq0
returns-then-n-eq0 c =
    let s = c.args in
    let four : length s.f.held ≡ 4 = search rules in
    stored-none s.f s.piece.now c.requires.f_value four c.cut-n.result.0 c.cut-n.result.1 c.cut-n.ensures.entries c.cut-n.ensures.over
    c.if-n-eq0.true s.list.now (5 * s.f.next)

pub returns : goal.returns
returns c =
    let s = c.args in
    let four : length s.f.held ≡ 4 = search rules in
    stored_some s.f s.piece.now c.requires.f_value four c.cut-n.result.0 c.cut-n.result.1 c.cut-n.ensures.entries c.cut-n.ensures.over
    c.if-n-eq0.false s.list.now (5 * s.f.next) _ c.put_joined.ensures
