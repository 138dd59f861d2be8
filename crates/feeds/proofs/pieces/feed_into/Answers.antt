-- A refusal leaves all as it was (`ends-refused`); else the completed entries fit (`ends-fit`), are put, and the feed record is the
-- one after them (`ends-done`).
use mathlib.Core.Path.{refl}
use native.Mathlib.Omega.{arith}
use Rattle.answers.proofs.Refusals.{numbered, refused}
use Rattle.feeds.proofs.Reporting.{good-next, good-held, ends-refused, ends-fit, ends-room, ends-done}
use Rattle.feeds.proofs.pieces.feed_into.Goals as goal

pub returns-in_err-feed_status : goal.returns-in_err-feed_status
returns-in_err-feed_status c =
    rw (refused c.from_residual.ensures.1 refl)
    (ends-refused _ _ _ _ _ _ _ c.in_err-feed_status.ensures (numbered c.in_err-feed_status.field-0.0))

pub put_completed-requires-clause-f_value : goal.put_completed-requires-clause-f_value
put_completed-requires-clause-f_value c = good-held c.args.z c.args.f (ends-fit _ _ _ _ _ _ _ c.in_ok-feed_status.ensures refl).0

pub put_completed-requires-clause-piece_in_bounds : goal.put_completed-requires-clause-piece_in_bounds
put_completed-requires-clause-piece_in_bounds c = ends-room _ _ _ _ _ _ _ c.in_ok-feed_status.ensures refl

pub advance-requires-clause-f_value : goal.advance-requires-clause-f_value
advance-requires-clause-f_value c = good-held c.args.z c.args.f (ends-fit _ _ _ _ _ _ _ c.in_ok-feed_status.ensures refl).0

pub advance-requires-clause-next_bound : goal.advance-requires-clause-next_bound
advance-requires-clause-next_bound c = omega (arith, good-next c.args.z c.args.f (ends-fit c.args.z c.args.a c.args.p c.args.list.now c.args.f c.args.piece.now _ c.in_ok-feed_status.ensures refl).0)

pub returns : goal.returns
returns c = ends-done _ _ _ _ _ _ _ c.in_ok-feed_status.ensures refl _ _ c.advance.ensures c.put_completed.ensures
