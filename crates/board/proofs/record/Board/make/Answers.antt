-- Sizes in limits are those of a fresh board (`make-done`), and others refused (`make-refused`).
use Rattle.board.proofs.Replies.{make-done, make-refused}
use Rattle.board.proofs.record.Board.make.Goals as goal

pub returns-in-Ok : goal.returns-in-Ok
returns-in-Ok c = make-done _ _ _ _ _ c.in-Ok.ensures.0 c.in-Ok.ensures.1 c.fresh.ensures

pub returns-in-Err : goal.returns-in-Err
returns-in-Err c = make-refused _ _ _ _ _ c.in-Err.ensures.0 c.in-Err.ensures.1 c.fresh-in-Err.ensures
