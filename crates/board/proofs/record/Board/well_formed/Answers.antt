use Rattle.board.specs.Record.{well_formed}
use Rattle.board.proofs.record.Board.well_formed.Goals as goal

pub returns : goal.returns
unfolding well_formed
returns c =
    rw (
      c.in_limits.ensures,
      c.well_formed-2.ensures,
      c.fill_ok.ensures,
      c.well_formed-3.ensures,
      c.well_formed-4.ensures,
      c.order_ok.ensures,
    )
