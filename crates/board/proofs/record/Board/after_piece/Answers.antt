-- A malformed record is refused before the slots are asked (`feed-of-malformed`); else their answer is given, with the record as it
-- was (`feed-by`).
use mathlib.Core.Path.{ap, ◌∙◌}
use Rattle.answers.proofs.Refusals.{refused}
use Rattle.feeds.specs.Feeds.{feed_report}
use Rattle.board.proofs.Feeds.{feed-of-malformed, feed-by}
use Rattle.board.proofs.record.Board.after_piece.Goals as goal

pub returns-in_err-checked : goal.returns-in_err-checked
returns-in_err-checked c =
    rw (refused c.from_residual.ensures.1 c.in_err-checked.ensures.0) (feed-of-malformed _ _ _ _ c.in_err-checked.ensures.1)

pub returns : goal.returns
returns c =
    let s = c.args in
    feed-by _ _ _ _ c.in_ok-checked.ensures _ (c.feed_into.ensures ∙ ap (λ a. feed_report s.self.sizes a s.self.pending s.list.now s.feed s.piece.now) c.slot.ensures)
