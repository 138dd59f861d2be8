-- A malformed record is refused before the slots are asked (`write-malformed`); else their answer is given, with the record as it
-- was (`write-by`).
use mathlib.Core.Path.{ap, ◌∙◌}
use Rattle.answers.proofs.Refusals.{refused}
use Rattle.slots.specs.Calls.{write_report}
use Rattle.board.proofs.Replies.{write-malformed, write-by}
use Rattle.board.proofs.record.Board.write_status.Goals as goal

pub returns-in_err-checked : goal.returns-in_err-checked
returns-in_err-checked c =
    rw (refused c.from_residual.ensures.1 c.in_err-checked.ensures.0) (write-malformed _ _ _ _ _ c.in_err-checked.ensures.1)

pub returns : goal.returns
returns c =
    let s = c.args in
    write-by _ _ _ _ _ c.in_ok-checked.ensures _ (c.write_into.ensures ∙ ap (λ a. write_report s.self.sizes a s.self.pending s.number s.offset s.bytes.now s.buffer.now) c.slot.ensures)
