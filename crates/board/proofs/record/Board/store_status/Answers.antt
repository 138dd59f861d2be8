-- A malformed record is refused before the slots are asked (`store-malformed`); else their answer is given, with the record as it
-- was (`store_by`).
use mathlib.Core.Path.{ap, ◌∙◌}
use Rattle.answers.proofs.Refusals.{refused}
use Rattle.slots.specs.Calls.{store_report}
use Rattle.board.proofs.Replies.{store-malformed, store_by}
use Rattle.board.proofs.record.Board.store_status.Goals as goal

pub returns-in_err-checked : goal.returns-in_err-checked
returns-in_err-checked c =
    rw (refused c.from_residual.ensures.1 c.in_err-checked.ensures.0) (store-malformed _ _ _ _ c.in_err-checked.ensures.1)

pub returns : goal.returns
returns c =
    let s = c.args in
    store_by _ _ _ _ c.in_ok-checked.ensures _ (c.store_into.ensures ∙ ap (λ a. store_report s.self.sizes a s.self.pending s.list.now s.first s.bytes.now) c.slot.ensures)
