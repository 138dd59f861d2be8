-- A malformed record is refused before the slots are asked (`import-malformed`); else their answer is given, with the record as it
-- was (`import-by`).
use mathlib.Core.Path.{ap, ◌∙◌}
use Rattle.answers.proofs.Refusals.{refused}
use Rattle.slots.specs.Picturing.{import_report}
use Rattle.board.proofs.Imports.{import-malformed, import-by}
use Rattle.board.proofs.record.Board.import_status.Goals as goal

pub returns-in_err-checked : goal.returns-in_err-checked
returns-in_err-checked c =
    rw (refused c.from_residual.ensures.1 c.in_err-checked.ensures.0) (import-malformed _ _ _ _ c.in_err-checked.ensures.1)

pub returns : goal.returns
returns c =
    let s = c.args in
    import-by _ _ _ _ c.in_ok-checked.ensures _ (c.import_into.ensures ∙ ap (λ a. import_report s.self.sizes a s.self.pending s.number s.picture.now s.buffer.now) c.slot.ensures)
