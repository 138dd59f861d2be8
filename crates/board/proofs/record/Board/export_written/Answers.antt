-- A malformed record is refused before the sizes are asked (`export-malformed`); else their answer is given, with the record as
-- it was (`export-by`).
use Rattle.answers.proofs.Refusals.{refused}
use Rattle.board.proofs.Imports.{export-malformed, export-by}
use Rattle.board.proofs.record.Board.export_written.Goals as goal

pub returns-in_err-checked : goal.returns-in_err-checked
returns-in_err-checked c =
    rw (refused c.from_residual.ensures.1 c.in_err-checked.ensures.0) (export-malformed _ _ _ _ c.in_err-checked.ensures.1)

pub returns : goal.returns
returns c = export-by _ _ _ _ c.in_ok-checked.ensures _ c.export_into.ensures
