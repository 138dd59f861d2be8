-- The calls export and import (02, R-9).
use Rattle.std.specs.Prelude.{◌≡◌, false, cond, List, ℕ, length, take, Result}
use Rattle.answers.specs.Reports.{Report, report}
use Rattle.answers.specs.declared.Refusal.{Refusal}
use Rattle.slots.specs.Slots.{slot_of}
use Rattle.slots.specs.Picturing.{Exporting, exporting, export_report, import_report}
use Rattle.board.specs.Record.{well_formed}
use Rattle.board.specs.Calls.{Written, kept, kept_by}
use Rattle.board.specs.declared.record.Board.{Board}
use Rattle.board.specs.declared.answer.ExportAnswer.{ExportAnswer}

-- What an export answers, with the bytes written and the lent output after it.
pub record Exported : Type 0 where
  pub report : Report
  pub board : Board
  pub written : ℕ
  pub output : List ℕ

-- The record stays whether the call is done or refused.
abbrev pub exported_by : Board → Exporting → Exported
exported_by b x = record { report = x.report; board = b; written = x.written; output = x.output }

abbrev pub exported_as : Board → Result ℕ Refusal → List ℕ → Exported
exported_as b written output = exported_by b (exporting written output)

abbrev pub exported : ExportAnswer → List ℕ → Exported
exported a output = exported_as a.board a.written output

-- The lowest number wins: a malformed record, then what the sizes say. It is allowed while slots are taken.
unfoldable pub export_call : ℕ → List ℕ → List ℕ → Board → Exported
export_call number buffer output b =
    cond (well_formed b) (exported_by b (export_report b.sizes number buffer output))
    (record { report = report 1 0 0; board = b; written = 0; output = output })

unfoldable pub import_call : ℕ → List ℕ → List ℕ → Board → Written
import_call number picture buffer b =
    cond (well_formed b) (kept_by b (import_report b.sizes (slot_of b.active) b.pending number picture buffer)) (kept 1 b buffer)

-- "On an idle board, importing an export restores that buffer": exactly the bytes that it wrote, whatever the buffer holds by then;
-- proved in proofs/Imports.antt.
abbrev pub ImportRestores : Type 0
ImportRestores =
    (b : Board) (number : ℕ) (pixels output buffer : List ℕ) → let r = export_call number pixels output b in
    r.report.number ≡ 0 → b.active.taken ≡ false → length buffer ≡ length pixels
    → import_call number (take r.written r.output) buffer b ≡ kept 0 b pixels
