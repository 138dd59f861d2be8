-- What export and import answer of a well formed record (02, R-9), but for 1: "2 for board buffers; 4 exactly where the output is
-- shorter than the picture needs; 7 for import while a slot is taken; 11 for input that isn't such a picture or has bytes after it."
use Rattle.std.specs.Prelude.{cond, ◌&&◌, ◌||◌, List, ◌++◌, ℕ, eqb, leb, length, drop, Result, Ok, Err}
use Rattle.answers.specs.Reports.{Report, report, report_of}
use Rattle.answers.specs.declared.Refusal.{Refusal}
use Rattle.pictures.specs.Pictures.{is_picture, pixels_of, picture_of, size_of}
use Rattle.slots.specs.Slots.{area_of}
use Rattle.slots.specs.Calls.{Lent, leaves}
use Rattle.slots.specs.declared.record.Sizes.{Sizes}
use Rattle.slots.specs.declared.record.Slot.{Slot}

-- What an export answers: the bytes written, and the lent output after it.
pub record Exporting : Type 0 where
  pub report : Report
  pub written : ℕ
  pub output : List ℕ

abbrev pub exporting : Result ℕ Refusal → List ℕ → Exporting
exporting (Ok written) output = record { report = report 0 0 0; written = written; output = output }
exporting (Err refusal) output = record { report = report_of (Err refusal); written = 0; output = output }

abbrev pub exports : ℕ → ℕ → List ℕ → Exporting
exports number written output = record { report = report number 0 0; written = written; output = output }

-- "Export writes either buffer as binary PGM". The memory lent is the named buffer; output past the picture stays.
unfoldable pub export_report : Sizes → ℕ → List ℕ → List ℕ → Exporting
export_report z number buffer output =
    let width = z.extent.width in
    let height = z.extent.height in
    let size = size_of width height in
    cond (leb number 1 && eqb (length buffer) (area_of z))
    (cond (leb size (length output)) (exports 0 size (picture_of width height buffer ++ drop size output)) (exports 4 0 output))
    (exports 2 0 output)

-- "Import reads one P5 picture, with the board's own size and greatest grey 255, into either buffer."
unfoldable pub import_report : Sizes → Slot → Slot → ℕ → List ℕ → List ℕ → Lent
import_report z a p number picture buffer =
    let width = z.extent.width in
    let height = z.extent.height in
    cond (leb number 1 && eqb (length buffer) (area_of z))
    (cond (a.taken || p.taken) (leaves 7 buffer)
    (cond (is_picture width height picture) (leaves 0 (pixels_of width height picture)) (leaves 11 buffer)))
    (leaves 2 buffer)
