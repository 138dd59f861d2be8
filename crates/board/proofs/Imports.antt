-- What export and import answer, from what the slots say; that a refusal leaves the buffer; and that an accepted import is a window
-- write, and restores what was exported (02, R-9).
-- Assumes nothing.
use mathlib.Core.Path.{◌≡◌, refl, ap, ap₂, sym, subst, ◌∙◌}
use mathlib.Core.Bool.{true, false, ◌||◌}
use mathlib.Core.List.{List}
use Prim.Native.Nat.{ℕ}
use native.Mathlib.Omega.{arith}
use lib.ListN.{take}
use Rattle.lemmas.proofs.Booleans.{by_cases, of_either}
use Rattle.answers.specs.Reports.{report}
use Rattle.pictures.specs.Pictures.{pixels_of}
use Rattle.slots.specs.Slots.{slot_of}
use Rattle.slots.specs.Calls.{Lent, leaves}
use Rattle.slots.specs.Picturing.{Exporting, export_report, import_report}
use Rattle.slots.proofs.Grounds.{NumberAlone}
use Rattle.slots.proofs.Rasters.{export-leaves, export-number, import-leaves, import-number, import-writes, import-restores}
use Rattle.board.specs.Record.{well_formed}
use Rattle.board.specs.Calls.{Written, kept, kept_by, write_call}
use Rattle.board.specs.Picturing.{Exported, exported_by, export_call, import_call, ImportRestores}
use Rattle.board.specs.declared.record.Board.{Board}
use Rattle.board.proofs.Forms.{good_of, none-waits}
use Rattle.board.proofs.Refused.{Stays}
use Rattle.board.proofs.Replies.{write-by}

module _ (number : ℕ) (buffer output : List ℕ) (b : Board) where
  pub export-malformed : well_formed b ≡ false
      → ◌≡◌ {A = Exported} (record { report = report 1 0 0; board = b; written = 0; output = output }) (export_call number buffer output b)
  unfolding export_call
  export-malformed w = rw w

  pub export-by : well_formed b ≡ true → (x : Exporting) → x ≡ export_report b.sizes number buffer output
      → exported_by b x ≡ export_call number buffer output b
  unfolding export_call
  export-by w x e = rw w (ap (exported_by b) e)

  -- the record stays
  pub export-board : (export_call number buffer output b).board ≡ b
  unfolding export_call
  export-board = of_either (λ (r : Exported). r.board ≡ b) (well_formed b) refl refl

  -- a refusal leaves the output
  pub export-stays : let r = export_call number buffer output b in (r.report.number ≡ 0 → ⊥) → (r.output ≡ output) × (r.written ≡ 0)
  unfolding export_call
  export-stays =
      of_either (λ (r : Exported). (r.report.number ≡ 0 → ⊥) → (r.output ≡ output) × (r.written ≡ 0)) (well_formed b)
      (export-leaves b.sizes number buffer output)
      (λ n. (refl, refl))

  pub export-no-more : NumberAlone (export_call number buffer output b).report
  unfolding export_call
  export-no-more = of_either (λ (r : Exported). NumberAlone r.report) (well_formed b) (export-number b.sizes number buffer output) refl

module _ (number : ℕ) (picture buffer : List ℕ) (b : Board) where
  pub import-malformed : well_formed b ≡ false → kept 1 b buffer ≡ import_call number picture buffer b
  unfolding import_call
  import-malformed w = rw w

  abbrev pub import_said : Lent
  import_said = import_report b.sizes (slot_of b.active) b.pending number picture buffer

  pub import-by : well_formed b ≡ true → (m : Lent) → m ≡ import_said → kept_by b m ≡ import_call number picture buffer b
  unfolding import_call
  import-by w m e = rw w (ap (kept_by b) e)

  pub import-stays : Stays b buffer (import_call number picture buffer b)
  unfolding import_call
  import-stays =
      of_either (Stays b buffer) (well_formed b) (λ n. (refl, import-leaves b.sizes (slot_of b.active) b.pending number picture buffer n))
      (λ n. (refl, refl))

  pub import-no-more : NumberAlone (import_call number picture buffer b).report
  unfolding import_call
  import-no-more =
      of_either (λ (r : Written). NumberAlone r.report) (well_formed b)
      (import-number b.sizes (slot_of b.active) b.pending number picture buffer)
      refl

  -- "In demand 3 an accepted import is a window write."
  pub import-counts : well_formed b ≡ true → import_said.report.number ≡ 0
      → import_call number picture buffer b
      ≡ write_call number 0 (pixels_of b.sizes.extent.width b.sizes.extent.height picture) buffer b
  import-counts w n =
      sym (import-by w import_said refl)
      ∙ write-by number 0 (pixels_of b.sizes.extent.width b.sizes.extent.height picture) buffer b w import_said
      (import-writes b.sizes (slot_of b.active) b.pending number picture buffer n)

pub imports-restore : ImportRestores
imports-restore b number pixels output buffer n idle same =
    by_cases (well_formed b)
    (λ w.
    let z = b.sizes in
    let x = export_report z number pixels output in
    let e = export-by number pixels output b w x refl in
    let free = ap₂ ◌||◌ idle (none-waits b (good_of b w) idle) in
    let done = ap (λ (r : Exported). r.report.number) e ∙ n in
    subst (λ (r : Exported). import_call number (take r.written r.output) buffer b ≡ kept 0 b pixels) e
    (sym (import-by number (take x.written x.output) buffer b w (leaves 0 pixels)
    (import-restores z (slot_of b.active) b.pending number pixels output buffer done free same))))
    (λ w.
    let one = ap (λ (r : Exported). r.report.number) (export-malformed number pixels output b w) ∙ n in
    absurd (omega (arith, one)))
