-- What export and import answer, by what writing or reading the picture answered.
-- Assumes nothing.
use mathlib.Core.Path.{◌≡◌, refl, ap, sym, ◌∙◌}
use mathlib.Core.Bool.{Bool, true, false, cond, ◌&&◌, ◌||◌}
use mathlib.Core.List.{List, ◌++◌}
use Prim.Native.Nat.{ℕ, ◌+◌, ◌-◌, ◌*◌, ◌≤◌, ◌<◌}
use native.Mathlib.Omega.{arith}
use borrow.Author.Tests.{le-leb, lt-leb, leb-true, eq-eqb, eqb-true}
use lib.Dec.{eqb, leb}
use lib.ListN.{length, take, drop, length-drop}
use Rattle.std.specs.Prelude.{Result, Ok, Err}
use Rattle.lemmas.proofs.Booleans.{by_cases, of_either, and_left, and_right, both}
use Rattle.lemmas.proofs.Memories.{put_whole}
use Rattle.pictures.specs.Lent.{Lent as Given, lent as given}
use Rattle.pictures.specs.Pictures.{is_picture, pixels_of, picture_of, size_of}
use Rattle.pictures.proofs.RoundTrip.{restores}
use Rattle.pictures.specs.Writing.{written_of}
use Rattle.pictures.specs.Reading.{read_of}
use Rattle.pictures.specs.declared.writing.WriteError.{WriteError}
use Rattle.pictures.specs.declared.reading.ReadError.{ReadError}
use Rattle.answers.specs.Reports.{unread, unwritten}
use Rattle.slots.specs.Slots.{area_of}
use Rattle.slots.specs.Calls.{Lent, lent, leaves, write_report}
use Rattle.slots.specs.Picturing.{Exporting, exporting, exports, export_report, import_report}
use Rattle.slots.specs.declared.record.Sizes.{Sizes}
use Rattle.slots.specs.declared.record.Slot.{Slot}
use Rattle.slots.proofs.Grounds.{NumberAlone, write_done}

-- ---- export
abbrev pub exports_as : Result ℕ WriteError → List ℕ → Exporting
exports_as (Ok bytes) output = exporting (Ok bytes) output
exports_as (Err error) output = exporting (Err (unwritten error)) output

module _ (z : Sizes) (number : ℕ) (buffer output : List ℕ) where
  pub export-unnamed : 1 < number → exports 2 0 output ≡ export_report z number buffer output
  unfolding export_report
  export-unnamed h = rw (lt-leb number 1 h)

  writes : number ≤ 1 → (let m = written_of z.extent.width z.extent.height buffer output in exports_as m.answer m.bytes)
      ≡ export_report z number buffer output
  unfolding export_report written_of
  writes h =
      rw (le-leb number 1 h)
      (by_cases (eqb (length buffer) (area_of z))
      (λ t. rw t (by_cases (leb (size_of z.extent.width z.extent.height) (length output)) (λ u. rw u) (λ u. rw u)))
      (λ t. rw t))

  pub export-by : number ≤ 1 → (said s : Result ℕ WriteError) (after : List ℕ)
      → given said after ≡ written_of z.extent.width z.extent.height buffer output → said ≡ s
      → exports_as s after ≡ export_report z number buffer output
  export-by h said s after e p =
      ap (λ s. exports_as s after) (sym p) ∙ ap (λ (m : Given (Result ℕ WriteError)). exports_as m.answer m.bytes) e ∙ writes h

  -- the numbers that it answers
  pub export-numbers : (P : ℕ → Type 0) → P 0 → P 2 → P 4 → P (export_report z number buffer output).report.number
  unfolding export_report
  export-numbers P done size short =
      let Q : Exporting → Type 0 = λ x. P x.report.number in
      of_either Q (leb number 1 && eqb (length buffer) (area_of z))
      (of_either Q (leb (size_of z.extent.width z.extent.height) (length output)) done short)
      size

  -- a refusal leaves the output as it was
  pub export-leaves : let x = export_report z number buffer output in (x.report.number ≡ 0 → ⊥) → (x.output ≡ output) × (x.written ≡ 0)
  unfolding export_report
  export-leaves =
      by (leb number 1 && eqb (length buffer) (area_of z)) (leb (size_of z.extent.width z.extent.height) (length output)) _ _
    where
      by : (named fits : Bool) (size : ℕ) (after : List ℕ) →
          let x = cond named (cond fits (exports 0 size after) (exports 4 0 output)) (exports 2 0 output) in
          (x.report.number ≡ 0 → ⊥) → (x.output ≡ output) × (x.written ≡ 0)
      by false fits size after n = (refl, refl)
      by true false size after n = (refl, refl)
      by true true size after n = absurd (n refl)

  -- an export has a number alone
  pub export-number : NumberAlone (export_report z number buffer output).report
  unfolding export_report
  export-number =
      let P : Exporting → Type 0 = λ x. NumberAlone x.report in
      of_either P (leb number 1 && eqb (length buffer) (area_of z))
      (of_either P (leb (size_of z.extent.width z.extent.height) (length output)) refl refl)
      refl

-- ---- import
abbrev pub imports_as : Result (Unit {0}) ReadError → List ℕ → Lent
imports_as (Ok u) buffer = lent (Ok 0) buffer
imports_as (Err error) buffer = lent (Err (unread error)) buffer

-- the pixels of a picture are as many as its size says
picture-long : (width height : ℕ) (l : List ℕ) → is_picture width height l ≡ true → length (pixels_of width height l) ≡ width * height
unfolding is_picture
picture-long width height l h =
    let long = leb (width * height + 3) (length l) in
    let fits = leb-true (width * height + 3) (length l) (and_left long _ (and_left (long && _) _ h)) in
    length-drop (length l - width * height) l ∙ omega (arith, fits)

module _ (z : Sizes) (a p : Slot) (number : ℕ) (picture buffer : List ℕ) where
  abbrev pixels : List ℕ
  pixels = pixels_of z.extent.width z.extent.height picture

  pub import-wrong-size : (leb number 1 && eqb (length buffer) (area_of z)) ≡ false
      → leaves 2 buffer ≡ import_report z a p number picture buffer
  unfolding import_report
  import-wrong-size h = rw h

  module _ (named : (leb number 1 && eqb (length buffer) (area_of z)) ≡ true) where
    pub import-busy : (a.taken || p.taken) ≡ true → leaves 7 buffer ≡ import_report z a p number picture buffer
    unfolding import_report
    import-busy u = rw (named, u)

    reads : (a.taken || p.taken) ≡ false
        → (let m = read_of z.extent.width z.extent.height picture buffer in imports_as m.answer m.bytes)
        ≡ import_report z a p number picture buffer
    unfolding import_report read_of
    reads u =
        rw (named, u, and_right (leb number 1) (eqb (length buffer) (area_of z)) named)
        (by_cases (is_picture z.extent.width z.extent.height picture) (λ t. rw t) (λ t. rw t))

    pub import-by : (a.taken || p.taken) ≡ false → (said s : Result (Unit {0}) ReadError) (after : List ℕ)
        → given said after ≡ read_of z.extent.width z.extent.height picture buffer → said ≡ s
        → imports_as s after ≡ import_report z a p number picture buffer
    import-by u said s after e q =
        ap (λ s. imports_as s after) (sym q) ∙ ap (λ (m : Given (Result (Unit {0}) ReadError)). imports_as m.answer m.bytes) e ∙ reads u

  abbrev imported : Lent
  imported = import_report z a p number picture buffer

  -- a refusal leaves the buffer as it was
  pub import-leaves : (imported.report.number ≡ 0 → ⊥) → imported.memory ≡ buffer
  unfolding import_report
  import-leaves =
      by (leb number 1 && eqb (length buffer) (area_of z)) (a.taken || p.taken) (is_picture z.extent.width z.extent.height picture)
    where
      by : (named busy good : Bool) →
          let m = cond named (cond busy (leaves 7 buffer) (cond good (leaves 0 pixels) (leaves 11 buffer))) (leaves 2 buffer) in
          (m.report.number ≡ 0 → ⊥) → m.memory ≡ buffer
      by false busy good n = refl
      by true true good n = refl
      by true false false n = refl
      by true false true n = absurd (n refl)

  -- an import has a number alone
  pub import-number : NumberAlone imported.report
  unfolding import_report
  import-number =
      let P : Lent → Type 0 = λ m. NumberAlone m.report in
      of_either P (leb number 1 && eqb (length buffer) (area_of z))
      (of_either P (a.taken || p.taken) refl (of_either P (is_picture z.extent.width z.extent.height picture) refl refl))
      refl

  -- the numbers that it answers
  pub import-answers : (P : ℕ → Type 0) → P 0 → P 2 → P 7 → P 11 → P imported.report.number
  unfolding import_report
  import-answers P done size busy bad =
      let Q : Lent → Type 0 = λ m. P m.report.number in
      of_either Q (leb number 1 && eqb (length buffer) (area_of z))
      (of_either Q (a.taken || p.taken) busy (of_either Q (is_picture z.extent.width z.extent.height picture) done bad))
      size

  -- "In demand 3 an accepted import is a window write."
  pub import-writes : imported.report.number ≡ 0 → imported ≡ write_report z a p number 0 pixels buffer
  unfolding import_report
  import-writes =
      by_cases (leb number 1 && eqb (length buffer) (area_of z))
      (λ named.
      rw named
      (by_cases (a.taken || p.taken) (λ u. rw u (λ n. absurd (omega (arith, n))))
      (λ u.
      rw u
      (by_cases (is_picture z.extent.width z.extent.height picture)
      (λ t.
      rw t
      (λ n.
      let area = eqb-true (length buffer) (area_of z) (and_right (leb number 1) (eqb (length buffer) (area_of z)) named) in
      let long = picture-long z.extent.width z.extent.height picture t in
      write_done z a p number 0 pixels buffer named (omega (arith, long)) u pixels
      (sym (put_whole buffer pixels (long ∙ sym area)))))
      (λ t. rw t (λ n. absurd (omega (arith, n))))))))
      (λ named. rw named (λ n. absurd (omega (arith, n))))

-- importing what an export wrote restores the pixels, whatever the buffer holds by then
module _ (z : Sizes) (a p : Slot) (number : ℕ) (pixels output buffer : List ℕ) where
  abbrev width : ℕ
  width = z.extent.width

  abbrev height : ℕ
  height = z.extent.height

  abbrev size : ℕ
  size = size_of width height

  abbrev shown : Exporting
  shown = export_report z number pixels output

  read_back : length pixels ≡ area_of z → size ≤ length output → length buffer ≡ area_of z
      → given (Ok tt) pixels ≡ read_of width height (take size (picture_of width height pixels ++ drop size output)) buffer
  unfolding written_of
  read_back e f g =
      sym (restores width height pixels output buffer e f g)
      ∙ ap (λ (l : List ℕ). read_of width height (take size l) buffer) (rw (eq-eqb (length pixels) (width * height) e, le-leb size (length output) f))

  pub import-restores : shown.report.number ≡ 0 → (a.taken || p.taken) ≡ false → length buffer ≡ length pixels
      → leaves 0 pixels ≡ import_report z a p number (take shown.written shown.output) buffer
  unfolding export_report
  import-restores =
      by_cases (leb number 1 && eqb (length pixels) (area_of z))
      (λ named.
      rw named
      (by_cases (leb size (length output))
      (λ fits.
      rw fits
      (λ n free same.
      let long = eqb-true (length pixels) (area_of z) (and_right (leb number 1) (eqb (length pixels) (area_of z)) named) in
      let one = and_left (leb number 1) (eqb (length pixels) (area_of z)) named in
      import-by z a p number (take size (picture_of width height pixels ++ drop size output)) buffer
      (both one (eq-eqb (length buffer) (area_of z) (same ∙ long))) free (Ok tt) (Ok tt) pixels
      (read_back long (leb-true size (length output) fits) (same ∙ long)) refl))
      (λ fits. rw fits (λ n. absurd (omega (arith, n))))))
      (λ named. rw named (λ n. absurd (omega (arith, n))))
