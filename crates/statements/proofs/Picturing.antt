-- An import does to the board what feeding it does to the paper board: an accepted one by its window write, a refused one by nothing.
-- An export changes neither.
-- Assumes nothing.
use mathlib.Core.Path.{◌≡◌, refl, ap, sym, subst, ◌∙◌}
use mathlib.Core.Bool.{Bool, true, false, cond}
use mathlib.Core.List.{List}
use Prim.Native.Nat.{ℕ}
use native.Mathlib.Omega.{arith}
use borrow.Author.Tests.{eqb-true, eqb-false}
use lib.Dec.{eqb}
use Rattle.lemmas.proofs.Booleans.{by_cases}
use Rattle.pictures.specs.Pictures.{pixels_of}
use Rattle.slots.specs.Slots.{slot_of}
use Rattle.slots.proofs.Rasters.{import-answers, export-numbers}
use Rattle.board.specs.Calls.{Written, write_call}
use Rattle.board.specs.Picturing.{Exported, export_call, import_call}
use Rattle.board.proofs.Imports.{export-by, export-board, import-by, import_said, import-stays, import-counts}
use Rattle.statements.specs.Paper.{write, import, export, Paper, fed}
use Rattle.statements.specs.World.{World, world, Called, called}
use Rattle.statements.proofs.Abstract.{Valid}
use Rattle.statements.proofs.Kept.{Kept, refused}
use Rattle.statements.proofs.Writing.{to_display, to_virtual, write_kept}

module _ (w : World) (v : Valid w) (number : ℕ) (picture : List ℕ) where
  abbrev pixels : List ℕ
  pixels = pixels_of w.board.sizes.extent.width w.board.sizes.extent.height picture

  -- what the paper board makes of an import is what it makes of the window write
  counts : (t : Bool) (steps : ℕ) (p : Paper)
      → fed w.board.sizes.extent (import number picture) t steps p ≡ fed w.board.sizes.extent (write number 0 pixels) t steps p
  unfolding fed
  counts true steps p = refl
  counts false steps p = refl

  by-write : (o : Called) → Kept w (write number 0 pixels) o → Kept w (import number picture) o
  by-write o k =
      record {
        valid = k.valid;
        sizes-same = k.sizes-same;
        paper-same = counts _ _ _ ∙ k.paper-same;
        one-by-feed = k.one-by-feed;
        no_nine = k.no_nine;
      }

  -- whichever buffer is named
  module _ (buffer : List ℕ) (lent : Written → Called) where
    abbrev said : ℕ
    said = (import_said number picture buffer w.board).report.number

    abbrev reply : Written
    reply = import_call number picture buffer w.board

    answer : said ≡ reply.report.number
    answer = ap (λ (r : Written). r.report.number) (import-by number picture buffer w.board v.well (import_said number picture buffer w.board) refl)

    imports : Kept w (write number 0 pixels) (lent (write_call number 0 pixels buffer w.board))
        → ((r : Written) → r.board ≡ w.board → r.memory ≡ buffer → lent r ≡ record { report = r.report; after = w })
        → Kept w (import number picture) (lent reply)
    unfolding fed
    imports accepted stays =
        by_cases (eqb said 0)
        (λ t.
        by-write (lent reply)
        (subst (λ r. Kept w (write number 0 pixels) (lent r)) (sym (import-counts number picture buffer w.board v.well (eqb-true said 0 t))) accepted))
        (λ t.
        let n : reply.report.number ≡ 0 → ⊥ = λ e. eqb-false said 0 t (answer ∙ e) in
        let same = import-stays number picture buffer w.board n in
        let P : ℕ → Type 0 = λ k. (k ≡ 1 → ⊥) × (k ≡ 9 → ⊥) in
        let not = subst P answer
        (import-answers w.board.sizes (slot_of w.board.active) w.board.pending number picture buffer P
        (λ e. omega (arith, e), λ e. omega (arith, e)) (λ e. omega (arith, e), λ e. omega (arith, e))
        (λ e. omega (arith, e), λ e. omega (arith, e)) (λ e. omega (arith, e), λ e. omega (arith, e))) in
        subst (Kept w (import number picture)) (sym (stays reply same.0 same.1))
        (refused w v (import number picture) reply.report refl n not.0 not.1))

  pub import-kept : Kept w (import number picture) (called (import number picture) w)
  unfolding called
  import-kept =
      let b = w.board in
      let c = import number picture in
      let on_display = to_display w (import_call number picture w.display b) in
      let on_virtual = to_virtual w (import_call number picture w.virt b) in
      let written = write_kept w v number 0 pixels in
      by_cases (eqb number 0)
      (λ t.
      subst (λ t. Kept w c (cond t on_display on_virtual)) (sym t)
      (imports w.display (to_display w)
      (subst (Kept w (write number 0 pixels)) (ap (λ t. cond t (to_display w (write_call number 0 pixels w.display b)) (to_virtual w (write_call number 0 pixels w.virt b))) t) written)
      (λ r p q. (λ i. record { report = r.report; after = world (p i) w.list (q i) w.virt }))))
      (λ t.
      subst (λ t. Kept w c (cond t on_display on_virtual)) (sym t)
      (imports w.virt (to_virtual w)
      (subst (Kept w (write number 0 pixels)) (ap (λ t. cond t (to_display w (write_call number 0 pixels w.display b)) (to_virtual w (write_call number 0 pixels w.virt b))) t) written)
      (λ r p q. (λ i. record { report = r.report; after = world (p i) w.list w.display (q i) }))))

-- an export leaves board and paper board as they were
module _ (w : World) (v : Valid w) (number : ℕ) (output : List ℕ) where
  abbrev buffer : List ℕ
  buffer = cond (eqb number 0) w.display w.virt

  abbrev shown : Exported
  shown = export_call number buffer output w.board

  pub export-kept : Kept w (export number output) (called (export number output) w)
  unfolding called fed
  export-kept =
      let b = w.board in
      let same = export-board number buffer output b in
      let P : ℕ → Type 0 = λ k. (k ≡ 1 → ⊥) × (k ≡ 9 → ⊥) in
      let not = subst (λ (r : Exported). P r.report.number) (export-by number buffer output b v.well _ refl)
      (export-numbers b.sizes number buffer output P
      (λ e. omega (arith, e), λ e. omega (arith, e)) (λ e. omega (arith, e), λ e. omega (arith, e)) (λ e. omega (arith, e), λ e. omega (arith, e))) in
      subst (λ b. Kept w (export number output) (record { report = shown.report; after = world b w.list w.display w.virt })) (sym same)
      (record {
        valid = v;
        sizes-same = refl;
        paper-same = refl;
        one-by-feed = not.0;
        no_nine = not.1;
      })
