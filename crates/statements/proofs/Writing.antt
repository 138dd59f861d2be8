-- A window write does to the board what feeding it does to the paper board.
-- Assumes nothing.
use mathlib.Core.Path.{◌≡◌, refl, ap, sym, subst, ◌∙◌}
use mathlib.Core.Bool.{true, false, cond, ◌&&◌, ◌||◌}
use mathlib.Core.List.{List, [], ◌∷◌, ◌++◌}
use Prim.Native.Nat.{ℕ, ◌+◌, ◌≤◌}
use native.Mathlib.Omega.{arith}
use borrow.Author.Tests.{leb-true, leb-false}
use lib.Dec.{eqb, leb}
use lib.ListN.{length}
use Rattle.lemmas.proofs.Booleans.{by_cases, or-none-left}
use Rattle.commands.specs.Steps.{Scene, scene}
use Rattle.answers.specs.Reports.{report}
use Rattle.lemmas.specs.Memory.{put_into}
use Rattle.lemmas.proofs.Memories.{put-length}
use Rattle.slots.specs.Slots.{area_of, slot_of}
use Rattle.slots.specs.Calls.{Lent, write_report}
use Rattle.slots.proofs.Grounds.{write-wrong-size, write-past, write-busy, write_done}
use Rattle.board.specs.Calls.{Written, kept, kept_by, write_call}
use Rattle.board.proofs.Forms.{good_of}
use Rattle.board.proofs.Replies.{write-by}
use Rattle.statements.specs.Paper.{write, window, paper, written_to, flushed, fed}
use Rattle.statements.specs.World.{World, world, Called, called}
use Rattle.statements.proofs.Abstract.{queue_of, Valid}
use Rattle.statements.proofs.Kept.{Kept, refused, idle-queue}

-- what a window write answers, with the world after it
abbrev pub to_display : World → Written → Called
to_display w r = record { report = r.report; after = world r.board w.list r.memory w.virt }

abbrev pub to_virtual : World → Written → Called
to_virtual w r = record { report = r.report; after = world r.board w.list w.display r.memory }

module _ (w : World) (v : Valid w) (number offset : ℕ) (bytes : List ℕ) where
  write-refused : (answer : ℕ) → (answer ≡ 0 → ⊥) → (answer ≡ 1 → ⊥) → (answer ≡ 9 → ⊥)
      → Kept w (write number offset bytes) (record { report = (kept answer w.board w.list).report; after = w })
  unfolding fed
  write-refused answer a b c = refused w v (write number offset bytes) (report answer 0 0) refl a b c

  -- the queue is empty and the write is done at once
  written-at-once : (s : Scene) → (w.board.active.taken || w.board.pending.taken) ≡ false
      → written_to number offset bytes (scene w.board.engine w.board.fill w.display w.virt) ≡ s
      → flushed (scene w.board.engine w.board.fill w.display w.virt) w.list (queue_of w.list w.board ++ (window number offset bytes ∷ []))
      ≡ paper s w.list (queue_of w.list w.board)
  unfolding flushed
  written-at-once s u e =
      let b = w.board in
      let empty = idle-queue w.list b (good_of b v.well) (or-none-left b.active.taken b.pending.taken u) in
      ap (λ q. flushed (scene w.board.engine w.board.fill w.display w.virt) w.list (q ++ (window number offset bytes ∷ []))) empty
      ∙ ap (λ s. paper s w.list []) e ∙ ap (paper s w.list) (sym empty)

  -- by the tests that the call passes, whichever buffer is named
  write_checked : (buffer : List ℕ) → (lent : Written → Called)
      → ((answer : ℕ) → (answer ≡ 0 → ⊥) → (answer ≡ 1 → ⊥) → (answer ≡ 9 → ⊥)
      → Kept w (write number offset bytes) (lent (kept answer w.board buffer)))
      → (offset + length bytes ≤ area_of w.board.sizes
      → (w.board.active.taken || w.board.pending.taken) ≡ false
      → Kept w (write number offset bytes) (lent (kept 0 w.board (put_into buffer offset bytes))))
      → Kept w (write number offset bytes) (lent (write_call number offset bytes buffer w.board))
  write_checked buffer lent refused done =
      let b = w.board in
      let z = b.sizes in
      let s = slot_of b.active in
      let q = b.pending in
      let pixels = area_of z in
      let K : Lent → Type 0 = λ m. Kept w (write number offset bytes) (lent (kept_by b m)) in
      subst (λ r. Kept w (write number offset bytes) (lent r))
      (write-by number offset bytes buffer b v.well (write_report z s q number offset bytes buffer) refl)
      (by_cases (leb number 1 && eqb (length buffer) pixels)
      (λ t.
      by_cases (leb (offset + length bytes) pixels)
      (λ f.
      let fits = leb-true (offset + length bytes) pixels f in
      by_cases (s.taken || q.taken)
      (λ u. subst K (write-busy z s q number offset bytes buffer t fits u) (refused 7 (λ e. omega arith) (λ e. omega arith) (λ e. omega arith)))
      (λ u. subst K (write_done z s q number offset bytes buffer t fits u (put_into buffer offset bytes) refl) (done fits u)))
      (λ f.
      subst K (write-past z s q number offset bytes buffer t (leb-false (offset + length bytes) pixels f))
      (refused 4 (λ e. omega arith) (λ e. omega arith) (λ e. omega arith))))
      (λ t. subst K (write-wrong-size z s q number offset bytes buffer t) (refused 2 (λ e. omega arith) (λ e. omega arith) (λ e. omega arith))))

  -- a done write: buffers of the same lengths, as the paper board writes them
  write-puts : (d e : List ℕ) → length d ≡ length w.display → length e ≡ length w.virt
      → (w.board.active.taken || w.board.pending.taken) ≡ false
      → written_to number offset bytes (scene w.board.engine w.board.fill w.display w.virt) ≡ scene w.board.engine w.board.fill d e
      → Kept w (write number offset bytes) (record { report = report 0 0 0; after = world w.board w.list d e })
  unfolding fed
  write-puts d e d-long e-long u same =
      record {
        valid =
            record {
              well = v.well;
              list-long = v.list-long;
              display-long = d-long ∙ v.display-long;
              virt-long = e-long ∙ v.virt-long;
              legal = v.legal;
            };
        sizes-same = refl;
        paper-same = written-at-once (scene w.board.engine w.board.fill d e) u same;
        one-by-feed = λ h. omega arith;
        no_nine = λ h. omega arith;
      }

  display-done : eqb number 0 ≡ true → offset + length bytes ≤ area_of w.board.sizes
      → (w.board.active.taken || w.board.pending.taken) ≡ false
      → Kept w (write number offset bytes) (to_display w (kept 0 w.board (put_into w.display offset bytes)))
  display-done t fits u =
      let d = put_into w.display offset bytes in
      let e = w.board.engine in
      let f = w.board.fill in
      write-puts d w.virt (put-length w.display offset bytes (omega (arith, v.display-long))) refl u
      (ap (λ t. cond t (scene e f d w.virt) (scene e f w.display (put_into w.virt offset bytes))) t)

  virtual-done : eqb number 0 ≡ false → offset + length bytes ≤ area_of w.board.sizes
      → (w.board.active.taken || w.board.pending.taken) ≡ false
      → Kept w (write number offset bytes) (to_virtual w (kept 0 w.board (put_into w.virt offset bytes)))
  virtual-done t fits u =
      let d = put_into w.virt offset bytes in
      let e = w.board.engine in
      let f = w.board.fill in
      write-puts w.display d refl (put-length w.virt offset bytes (omega (arith, v.virt-long))) u
      (ap (λ t. cond t (scene e f (put_into w.display offset bytes) w.virt) (scene e f w.display d)) t)

  pub write_kept : Kept w (write number offset bytes) (called (write number offset bytes) w)
  unfolding called
  write_kept =
      let b = w.board in
      let c = write number offset bytes in
      let on_display = to_display w (write_call number offset bytes w.display b) in
      let on_virtual = to_virtual w (write_call number offset bytes w.virt b) in
      by_cases (eqb number 0)
      (λ t. subst (λ t. Kept w c (cond t on_display on_virtual)) (sym t) (write_checked w.display (to_display w) write-refused (display-done t)))
      (λ t. subst (λ t. Kept w c (cond t on_display on_virtual)) (sym t) (write_checked w.virt (to_virtual w) write-refused (virtual-done t)))
