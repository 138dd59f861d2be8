-- A store does to the board what feeding it does to the paper board.
-- Assumes nothing.
use mathlib.Core.Path.{◌≡◌, refl, ap₂, sym, subst, ◌∙◌}
use mathlib.Core.Bool.{true, false, cond, ◌&&◌, ◌||◌}
use mathlib.Core.List.{List, [], ◌∷◌, ◌++◌}
use Prim.Native.Nat.{ℕ, ◌+◌, ◌*◌, ◌/◌, ◌%◌, ◌≤◌}
use native.Mathlib.Omega.{arith}
use borrow.Author.Tests.{leb-true, leb-false, eqb-true}
use lib.Dec.{eqb, leb}
use lib.ListN.{length}
use Rattle.lemmas.specs.Memory.{put_into}
use Rattle.lemmas.proofs.Booleans.{by_cases, and_right, or-none-left, or-none-right}
use Rattle.lemmas.proofs.Memories.{put-length}
use Rattle.answers.specs.Reports.{report}
use Rattle.entries.specs.declared.decoding.Entry.{Entry}
use Rattle.lists.specs.Spans.{touches}
use Rattle.lists.specs.Cursors.{cursor_on, rest_of, AllLegal}
use Rattle.lists.proofs.Held.{untouched-stays}
use Rattle.commands.specs.Steps.{scene}
use Rattle.slots.specs.Slots.{active_on, slot_of}
use Rattle.slots.specs.Calls.{holds_any, Lent, store_report}
use Rattle.slots.specs.declared.record.Active.{Active}
use Rattle.slots.proofs.Grounds.{store-wrong-size, store-past, store-held, store-done}
use Rattle.slots.proofs.Slotted.{active-from, active_rest, slot-rest}
use Rattle.board.specs.Calls.{Written, kept, kept_by}
use Rattle.board.proofs.Forms.{good_of}
use Rattle.board.proofs.Replies.{store_by}
use Rattle.statements.specs.Paper.{store, Item, posted, paper, fed}
use Rattle.statements.specs.World.{World, world, Called, called}
use Rattle.statements.proofs.Abstract.{Valid}
use Rattle.statements.proofs.Kept.{Kept, refused}

abbrev pub stored_of : World → Written → Called
stored_of w r = record { report = r.report; after = world r.board r.memory w.display w.virt }

module _ (w : World) (v : Valid w) (first : ℕ) (bytes : List ℕ) where
  store-refused : (number : ℕ) → (number ≡ 0 → ⊥) → (number ≡ 1 → ⊥) → (number ≡ 9 → ⊥)
      → Kept w (store first bytes) (stored_of w (kept number w.board w.list))
  unfolding fed
  store-refused number a b c = refused w v (store first bytes) (report number 0 0) refl a b c

  module _ (whole : length bytes % 5 ≡ 0) (fits : first + length bytes / 5 ≤ w.board.sizes.entries) where
    abbrev after : List ℕ
    after = put_into w.list (5 * first) bytes

    room : 5 * first + length bytes ≤ length w.list
    room = omega (arith, v.list-long)

    -- what is left of a list that is not touched reads the same
    rest-stays : (a : Active) → ((l : List ℕ) → a.taken ≡ false → rest_of l a.cursor ≡ [])
        → (a.taken ≡ true → a.cursor.span.start ≤ a.cursor.next) → holds_any (slot_of a) first (length bytes / 5) ≡ false
        → rest_of w.list a.cursor ≡ rest_of after a.cursor
    rest-stays a none from free =
        by_cases a.taken
        (λ t.
        sym (untouched-stays w.list first (length bytes / 5) bytes a.cursor (omega arith) room (from t)
        (subst (λ t. (t && touches a.cursor.span first (length bytes / 5)) ≡ false) t free)))
        (λ t. none w.list t ∙ sym (none after t))

    module _ (free : (holds_any (slot_of w.board.active) first (length bytes / 5) || holds_any w.board.pending first (length bytes / 5)) ≡ false) where
      active-stays : rest_of w.list w.board.active.cursor ≡ rest_of after w.board.active.cursor
      active-stays =
          let b = w.board in
          let ok = (good_of b v.well).active in
          rest-stays b.active (λ l t. active_rest b.active b.sizes.entries b.engine.under_way l ok t)
          (active-from b.active b.sizes.entries b.engine.under_way ok)
          (or-none-left (holds_any (slot_of b.active) first (length bytes / 5)) (holds_any b.pending first (length bytes / 5)) free)

      pending-stays : rest_of w.list (cursor_on w.board.pending.span) ≡ rest_of after (cursor_on w.board.pending.span)
      pending-stays =
          let b = w.board in
          rest-stays (active_on b.pending) (λ l t. slot-rest b.pending b.sizes.entries l (good_of b v.well).pending t) (λ t. omega arith)
          (or-none-right (holds_any (slot_of b.active) first (length bytes / 5)) (holds_any b.pending first (length bytes / 5)) free)

      store-puts : Kept w (store first bytes) (stored_of w (kept 0 w.board (put_into w.list (5 * first) bytes)))
      unfolding fed
      store-puts =
          let b = w.board in
          let l = put_into w.list (5 * first) bytes in
          let items : Active → List Entry → List Item = λ a es. cond a.taken (posted a.cursor.span es ∷ []) [] in
          record {
            valid =
                record {
                  well = v.well;
                  list-long = put-length w.list (5 * first) bytes room ∙ v.list-long;
                  display-long = v.display-long;
                  virt-long = v.virt-long;
                  legal = subst AllLegal (ap₂ ◌++◌ active-stays pending-stays) v.legal;
                };
            sizes-same = refl;
            paper-same =
                ap₂ (λ es fs. paper (scene b.engine b.fill w.display w.virt) l (items b.active es ++ items (active_on b.pending) fs))
                active-stays pending-stays;
            one-by-feed = λ h. omega arith;
            no_nine = λ h. omega arith;
          }

  pub store_kept : Kept w (store first bytes) (called (store first bytes) w)
  unfolding called
  store_kept =
      let b = w.board in
      let l = w.list in
      let z = b.sizes in
      let s = slot_of b.active in
      let q = b.pending in
      let K : Lent → Type 0 = λ m. Kept w (store first bytes) (stored_of w (kept_by b m)) in
      let long = eqb (length l) (5 * z.entries) in
      subst (λ r. Kept w (store first bytes) (stored_of w r)) (store_by l first bytes b v.well (store_report z s q l first bytes) refl)
      (by_cases (long && eqb (length bytes % 5) 0)
      (λ t.
      let whole = eqb-true (length bytes % 5) 0 (and_right long (eqb (length bytes % 5) 0) t) in
      by_cases (leb (first + length bytes / 5) z.entries)
      (λ f.
      let fits = leb-true (first + length bytes / 5) z.entries f in
      by_cases (holds_any s first (length bytes / 5) || holds_any q first (length bytes / 5))
      (λ u. subst K (store-held z s q l first bytes t fits u) (store-refused 8 (λ e. omega arith) (λ e. omega arith) (λ e. omega arith)))
      (λ u. subst K (store-done z s q l first bytes t fits u (put_into l (5 * first) bytes) refl) (store-puts whole fits u)))
      (λ f.
      subst K (store-past z s q l first bytes t (leb-false (first + length bytes / 5) z.entries f))
      (store-refused 4 (λ e. omega arith) (λ e. omega arith) (λ e. omega arith))))
      (λ t. subst K (store-wrong-size z s q l first bytes t) (store-refused 2 (λ e. omega arith) (λ e. omega arith) (λ e. omega arith))))
