-- A post does to the board what feeding it does to the paper board.
-- Assumes nothing.
use mathlib.Core.Path.{◌≡◌, refl, ap, ap₂, sym, subst, ◌∙◌}
use mathlib.Core.Bool.{Bool, true, false, not, cond, ◌&&◌, false≢true}
use mathlib.Core.List.{[], ◌∷◌, ◌++◌, append-nil}
use Prim.Native.Nat.{ℕ, ◌+◌, ◌*◌, ◌≤◌}
use native.Mathlib.Omega.{arith}
use borrow.Author.Tests.{leb-true, leb-false, eqb-true, eqb-false}
use lib.Dec.{eqb, leb}
use Rattle.lemmas.proofs.Booleans.{by_cases, or-by}
use Rattle.answers.specs.Reports.{Report, report}
use Rattle.lists.specs.Spans.{span_of, first_illegal}
use Rattle.lists.specs.Cursors.{cursor_on, entries_from, rest_of, AllLegal}
use Rattle.std.specs.Prelude.{Option, Some, None}
use Rattle.lists.proofs.Finds.{whole-rest, list-legal}
use Rattle.lists.proofs.Rests.{legal-left, legal-right, legal-join}
use Rattle.commands.specs.Steps.{scene}
use Rattle.slots.specs.Slots.{area_of, slot_with, active_on, slot_of, active_ok}
use Rattle.slots.specs.Calls.{judged_by, post_report}
use Rattle.slots.specs.declared.record.Slot.{Slot}
use Rattle.slots.proofs.Grounds.{post-none, post-past, post-full, post-judged}
use Rattle.slots.proofs.Slotted.{span-by, taken-slot, begins}
use Rattle.board.specs.Calls.{Reply, answered, posted_of, post_by}
use Rattle.board.specs.Left.{to_come}
use Rattle.board.specs.declared.record.Board.{Board}
use Rattle.board.proofs.Forms.{Good, good_of, well-of, none-waits, at_rest}
use Rattle.board.proofs.Replies.{post-by}
use Rattle.statements.specs.Paper.{post, posted, paper, fed}
use Rattle.statements.specs.World.{World, world, Called, called}
use Rattle.statements.proofs.Abstract.{items_of, queue_of, Valid}
use Rattle.statements.proofs.Kept.{Kept, refused, no_items}

-- what a post answers, with the world after it
abbrev replied_of : World → Reply → Called
replied_of w r = record { report = r.report; after = world r.board w.list w.display w.virt }

-- a list goes into the pending slot or into the active one
abbrev pending_board : Board → ℕ → ℕ → Board
pending_board b start count = record { sizes = b.sizes; active = b.active; pending = slot_with (span_of start count); engine = b.engine; fill = b.fill }

abbrev active_board : Board → ℕ → ℕ → Board
active_board b start count = record { sizes = b.sizes; active = active_on (slot_with (span_of start count)); pending = b.pending; engine = b.engine; fill = b.fill }

pub by-slot : (P : Board → Type 0) (b : Board) (start count : ℕ) → (b.active.taken ≡ true → P (pending_board b start count))
    → (b.active.taken ≡ false → P (active_board b start count)) → P (posted_of b start count)
unfolding posted_of
by-slot P b start count f g =
    by_cases b.active.taken (λ t. subst (λ s. P (cond s (pending_board b start count) (active_board b start count))) (sym t) (f t))
    (λ t. subst (λ s. P (cond s (pending_board b start count) (active_board b start count))) (sym t) (g t))

post-good : (b : Board) (start count : ℕ) → Good b → 1 ≤ count → start + count ≤ b.sizes.entries → Good (posted_of b start count)
post-good b start count g some fits =
    let slot = slot_with (span_of start count) in
    let ok = taken-slot slot b.sizes.entries refl (span-by (span_of start count) b.sizes.entries some fits) in
    by-slot Good b start count
    (λ t.
    record {
      sizes = g.sizes;
      engine = g.engine;
      fill = g.fill;
      active = g.active;
      pending = ok;
      order = or-by b.active.taken (false && not b.engine.under_way) (λ f. sym f ∙ t);
    })
    (λ t.
    record {
      sizes = g.sizes;
      engine = g.engine;
      fill = g.fill;
      active = subst (λ u. active_ok (active_on slot) b.sizes.entries u ≡ true) (sym (at_rest b g t)) (begins slot b.sizes.entries ok);
      pending = g.pending;
      order = refl;
    })

module _ (w : World) (v : Valid w) (start count : ℕ) where
  post-refused : (number place : ℕ) → (number ≡ 0 → ⊥) → (number ≡ 1 → ⊥) → (number ≡ 9 → ⊥)
      → Kept w (post start count) (replied_of w (answered number place w.board))
  unfolding fed
  post-refused number place a b c = refused w v (post start count) (report number place 0) refl a b c

  -- the entries of the new list
  abbrev slot : Slot
  slot = slot_with (span_of start count)

  new-rest : rest_of w.list (cursor_on (span_of start count)) ≡ entries_from w.list start count
  new-rest = whole-rest w.list (span_of start count)

  posted-legal : AllLegal (entries_from w.list start count) → AllLegal (to_come w.list (posted_of w.board start count))
  posted-legal new =
      let b = w.board in
      let l = w.list in
      let now = rest_of l b.active.cursor in
      let next = rest_of l (cursor_on b.pending.span) in
      let own = rest_of l (cursor_on (span_of start count)) in
      let fresh = subst AllLegal (sym new-rest) new in
      by-slot (λ b. AllLegal (to_come l b)) b start count (λ t. legal-join now own (legal-left now next v.legal) fresh)
      (λ t. legal-join own next fresh (legal-right now next v.legal))

  posted-queue : (w.board.active.taken && w.board.pending.taken) ≡ false
      → queue_of w.list w.board ++ (posted (span_of start count) (entries_from w.list start count) ∷ [])
      ≡ queue_of w.list (posted_of w.board start count)
  posted-queue free =
      let b = w.board in
      let l = w.list in
      let item = posted (span_of start count) (entries_from l start count) in
      let own = items_of l (active_on slot) in
      let now = items_of l b.active in
      let same : item ∷ [] ≡ own = ap (λ es. posted (span_of start count) es ∷ []) (sym new-rest) in
      by-slot (λ c. queue_of l b ++ (item ∷ []) ≡ queue_of l c) b start count
      (λ t.
      let none = no_items l (active_on b.pending) (waits-not b.active.taken b.pending.taken free t) in
      ap (λ q. now ++ q ++ (item ∷ [])) none ∙ ap (λ q. q ++ (item ∷ [])) (append-nil now) ∙ ap (λ q. now ++ q) same)
      (λ t.
      let none = no_items l b.active t in
      let nobody = no_items l (active_on b.pending) (none-waits b (good_of b v.well) t) in
      ap₂ (λ p q. p ++ q ++ (item ∷ [])) none nobody ∙ same ∙ sym (append-nil own) ∙ ap (λ q. own ++ q) (sym nobody))
    where
      waits-not : (a c : Bool) → (a && c) ≡ false → a ≡ true → c ≡ false
      waits-not true c f t = f
      waits-not false c f t = absurd (false≢true t)

  post-done : 1 ≤ count → start + count ≤ w.board.sizes.entries → (w.board.active.taken && w.board.pending.taken) ≡ false
      → first_illegal w.list (span_of start count) ≡ None
      → Kept w (post start count) (replied_of w (answered 0 0 (posted_of w.board start count)))
  unfolding fed
  post-done some fits free none =
      let b = w.board in
      let z = by-slot (λ c. c.sizes ≡ b.sizes) b start count (λ t. refl) (λ t. refl) in
      let same = by-slot (λ c. b.engine ≡ c.engine) b start count (λ t. refl) (λ t. refl) in
      let held = by-slot (λ c. b.fill ≡ c.fill) b start count (λ t. refl) (λ t. refl) in
      let queue = posted-queue free in
      record {
        valid =
            record {
              well = well-of (posted_of b start count) (post-good b start count (good_of b v.well) some fits);
              list-long = v.list-long ∙ ap (λ z. 5 * z.entries) (sym z);
              display-long = v.display-long ∙ ap area_of (sym z);
              virt-long = v.virt-long ∙ ap area_of (sym z);
              legal = posted-legal (list-legal w.list (span_of start count) none);
            };
        sizes-same = z;
        paper-same = λ i. paper (scene (same i) (held i) w.display w.virt) w.list (queue i);
        one-by-feed = λ h. omega arith;
        no_nine = λ h. omega arith;
      }

  post-judges : (some : count ≡ 0 → ⊥) (fits : start + count ≤ w.board.sizes.entries)
      (free : (w.board.active.taken && w.board.pending.taken) ≡ false) (j : Option ℕ) → first_illegal w.list (span_of start count) ≡ j
      → Kept w (post start count) (replied_of w (post_by (judged_by j) w.board start count))
  post-judges some fits free (Some place) h = post-refused 6 place (λ e. omega arith) (λ e. omega arith) (λ e. omega arith)
  post-judges some fits free None h = post-done (omega (arith, some)) fits free h

  pub post-kept : Kept w (post start count) (called (post start count) w)
  unfolding called
  post-kept =
      let b = w.board in
      let l = w.list in
      let z = b.sizes in
      let s = slot_of b.active in
      let q = b.pending in
      let K : Report → Type 0 = λ t. Kept w (post start count) (replied_of w (post_by t b start count)) in
      subst (λ r. Kept w (post start count) (replied_of w r)) (post-by l start count b v.well (post_report z s q l start count) refl)
      (by_cases (eqb count 0)
      (λ t. subst K (post-none z s q l start count v.list-long (eqb-true count 0 t)) (post-refused 3 0 (λ e. omega arith) (λ e. omega arith) (λ e. omega arith)))
      (λ t.
      let some = eqb-false count 0 t in
      by_cases (leb (start + count) z.entries)
      (λ f.
      let fits = leb-true (start + count) z.entries f in
      by_cases (s.taken && q.taken)
      (λ u. subst K (post-full z s q l start count v.list-long some fits u) (post-refused 5 0 (λ e. omega arith) (λ e. omega arith) (λ e. omega arith)))
      (λ u.
      let found = first_illegal l (span_of start count) in
      subst K (post-judged z s q l start count v.list-long some fits u found found refl refl) (post-judges some fits u found refl)))
      (λ f.
      subst K (post-past z s q l start count v.list-long some (leb-false (start + count) z.entries f))
      (post-refused 4 0 (λ e. omega arith) (λ e. omega arith) (λ e. omega arith)))))
