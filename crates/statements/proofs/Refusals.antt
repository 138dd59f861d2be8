-- A refused call leaves record and memories as they were, call by call; and so do no bytes, which put nothing.
-- Assumes nothing.
use mathlib.Core.Path.{◌≡◌, refl, ap, ap₂, sym}
use mathlib.Core.Bool.{Bool, true, false, cond, ◌&&◌, ◌||◌}
use mathlib.Core.List.{List, []}
use Prim.Native.Nat.{ℕ, ◌*◌}
use native.Mathlib.Omega.{arith}
use borrow.Author.Tests.{eq-eqb, ne_eqb, le-leb}
use lib.Dec.{eqb, leb}
use lib.ListN.{length}
use Rattle.lemmas.proofs.Booleans.{both}
use Rattle.lemmas.proofs.Memories.{put-none}
use Rattle.slots.specs.Slots.{area_of, slot_of}
use Rattle.slots.specs.Calls.{holds_any, leaves, write_report}
use Rattle.slots.specs.declared.record.Slot.{Slot}
use Rattle.slots.proofs.Grounds.{store-done, write-busy, write_done}
use Rattle.board.specs.Record.{well_formed}
use Rattle.board.specs.Calls.{Written, write_call}
use Rattle.board.specs.Picturing.{import_call}
use Rattle.board.proofs.Imports.{export-board, import-stays}
use Rattle.board.specs.Feeding.{Line, line, feed_call}
use Rattle.board.proofs.Forms.{good_of, none-waits}
use Rattle.board.proofs.Feeds.{refused-feed}
use Rattle.board.proofs.Refused.{post-given, Stays, store-stays, write-stays, run-halts}
use Rattle.board.proofs.Replies.{store_by, write-by}
use Rattle.statements.specs.Paper.{post, store, write, run, feed, import, export}
use Rattle.statements.specs.World.{World, world, Called, called}
use Rattle.statements.specs.Refusals.{RefusedStays, unchanged, EmptyStore, EmptyWrites}
use Rattle.statements.proofs.Abstract.{machine_of, onto}
use Rattle.statements.proofs.Storing.{stored_of}
use Rattle.statements.proofs.Writing.{to_display, to_virtual}

-- ---- refusals
abbrev Refused : World → Called → Type 0
Refused w c = (c.report.number ≡ 0 → ⊥) → c.after ≡ w

-- a call that is lent the named buffer
lent-refused : (w : World) (call : List ℕ → Written) → ((buffer : List ℕ) → Stays w.board buffer (call buffer)) → (t : Bool)
    → Refused w (cond t (to_display w (call w.display)) (to_virtual w (call w.virt)))
lent-refused w call stays true n = let s = stays w.display n in (λ i. world (s.0 i) w.list (s.1 i) w.virt)
lent-refused w call stays false n = let s = stays w.virt n in (λ i. world (s.0 i) w.list w.display (s.1 i))

pub refused-stays : RefusedStays
unfolding called
refused-stays (post start count) w n k = ap (λ b. world b w.list w.display w.virt) (post-given w.list start count w.board n)
refused-stays (store first bytes) w n k =
    let s = store-stays w.list first bytes w.board n in
    (λ i. world (s.0 i) (s.1 i) w.display w.virt)
refused-stays (write number offset bytes) w n k =
    lent-refused w (λ buffer. write_call number offset bytes buffer w.board) (λ buffer. write-stays number offset bytes buffer w.board) (eqb number 0) n
refused-stays (import number picture) w n k =
    lent-refused w (λ buffer. import_call number picture buffer w.board) (λ buffer. import-stays number picture buffer w.board) (eqb number 0) n
refused-stays (export number output) w n k =
    ap (λ b. world b w.list w.display w.virt) (export-board number (cond (eqb number 0) w.display w.virt) output w.board)
refused-stays (run budget) w n k = ap (onto w) (run-halts budget w.list (machine_of w) n k)
refused-stays (feed f piece) w n k =
    let b = w.board in
    ap (λ (s : Line). world s.board s.memory w.display w.virt)
    (refused-feed (line b f w.list) piece (ne_eqb (feed_call w.list f piece b).report.number 0 n))

-- ---- no bytes
none-touched : (s : Slot) (first : ℕ) → holds_any s first 0 ≡ false
none-touched s first = by s.taken
  where
    by : (t : Bool) → (t && false) ≡ false
    by true = refl
    by false = refl

pub empty-store : EmptyStore
unfolding called
empty-store w first well long fits =
    let b = w.board in
    let l = w.list in
    let z = b.sizes in
    let whole : (eqb (length l) (5 * z.entries) && true) ≡ true = both (eq-eqb (length l) (5 * z.entries) long) refl in
    let free : (holds_any (slot_of b.active) first 0 || holds_any b.pending first 0) ≡ false =
    ap₂ ◌||◌ (none-touched (slot_of b.active) first) (none-touched b.pending first) in
    let done = store-done z (slot_of b.active) b.pending l first [] whole (omega arith) free l (sym (put-none l (5 * first))) in
    ap (stored_of w) (sym (store_by l first [] b well (leaves 0 l) done))

-- a window write to either buffer, by what it answers of that buffer
module _ (w : World) (well : well_formed w.board ≡ true) (number offset answer : ℕ) where
  Answers : List ℕ → Type 0
  Answers buffer = leaves answer buffer ≡ write_report w.board.sizes (slot_of w.board.active) w.board.pending number offset [] buffer

  by-buffer : Answers w.display → Answers w.virt → called (write number offset []) w ≡ unchanged answer w
  unfolding called Answers
  by-buffer d v = go (eqb number 0)
    where
      go : (t : Bool) → cond t (to_display w (write_call number offset [] w.display w.board)) (to_virtual w (write_call number offset [] w.virt w.board))
          ≡ unchanged answer w
      go true = ap (to_display w) (sym (write-by number offset [] w.display w.board well (leaves answer w.display) d))
      go false = ap (to_virtual w) (sym (write-by number offset [] w.virt w.board well (leaves answer w.virt) v))

pub empty-writes : EmptyWrites
unfolding Answers
empty-writes w number offset well display-long virt-long named fits =
    let b = w.board in
    let z = b.sizes in
    let a = slot_of b.active in
    let p = b.pending in
    let right : (buffer : List ℕ) → length buffer ≡ area_of z → (leb number 1 && eqb (length buffer) (area_of z)) ≡ true =
    λ buffer long. both (le-leb number 1 named) (eq-eqb (length buffer) (area_of z) long) in
    record {
      idle = λ t.
          let free : (a.taken || p.taken) ≡ false = ap₂ ◌||◌ t (none-waits b (good_of b well) t) in
          let done : (buffer : List ℕ) → length buffer ≡ area_of z → leaves 0 buffer ≡ write_report z a p number offset [] buffer =
          λ buffer long. write_done z a p number offset [] buffer (right buffer long) (omega arith) free buffer (sym (put-none buffer offset)) in
          by-buffer w well number offset 0 (done w.display display-long) (done w.virt virt-long);
      taken = λ t.
          let busy : (a.taken || p.taken) ≡ true = ap (λ t. t || p.taken) t in
          let still : (buffer : List ℕ) → length buffer ≡ area_of z → leaves 7 buffer ≡ write_report z a p number offset [] buffer =
          λ buffer long. write-busy z a p number offset [] buffer (right buffer long) (omega arith) busy in
          by-buffer w well number offset 7 (still w.display display-long) (still w.virt virt-long);
    }
