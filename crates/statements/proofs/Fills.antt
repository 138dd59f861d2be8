-- Every call keeps what the types say of a board with its buffers: pixels are bytes, and the fill is one that comes back from its
-- words. A step takes the tile from a buffer, keeps it, or drops it.
-- Assumes nothing.
use mathlib.Core.Path.{◌≡◌, refl, ap, sym, subst}
use mathlib.Core.Bool.{Bool, true, false, cond, ◌&&◌, ◌||◌}
use mathlib.Core.List.{List, [], ◌∷◌, ◌++◌}
use Prim.Native.Nat.{ℕ, zero, suc, ◌+◌, ◌-◌, ◌*◌, ◌<◌}
use native.Mathlib.Omega.{arith}
use lib.Dec.{eqb, leb}
use lib.ListN.{length, take, drop}
use lib.Seq.{get_or-drop}
use Rattle.lemmas.specs.Memory.{put_into}
use Rattle.lemmas.proofs.Booleans.{of_either}
use Rattle.geometry.specs.declared.Extent.{Extent}
use Rattle.entries.specs.declared.decoding.Entry.{Entry}
use Rattle.lists.specs.Cursors.{fetched_of}
use Rattle.lists.specs.declared.cursors.Cursor.{Cursor}
use Rattle.lists.specs.declared.cursors.Next.{Next}
use Rattle.lists.specs.declared.cursors.Next.TheVariants.{Ended, Visit, Take, Broken}
use Rattle.commands.specs.Steps.{Scene, visit_by, visit_of, taken_of, advanced_of}
use Rattle.slots.specs.Slots.{area_of, lent_ok, slot_of}
use Rattle.answers.specs.Reports.{Report}
use Rattle.slots.specs.Calls.{Lent, post_report, write_report}
use Rattle.slots.specs.Picturing.{import_report}
use Rattle.pictures.specs.Pictures.{is_picture}
use Rattle.board.specs.Record.{well_formed}
use Rattle.board.specs.Steps.{Machine, machine, next_on, with_steps, moved_to, scene_of, act_of, step_of}
use Rattle.board.specs.Runs.{Outcome, by_next, run_of, run_call}
use Rattle.board.specs.Calls.{answered, posted_of, post_call, Written, store_call, write_call}
use Rattle.board.specs.Picturing.{import_call}
use Rattle.board.specs.declared.record.Board.{Board}
use Rattle.board.proofs.Keeps.{settled-fill}
use Rattle.board.proofs.Feeds.{feed-board}
use Rattle.board.proofs.Imports.{export-board}
use Rattle.pramolyt.specs.FillImage.{Kept}
use Rattle.pramolyt.proofs.TakenTiles.{none_kept, taken-kept}
use Rattle.statements.specs.Paper.{Call, post, store, write, run, feed, import, export}
use Rattle.statements.specs.World.{World, world, Called, called}
use Rattle.statements.specs.Images.{AllBytes, BytesIn}
use Rattle.statements.specs.SolidLines.{Bytes}
use Rattle.statements.proofs.Posting.{by-slot}
use Rattle.statements.proofs.Bytes.{visit-bytes}

-- ---- a scene, step by step
record Sound (s : Scene) : Type 0 where
  bytes : Bytes s
  kept : Kept s.fill

visit-sound : (extent : Extent) (s : Scene) → Sound s → Sound (visit_of extent s)
unfolding visit_by
visit-sound extent s h =
    record {
      bytes = visit-bytes extent s h.bytes;
      kept = of_either Kept (advanced_of extent s.engine).under_way h.kept none_kept;
    }

take-sound : (extent : Extent) (s : Scene) (entry : Entry) → Sound s → Sound (taken_of extent s entry)
take-sound extent s entry h =
    let e = (taken_of extent s entry).engine in
    let b = h.bytes in
    record {
      bytes = record { display-bytes = b.display-bytes; virt-bytes = b.virt-bytes };
      kept = taken-kept extent e s.display s.virt b.display-bytes b.virt-bytes;
    }

-- ---- a run
abbrev Steady : Machine → Type 0
Steady m = Sound (scene_of m)

moved-sound : (m : Machine) (c : Cursor) (s : Scene) → Sound s → Steady (moved_to m c s)
moved-sound m c s h =
    record {
      bytes = record { display-bytes = h.bytes.display-bytes; virt-bytes = h.bytes.virt-bytes };
      kept = subst Kept (sym (settled-fill (with_steps m.board c s.engine s.fill))) h.kept;
    }

act-sound : (x : Next) (m : Machine) → Steady m → Steady (act_of x m)
act-sound Ended m h = h
act-sound Visit m h =
    moved-sound m m.board.active.cursor (visit_of m.board.sizes.extent (scene_of m)) (visit-sound m.board.sizes.extent (scene_of m) h)
act-sound (Take e) m h =
    moved-sound m (fetched_of m.board.active.cursor) (taken_of m.board.sizes.extent (scene_of m) e)
    (take-sound m.board.sizes.extent (scene_of m) e h)
act-sound Broken m h = h

next-sound : (x : Next) (m : Machine) (more : Outcome) → Steady m → Steady more.after → Steady (by_next x m more).after
next-sound Ended m more h g = h
next-sound Visit m more h g = g
next-sound (Take e) m more h g = g
next-sound Broken m more h g = h

steps-sound : (k : ℕ) (l : List ℕ) (m : Machine) → Steady m → Steady (run_of k l m).after
unfolding run_of step_of
steps-sound zero l m h = h
steps-sound (suc k) l m h =
    next-sound (next_on l m.board) m (run_of k l (step_of l m)) h (steps-sound k l (step_of l m) (act-sound (next_on l m.board) m h))

run_sound : (k : ℕ) (l : List ℕ) (m : Machine) → Steady m → Steady (run_call k l m).after
unfolding run_call
run_sound k l m h =
    let P : Outcome → Type 0 = λ o. Steady o.after in
    of_either P (well_formed m.board)
    (of_either P (lent_ok m.board.sizes (length l) (length m.display) (length m.virt)) (steps-sound k l m h) h)
    h

-- ---- bytes put into a buffer
append-bytes : (l m : List ℕ) → AllBytes l → AllBytes m → AllBytes (l ++ m)
append-bytes [] m h g k = g k
append-bytes (x ∷ l) m h g zero = h 0
append-bytes (x ∷ l) m h g (suc k) = append-bytes l m (λ k. h (suc k)) g k

drop-bytes : (n : ℕ) (l : List ℕ) → AllBytes l → AllBytes (drop n l)
drop-bytes n l h k = subst (λ x. x < 256) (sym (get_or-drop n l k 0)) (h (n + k))

take-bytes : (n : ℕ) (l : List ℕ) → AllBytes l → AllBytes (take n l)
take-bytes zero l h k = omega arith
take-bytes (suc n) [] h k = h k
take-bytes (suc n) (x ∷ l) h zero = h 0
take-bytes (suc n) (x ∷ l) h (suc k) = take-bytes n l (λ k. h (suc k)) k

put-bytes : (l : List ℕ) (at : ℕ) (bytes : List ℕ) → AllBytes l → AllBytes bytes → AllBytes (put_into l at bytes)
unfolding put_into
put-bytes l at bytes h g =
    append-bytes (take at l ++ bytes) (drop (at + length bytes) l) (append-bytes (take at l) bytes (take-bytes at l h) g)
    (drop-bytes (at + length bytes) l h)

-- ---- every call
pub record Typed (w : World) : Type 0 where
  pub display-bytes : AllBytes w.display
  pub virt-bytes : AllBytes w.virt
  pub kept : Kept w.board.fill

-- a buffer that was written or left, of a record that stays
abbrev KeepsBytes : Board → Written → Type 0
KeepsBytes b r = AllBytes r.memory × (r.board ≡ b)

write-typed : (number offset : ℕ) (bytes buffer : List ℕ) (b : Board) → AllBytes bytes → AllBytes buffer
    → KeepsBytes b (write_call number offset bytes buffer b)
unfolding write_call write_report
write-typed number offset bytes buffer b h g =
    let z = b.sizes in
    let P : Lent → Type 0 = λ m. AllBytes m.memory in
    of_either (KeepsBytes b) (well_formed b) (
      of_either P (leb number 1 && eqb (length buffer) (area_of z))
          (of_either P (leb (offset + length bytes) (area_of z))
          (of_either P (b.active.taken || b.pending.taken) g (put-bytes buffer offset bytes g h))
          g)
          g,
      refl,
    )
    (g, refl)

import-typed : (number : ℕ) (picture buffer : List ℕ) (b : Board) → AllBytes picture → AllBytes buffer
    → KeepsBytes b (import_call number picture buffer b)
unfolding import_call import_report
import-typed number picture buffer b h g =
    let z = b.sizes in
    let width = z.extent.width in
    let height = z.extent.height in
    let P : Lent → Type 0 = λ m. AllBytes m.memory in
    of_either (KeepsBytes b) (well_formed b) (
      of_either P (leb number 1 && eqb (length buffer) (area_of z))
          (of_either P (b.active.taken || b.pending.taken) g
          (of_either P (is_picture width height picture) (drop-bytes (length picture - width * height) picture h) g))
          g,
      refl,
    )
    (g, refl)

post-fill : (list : List ℕ) (start count : ℕ) (b : Board) → (post_call list start count b).board.fill ≡ b.fill
unfolding post_call
post-fill list start count b =
    let said = post_report b.sizes (slot_of b.active) b.pending list start count in
    by (well_formed b) (eqb said.number 0) said
  where
    by : (t u : Bool) (said : Report)
        → (cond t (record { report = said; board = cond u (posted_of b start count) b }) (answered 1 0 b)).board.fill ≡ b.fill
    by true true said = by-slot (λ c. c.fill ≡ b.fill) b start count (λ t. refl) (λ t. refl)
    by true false said = refl
    by false u said = refl

store-board : (list : List ℕ) (first : ℕ) (bytes : List ℕ) (b : Board) → (store_call list first bytes b).board ≡ b
unfolding store_call
store-board list first bytes b = of_either (λ (r : Written). r.board ≡ b) (well_formed b) refl refl

-- with a record whose fill is the same
module _ (w : World) (t : Typed w) where
  same-fill : (b : Board) (l : List ℕ) → b.fill ≡ w.board.fill → Typed (world b l w.display w.virt)
  same-fill b l e = record { display-bytes = t.display-bytes; virt-bytes = t.virt-bytes; kept = subst Kept (sym e) t.kept }

  on-display : (r : Written) → KeepsBytes w.board r → Typed (world r.board w.list r.memory w.virt)
  on-display r h =
      record { display-bytes = h.0; virt-bytes = t.virt-bytes; kept = subst (λ (b : Board). Kept b.fill) (sym h.1) t.kept }

  on-virtual : (r : Written) → KeepsBytes w.board r → Typed (world r.board w.list w.display r.memory)
  on-virtual r h =
      record { display-bytes = t.display-bytes; virt-bytes = h.0; kept = subst (λ (b : Board). Kept b.fill) (sym h.1) t.kept }

pub call-typed : (c : Call) (w : World) → Typed w → BytesIn c → Typed (called c w).after
unfolding called
call-typed (post start count) w t h = same-fill w t _ _ (post-fill w.list start count w.board)
call-typed (store first bytes) w t h = same-fill w t _ _ (ap (λ (b : Board). b.fill) (store-board w.list first bytes w.board))
call-typed (write number offset bytes) w t h =
    of_either (λ (c : Called). Typed c.after) (eqb number 0)
    (on-display w t (write_call number offset bytes w.display w.board) (write-typed number offset bytes w.display w.board h t.display-bytes))
    (on-virtual w t (write_call number offset bytes w.virt w.board) (write-typed number offset bytes w.virt w.board h t.virt-bytes))
call-typed (run budget) w t h =
    let s = run_sound budget w.list (machine w.board w.display w.virt)
    (record { bytes = record { display-bytes = t.display-bytes; virt-bytes = t.virt-bytes }; kept = t.kept }) in
    record { display-bytes = s.bytes.display-bytes; virt-bytes = s.bytes.virt-bytes; kept = s.kept }
call-typed (feed f piece) w t h = same-fill w t _ _ (ap (λ (b : Board). b.fill) (feed-board w.list f piece w.board))
call-typed (import number picture) w t h =
    of_either (λ (c : Called). Typed c.after) (eqb number 0)
    (on-display w t (import_call number picture w.display w.board) (import-typed number picture w.display w.board h t.display-bytes))
    (on-virtual w t (import_call number picture w.virt w.board) (import-typed number picture w.virt w.board h t.virt-bytes))
call-typed (export number output) w t h =
    same-fill w t _ _
    (ap (λ (b : Board). b.fill) (export-board number (cond (eqb number 0) w.display w.virt) output w.board))
