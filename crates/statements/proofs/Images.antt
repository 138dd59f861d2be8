-- Demand 3 through C: on the image of a record the exported functions answer what the calls of the record do, and leave its
-- image; so a sequence through C answers what the sequence of calls does.
-- Assumes nothing.
use mathlib.Core.Path.{◌≡◌, refl, ap, ap₂, sym, subst, ◌∙◌}
use mathlib.Core.Bool.{Bool, true, false, cond}
use mathlib.Core.List.{List, [], ◌∷◌}
use Prim.Native.Nat.{ℕ}
use native.Mathlib.Omega.{arith}
use lib.Dec.{eqb}
use Rattle.lemmas.proofs.Booleans.{by_cases}
use Rattle.answers.specs.Reports.{report}
use Rattle.tiles.specs.Tiles.{no_fill}
use Rattle.commands.specs.Steps.{scene, fresh_engine}
use Rattle.slots.specs.Slots.{sizes_ok, sizes}
use Rattle.slots.proofs.Grounds.{NumberAlone}
use Rattle.board.specs.Steps.{machine}
use Rattle.board.specs.Runs.{run_call}
use Rattle.board.specs.Calls.{Reply, answered, fresh_board, make_call, post_call, Written, store_call, write_call}
use Rattle.board.specs.declared.record.Board.{Board}
use Rattle.board.specs.Feeding.{feed_call}
use Rattle.board.specs.Picturing.{export_call, import_call}
use Rattle.board.proofs.Imports.{export-no-more, import-no-more}
use Rattle.board.proofs.Feeds.{feed-no-more}
use Rattle.board.proofs.Replies.{post-no-steps, store-no-more, write-no-more, run-no-place}
use Rattle.pramolyt.specs.FillImage.{Kept}
use Rattle.pramolyt.specs.Image.{words_of, board_of}
use Rattle.pramolyt.specs.Exports.{of_image, make_image, Posted, posted, posted_by, post_image, Changed, changed, changed_by, store_image, write_image, Pictured, pictured, pictured_by, export_image, import_image, Ran, ran, ran_by, run_image, Received, received, received_by, feed_image}
use Rattle.pramolyt.proofs.RoundTrips.{decodes-encoded, encodes-flags}
use Rattle.statements.specs.Paper.{Call, post, store, write, run, feed, import, export, paper}
use Rattle.statements.specs.World.{World, world, Called, called, answers_to}
use Rattle.statements.specs.Demand.{Throughout}
use Rattle.statements.specs.Images.{Caller, caller, Returned, returned, world_in, returns_to, BytesThroughout, Demand3InC}
use Rattle.pramolyt.proofs.TakenTiles.{none_kept}
use Rattle.statements.proofs.Fills.{Typed, call-typed}
use Rattle.statements.proofs.Sequence.{demand3}

-- a world, and what a call answers, with the image in place of the record
abbrev image_of : World → Caller
image_of w = caller (words_of w.board) w.list w.display w.virt

abbrev return_of : Called → Returned
return_of c = record { report = c.report; after = image_of c.after }

-- what a function makes of the image of a record
of_image_lem : {A : Type 0} (b : Board) → Kept b.fill → (f : Board → A) (refused : A) → of_image (words_of b) (f (board_of (words_of b))) refused ≡ f b
of_image_lem b kept f refused = ap (λ t. cond t (f (board_of (words_of b))) refused) (encodes-flags b) ∙ ap f (decodes-encoded b kept)

module _ (w : World) (kept : Kept w.board.fill) where
  abbrev b : Board
  b = w.board

  -- a changed memory, put back among the others
  changed-return : (m : List ℕ) (lent : List ℕ → List ℕ → Caller) (call : Board → Written) → NumberAlone (call w.board).report →
      let r = of_image (words_of w.board) (changed_by (call (board_of (words_of w.board)))) (changed 1 (words_of w.board) m) in
      ◌≡◌ {A = Returned} (record { report = report r.number 0 0; after = lent r.words r.memory })
      (record { report = (call w.board).report; after = lent (words_of (call w.board).board) (call w.board).memory })
  changed-return m lent call alone =
      ap (λ (r : Changed). record { report = report r.number 0 0; after = lent r.words r.memory })
      (of_image_lem b kept (λ b. changed_by (call b)) (changed 1 (words_of b) m))
      ∙ ap (λ t. record { report = t; after = lent (words_of (call b).board) (call b).memory }) (sym alone)

  returns-by : (t : Bool) (d v : Returned) (c e : Called) → d ≡ return_of c → v ≡ return_of e → cond t d v ≡ return_of (cond t c e)
  returns-by true d v c e p q = p
  returns-by false d v c e p q = q

  return-same : (c : Call) → returned c (image_of w) ≡ return_of (called c w)
  unfolding returned called post_image store_image write_image run_image feed_image export_image import_image
  return-same (post start count) =
      let r = post_call w.list start count b in
      let none = sym (post-no-steps w.list start count b) in
      ap (λ (r : Posted). record { report = report r.number r.place 0; after = caller r.words w.list w.display w.virt })
      (of_image_lem b kept (λ b. posted_by (post_call w.list start count b)) (posted 1 (words_of b) 0))
      ∙ (λ i.
      record {
        report = report r.report.number r.report.place (none i);
        after = caller (words_of r.board) w.list w.display w.virt;
      })
  return-same (store first bytes) =
      changed-return w.list (λ words memory. caller words memory w.display w.virt) (store_call w.list first bytes)
      (store-no-more w.list first bytes b)
  return-same (write number offset bytes) =
      returns-by (eqb number 0) _ _ _ _
      (changed-return w.display (λ words memory. caller words w.list memory w.virt) (write_call number offset bytes w.display)
      (write-no-more number offset bytes w.display b))
      (changed-return w.virt (λ words memory. caller words w.list w.display memory) (write_call number offset bytes w.virt)
      (write-no-more number offset bytes w.virt b))
  return-same (run budget) =
      let o = run_call budget w.list (machine b w.display w.virt) in
      let none = sym (run-no-place budget w.list (machine b w.display w.virt)) in
      ap (λ (r : Ran). record { report = report r.number 0 r.steps; after = caller r.words w.list r.display r.virt })
      (of_image_lem b kept (λ b. ran_by (run_call budget w.list (machine b w.display w.virt))) (ran 1 (words_of b) 0 w.display w.virt))
      ∙ (λ i.
      record {
        report = report o.report.number (none i) o.report.steps;
        after = caller (words_of o.after.board) w.list o.after.display o.after.virt;
      })
  return-same (feed f piece) =
      let r = feed_call w.list f piece b in
      let alone = sym (feed-no-more w.list f piece b) in
      ap (λ (r : Received). record { report = report r.number 0 0; after = caller r.words r.memory w.display w.virt })
      (of_image_lem b kept (λ b. received_by (feed_call w.list f piece b)) (received 1 (words_of b) f w.list))
      ∙ (λ i. record { report = alone i; after = caller (words_of r.after.board) r.after.memory w.display w.virt })
  return-same (import number picture) =
      returns-by (eqb number 0) _ _ _ _
      (changed-return w.display (λ words memory. caller words w.list memory w.virt) (import_call number picture w.display)
      (import-no-more number picture w.display b))
      (changed-return w.virt (λ words memory. caller words w.list w.display memory) (import_call number picture w.virt)
      (import-no-more number picture w.virt b))
  return-same (export number output) =
      let x = cond (eqb number 0) w.display w.virt in
      let r = export_call number x output b in
      let alone = sym (export-no-more number x output b) in
      ap (λ (r : Pictured). record { report = report r.number 0 0; after = caller r.words w.list w.display w.virt })
      (of_image_lem b kept (λ b. pictured_by (export_call number x output b)) (pictured 1 (words_of b) 0 output))
      ∙ (λ i. record { report = alone i; after = caller (words_of r.board) w.list w.display w.virt })

returns-same : (calls : List Call) (w : World) → Typed w → BytesThroughout calls → returns_to calls (image_of w) ≡ answers_to calls w
unfolding returns_to answers_to BytesThroughout
returns-same [] w t bytes = refl
returns-same (c ∷ calls) w t bytes =
    let a = called c w in
    let v = a.after in
    let u = call-typed c w t bytes.0 in
    ap (λ (r : Returned). record { report = r.report; after = world_in r.after } ∷ returns_to calls r.after) (return-same w t.kept c)
    ∙ ap₂ ◌∷◌ (ap (λ b. record { report = a.report; after = world b v.list v.display v.virt }) (decodes-encoded v.board u.kept))
    (returns-same calls v u bytes.1)

-- made: the fresh board's image, where the sizes are within the limits
made-fresh : (width height entries : ℕ) → (make_image width height entries).number ≡ 0
    → (sizes_ok (sizes width height entries) ≡ true) × ((make_image width height entries).words ≡ words_of (fresh_board (sizes width height entries)))
unfolding make_image make_call
made-fresh width height entries h =
    let z = sizes width height entries in
    let reply : Bool → Reply = λ t. cond t (answered 0 0 (fresh_board z)) (answered 2 0 (fresh_board (sizes 1 1 1))) in
    by_cases (sizes_ok z) (λ t. (t, ap (λ t. words_of (reply t).board) t))
    (λ t. absurd (two (ap (λ t. (reply t).report.number) t) h))
  where
    two : {n : ℕ} → n ≡ 2 → n ≡ 0 → ⊥
    two p q = omega arith

pub demand3-in-c : Demand3InC
demand3-in-c width height entries h list display virt list-long display-long virt-long display-bytes virt-bytes calls bytes =
    let z = sizes width height entries in
    let made = made-fresh width height entries h in
    let w = world (fresh_board z) list display virt in
    let p = paper (scene fresh_engine no_fill display virt) list [] in
    let kept = ap (λ words. caller words list display virt) made.1 in
    let typed : Typed w = record { display-bytes = display-bytes; virt-bytes = virt-bytes; kept = none_kept } in
    let found : world_in (image_of w) ≡ w = ap (λ b. world b list display virt) (decodes-encoded (fresh_board z) none_kept) in
    subst (λ k. Throughout z.extent calls (world_in k) (returns_to calls k) p) (sym kept)
    (subst (λ v. Throughout z.extent calls v (returns_to calls (image_of w)) p) (sym found)
    (subst (λ answers. Throughout z.extent calls w answers p) (sym (returns-same calls w typed bytes))
    (demand3 width height entries made.0 list display virt list-long display-long virt-long calls)))
