-- Each call does to the board what feeding it does to the paper board, and a run reports its steps.
-- Assumes nothing.
use mathlib.Core.Path.{◌≡◌, refl, ap, sym, subst, ◌∙◌}
use mathlib.Core.Bool.{true}
use Prim.Native.Nat.{ℕ, ◌*◌, min}
use native.Mathlib.Omega.{arith}
use borrow.Author.Tests.{eq-eqb}
use lib.ListN.{length}
use Rattle.lemmas.proofs.Booleans.{both}
use Rattle.slots.specs.Slots.{area_of, lent_ok}
use Rattle.board.specs.Runs.{Outcome, run_of, run_call}
use Rattle.commands.specs.Wholes.{steps_of}
use Rattle.board.proofs.Forms.{good_of}
use Rattle.board.proofs.Counts.{lesser}
use Rattle.board.proofs.Refused.{run-accepted}
use Rattle.statements.specs.Paper.{Call, post, store, write, run, feed, import, export, fed, steps_to_empty}
use Rattle.statements.specs.World.{World, Called, called}
use Rattle.statements.specs.Demand.{Reports}
use Rattle.statements.proofs.Abstract.{paper_of, Valid, machine_of, onto, Runs, runs, queue-to-come}
use Rattle.statements.proofs.Kept.{Kept}
use Rattle.statements.proofs.Empties.{empties}
use Rattle.statements.proofs.Posting.{post-kept}
use Rattle.statements.proofs.Storing.{store_kept}
use Rattle.statements.proofs.Feeding.{feed-kept}
use Rattle.statements.proofs.Picturing.{import-kept, export-kept}
use Rattle.statements.proofs.Writing.{write_kept}

-- ---- run
lent-right : (w : World) → Valid w → lent_ok w.board.sizes (length w.list) (length w.display) (length w.virt) ≡ true
lent-right w v =
    let z = w.board.sizes in
    both (both (eq-eqb (length w.list) (5 * z.entries) v.list-long) (eq-eqb (length w.display) (area_of z) v.display-long))
    (eq-eqb (length w.virt) (area_of z) v.virt-long)

run_is : (budget : ℕ) (w : World) → Valid w → run_of budget w.list (machine_of w) ≡ run_call budget w.list (machine_of w)
run_is budget w v = run-accepted budget w.list (machine_of w) v.well (lent-right w v) (run_of budget w.list (machine_of w)) refl

abbrev ran_of : World → Outcome → Called
ran_of w o = record { report = o.report; after = onto w o.after }

ran-kept : (w : World) (budget : ℕ) (o : Outcome) → Runs w o → Kept w (run budget) (ran_of w o)
unfolding fed
ran-kept w budget o r =
    record {
      valid = r.valid;
      sizes-same = r.sizes-same;
      paper-same = r.steps-same;
      one-by-feed = λ h. let z = r.done in omega arith;
      no_nine = λ h. let z = r.done in omega arith;
    }

run-kept : (w : World) (v : Valid w) (budget : ℕ) → Kept w (run budget) (called (run budget) w)
unfolding called
run-kept w v budget =
    subst (λ o. Kept w (run budget) (ran_of w o)) (run_is budget w v)
    (ran-kept w budget (run_of budget w.list (machine_of w)) (runs budget w v))

-- ---- every call
pub keeps : (c : Call) (w : World) → Valid w → Kept w c (called c w)
keeps (post start count) w v = post-kept w v start count
keeps (store first bytes) w v = store_kept w v first bytes
keeps (write number offset bytes) w v = write_kept w v number offset bytes
keeps (run budget) w v = run-kept w v budget
keeps (feed f piece) w v = feed-kept w v f piece
keeps (import number picture) w v = import-kept w v number picture
keeps (export number output) w v = export-kept w v number output

run-reports : (w : World) (budget : ℕ) → Valid w → (o : Outcome) → o ≡ run_of budget w.list (machine_of w) → o.report.number ≡ 0
    → o.report.steps ≡ min budget (steps_to_empty w.board.sizes.extent (paper_of w))
run-reports w budget v o e z =
    let b = w.board in
    ap (λ o. o.report.steps) e
    ∙ lesser budget w.list (machine_of w) v.well (ap (λ o. o.report.number) (sym e) ∙ z)
    ∙ ap (λ es. min budget (steps_of b.sizes.extent (paper_of w).drawing es)) (sym (queue-to-come w.list b (good_of b v.well)))

pub reports : (c : Call) (w : World) → Valid w → Reports w.board.sizes.extent c (called c w) (paper_of w)
unfolding called
reports (post start count) w v = tt
reports (store first bytes) w v = tt
reports (write number offset bytes) w v = tt
reports (feed f piece) w v = tt
reports (import number picture) w v = tt
reports (export number output) w v = tt
reports (run budget) w v = (empties w v, run-reports w budget v (run_call budget w.list (machine_of w)) (sym (run_is budget w v)))
