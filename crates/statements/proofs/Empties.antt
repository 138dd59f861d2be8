-- The steps that would empty the queue are the steps left on the board: so many steps of the paper board are those of a run,
-- which ends idle with that budget and not with less.
-- Assumes nothing.
use mathlib.Core.Path.{◌≡◌, ap, sym, subst, ◌∙◌}
use mathlib.Core.Bool.{true}
use mathlib.Core.List.{List, [], ◌∷◌}
use Prim.Native.Nat.{ℕ, ◌≤◌}
use native.Mathlib.Omega.{arith}
use Rattle.commands.specs.Wholes.{steps_of}
use Rattle.geometry.specs.declared.Extent.{Extent}
use Rattle.board.specs.Left.{steps_left}
use Rattle.board.specs.Runs.{run_of}
use Rattle.board.specs.declared.record.Board.{Board}
use Rattle.board.proofs.Forms.{good_of}
use Rattle.board.proofs.Counts.{lesser, ends-idle, stays-busy}
use Rattle.statements.specs.Paper.{Item, steps_on, steps_to_empty}
use Rattle.statements.specs.World.{World}
use Rattle.statements.specs.Demand.{Empties}
use Rattle.statements.proofs.Abstract.{queue_of, paper_of, Valid, machine_of, onto, front, queue-to-come, runs}
use Rattle.statements.proofs.Kept.{idle-queue}

-- a board with a list has a queue
busy-queue : (l : List ℕ) (b : Board) → b.active.taken ≡ true → queue_of l b ≡ [] → ⊥
busy-queue l b t e = some (front l b t) e
  where
    some : {i : Item} {q r : List Item} → r ≡ i ∷ q → r ≡ [] → ⊥
    some p q = let z : ◌≡◌ {A = ℕ} 0 1 = cc in omega arith

module _ (w : World) (v : Valid w) where
  abbrev extent : Extent
  extent = w.board.sizes.extent

  abbrev left : ℕ
  left = steps_left w.list (machine_of w)

  left-same : left ≡ steps_to_empty extent (paper_of w)
  left-same =
      let b = w.board in
      ap (steps_of extent (paper_of w).drawing) (sym (queue-to-come w.list b (good_of b v.well)))

  -- k steps of the paper board, no more than are left
  reached : (k : ℕ) → k ≤ left → steps_on k extent (paper_of w) ≡ paper_of (onto w (run_of k w.list (machine_of w)).after)
  reached k h =
      let r = runs k w v in
      let steps : (run_of k w.list (machine_of w)).report.steps ≡ k = omega (arith, lesser k w.list (machine_of w) v.well r.done) in
      ap (λ j. steps_on j extent (paper_of w)) (sym steps) ∙ r.steps-same

  pub left-empties : Empties extent left (paper_of w)
  left-empties =
      record {
        empty =
            let r = runs left w v in
            let b = (run_of left w.list (machine_of w)).after.board in
            ap (λ p. p.queue) (reached left (omega arith))
            ∙ idle-queue w.list b (good_of b r.valid.well) (ends-idle w.list (machine_of w) v.well r.done);
        not-before = λ k h none.
            let r = runs k w v in
            let o = run_of k w.list (machine_of w) in
            busy-queue w.list o.after.board (stays-busy k w.list (machine_of w) v.well h r.done)
            (sym (ap (λ p. p.queue) (reached k (omega arith))) ∙ none);
      }

  pub empties : Empties extent (steps_to_empty extent (paper_of w)) (paper_of w)
  empties = subst (λ n. Empties extent n (paper_of w)) left-same left-empties
