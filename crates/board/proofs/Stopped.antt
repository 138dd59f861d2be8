-- A run that answers 9 stops at the illegal entry: by the steps of the run, each of which keeps the record well formed, its
-- sizes and the buffers' lengths, so that the same run again passes the same tests.
-- Assumes nothing.
use mathlib.Core.Path.{◌≡◌, refl, ap, sym, ◌∙◌}
use mathlib.Core.Bool.{Bool, true, false, cond}
use mathlib.Core.List.{List}
use Prim.Native.Nat.{ℕ, zero, suc, ◌<◌}
use native.Mathlib.Numerals.{add-one}
use native.Mathlib.Omega.{arith}
use lib.ListN.{length}
use Rattle.lists.specs.declared.cursors.Next.{Next}
use Rattle.lists.specs.declared.cursors.Next.TheVariants.{Ended, Visit, Take, Broken}
use Rattle.lists.proofs.Fetches.{chosen}
use Rattle.slots.specs.Slots.{lent_ok}
use Rattle.board.specs.Record.{well_formed}
use Rattle.board.specs.Steps.{Machine, next_on, step_of}
use Rattle.board.specs.Runs.{Outcome, ended, added, by_next, run_of, run_call}
use Rattle.board.specs.Stopped.{steps_from, StoppedAt, NineStops}
use Rattle.board.proofs.Keeps.{stays-well-formed, step-lengths, step-sizes}
use Rattle.board.proofs.Refused.{run-accepted}

-- whether a machine's memories have the sizes that its record says
abbrev lent_to : List ℕ → Machine → Bool
lent_to l m = lent_ok m.board.sizes (length l) (length m.display) (length m.virt)

step-lent : (l : List ℕ) (m : Machine) → lent_to l (step_of l m) ≡ lent_to l m
step-lent l m =
    let long = step-lengths l m in
    (λ i. lent_ok (step-sizes l m i) (length l) (long.0 i) (long.1 i))

-- a run that has come to an illegal entry
record Nine (budget : ℕ) (l : List ℕ) (m : Machine) (o : Outcome) : Type 0 where
  within : o.report.steps < budget
  stands : o.after ≡ steps_from o.report.steps l m
  fetches : next_on l o.after.board ≡ Broken
  well : well_formed o.after.board ≡ true
  lent : lent_to l o.after ≡ lent_to l m

nine-more : (k : ℕ) (l : List ℕ) (m : Machine) (o : Outcome) → Nine k l (step_of l m) o → Nine (suc k) l m (added 1 o)
unfolding steps_from
nine-more k l m o n =
    record {
      within = omega (arith, n.within);
      stands = n.stands ∙ ap (λ k. steps_from k l m) (sym (add-one o.report.steps));
      fetches = n.fetches;
      well = n.well;
      lent = n.lent ∙ step-lent l m;
    }

nine-by : (k : ℕ) (l : List ℕ) (m : Machine) (more : Outcome) (x : Next) → next_on l m.board ≡ x → well_formed m.board ≡ true
    → (more.report.number ≡ 9 → Nine k l (step_of l m) more) → (by_next x m more).report.number ≡ 9 → Nine (suc k) l m (by_next x m more)
unfolding steps_from
nine-by k l m more Ended e w f h = absurd (omega arith)
nine-by k l m more Visit e w f h = nine-more k l m more (f h)
nine-by k l m more (Take x) e w f h = nine-more k l m more (f h)
nine-by k l m more Broken e w f h =
    record { within = omega arith; stands = refl; fetches = e; well = w; lent = refl }

nine-run : (k : ℕ) (l : List ℕ) (m : Machine) → well_formed m.board ≡ true → (run_of k l m).report.number ≡ 9 → Nine k l m (run_of k l m)
unfolding run_of
nine-run zero l m w h = absurd (omega arith)
nine-run (suc k) l m w h =
    nine-by k l m (run_of k l (step_of l m)) (next_on l m.board) refl w (nine-run k l (step_of l m) (stays-well-formed l m w)) h

-- a run at an illegal entry
stuck : (k : ℕ) (l : List ℕ) (m : Machine) → next_on l m.board ≡ Broken → ended 9 m ≡ run_of (suc k) l m
unfolding run_of
stuck k l m e = ap (λ x. by_next x m (run_of k l (step_of l m))) (sym e)

stopped-at : (budget : ℕ) (l : List ℕ) (m : Machine) (o : Outcome) → lent_to l m ≡ true → Nine budget l m o → StoppedAt budget l m o
stopped-at budget l m o lent n =
    let b = o.after.board in
    let entry = chosen l b.active.cursor b.engine.under_way Broken n.fetches in
    record {
      within = n.within;
      stands = n.stands;
      fetches = n.fetches;
      in_list = entry.more;
      illegal = entry.illegal;
      well = n.well;
      again = λ k. sym (run-accepted (suc k) l o.after n.well (n.lent ∙ lent) (ended 9 o.after) (stuck k l o.after n.fetches));
    }

-- the tests of the call
by_tests : (budget : ℕ) (l : List ℕ) (m : Machine) (well lent : Bool) → well_formed m.board ≡ well → lent_to l m ≡ lent →
    let o = cond well (cond lent (run_of budget l m) (ended 2 m)) (ended 1 m) in
    o.report.number ≡ 9 → StoppedAt budget l m o
by_tests budget l m false lent w s h = absurd (omega arith)
by_tests budget l m true false w s h = absurd (omega arith)
by_tests budget l m true true w s h = stopped-at budget l m (run_of budget l m) s (nine-run budget l m w h)

pub nine-stops : NineStops
unfolding run_call
nine-stops budget l m h = by_tests budget l m (well_formed m.board) (lent_to l m) refl refl h
