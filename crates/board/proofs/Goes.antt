-- Runs: how they begin, go on and compose.
-- Assumes nothing.
use mathlib.Core.Path.{◌≡◌, refl, ap, sym, subst, ◌∙◌}
use mathlib.Core.Bool.{Bool, true, false, false≢true}
use mathlib.Core.List.{List}
use Prim.Native.Nat.{ℕ, zero, suc, ◌+◌, ◌-◌}
use native.Mathlib.Numerals.{add-one}
use native.Mathlib.Omega.{arith}
use Rattle.lemmas.proofs.Booleans.{by_cases, second-of}
use Rattle.geometry.specs.declared.Extent.{Extent}
use Rattle.lists.specs.Cursors.{fetched_of, ended_of}
use Rattle.lists.specs.declared.cursors.Cursor.{Cursor}
use Rattle.lists.specs.declared.cursors.Next.{Next}
use Rattle.lists.specs.declared.cursors.Next.TheVariants.{Ended, Visit, Take, Broken}
use Rattle.lists.proofs.Fetches.{ended-next}
use Rattle.commands.specs.Steps.{Scene, visit_of, taken_of}
use Rattle.leaps.specs.ListRuns.{Reached, stopped, longer, by_step, run_from, Going}
use Rattle.leaps.proofs.Running.{by_next_lem, within}
use Rattle.answers.specs.Reports.{report}
use Rattle.board.specs.Record.{well_formed}
use Rattle.board.specs.Steps.{Machine, machine, next_on, with_steps, settled_of, moved_to, scene_of, act_of, step_of}
use Rattle.board.specs.Runs.{Outcome, ended, added, by_next, run_of}
use Rattle.board.specs.Left.{RunsCompose}
use Rattle.board.specs.declared.record.Board.{Board}
use Rattle.board.proofs.Keeps.{followed, stays-well-formed}

-- ---- one step of a run

pub run_by : (l : List ℕ) (m : Machine) (x : Next) (k : ℕ) → next_on l m.board ≡ x
    → run_of (suc k) l m ≡ by_next x m (run_of k l (step_of l m))
unfolding run_of
run_by l m x k e = ap (λ x. by_next x m (run_of k l (step_of l m))) e

step_by_lem : (l : List ℕ) (m : Machine) (x : Next) → next_on l m.board ≡ x → step_of l m ≡ act_of x m
unfolding step_of
step_by_lem l m x e = ap (λ x. act_of x m) e

-- ---- sums of steps

pub added_none : (o : Outcome) → o ≡ added 0 o
added_none o i = record { report = report o.report.number o.report.place (same i); after = o.after }
  where
    same : o.report.steps ≡ o.report.steps + 0
    same = omega arith

pub added-added : (j k : ℕ) (o : Outcome) → added j (added k o) ≡ added (k + j) o
added-added j k o i = record { report = report o.report.number o.report.place (same i); after = o.after }
  where
    same : o.report.steps + k + j ≡ o.report.steps + (k + j)
    same = omega arith

-- ---- a run of one list is a leap

-- whether the active list has neither entries nor pixels left
abbrev pub over : Board → Bool
over b = ended_of b.active.cursor b.engine.under_way

pub settle-live : (b : Board) → over b ≡ false → settled_of b ≡ b
unfolding settled_of
settle-live b h = sym (second-of (over b) (followed b) b h)

-- the machine after steps of its active list
abbrev pub after : Machine → Reached → Machine
after m r = moved_to m r.cursor r.after

-- steps of the list lead to where a run of so many steps does
pub record Leads (l : List ℕ) (m : Machine) (r : Reached) : Type 0 where
  pub well : well_formed (after m r).board ≡ true
  pub run : (k : ℕ) → run_of (k + r.steps) l m ≡ added r.steps (run_of k l (after m r))
  pub stops : r.broken ≡ true → next_on l (after m r).board ≡ Broken

leads-none : (l : List ℕ) (m : Machine) (broken : Bool) → well_formed m.board ≡ true → over m.board ≡ false
    → (broken ≡ true → next_on l m.board ≡ Broken) → Leads l m (stopped m.board.active.cursor (scene_of m) broken)
leads-none l m broken w e stop =
    let here = settle-live m.board e in
    record {
      well = subst (λ b. well_formed b ≡ true) (sym here) w;
      run = λ k.
          ap (λ k. run_of k l m) (none k) ∙ added_none (run_of k l m) ∙ ap (λ b. added 0 (run_of k l (machine b m.display m.virt)))
          (sym here);
      stops = λ t. subst (λ b. next_on l b ≡ Broken) (sym here) (stop t);
    }
  where
    none : (k : ℕ) → k + 0 ≡ k
    none k = omega arith

-- one step to the record o before it is settled, and a run of the list from there
leads-more : (l : List ℕ) (m o : Machine) (x : Next) (r : Reached) → next_on l m.board ≡ x → ((o : Outcome) → by_next x m o ≡ added 1 o)
    → well_formed m.board ≡ true → act_of x m ≡ machine (settled_of o.board) o.display o.virt → after m r ≡ after o r
    → (well_formed o.board ≡ true → over o.board ≡ false → Leads l o r)
    → (over o.board ≡ true → r ≡ stopped o.board.active.cursor (scene_of o) false) → Leads l m (longer 1 r)
leads-more l m o x r e goes w acts same more none-more =
    by_cases (over o.board)
    (λ t.
    let there : after m r ≡ step_of l m = same ∙ ap (after o) (none-more t) ∙ sym stepped in
    let none : r.steps ≡ 0 = ap (λ (r : Reached). r.steps) (none-more t) in
    let single : r.steps + 1 ≡ 1 = omega arith in
    record {
      well = subst (λ n. well_formed n.board ≡ true) (sym there) (stays-well-formed l m w);
      run = λ k.
          ap (λ j. run_of (k + j) l m) single ∙ ap (λ j. run_of j l m) (add-one k) ∙ one k
          ∙ ap (λ n. added 1 (run_of k l n)) (sym there) ∙ ap (λ j. added j (run_of k l (after m r))) (sym single);
      stops = λ b. absurd (false≢true (sym (ap (λ (r : Reached). r.broken) (none-more t)) ∙ b));
    })
    (λ t.
    let here : step_of l m ≡ o = stepped ∙ ap (λ b. machine b o.display o.virt) (settle-live o.board t) in
    let on = more (subst (λ n. well_formed n.board ≡ true) here (stays-well-formed l m w)) t in
    record {
      well = subst (λ n. well_formed n.board ≡ true) (sym same) on.well;
      run = λ k.
          ap (λ j. run_of j l m) (regroup k) ∙ one (k + r.steps) ∙ ap (λ n. added 1 (run_of (k + r.steps) l n)) here
          ∙ ap (added 1) (on.run k) ∙ added-added 1 r.steps (run_of k l (after o r))
          ∙ ap (λ n. added (r.steps + 1) (run_of k l n)) (sym same);
      stops = λ b. subst (λ n. next_on l n.board ≡ Broken) (sym same) (on.stops b);
    })
  where
    stepped : step_of l m ≡ machine (settled_of o.board) o.display o.virt
    stepped = step_by_lem l m x e ∙ acts

    one : (k : ℕ) → run_of (suc k) l m ≡ added 1 (run_of k l (step_of l m))
    one k = run_by l m x k e ∙ goes (run_of k l (step_of l m))

    regroup : (k : ℕ) → k + (r.steps + 1) ≡ suc (k + r.steps)
    regroup k = omega arith

-- a run of the active list
abbrev pub on_list : ℕ → List ℕ → Machine → Reached
on_list budget l m = run_from budget l m.board.sizes.extent m.board.active.cursor (scene_of m)

-- at its end a list has no steps
pub ended-list : (budget : ℕ) (l : List ℕ) (extent : Extent) (c : Cursor) (s : Scene) → ended_of c s.engine.under_way ≡ true
    → run_from budget l extent c s ≡ stopped c s false
unfolding run_from
ended-list zero l extent c s h = refl
ended-list (suc budget) l extent c s h = by_next_lem l extent budget c s Ended (ended-next l c s.engine.under_way h)

pub list-leads : (budget : ℕ) (l : List ℕ) (m : Machine) → well_formed m.board ≡ true → over m.board ≡ false
    → Leads l m (on_list budget l m)
unfolding run_from
list-leads zero l m w e = leads-none l m false w e (λ f. absurd (false≢true f))
list-leads (suc budget) l m w e = go (list-leads budget l) (next_on l m.board) refl
  where
    b : Board
    b = m.board

    by : (x : Next) → next_on l b ≡ x
        → on_list (suc budget) l m
        ≡ by_step b.sizes.extent x b.active.cursor (scene_of m) (run_from budget l b.sizes.extent b.active.cursor (visit_of
        b.sizes.extent (scene_of m)))
        (run_from budget l b.sizes.extent)
    by x h = by_next_lem l b.sizes.extent budget b.active.cursor (scene_of m) x h

    go : ((o : Machine) → well_formed o.board ≡ true → over o.board ≡ false → Leads l o (on_list budget l o)) → (x : Next)
        → next_on l b ≡ x
        → Leads l m (on_list (suc budget) l m)
    go rest Ended h = subst (Leads l m) (sym (by Ended h)) (leads-none l m false w e (λ f. absurd (false≢true f)))
    go rest Visit h =
        let s = visit_of b.sizes.extent (scene_of m) in
        let o = machine (with_steps b b.active.cursor s.engine s.fill) s.display s.virt in
        subst (Leads l m) (sym (by Visit h))
        (leads-more l m o Visit (on_list budget l o) h (λ _. refl) w refl refl (rest o) (ended-list budget l b.sizes.extent
        o.board.active.cursor (scene_of o)))
    go rest (Take x) h =
        let s = taken_of b.sizes.extent (scene_of m) x in
        let o = machine (with_steps b (fetched_of b.active.cursor) s.engine s.fill) s.display s.virt in
        subst (Leads l m) (sym (by (Take x) h))
        (leads-more l m o (Take x) (on_list budget l o) h (λ _. refl) w refl refl (rest o) (ended-list budget l b.sizes.extent
        o.board.active.cursor (scene_of o)))
    go rest Broken h = subst (Leads l m) (sym (by Broken h)) (leads-none l m true w e (λ _. h))

-- k steps of a run of the list, after which the record is well formed: the rest of the board's run is that from there
pub going_on : (budget : ℕ) (l : List ℕ) (m : Machine) (k : ℕ) (c : Cursor) (s : Scene) → well_formed m.board ≡ true
    → over m.board ≡ false → Going l m.board.sizes.extent budget m.board.active.cursor (scene_of m) k c s
    → well_formed (moved_to m c s).board ≡ true → added k (run_of (budget - k) l (moved_to m c s)) ≡ run_of budget l m
going_on budget l m k c s w live going well = by_cases (over o.board) list_over goes_on
  where
    o : Machine
    o = machine (with_steps m.board c s.engine s.fill) s.display s.virt

    more : Reached
    more = on_list (budget - k) l o

    led : (r : Reached) → more ≡ r → Leads l m (longer k r)
    led r e = subst (Leads l m) (sym going.same ∙ ap (longer k) e) (list-leads budget l m w live)

    list_over : over o.board ≡ true → added k (run_of (budget - k) l (moved_to m c s)) ≡ run_of budget l m
    list_over t =
        let all : budget - k + (0 + k) ≡ budget = omega (arith, going.under) in
        let none : 0 + k ≡ k = omega arith in
        ap (λ i. added i (run_of (budget - k) l (moved_to m c s))) (sym none)
        ∙ sym ((led (stopped c s false) (ended-list (budget - k) l m.board.sizes.extent c s t)).run (budget - k))
        ∙ ap (λ i. run_of i l m) all

    goes_on : over o.board ≡ false → added k (run_of (budget - k) l (moved_to m c s)) ≡ run_of budget l m
    goes_on t =
        let here : moved_to m c s ≡ o = ap (λ b. machine b s.display s.virt) (settle-live o.board t) in
        let on = list-leads (budget - k) l o (subst (λ n. well_formed n.board ≡ true) here well) t in
        let few = (within l m.board.sizes.extent (budget - k) c s).few in
        let j = budget - k - more.steps in
        let rest : budget - k ≡ j + more.steps = omega (arith, few) in
        let all : j + (more.steps + k) ≡ budget = omega (arith, few, going.under) in
        ap (λ n. added k (run_of (budget - k) l n)) here ∙ ap (λ i. added k (run_of i l o)) rest ∙ ap (added k) (on.run j)
        ∙ added-added k more.steps (run_of j l (after o more)) ∙ sym ((led more refl).run j) ∙ ap (λ i. run_of i l m) all

-- ---- a run of a + b steps

-- with no step left every run ends at once
idle-run : (l : List ℕ) (m : Machine) (k : ℕ) → next_on l m.board ≡ Ended → run_of k l m ≡ ended 0 m
unfolding run_of
idle-run l m zero e = refl
idle-run l m (suc k) e = run_by l m Ended k e

-- what the law says of the outcome o of the first run
Composes : ℕ → ℕ → List ℕ → Machine → Outcome → Type 0
Composes a b l m o = o.report.number ≡ 0 → run_of (a + b) l m ≡ added o.report.steps (run_of b l o.after)

composes-step : (a b : ℕ) (l : List ℕ) (m : Machine) (x : Next) → next_on l m.board ≡ x → ((o : Outcome) → by_next x m o ≡ added 1 o)
    → Composes a b l (step_of l m) (run_of a l (step_of l m)) → Composes (suc a) b l m (run_of (suc a) l m)
unfolding Composes
composes-step a b l m x e goes more =
    let n = step_of l m in
    let o = run_of a l n in
    let rest = run_of b l o.after in
    subst (λ o. Composes (suc a) b l m o) (sym (run_by l m x a e ∙ goes o))
    (λ h.
    let longer : suc a + b ≡ suc (a + b) = omega arith in
    ap (λ k. run_of k l m) longer ∙ run_by l m x (a + b) e ∙ goes (run_of (a + b) l n) ∙ ap (added 1) (more h)
    ∙ added-added 1 o.report.steps rest)

composes-by : (a b : ℕ) (l : List ℕ) (m : Machine) (x : Next) → next_on l m.board ≡ x
    → Composes a b l (step_of l m) (run_of a l (step_of l m)) → Composes (suc a) b l m (run_of (suc a) l m)
unfolding Composes
composes-by a b l m Ended e more =
    subst (λ o. Composes (suc a) b l m o) (sym (run_by l m Ended a e))
    (λ h. idle-run l m (suc a + b) e ∙ added_none (ended 0 m) ∙ ap (added 0) (sym (idle-run l m b e)))
composes-by a b l m Visit e more = composes-step a b l m Visit e (λ _. refl) more
composes-by a b l m (Take x) e more = composes-step a b l m (Take x) e (λ _. refl) more
composes-by a b l m Broken e more =
    subst (λ o. Composes (suc a) b l m o) (sym (run_by l m Broken a e)) (λ h. absurd (omega arith))

composes : (a b : ℕ) (l : List ℕ) (m : Machine) → Composes a b l m (run_of a l m)
unfolding Composes run_of
composes zero b l m h =
    let same : zero + b ≡ b = omega arith in
    ap (λ k. run_of k l m) same ∙ added_none (run_of b l m)
composes (suc a) b l m h = composes-by a b l m (next_on l m.board) refl (composes a b l (step_of l m)) h

pub runs-compose : RunsCompose
unfolding Composes
runs-compose a b l m h = composes a b l m h
