-- A run that answers 0 reports the lesser of its budget and the steps left in both lists, and ends idle where these are its
-- budget: each step has one fewer left.
-- Assumes nothing.
use mathlib.Core.Path.{◌≡◌, refl, ap, ap₂, sym, ◌∙◌}
use mathlib.Core.Bool.{true, false}
use mathlib.Core.List.{List, [], ◌∷◌, ◌++◌, append-nil}
use Prim.Native.Nat.{ℕ, zero, suc, ◌+◌, ◌-◌, ◌≤◌, min}
use native.Mathlib.Omega.{arith}
use Rattle.lemmas.proofs.Booleans.{by_cases, first_of, second-of}
use Rattle.entries.specs.Layout.{entry_of}
use Rattle.entries.specs.declared.decoding.Entry.{Entry}
use Rattle.lists.specs.Cursors.{cursor_on, fetched_of, ended_of, rest_of}
use Rattle.lists.specs.declared.cursors.Cursor.{Cursor}
use Rattle.lists.specs.declared.cursors.Next.{Next}
use Rattle.lists.specs.declared.cursors.Next.TheVariants.{Ended, Visit, Take, Broken}
use Rattle.lists.proofs.Fetches.{chosen}
use Rattle.lists.proofs.Rests.{rest_end, rest-next, ended-rest}
use Rattle.commands.specs.Visits.{shows}
use Rattle.commands.specs.Steps.{Scene, scene, visit_of, taken_of}
use Rattle.commands.specs.Wholes.{steps_of}
use Rattle.commands.proofs.Counts.{visit-steps, take_steps, none_left}
use Rattle.slots.specs.Slots.{empty_slot}
use Rattle.slots.proofs.Slotted.{active_rest, slot-rest}
use Rattle.board.specs.Record.{well_formed}
use Rattle.board.specs.Steps.{Machine, next_on, with_steps, settled_of, moved_to, scene_of, act_of, step_of}
use Rattle.board.specs.Runs.{Outcome, by_next, run_of}
use Rattle.board.specs.Left.{to_come, steps_left, LesserOfBudgetAndLeft, EndsIdle, StaysBusy}
use Rattle.board.specs.declared.record.Board.{Board}
use Rattle.board.proofs.Forms.{Good, good_of, none-waits, at_rest, pixels-of, next-below}
use Rattle.board.proofs.Keeps.{followed, stays-well-formed, run-well, settled-sizes, settled-engine, settled-fill}

-- settling leaves the rest: the next list takes its turn with no step
pub settled-to-come : (l : List ℕ) (b : Board) → to_come l (settled_of b) ≡ to_come l b
unfolding settled_of
settled-to-come l b =
    let t = ended_of b.active.cursor b.engine.under_way in
    let next = rest_of l (cursor_on b.pending.span) in
    by_cases t
    (λ h.
    ap (to_come l) (sym (first_of t (followed b) b h))
    ∙ ap (λ es. next ++ es) (rest_end l (cursor_on empty_slot.span) (omega arith)) ∙ append-nil next
    ∙ ap (λ es. es ++ next) (sym (ended-rest l b.active.cursor b.engine.under_way h)))
    (λ h. ap (to_come l) (sym (second-of t (followed b) b h)))

pub settled-scene : (b : Board) (d v : List ℕ) → scene (settled_of b).engine (settled_of b).fill d v ≡ scene b.engine b.fill d v
settled-scene b d v = ap₂ (λ e f. scene e f d v) (settled-engine b) (settled-fill b)

-- the steps left after a step of the active list
moved-left : (l : List ℕ) (m : Machine) (c : Cursor) (s : Scene)
    → steps_left l (moved_to m c s) ≡ steps_of m.board.sizes.extent s (rest_of l c ++ rest_of l (cursor_on m.board.pending.span))
moved-left l m c s =
    let b = with_steps m.board c s.engine s.fill in
    let z = settled-sizes b in
    (λ i. steps_of (z i).extent (settled-scene b s.display s.virt i) (settled-to-come l b i))

-- nothing to do
pub none-to-come : (l : List ℕ) (b : Board) → Good b → b.active.taken ≡ false → to_come l b ≡ []
none-to-come l b g t =
    ap₂ ◌++◌ (active_rest b.active b.sizes.entries b.engine.under_way l g.active t)
    (slot-rest b.pending b.sizes.entries l g.pending (none-waits b g t))

-- ended with no list left: a well formed board's list has not ended
pub ended-free : (l : List ℕ) (b : Board) → Good b → next_on l b ≡ Ended → b.active.taken ≡ false
ended-free l b g e =
    by_cases b.active.taken
    (λ t.
    let c = chosen l b.active.cursor b.engine.under_way Ended e in
    let f = next-below b g t c.0 in
    absurd (head (rest-next l b.active.cursor f.before) c.1))
    (λ t. t)
  where
    head : {e : Entry} {es fs : List Entry} → fs ≡ e ∷ es → fs ≡ [] → ⊥
    head p q = let z : ◌≡◌ {A = ℕ} 0 1 = cc in omega arith

idle-left : (l : List ℕ) (m : Machine) → next_on l m.board ≡ Ended → Good m.board → steps_left l m ≡ 0
idle-left l m e g =
    let b = m.board in
    let u = (chosen l b.active.cursor b.engine.under_way Ended e).0 in
    ap (steps_of b.sizes.extent (scene_of m)) (none-to-come l b g (ended-free l b g e))
    ∙ none_left shows b.sizes.extent (scene_of m) u

pub visit-left : (l : List ℕ) (m : Machine) → next_on l m.board ≡ Visit → Good m.board → steps_left l m ≡ 1 + steps_left l (act_of Visit m)
visit-left l m e g =
    let b = m.board in
    let u = chosen l b.active.cursor b.engine.under_way Visit e in
    visit-steps shows b.sizes.extent (scene_of m) u (pixels-of b g u) (to_come l b)
    ∙ ap (λ n. 1 + n) (sym (moved-left l m b.active.cursor (visit_of b.sizes.extent (scene_of m))))

pub take_left : (l : List ℕ) (m : Machine) (x : Entry) → next_on l m.board ≡ Take x → Good m.board
    → steps_left l m ≡ 1 + steps_left l (act_of (Take x) m)
take_left l m x e g =
    let b = m.board in
    let c = chosen l b.active.cursor b.engine.under_way (Take x) e in
    let next = rest_of l (cursor_on b.pending.span) in
    ap (λ es. steps_of b.sizes.extent (scene_of m) (es ++ next)) c.head
    ∙ take_steps shows b.sizes.extent (scene_of m) c.resting x (rest_of l (fetched_of b.active.cursor) ++ next)
    ∙ ap (λ n. 1 + n) (sym (moved-left l m (fetched_of b.active.cursor) (taken_of b.sizes.extent (scene_of m) x)))

-- a run of one step more
run_by : (k : ℕ) (l : List ℕ) (m : Machine) (more : Outcome) (x : Next) → next_on l m.board ≡ x → Good m.board
    → (more.report.number ≡ 0 → more.report.steps ≡ min k (steps_left l (act_of x m)))
    → (by_next x m more).report.number ≡ 0 → (by_next x m more).report.steps ≡ min (suc k) (steps_left l m)
run_by k l m more Ended e g f h = omega (arith, idle-left l m e g)
run_by k l m more Visit e g f h = omega (arith, f h, visit-left l m e g)
run_by k l m more (Take x) e g f h = omega (arith, f h, take_left l m x e g)
run_by k l m more Broken e g f h = omega arith

pub lesser : LesserOfBudgetAndLeft
unfolding run_of step_of
lesser zero l m w h = omega arith
lesser (suc k) l m w h =
    run_by k l m (run_of k l (step_of l m)) (next_on l m.board) refl (good_of m.board w)
    (lesser k l (step_of l m) (stays-well-formed l m w))
    h

-- ---- the steps left after a run
left_by : (k : ℕ) (l : List ℕ) (m : Machine) (more : Outcome) (x : Next) → next_on l m.board ≡ x → Good m.board
    → (more.report.number ≡ 0 → steps_left l more.after ≡ steps_left l (act_of x m) - k)
    → (by_next x m more).report.number ≡ 0 → steps_left l (by_next x m more).after ≡ steps_left l m - suc k
left_by k l m more Ended e g f h = omega (arith, idle-left l m e g)
left_by k l m more Visit e g f h = omega (arith, f h, visit-left l m e g)
left_by k l m more (Take x) e g f h = omega (arith, f h, take_left l m x e g)
left_by k l m more Broken e g f h = absurd (omega arith)

left_after : (k : ℕ) (l : List ℕ) (m : Machine) → well_formed m.board ≡ true → (run_of k l m).report.number ≡ 0
    → steps_left l (run_of k l m).after ≡ steps_left l m - k
unfolding run_of step_of
left_after zero l m w h = omega arith
left_after (suc k) l m w h =
    left_by k l m (run_of k l (step_of l m)) (next_on l m.board) refl (good_of m.board w)
    (left_after k l (step_of l m) (stays-well-formed l m w))
    h

-- a board with a list has a step left, and one without has none
pub busy-left : (l : List ℕ) (m : Machine) → Good m.board → m.board.active.taken ≡ true → 1 ≤ steps_left l m
busy-left l m g t =
    let b = m.board in
    let c = b.active.cursor in
    let next = rest_of l (cursor_on b.pending.span) in
    by_cases b.engine.under_way
    (λ u. omega (arith, visit-steps shows b.sizes.extent (scene_of m) u (pixels-of b g u) (to_come l b)))
    (λ u.
    let head = ap (λ es. steps_of b.sizes.extent (scene_of m) (es ++ next)) (rest-next l c (next-below b g t u).before) in
    omega (arith, head, take_steps shows b.sizes.extent (scene_of m) u (entry_of l c.next) (rest_of l (fetched_of c) ++ next)))

pub free-left : (l : List ℕ) (m : Machine) → Good m.board → m.board.active.taken ≡ false → steps_left l m ≡ 0
free-left l m g t =
    ap (steps_of m.board.sizes.extent (scene_of m)) (none-to-come l m.board g t)
    ∙ none_left shows m.board.sizes.extent (scene_of m) (at_rest m.board g t)

pub ends-idle : EndsIdle
ends-idle l m w h =
    let o = run_of (steps_left l m) l m in
    let none = left_after (steps_left l m) l m w h in
    let g = good_of o.after.board (run-well (steps_left l m) l m w) in
    by_cases o.after.board.active.taken (λ t. absurd (omega (arith, none, busy-left l o.after g t))) (λ t. t)

pub stays-busy : StaysBusy
stays-busy budget l m w few h =
    let o = run_of budget l m in
    let some = left_after budget l m w h in
    let g = good_of o.after.board (run-well budget l m w) in
    by_cases o.after.board.active.taken (λ t. t) (λ t. absurd (omega (arith, some, free-left l o.after g t)))
