-- A run to the end of both lists does what is under way and every entry to come: each step does what is at the front.
-- Assumes nothing.
use mathlib.Core.Path.{◌≡◌, refl, ap, ap₂, sym, ◌∙◌}
use mathlib.Core.Bool.{true, false, false≢true}
use mathlib.Core.List.{List, ◌++◌, append-nil}
use Prim.Native.Nat.{ℕ, zero, suc, ◌+◌, ◌-◌, ◌≤◌}
use native.Mathlib.Omega.{arith}
use borrow.Author.Tests.{eq-eqb, leb-true, leb-false}
use lib.Dec.{leb}
use lib.ListN.{length}
use Rattle.lemmas.proofs.Booleans.{by_cases}
use Rattle.entries.specs.declared.decoding.Entry.{Entry}
use Rattle.commands.specs.Visits.{shows}
use Rattle.commands.specs.Steps.{Scene, visit_of, taken_of}
use Rattle.commands.specs.Wholes.{done_of}
use Rattle.commands.proofs.Counts.{visit-done, take_done, none_done}
use Rattle.commands.proofs.Unchanged.{picture-unchanged}
use Rattle.lists.specs.Spans.{span_of}
use Rattle.lists.specs.Cursors.{cursor_on, fetched_of, entries_from, rest_of}
use Rattle.lists.specs.declared.cursors.Cursor.{Cursor}
use Rattle.lists.specs.declared.cursors.Next.{Next}
use Rattle.lists.specs.declared.cursors.Next.TheVariants.{Ended, Visit, Take, Broken}
use Rattle.lists.proofs.Fetches.{chosen}
use Rattle.slots.specs.Slots.{slot_with, active_on, slot_of, lent_ok}
use Rattle.slots.specs.Calls.{post_report}
use Rattle.slots.proofs.Slotted.{slot-rest}
use Rattle.board.specs.Record.{well_formed}
use Rattle.board.specs.Steps.{Machine, machine, next_on, with_steps, moved_to, scene_of, act_of, step_of}
use Rattle.board.specs.Runs.{Outcome, by_next, run_of, run_call}
use Rattle.board.specs.Left.{to_come, steps_left}
use Rattle.board.specs.Wholes.{RunsToTheEnd, PostedUnchanged}
use Rattle.board.specs.Calls.{posted_of, post_call}
use Rattle.board.specs.declared.record.Board.{Board}
use Rattle.board.proofs.Forms.{Good, good_of, none-waits, at_rest, pixels-of}
use Rattle.board.proofs.Keeps.{stays-well-formed, settled-sizes}
use Rattle.board.proofs.Counts.{settled-to-come, settled-scene, none-to-come, ended-free, visit-left, take_left, stays-busy, busy-left}

-- what the rest of both lists leaves
abbrev rest_done : List ℕ → Machine → Scene
rest_done l m = done_of m.board.sizes.extent (scene_of m) (to_come l m.board)

-- after a step of the active list
moved-done : (l : List ℕ) (m : Machine) (c : Cursor) (s : Scene)
    → rest_done l (moved_to m c s) ≡ done_of m.board.sizes.extent s (rest_of l c ++ rest_of l (cursor_on m.board.pending.span))
moved-done l m c s =
    let b = with_steps m.board c s.engine s.fill in
    let z = settled-sizes b in
    λ i. done_of (z i).extent (settled-scene b s.display s.virt i) (settled-to-come l b i)

-- a board without a list has nothing left
free-done : (l : List ℕ) (m : Machine) → Good m.board → m.board.active.taken ≡ false → rest_done l m ≡ scene_of m
free-done l m g t =
    let extent = m.board.sizes.extent in
    ap (done_of extent (scene_of m)) (none-to-come l m.board g t) ∙ none_done shows extent (scene_of m) (at_rest m.board g t)

visit-rest : (l : List ℕ) (m : Machine) → next_on l m.board ≡ Visit → Good m.board → rest_done l (act_of Visit m) ≡ rest_done l m
visit-rest l m e g =
    let b = m.board in
    let u = chosen l b.active.cursor b.engine.under_way Visit e in
    moved-done l m b.active.cursor (visit_of b.sizes.extent (scene_of m))
    ∙ sym (visit-done shows b.sizes.extent (scene_of m) u (pixels-of b g u) (to_come l b))

take_rest : (l : List ℕ) (m : Machine) (x : Entry) → next_on l m.board ≡ Take x → rest_done l (act_of (Take x) m) ≡ rest_done l m
take_rest l m x e =
    let b = m.board in
    let c = chosen l b.active.cursor b.engine.under_way (Take x) e in
    let next = rest_of l (cursor_on b.pending.span) in
    moved-done l m (fetched_of b.active.cursor) (taken_of b.sizes.extent (scene_of m) x)
    ∙ sym
    (ap (λ es. done_of b.sizes.extent (scene_of m) (es ++ next)) c.head
    ∙ take_done shows b.sizes.extent (scene_of m) c.resting x (rest_of l (fetched_of b.active.cursor) ++ next))

whole_by : (k : ℕ) (l : List ℕ) (m : Machine) (more : Outcome) (x : Next) → next_on l m.board ≡ x → Good m.board
    → (more.report.number ≡ 0 → steps_left l (act_of x m) ≤ k → scene_of more.after ≡ rest_done l (act_of x m))
    → (by_next x m more).report.number ≡ 0 → steps_left l m ≤ suc k → scene_of (by_next x m more).after ≡ rest_done l m
whole_by k l m more Ended e g f h n = sym (free-done l m g (ended-free l m.board g e))
whole_by k l m more Visit e g f h n = f h (omega (arith, n, visit-left l m e g)) ∙ visit-rest l m e g
whole_by k l m more (Take x) e g f h n = f h (omega (arith, n, take_left l m x e g)) ∙ take_rest l m x e
whole_by k l m more Broken e g f h n = absurd (omega arith)

pub runs-to-the-end : RunsToTheEnd
unfolding run_of step_of
runs-to-the-end zero l m w h n =
    let g = good_of m.board w in
    by_cases m.board.active.taken (λ t. absurd (omega (arith, n, busy-left l m g t))) (λ t. sym (free-done l m g t))
runs-to-the-end (suc k) l m w h n =
    whole_by k l m (run_of k l (step_of l m)) (next_on l m.board) refl (good_of m.board w)
    (runs-to-the-end k l (step_of l m) (stays-well-formed l m w))
    h
    n

-- ---- a list posted on an idle board
abbrev posted_on : Board → ℕ → ℕ → Board
posted_on b start count =
    record { sizes = b.sizes; active = active_on (slot_with (span_of start count)); pending = b.pending; engine = b.engine; fill = b.fill }

posted-is : (l : List ℕ) (start count : ℕ) (b : Board) → b.active.taken ≡ false → (post_call l start count b).report.number ≡ 0
    → (well_formed b ≡ true) × ((post_call l start count b).board ≡ posted_on b start count)
unfolding post_call posted_of
posted-is l start count b idle h =
    by_cases (well_formed b)
    (λ t.
    let said = post_report b.sizes (slot_of b.active) b.pending l start count in
    let zero : said.number ≡ 0 = rw t at h in
    (t, rw (t, eq-eqb said.number 0 zero, idle)))
    (λ t. let one : ◌≡◌ {A = ℕ} 1 0 = rw t at h in absurd (omega arith))

called_is : (budget : ℕ) (l : List ℕ) (m : Machine) → (run_call budget l m).report.number ≡ 0
    → (well_formed m.board ≡ true) × (run_call budget l m ≡ run_of budget l m)
unfolding run_call
called_is budget l m h =
    let fits = lent_ok m.board.sizes (length l) (length m.display) (length m.virt) in
    by_cases (well_formed m.board)
    (λ t.
    by_cases fits (λ f. (t, rw (t, f)))
    (λ f. let two : ◌≡◌ {A = ℕ} 2 0 = rw (t, f) at h in absurd (omega arith)))
    (λ t. let one : ◌≡◌ {A = ℕ} 1 0 = rw t at h in absurd (omega arith))

-- a run that empties the board had budget enough
enough : (budget : ℕ) (l : List ℕ) (m : Machine) → well_formed m.board ≡ true → (run_of budget l m).report.number ≡ 0
    → (run_of budget l m).after.board.active.taken ≡ false → steps_left l m ≤ budget
enough budget l m w h t =
    by_cases (leb (steps_left l m) budget) (λ u. leb-true (steps_left l m) budget u)
    (λ u. absurd (false≢true (sym t ∙ stays-busy budget l m w (leb-false (steps_left l m) budget u) h)))

posted-to-come : (l : List ℕ) (start count : ℕ) (b : Board) → well_formed b ≡ true → b.active.taken ≡ false
    → to_come l (posted_on b start count) ≡ entries_from l start count
posted-to-come l start count b w idle =
    let g = good_of b w in
    let all : start + count - start ≡ count = omega arith in
    ap₂ (λ n es. entries_from l start n ++ es) all (slot-rest b.pending b.sizes.entries l g.pending (none-waits b g idle))
    ∙ append-nil (entries_from l start count)

pub posted-rest : (l : List ℕ) (start count : ℕ) (b : Board) → b.active.taken ≡ false → (post_call l start count b).report.number ≡ 0
    → b.engine.under_way ≡ false
posted-rest l start count b idle p = at_rest b (good_of b (posted-is l start count b idle p).0) idle

-- and a run that empties the board
pub posted-done : (b : Board) (l : List ℕ) (start count budget : ℕ) (d v : List ℕ) → b.active.taken ≡ false →
    let p = post_call l start count b in
    let r = run_call budget l (machine p.board d v) in
    p.report.number ≡ 0 → r.report.number ≡ 0 → r.after.board.active.taken ≡ false
    → scene_of r.after ≡ done_of b.sizes.extent (scene_of (machine b d v)) (entries_from l start count)
posted-done b l start count budget d v idle p r emptied =
    let posted = posted-is l start count b idle p in
    let m = machine (post_call l start count b).board d v in
    let call = called_is budget l m r in
    let answered = ap (λ (o : Outcome). o.report.number) (sym call.1) ∙ r in
    let over = ap (λ (o : Outcome). o.after.board.active.taken) (sym call.1) ∙ emptied in
    ap (λ (o : Outcome). scene_of o.after) call.1
    ∙ runs-to-the-end budget l m call.0 answered (enough budget l m call.0 answered over)
    ∙ ap (λ (x : Board). rest_done l (machine x d v)) posted.1
    ∙ ap (done_of b.sizes.extent (scene_of (machine b d v))) (posted-to-come l start count b posted.0 idle)

pub posted-unchanged : PostedUnchanged
posted-unchanged b l start count budget d v idle p r emptied =
    posted-done b l start count budget d v idle p r emptied
    ∙ picture-unchanged b.sizes.extent (scene_of (machine b d v)) (entries_from l start count) (posted-rest l start count b idle p)
