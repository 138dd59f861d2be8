-- The paper board that a board with its memories stands for, and that each step of the one is a step of the other.
-- Assumes nothing.
use mathlib.Core.Path.{◌≡◌, refl, ap, sym, subst, ◌∙◌}
use mathlib.Core.Bool.{Bool, true, false, cond, false≢true}
use mathlib.Core.List.{List, [], ◌∷◌, ◌++◌, append-nil}
use Prim.Native.Nat.{ℕ, zero, suc, ◌*◌}
use native.Mathlib.Numerals.{add-one}
use native.Mathlib.Omega.{arith}
use lib.ListN.{length}
use Rattle.lemmas.proofs.Booleans.{by_cases, first_of, second-of}
use Rattle.geometry.specs.declared.Extent.{Extent}
use Rattle.entries.specs.Layout.{entry_of}
use Rattle.entries.specs.declared.decoding.Entry.{Entry}
use Rattle.lists.specs.Cursors.{cursor_on, fetched_of, ended_of, rest_of, AllLegal}
use Rattle.lists.specs.declared.spans.Span.{Span}
use Rattle.lists.specs.declared.cursors.Cursor.{Cursor}
use Rattle.lists.specs.declared.cursors.Next.{Next}
use Rattle.lists.specs.declared.cursors.Next.TheVariants.{Ended, Visit, Take, Broken}
use Rattle.lists.proofs.Rests.{ended-resting, ended-rest, going-rest, legal-left, legal-right, legal-join}
use Rattle.lists.proofs.Fetches.{chosen, tail-legal, never-broken}
use Rattle.commands.specs.Steps.{Scene, scene, visit_of, taken_of}
use Rattle.slots.specs.Slots.{area_of, active_on, slot_of}
use Rattle.slots.specs.declared.record.Active.{Active}
use Rattle.slots.proofs.Slotted.{slot-with, slot-empty, slot-rest, active-empty, active-inside, active_rest}
use Rattle.board.specs.Record.{well_formed}
use Rattle.board.specs.Steps.{Machine, machine, next_on, with_steps, settled_of, moved_to, scene_of, act_of, step_of}
use Rattle.board.specs.Runs.{Outcome, added, by_next, run_of}
use Rattle.board.specs.Left.{to_come}
use Rattle.board.specs.declared.record.Board.{Board}
use Rattle.board.proofs.Forms.{Good, good_of, active-of, none-waits}
use Rattle.board.proofs.Keeps.{followed, holds-list, stays-well-formed, step-lengths, settled-sizes}
use Rattle.board.proofs.Counts.{settled-to-come}
use Rattle.statements.specs.Paper.{Item, posted, Paper, paper, flushed, leaving, fetching, step_by, step_on, steps_on, queued}
use Rattle.statements.specs.World.{World, world}
use Rattle.statements.specs.Demand.{queue_spans, SlotsHold}

-- ---- the abstraction: what is left of the taken slots' lists is the queue
abbrev pub items_of : List ℕ → Active → List Item
items_of l a = cond a.taken (posted a.cursor.span (rest_of l a.cursor) ∷ []) []

abbrev pub queue_of : List ℕ → Board → List Item
queue_of l b = items_of l b.active ++ items_of l (active_on b.pending)

abbrev pub paper_of : World → Paper
paper_of w = paper (scene w.board.engine w.board.fill w.display w.virt) w.list (queue_of w.list w.board)

pub record Valid (w : World) : Type 0 where
  pub well : well_formed w.board ≡ true
  pub list-long : length w.list ≡ 5 * w.board.sizes.entries
  pub display-long : length w.display ≡ area_of w.board.sizes
  pub virt-long : length w.virt ≡ area_of w.board.sizes
  pub legal : AllLegal (to_come w.list w.board)

-- ---- spans and entries of the queue
pub slots-hold : (l : List ℕ) (b : Board) → Good b → SlotsHold b (queue_spans (queue_of l b))
unfolding queue_spans
slots-hold l b g = subst (SlotsHold b) (spans b.active.taken b.pending.taken) (hold b.active.taken b.pending.taken refl refl)
  where
    spans : (t u : Bool)
        → cond t (b.active.cursor.span ∷ []) [] ++ cond u (b.pending.span ∷ []) []
        ≡ queue_spans
        (cond t (posted b.active.cursor.span (rest_of l b.active.cursor) ∷ []) []
        ++ cond u (posted b.pending.span (rest_of l (cursor_on b.pending.span)) ∷ []) [])
    spans true true = refl
    spans true false = refl
    spans false true = refl
    spans false false = refl

    hold : (t u : Bool) → b.active.taken ≡ t → b.pending.taken ≡ u
        → SlotsHold b (cond t (b.active.cursor.span ∷ []) [] ++ cond u (b.pending.span ∷ []) [])
    hold true true e f =
        record { active-front = slot-with (slot_of b.active) b.sizes.entries e; pending-second = slot-with b.pending b.sizes.entries f; no_third = refl }
    hold true false e f =
        record {
          active-front = slot-with (slot_of b.active) b.sizes.entries e;
          pending-second = slot-empty b.pending b.sizes.entries g.pending f;
          no_third = refl;
        }
    hold false true e f = absurd (false≢true (sym (none-waits b g e) ∙ f))
    hold false false e f =
        record {
          active-front = active-empty b.active b.sizes.entries b.engine.under_way g.active e;
          pending-second = slot-empty b.pending b.sizes.entries g.pending f;
          no_third = refl;
        }

items-queued : (l : List ℕ) (a : Active) (q : List Item) → (a.taken ≡ false → rest_of l a.cursor ≡ [])
    → queued (items_of l a ++ q) ≡ rest_of l a.cursor ++ queued q
unfolding queued
items-queued l a q none =
    by_cases a.taken
    (λ t. ap (λ t. queued (cond t (posted a.cursor.span (rest_of l a.cursor) ∷ []) [] ++ q)) t)
    (λ t.
    ap (λ t. queued (cond t (posted a.cursor.span (rest_of l a.cursor) ∷ []) [] ++ q)) t ∙ ap (λ es. es ++ queued q) (sym (none t)))

pub queue-to-come : (l : List ℕ) (b : Board) → Good b → queued (queue_of l b) ≡ to_come l b
unfolding queued
queue-to-come l b g =
    let p = active_on b.pending in
    let next = rest_of l p.cursor in
    items-queued l b.active (items_of l p) (active_rest b.active b.sizes.entries b.engine.under_way l g.active)
    ∙ ap (λ es. rest_of l b.active.cursor ++ es)
    (ap queued (sym (append-nil (items_of l p))) ∙ items-queued l p [] (slot-rest b.pending b.sizes.entries l g.pending) ∙ append-nil next)

-- ---- a list leaves as a board settles
flush-items : (s : Scene) (l : List ℕ) (a : Active) → flushed s l (items_of l a) ≡ paper s l (items_of l a)
unfolding flushed
flush-items s l a = by a.taken
  where
    by : (t : Bool) →
        let items = cond t (posted a.cursor.span (rest_of l a.cursor) ∷ []) [] in
        flushed s l items ≡ paper s l items
    by true = refl
    by false = refl

module _ (s : Scene) (l : List ℕ) (span : Span) (q : List Item) where
  leave-more : (e : Entry) (es rest : List Entry) → rest ≡ e ∷ es → leaving s l span rest q ≡ paper s l (posted span rest ∷ q)
  unfolding leaving
  leave-more e es rest p = ap (λ rest. leaving s l span rest q) p ∙ ap (λ rest. paper s l (posted span rest ∷ q)) (sym p)

  leave-pixels : (rest : List Entry) → s.engine.under_way ≡ true → leaving s l span rest q ≡ paper s l (posted span rest ∷ q)
  unfolding leaving
  leave-pixels [] u = ap (λ t. cond t (paper s l (posted span [] ∷ q)) (flushed s l q)) u
  leave-pixels (e ∷ es) u = refl

  leave-ended : (rest : List Entry) → rest ≡ [] → s.engine.under_way ≡ false → leaving s l span rest q ≡ flushed s l q
  unfolding leaving
  leave-ended rest p u =
      ap (λ rest. leaving s l span rest q) p ∙ ap (λ t. cond t (paper s l (posted span [] ∷ q)) (flushed s l q)) u

-- the list in front
pub front : (l : List ℕ) (b : Board) → b.active.taken ≡ true
    → queue_of l b ≡ posted b.active.cursor.span (rest_of l b.active.cursor) ∷ items_of l (active_on b.pending)
front l b t =
    ap (λ t. cond t (posted b.active.cursor.span (rest_of l b.active.cursor) ∷ []) [] ++ items_of l (active_on b.pending)) t

-- a list with entries or pixels left stays in front
list-stays : (b : Board) (l d v : List ℕ) → ended_of b.active.cursor b.engine.under_way ≡ false
    → leaving (scene b.engine b.fill d v) l b.active.cursor.span (rest_of l b.active.cursor) (items_of l (active_on b.pending))
    ≡ paper (scene b.engine b.fill d v) l (posted b.active.cursor.span (rest_of l b.active.cursor) ∷ items_of l (active_on b.pending))
list-stays b l d v h =
    let c = b.active.cursor in
    let s = scene b.engine b.fill d v in
    let q = items_of l (active_on b.pending) in
    by_cases b.engine.under_way (λ u. leave-pixels s l c.span q (rest_of l c) u)
    (λ u.
    leave-more s l c.span q (entry_of l c.next) (rest_of l (fetched_of c)) (rest_of l c)
    (going-rest l c (subst (λ u. ended_of c u ≡ false) u h)))

pub leaves : (b : Board) (l d v : List ℕ) → b.active.taken ≡ true
    → leaving (scene b.engine b.fill d v) l b.active.cursor.span (rest_of l b.active.cursor) (items_of l (active_on b.pending))
    ≡ paper (scene (settled_of b).engine (settled_of b).fill d v) l (queue_of l (settled_of b))
unfolding settled_of
leaves b l d v t =
    let c = b.active.cursor in
    let u = b.engine.under_way in
    let s = scene b.engine b.fill d v in
    let p = active_on b.pending in
    let end = ended_of c u in
    let K : Board → Paper = λ b. paper (scene b.engine b.fill d v) l (queue_of l b) in
    by_cases end
    (λ h.
    leave-ended s l c.span (items_of l p) (rest_of l c) (ended-rest l c u h) (ended-resting l c u h)
    ∙ flush-items s l p ∙ ap (paper s l) (sym (append-nil (items_of l p)))
    ∙ ap K (first_of end (followed b) b h))
    (λ h. list-stays b l d v h ∙ ap (paper s l) (sym (front l b t)) ∙ ap K (second-of end (followed b) b h))

-- ---- steps

-- the board and buffers of a machine, with the same list memory
abbrev pub onto : World → Machine → World
onto w m = world m.board w.list m.display m.virt

abbrev pub machine_of : World → Machine
machine_of w = machine w.board w.display w.virt

module _ (extent : Extent) (p : Paper) (span : Span) (q : List Item) where
  step-visits : (es : List Entry) → p.drawing.engine.under_way ≡ true
      → step_by extent p (posted span es ∷ q) ≡ leaving (visit_of extent p.drawing) p.list span es q
  unfolding step_by
  step-visits es u = ap (λ t. cond t (leaving (visit_of extent p.drawing) p.list span es q) (fetching extent p span es q)) u

  step-fetches : (es rest : List Entry) (e : Entry) → p.drawing.engine.under_way ≡ false → es ≡ e ∷ rest
      → step_by extent p (posted span es ∷ q) ≡ leaving (taken_of extent p.drawing e) p.list span rest q
  unfolding step_by fetching
  step-fetches es rest e u h =
      ap (λ t. cond t (leaving (visit_of extent p.drawing) p.list span es q) (fetching extent p span es q)) u
      ∙ ap (λ es. fetching extent p span es q) h

module _ (w : World) (v : Valid w) where
  abbrev b : Board
  b = w.board

  abbrev l : List ℕ
  l = w.list

  abbrev extent : Extent
  extent = w.board.sizes.extent

  g : Good w.board
  g = good_of w.board v.well

  -- a step of the list in front, to a scene and what is left of the list
  moved-paper : (c : Cursor) (s : Scene) → w.board.active.taken ≡ true → c.span ≡ w.board.active.cursor.span
      → leaving s w.list w.board.active.cursor.span (rest_of w.list c) (items_of w.list (active_on w.board.pending))
      ≡ paper_of (onto w (moved_to (machine_of w) c s))
  moved-paper c s t same =
      ap (λ span. leaving s l span (rest_of l c) (items_of l (active_on b.pending))) (sym same)
      ∙ leaves (with_steps b c s.engine s.fill) l s.display s.virt t

  visit-steps : next_on w.list w.board ≡ Visit → step_on extent (paper_of w) ≡ paper_of (onto w (act_of Visit (machine_of w)))
  unfolding g
  visit-steps h =
      let c = b.active.cursor in
      let u = chosen l c b.engine.under_way Visit h in
      let t = active-of b g u in
      ap (step_by extent (paper_of w)) (front l b t)
      ∙ step-visits extent (paper_of w) c.span (items_of l (active_on b.pending)) (rest_of l c) u
      ∙ moved-paper c (visit_of extent (scene_of (machine_of w))) t refl

  take_steps : (e : Entry) → next_on w.list w.board ≡ Take e → step_on extent (paper_of w) ≡ paper_of (onto w (act_of (Take e) (machine_of w)))
  unfolding g
  take_steps e h =
      let c = b.active.cursor in
      let f = chosen l c b.engine.under_way (Take e) h in
      let t = holds-list b g f.more in
      ap (step_by extent (paper_of w)) (front l b t)
      ∙ step-fetches extent (paper_of w) c.span (items_of l (active_on b.pending)) (rest_of l c) (rest_of l (fetched_of c)) e f.resting f.head
      ∙ moved-paper (fetched_of c) (taken_of extent (scene_of (machine_of w)) e) t refl

  -- an entry to come is legal, so a step never meets an illegal one
  active-legal : AllLegal (rest_of w.list w.board.active.cursor)
  active-legal = legal-left (rest_of l b.active.cursor) (rest_of l (cursor_on b.pending.span)) v.legal

  not-broken : next_on w.list w.board ≡ Broken → ⊥
  unfolding g
  not-broken h =
      let inside = active-inside b.active b.sizes.entries b.engine.under_way g.active in
      never-broken l b.active.cursor (omega (arith, v.list-long, inside)) active-legal b.engine.under_way h

  -- a step keeps all this, of the same sizes, with buffers of the same lengths
  step_is : (x : Next) → next_on w.list w.board ≡ x → act_of x (machine_of w) ≡ step_of w.list (machine_of w)
  unfolding step_of
  step_is x e = ap (λ x. act_of x (machine_of w)) (sym e)

  step-valid : (n : Machine) → n ≡ step_of w.list (machine_of w) → n.board.sizes ≡ w.board.sizes → AllLegal (to_come w.list n.board)
      → Valid (onto w n)
  step-valid n e z a =
      let long = step-lengths l (machine_of w) in
      record {
        well = subst (λ m. well_formed m.board ≡ true) (sym e) (stays-well-formed l (machine_of w) v.well);
        list-long = v.list-long ∙ ap (λ z. 5 * z.entries) (sym z);
        display-long = ap (λ m. length m.display) e ∙ long.0 ∙ v.display-long ∙ ap area_of (sym z);
        virt-long = ap (λ m. length m.virt) e ∙ long.1 ∙ v.virt-long ∙ ap area_of (sym z);
        legal = a;
      }

  moved-sizes : (c : Cursor) (s : Scene) → (moved_to (machine_of w) c s).board.sizes ≡ w.board.sizes
  moved-sizes c s = settled-sizes (with_steps b c s.engine s.fill)

  moved-valid : (x : Next) (c : Cursor) (s : Scene) → next_on w.list w.board ≡ x → act_of x (machine_of w) ≡ moved_to (machine_of w) c s
      → AllLegal (rest_of w.list c) → Valid (onto w (moved_to (machine_of w) c s))
  moved-valid x c s h acts legal =
      let next = rest_of l (cursor_on b.pending.span) in
      step-valid (moved_to (machine_of w) c s) (sym acts ∙ step_is x h) (moved-sizes c s)
      (subst AllLegal (sym (settled-to-come l (with_steps b c s.engine s.fill)))
      (legal-join (rest_of l c) next legal (legal-right (rest_of l b.active.cursor) next v.legal)))

  visit-valid : next_on w.list w.board ≡ Visit → Valid (onto w (act_of Visit (machine_of w)))
  visit-valid h = moved-valid Visit b.active.cursor (visit_of extent (scene_of (machine_of w))) h refl active-legal

  take-valid : (e : Entry) → next_on w.list w.board ≡ Take e → Valid (onto w (act_of (Take e) (machine_of w)))
  take-valid e h =
      moved-valid (Take e) (fetched_of b.active.cursor) (taken_of extent (scene_of (machine_of w)) e) h refl
      (tail-legal l b.active.cursor b.engine.under_way e h active-legal)

-- ---- runs
pub record Runs (w : World) (o : Outcome) : Type 0 where
  pub done : o.report.number ≡ 0
  pub valid : Valid (onto w o.after)
  pub steps-same : steps_on o.report.steps w.board.sizes.extent (paper_of w) ≡ paper_of (onto w o.after)
  pub sizes-same : o.after.board.sizes ≡ w.board.sizes

-- a step, and a run from there
run_on : (w : World) (n : Machine) (o : Outcome) → n.board.sizes ≡ w.board.sizes
    → step_on w.board.sizes.extent (paper_of w) ≡ paper_of (onto w n) → Runs (onto w n) o → Runs w (added 1 o)
unfolding steps_on
run_on w n o z s r =
    record {
      done = r.done;
      valid = r.valid;
      steps-same =
          ap (λ k. steps_on k w.board.sizes.extent (paper_of w)) (add-one o.report.steps)
          ∙ ap (steps_on o.report.steps w.board.sizes.extent) s
          ∙ ap (λ z. steps_on o.report.steps z.extent (paper_of (onto w n))) (sym z) ∙ r.steps-same;
      sizes-same = r.sizes-same ∙ z;
    }

run_by : (w : World) (k : ℕ) (x : Next) → next_on w.list w.board ≡ x → (v : Valid w)
    → ((n : Machine) → Valid (onto w n) → Runs (onto w n) (run_of k w.list n))
    → Runs w (by_next x (machine_of w) (run_of k w.list (step_of w.list (machine_of w))))
unfolding steps_on
run_by w k Ended e v more = record { done = refl; valid = v; steps-same = refl; sizes-same = refl }
run_by w k Visit e v more =
    let m = machine_of w in
    let n = act_of Visit m in
    subst (λ n. Runs w (added 1 (run_of k w.list n))) (step_is w v Visit e)
    (run_on w n (run_of k w.list n) (moved-sizes w v w.board.active.cursor (visit_of w.board.sizes.extent (scene_of m)))
    (visit-steps w v e) (more n (visit-valid w v e)))
run_by w k (Take x) e v more =
    let m = machine_of w in
    let n = act_of (Take x) m in
    subst (λ n. Runs w (added 1 (run_of k w.list n))) (step_is w v (Take x) e)
    (run_on w n (run_of k w.list n) (moved-sizes w v (fetched_of w.board.active.cursor) (taken_of w.board.sizes.extent (scene_of m) x))
    (take_steps w v x e) (more n (take-valid w v x e)))
run_by w k Broken e v more = absurd (not-broken w v e)

pub runs : (k : ℕ) (w : World) → Valid w → Runs w (run_of k w.list (machine_of w))
unfolding run_of steps_on
runs zero w v = record { done = refl; valid = v; steps-same = refl; sizes-same = refl }
runs (suc k) w v = run_by w k (next_on w.list w.board) refl v (λ n u. runs k (onto w n) u)
