-- Runs in parts: the steps of one list, of a held fill, and of all lists.
-- Assumes nothing.
use mathlib.Core.Path.{◌≡◌, refl, ap, sym, subst, ◌∙◌}
use mathlib.Core.Bool.{Bool, true, false, ◌&&◌, false≢true}
use mathlib.Core.List.{List}
use Prim.Native.Nat.{ℕ, suc, ◌+◌, ◌-◌, ◌*◌, ◌≤◌, ◌<◌}
use native.Mathlib.Omega.{arith}
use borrow.Author.Tests.{ltb-true, ltb-false, le-leb}
use lib.Dec.{eqb, ltb}
use lib.ListN.{length}
use Rattle.lemmas.proofs.Booleans.{by_cases, and_left, and_right, both, second-of}
use Rattle.std.specs.Prelude.{◌⊎◌, Result, Ok, Err}
use Rattle.std.proofs.Common.{inl, inr}
use Rattle.std.specs.declared.ops.ControlFlow.{ControlFlow}
use Rattle.std.specs.declared.ops.ControlFlow.TheVariants.{Continue, Break}
use Rattle.answers.specs.Reports.{report, status_in, goes_on}
use Rattle.answers.specs.declared.Refusal.{Refusal}
use Rattle.answers.specs.declared.Refusal.TheVariants.{Malformed, WrongSize, IllegalFetch}
use Rattle.tiles.specs.Tiles.{no_fill, Sized}
use Rattle.tiles.specs.declared.Fill.{Fill}
use Rattle.lists.specs.Spans.{end_of}
use Rattle.lists.specs.Cursors.{ended_of}
use Rattle.lists.specs.declared.cursors.Cursor.{Cursor}
use Rattle.lists.specs.declared.cursors.Next.{Next}
use Rattle.lists.specs.declared.cursors.Next.TheVariants.{Ended, Broken}
use Rattle.lists.proofs.Fetches.{chosen, next-ended}
use Rattle.commands.specs.Visits.{command_in}
use Rattle.commands.specs.Hatching.{tiles, hatches, fill_taken, fill_after}
use Rattle.commands.specs.Steps.{Scene, scene}
use Rattle.commands.specs.Record.{engine_ok}
use Rattle.commands.specs.declared.Engine.{Engine}
use Rattle.leaps.specs.Leaps.{with_tile, left_in, buffers_fit}
use Rattle.leaps.specs.ListRuns.{Reached, run_from, Runs, Going, ListRan, HatchDone}
use Rattle.leaps.specs.declared.list_runs.ListRun.{ListRun}
use Rattle.leaps.proofs.Running.{Within, within}
use Rattle.slots.specs.Slots.{lent_ok, area_of}
use Rattle.slots.specs.declared.record.Sizes.{Sizes}
use Rattle.slots.proofs.Slotted.{Visiting, limits_of, active-inside, active-end, live_of}
use Rattle.board.specs.Record.{well_formed}
use Rattle.board.specs.Steps.{Machine, machine, next_on, with_steps, settled_of, moved_to, scene_of, step_of}
use Rattle.board.specs.Runs.{Outcome, ended, added, by_next, run_of, run_call}
use Rattle.board.specs.Bare.{tiled_board, tiled, bare_of, Accepted, Cuts, Leaps, steps_in, answered, part_by, BareRan, HatchRan}
use Rattle.board.specs.declared.bare.Bare.{Bare}
use Rattle.board.specs.declared.bare.BareAnswer.{BareAnswer}
use Rattle.board.specs.declared.bare.Leap.{Leap}
use Rattle.board.specs.declared.record.Board.{Board}
use Rattle.board.specs.declared.runs.HatchAnswer.{HatchAnswer}
use Rattle.board.proofs.Forms.{Good, good_of, well-of, active-of, at_rest, next-within}
use Rattle.board.proofs.Keeps.{moved-good, settled-sizes, settled-engine, settled-fill}
use Rattle.board.proofs.Refused.{run-malformed, run-wrong-size, run-accepted}
use Rattle.board.proofs.Replies.{run-no-place}
use Rattle.board.proofs.Goes.{run_by, added_none, added-added, over, settle-live, after, Leads, on_list, list-leads, going_on}
use Rattle.board.proofs.Tiled.{taken-ok, untiled, none-held, run_sound, hatch-sound, cut-sound}

-- ---- a run that is accepted

pub accepted-run : (budget : ℕ) (l : List ℕ) (m : Machine) → Accepted l m → run_of budget l m ≡ run_call budget l m
accepted-run budget l m ok = run-accepted budget l m ok.0 ok.1 (run_of budget l m) refl

-- from the first step on
pub none_done : (budget : ℕ) (l : List ℕ) (m : Machine) → added 0 (run_call (budget - 0) l m) ≡ run_call budget l m
none_done budget l m =
    let all : budget - 0 ≡ budget = omega arith in
    sym (added_none (run_call (budget - 0) l m)) ∙ ap (λ k. run_call k l m) all

-- the lent memories are those that a list is run on
module _ (l : List ℕ) (m : Machine) (ok : Accepted l m) where
  abbrev z : Sizes
  z = m.board.sizes

  abbrev one : Bool
  one = eqb (length l) (5 * z.entries)

  abbrev two : Bool
  two = eqb (length m.display) (area_of z)

  abbrev three : Bool
  three = eqb (length m.virt) (area_of z)

  runs : Runs z.extent m.board.active.cursor m.display m.virt
  unfolding buffers_fit
  runs =
      let a = m.board.active in
      let g = good_of m.board ok.0 in
      let most = limits_of z g.sizes in
      let both_first = and_left (one && two) three ok.1 in
      let small : end_of a.cursor.span < 4294967296 =
      omega (arith, active-inside a z.entries m.board.engine.under_way g.active, most.entries-most) in (
        small,
        both (both (le-leb z.extent.height 65536 (omega (arith, most.height-most))) (and_right one two both_first))
            (and_right (one && two) three ok.1),
      )

-- after steps of the active list they are so still
moved-lent : (l : List ℕ) (m : Machine) (c : Cursor) (s : Scene) → Accepted l m → length s.display ≡ length m.display
    → length s.virt ≡ length m.virt → let n = moved_to m c s in
    lent_ok n.board.sizes (length l) (length n.display) (length n.virt) ≡ true
moved-lent l m c s ok ld lv =
    (λ i. lent_ok (settled-sizes (with_steps m.board c s.engine s.fill) i) (length l) (ld i) (lv i)) ∙ ok.1

-- ---- the steps of one list

module _ (budget : ℕ) (l : List ℕ) (b : Bare) (d₀ v₀ : List ℕ) (r : ListRun) (d v : List ℕ) (ok : Accepted l (tiled b d₀ v₀))
    (taken : b.active.taken ≡ true)
    (ran : ListRan l b.sizes.extent budget b.active.cursor (with_tile b.sizes.extent b.engine d₀ v₀) r d v) where
  abbrev m : Machine
  m = tiled b d₀ v₀

  abbrev t : Scene
  t = with_tile b.sizes.extent r.engine d v

  abbrev n : Machine
  n = moved_to m r.cursor t

  abbrev unsettled : Board
  unsettled = with_steps m.board r.cursor r.engine t.fill

  good : Good m.board
  good = good_of m.board ok.0

  live : over m.board ≡ false
  live = live_of b.active b.sizes.entries b.engine.under_way good.active taken

  going : Going l b.sizes.extent budget b.active.cursor (scene_of m) r.steps r.cursor t
  going = ran.going (runs l m ok)

  leads : Leads l m (on_list budget l m)
  leads = list-leads budget l m ok.0 live

  abbrev reached : Reached
  reached = record { steps = r.steps; cursor = r.cursor; after = t; broken = r.broken }

  ended_at : hatches r.engine ≡ false → reached ≡ on_list budget l m
  ended_at h = ran.over (runs l m ok) h

  kept : hatches r.engine ≡ false → Within budget b.active.cursor (scene_of m) reached
  kept h = subst (Within budget b.active.cursor (scene_of m)) (sym (ended_at h)) (within l b.sizes.extent budget
      b.active.cursor (scene_of m))

  -- well formed where the budget cuts a fill, by what the rest of the budget leaves
  cut-well : hatches r.engine ≡ true → well_formed n.board ≡ true
  cut-well h =
      let rest = budget - r.steps in
      let o = on_list budget l m in
      let p = run_from rest l b.sizes.extent r.cursor t in
      let at : p.after ≡ o.after = ap (λ (r : Reached). r.after) going.same in
      let sound = run_sound budget l b.sizes.extent b.active.cursor (scene_of m) (good.engine, good.fill) in
      let x = cut-sound rest l b.sizes.extent r.cursor t h (ran.cut (runs l m ok) h).0
      (ap (λ (s : Scene). engine_ok b.sizes.extent s.engine) at ∙ sound.0) in
      let under : o.after.engine.under_way ≡ true = ap (λ (s : Scene). s.engine.under_way) (sym at) ∙ x.2 in
      let cursor : o.cursor ≡ r.cursor = ap (λ (r : Reached). r.cursor) (sym going.same) ∙ x.1 in
      let there = with_steps m.board o.cursor o.after.engine o.after.fill in
      let later = subst Good (settle-live there (ap (ended_of o.cursor) under)) (good_of (after m o).board leads.well) in
      well-of n.board
      (moved-good m r.cursor t good taken going.span_same (subst Visiting cursor (next-within there later under)) x.0
      (taken-ok b.sizes.extent r.engine d v))

  well : well_formed n.board ≡ true
  well =
      by_cases (hatches r.engine) cut-well (λ h. (subst (Leads l m) (sym (ended_at h)) leads).well)

  abbrev engine-same : n.board.engine ≡ r.engine
  engine-same = settled-engine unsettled

  -- what the steps of the active list answer, with the record x after them
  pub leap-is : (x : Bare) → 1 ≤ budget
      → ((d v : List ℕ) → tiled_board x d v ≡ settled_of (with_steps (tiled_board b d v) r.cursor r.engine (fill_taken
      b.sizes.extent r.engine d v)))
      → Leaps l m budget (record { bare = x; steps = r.steps; broken = r.broken }) (tiled x d v)
  leap-is x asked to =
      subst (Leaps l m budget (record { bare = x; steps = r.steps; broken = r.broken })) (sym (ap (λ b. machine b d v) (to d v)))
      (record {
        few = going.under;
        accepted = (well, moved-lent l m r.cursor t ok going.display-long going.virt-long);
        run = going_on budget l m r.steps r.cursor t ok.0 live going well;
        some = λ f h. (kept (sym (ap hatches engine-same) ∙ h)).some live asked f;
        stops = λ f.
            by_cases (hatches r.engine) (λ h. absurd (false≢true (sym (ran.cut (runs l m ok) h).1 ∙ f)))
            (λ h. ((kept h).early f, (subst (Leads l m) (sym (ended_at h)) leads).stops f));
        cut = λ h.
            subst (λ (z : Sizes). budget - r.steps < left_in z.extent n.board.engine) (sym (settled-sizes unsettled))
            (subst (λ (e : Engine). budget - r.steps < left_in b.sizes.extent e) (sym engine-same)
            (ran.cut (runs l m ok) (sym (ap hatches engine-same) ∙ h)).0);
      })

-- ---- a run that is refused
abbrev pub Refuses : List ℕ → Machine → Refusal → Type 0
Refuses l m why =
    ((why ≡ Malformed) × (well_formed m.board ≡ false))
    ⊎ ((why ≡ WrongSize) × (well_formed m.board ≡ true)
    × (lent_ok m.board.sizes (length l) (length m.display) (length m.virt) ≡ false))

refused-run : (budget : ℕ) (l : List ℕ) (m : Machine) (why : Refusal) → Refuses l m why → answered (Err why) m ≡ run_call budget l m
refused-run budget l m why (inl w) = ap (λ e. answered (Err e) m) w.0 ∙ run-malformed budget l m w.1
refused-run budget l m why (inr w) = ap (λ e. answered (Err e) m) w.0 ∙ run-wrong-size budget l m w.1 w.2

refuses-steps : (l : List ℕ) (m : Machine) (why : Refusal) → Refuses l m why → steps_in (Err why) ≡ 0
refuses-steps l m why (inl w) = ap (λ e. steps_in (Err e)) w.0
refuses-steps l m why (inr w) = ap (λ e. steps_in (Err e)) w.0

refuses-none : (l : List ℕ) (m : Machine) (why : Refusal) → Refuses l m why → Accepted l m → ⊥
refuses-none l m why (inl w) ok = false≢true (sym w.1 ∙ ok.0)
refuses-none l m why (inr w) ok = false≢true (sym w.2 ∙ ok.1)

-- ---- the steps of a held fill

-- a refused call
pub hatch-refused : (budget : ℕ) (l : List ℕ) (m : Machine) (why : Refusal) → Refuses l m why
    → HatchRan budget l m (record { part = Break (Err why); board = m.board }) m.display m.virt
hatch-refused budget l m why refuses =
    let is = refused-run budget l m why refuses in
    record {
      part = record {
        few = omega (arith, (refuses-steps l m why refuses));
        whole = λ _. is;
        rest = λ f. absurd (false≢true f);
        accepted = λ f. absurd (false≢true f);
      };
      free = λ f. absurd (false≢true f);
      cut = λ _ _. is;
      done = λ ok. absurd (refuses-none l m why refuses ok);
    }

-- no fill is held
pub hatch-none : (budget : ℕ) (l : List ℕ) (m : Machine) → Accepted l m → Sized m.board.fill.tile → hatches m.board.engine ≡ false
    → HatchRan budget l m (record { part = Continue 0; board = m.board }) m.display m.virt
hatch-none budget l m ok sized h =
    record {
      part = record {
        few = omega arith;
        whole = λ f. absurd (false≢true (sym f));
        rest = λ _. none_done budget l m;
        accepted = λ _. ok;
      };
      free = λ _. (h, none-held m.board ok.0 sized h);
      cut = λ t _. absurd (false≢true (sym h ∙ t));
      done = λ _. refl;
    }

-- some of its pixels
module _ (budget : ℕ) (l : List ℕ) (m : Machine) (k : ℕ) (e : Engine) (d v : List ℕ) (ok : Accepted l m) (h : hatches
    m.board.engine ≡ true)
    (done : HatchDone budget m.board.sizes.extent (scene_of m) k e d v) where
  abbrev s : Scene
  s = scene e (fill_after e m.board.fill) d v

  abbrev to : Machine
  to = moved_to m m.board.active.cursor s

  hatch-good : Good m.board
  hatch-good = good_of m.board ok.0

  busy : m.board.engine.under_way ≡ true
  busy = and_left m.board.engine.under_way (tiles (command_in m.board.engine)) h

  hatch-going : Going l m.board.sizes.extent budget m.board.active.cursor (scene_of m) k m.board.active.cursor s
  hatch-going = done.going h l m.board.active.cursor

  hatch-accepted : Accepted l to
  hatch-accepted =
      let b = m.board in
      let sound = hatch-sound budget b.sizes.extent (scene_of m) k e d v done h (hatch-good.engine, hatch-good.fill) in
      let c = b.active.cursor in (
        well-of to.board
            (moved-good m c s hatch-good (active-of b hatch-good busy) refl (next-within b hatch-good busy) sound.0 sound.1),
        moved-lent l m c s ok hatch-going.display-long hatch-going.virt-long,
      )

  hatch-run : added k (run_call (budget - k) l to) ≡ run_call budget l m
  hatch-run =
      let b = m.board in
      ap (added k) (sym (accepted-run (budget - k) l to hatch-accepted))
      ∙ going_on budget l m k b.active.cursor s ok.0
      (live_of b.active b.sizes.entries b.engine.under_way hatch-good.active (active-of b hatch-good busy))
      hatch-going hatch-accepted.0
      ∙ accepted-run budget l m ok

  hatch-spent : budget ≤ k → answered (Ok k) to ≡ run_call budget l m
  unfolding run_of
  hatch-spent q =
      let none : budget - k ≡ 0 = omega arith in
      let grown : k ≡ 0 + k = omega arith in
      (λ i. record { report = report 0 0 (grown i); after = to })
      ∙ ap (added k) (accepted-run 0 l to hatch-accepted ∙ ap (λ i. run_call i l to) (sym none)) ∙ hatch-run

  pub hatch-is : (x : Board) (f : Fill) (t : Bool) → f ≡ fill_after e m.board.fill
      → x ≡ settled_of (with_steps m.board m.board.active.cursor e f)
      → t ≡ hatches e → (part : ControlFlow (Result ℕ Refusal) ℕ) → part ≡ part_by t k
      → HatchRan budget l m (record { part = part; board = x }) d v
  hatch-is x f t p q w part g =
      let c = m.board.active.cursor in
      let at : x ≡ to.board = q ∙ ap (λ f. settled_of (with_steps m.board c e f)) p in
      let unsettled = with_steps m.board c e s.fill in
      subst (λ part. HatchRan budget l m (record { part = part; board = x }) d v) (sym g)
      (subst (λ x. HatchRan budget l m (record { part = part_by t k; board = x }) d v) (sym at) (ran t w))
    where
      ran : (t : Bool) → t ≡ hatches e → HatchRan budget l m (record { part = part_by t k; board = to.board }) d v
      ran true w =
          record {
            part = record {
              few = done.few;
              whole = λ _. hatch-spent (done.still (sym w));
              rest = λ o. absurd (false≢true o);
              accepted = λ o. absurd (false≢true o);
            };
            free = λ o. absurd (false≢true o);
            cut = λ _ few. hatch-spent (done.spent h (omega arith));
            done = λ _. refl;
          }
      ran false w =
          record {
            part = record {
              few = done.few;
              whole = λ o. absurd (false≢true (sym o));
              rest = λ _. hatch-run;
              accepted = λ _. hatch-accepted;
            };
            free = λ _. (
              ap hatches (settled-engine (with_steps m.board m.board.active.cursor e s.fill)) ∙ sym w,
              settled-fill (with_steps m.board m.board.active.cursor e s.fill)
                  ∙ sym (second-of e.under_way m.board.fill no_fill (done.rests h (sym w))),
            );
            cut = λ _ few. hatch-spent (done.spent h (omega arith));
            done = λ _. refl;
          }

-- ---- the loop over the lists: k steps are done, and the rest of the run is that from here
pub record Running (budget : ℕ) (l : List ℕ) (o : Outcome) (m₀ : Machine) (k : ℕ) (m : Machine) : Type 0 where
  pub under : k ≤ budget
  pub accepted : Accepted l m
  pub display-long : length m.display ≡ length m₀.display
  pub virt-long : length m.virt ≡ length m₀.virt
  pub same : added k (run_of (budget - k) l m) ≡ o

pub running-start : (budget : ℕ) (l : List ℕ) (done : ℕ) (m : Machine) → Accepted l m → done ≤ budget
    → Running budget l (added done (run_call (budget - done) l m)) m done m
running-start budget l done m ok h =
    record {
      under = h;
      accepted = ok;
      display-long = refl;
      virt-long = refl;
      same = ap (added done) (accepted-run (budget - done) l m ok);
    }

module _ (budget : ℕ) (l : List ℕ) (o : Outcome) (m₀ : Machine) (k : ℕ) (m : Machine) (r : Running budget l o m₀ k m) where
  -- the run is over: no step is left, or the next entry is illegal
  running-stops : (x : Next) (number : ℕ) → k < budget → next_on l m.board ≡ x → ((o : Outcome) → by_next x m o ≡ ended number m)
      → ◌≡◌ {A = Outcome} (record { report = report number 0 k; after = m }) o
  running-stops x number h e stops =
      let j = budget - (k + 1) in
      let split : budget - k ≡ suc j = omega arith in
      let none : k ≡ 0 + k = omega arith in
      (λ i. record { report = report number 0 (none i); after = m })
      ∙ ap (added k) (sym (run_by l m x j e ∙ stops (run_of j l (step_of l m)))) ∙ ap (λ i. added k (run_of i l m)) (sym split) ∙ r.same

  -- a turn: steps of one list
  pub running_more : (a : Leap) (n : Machine) → k < budget → Leaps l m (budget - k) a n → length n.display ≡ length m.display
      → length n.virt ≡ length m.virt → Running budget l o m₀ (k + a.steps) n
  running_more a n h leaps ld lv =
      let j = a.steps in
      let rest : budget - (k + j) ≡ budget - k - j = omega arith in
      let swap : k + j ≡ j + k = omega arith in
      record {
        under = omega (arith, leaps.few);
        accepted = leaps.accepted;
        display-long = ld ∙ r.display-long;
        virt-long = lv ∙ r.virt-long;
        same =
            ap (λ i. added (k + j) (run_of i l n)) rest ∙ ap (λ i. added i (run_of (budget - k - j) l n)) swap
            ∙ sym (added-added k j (run_of (budget - k - j) l n)) ∙ ap (added k) leaps.run ∙ r.same;
      }

-- the whole run
ran-whole : (budget : ℕ) (l : List ℕ) (o : Outcome) (b : Bare) (status : Result ℕ Refusal) (c : Bare) (d v : List ℕ) → steps_in status ≤ budget
    → answered status (tiled c d v) ≡ o → (hatches b.engine ≡ false → hatches c.engine ≡ false)
    → BareRan budget l o b (record { part = Break status; bare = c }) d v
ran-whole budget l o b status c d v few is free =
    record {
      part = record {
        few = few;
        whole = λ _. is;
        rest = λ f. absurd (false≢true f);
        accepted = λ f. absurd (false≢true f);
      };
      free = λ _. free;
      cut = λ f. absurd (false≢true f);
    }

-- a refused call
pub bare-refused : (budget : ℕ) (l : List ℕ) (b : Bare) (why : Refusal) (d v : List ℕ) → Refuses l (tiled b d v) why
    → BareRan budget l (run_call budget l (tiled b d v)) b (record { part = Break (Err why); bare = b }) d v
bare-refused budget l b why d v refuses =
    ran-whole budget l (run_call budget l (tiled b d v)) b (Err why) b d v (omega (arith, refuses-steps l (tiled b d v) why refuses))
    (refused-run budget l (tiled b d v) why refuses) (λ h. h)

module _ (budget : ℕ) (l : List ℕ) (o : Outcome) (m₀ : Machine) (b₀ b : Bare) (d v : List ℕ) where
  -- an illegal entry within the budget
  pub running-broken : (k j : ℕ) (broken : Bool) (m : Machine) → Leaps l m (budget - k)
      (record { bare = b; steps = j; broken = broken }) (tiled b d v)
      → broken ≡ true → Running budget l o m₀ (k + j) (tiled b d v)
      → BareRan budget l o b₀ (record { part = Break (Err (IllegalFetch (k + j))); bare = b }) d v
  running-broken k j broken m leaps t r =
      let e = b.engine in
      let stops = leaps.stops t in
      let rests = (chosen l b.active.cursor e.under_way Broken stops.1).resting in
      ran-whole budget l o b₀ (Err (IllegalFetch (k + j))) b d v r.under
      (running-stops budget l o m₀ (k + j) (tiled b d v) r Broken 9 (omega (arith, stops.0)) stops.1 (λ _. refl))
      (λ _. ap (λ u. u && tiles (command_in e)) rests)

  -- a fill that the budget cuts
  pub running-cut : (k j : ℕ) (broken : Bool) (m : Machine) → Leaps l m (budget - k) (record { bare = b; steps = j; broken = broken })
      (tiled b d v)
      → hatches b.engine ≡ true → Running budget l o m₀ (k + j) (tiled b d v)
      → BareRan budget l o b₀ (record { part = Continue (k + j); bare = b }) d v
  running-cut k j broken m leaps t r =
      let rest : budget - (k + j) ≡ budget - k - j = omega arith in
      record {
        part = record {
          few = r.under;
          whole = λ f. absurd (false≢true (sym f));
          rest = λ _.
              ap (added (k + j)) (sym (accepted-run (budget - (k + j)) l (tiled b d v) r.accepted)) ∙ r.same;
          accepted = λ _. r.accepted;
        };
        free = λ f. absurd (false≢true (sym f));
        cut = λ _. (t, omega (arith, leaps.cut t));
      }

  -- the loop ends: the budget is spent, or no list is left
  pub running-over : (k : ℕ) → (ltb k budget && b.active.taken) ≡ false → Running budget l o m₀ k (tiled b d v)
      → (hatches b₀.engine ≡ false → hatches b.engine ≡ false)
      → BareRan budget l o b₀ (record { part = Break (Ok k); bare = b }) d v
  unfolding run_of
  running-over k h r free =
      ran-whole budget l o b₀ (Ok k) b d v r.under
      (by_cases (ltb k budget)
      (λ t.
      let m = tiled b d v in
      let g = good_of m.board r.accepted.0 in
      let free : b.active.taken ≡ false = ap (λ t. t && b.active.taken) (sym t) ∙ h in
      let end = active-end b.active b.sizes.entries b.engine.under_way g.active free in
      running-stops budget l o m₀ k m r Ended 0 (ltb-true k budget t)
      (sym (next-ended l b.active.cursor b.engine.under_way (at_rest m.board g free) (omega (arith, end))))
      (λ _. refl))
      (λ t.
      let spent = ltb-false k budget t in
      let none : budget - k ≡ 0 = omega arith in
      let grown : k ≡ 0 + k = omega arith in
      (λ i. record { report = report 0 0 (grown i); after = tiled b d v }) ∙ ap (λ i. added k (run_of i l (tiled b d v))) (sym none)
      ∙ r.same))
      free

-- with no step done before
pub from_start : (budget : ℕ) (l : List ℕ) (m : Machine) (b : Bare) (r : BareAnswer) (d v : List ℕ)
    → BareRan budget l (added 0 (run_call (budget - 0) l m)) b r d v → BareRan budget l (run_call budget l m) b r d v
from_start budget l m b r d v ran = subst (λ o. BareRan budget l o b r d v) (none_done budget l m) ran

-- ---- a whole run: a held fill, the lists, and a fill that the budget cuts

-- after j steps of the held fill the run goes on with the record b without a tile
pub record Unheld (budget : ℕ) (l : List ℕ) (m : Machine) (j : ℕ) (n : Machine) : Type 0 where
  pub few : j ≤ budget
  pub accepted : Accepted l n
  pub run : added j (run_call (budget - j) l n) ≡ run_call budget l m

pub hatch-over : (budget : ℕ) (l : List ℕ) (m : Machine) (h : HatchAnswer) (d v : List ℕ) → HatchRan budget l m h d v → (j : ℕ) → h.part ≡ Continue j
    → (b : Bare) → b ≡ bare_of h.board → Unheld budget l m j (tiled b d v)
hatch-over budget l m h d v ran j is b p =
    let e : goes_on h.part ≡ true = ap goes_on is in
    let q : j ≡ steps_in (status_in h.part) = sym (ap (λ part. steps_in (status_in part)) is) in
    let free = ran.free e in
    let at : machine h.board d v ≡ tiled b d v =
    ap (λ b. machine b d v) (untiled h.board d v free.0 free.1) ∙ ap (λ b. tiled b d v) (sym p) in
    subst (Unheld budget l m j) at
    (subst (λ j. Unheld budget l m j (machine h.board d v)) (sym q)
    (record { few = ran.part.few; accepted = ran.part.accepted e; run = ran.part.rest e }))

-- the held fill ends it
pub fill-ends : (budget : ℕ) (l : List ℕ) (m : Machine) (h : HatchAnswer) (d v : List ℕ) → HatchRan budget l m h d v
    → (status : Result ℕ Refusal) → h.part ≡ Break status → answered status (machine h.board d v) ≡ run_call budget l m
fill-ends budget l m h d v ran status is =
    ap (λ part. answered (status_in part) (machine h.board d v)) (sym is) ∙ ran.part.whole (ap goes_on is)

-- the lists leave a fill
pub lists-few : (budget : ℕ) (l : List ℕ) (o : Outcome) (b : Bare) (r : BareAnswer) (d v : List ℕ) → BareRan budget l o b r d v
    → (k : ℕ) → r.part ≡ Continue k → k ≤ budget
lists-few budget l o b r d v ran k is =
    let e : steps_in (status_in r.part) ≡ k = ap (λ part. steps_in (status_in part)) is in omega (arith, ran.part.few)

-- the lists end it
pub lists-done : (budget : ℕ) (l : List ℕ) (o : Outcome) (b : Bare) (r : BareAnswer) (d v : List ℕ) → BareRan budget l o b r d v
    → (status : Result ℕ Refusal) → r.part ≡ Break status
    → (x : Board) → x ≡ tiled_board r.bare d v → answered status (machine x d v) ≡ o
lists-done budget l o b r d v ran status is x p =
    ap (λ part. answered (status_in part) (machine x d v)) (sym is) ∙ ap (λ b. answered (status_in r.part) (machine b d v)) p
    ∙ ran.part.whole (ap goes_on is)

-- the last fill: k steps before it, and j of its own
module _ (budget : ℕ) (l : List ℕ) (o : Outcome) (b : Bare) (r : BareAnswer) (d v : List ℕ) (ran : BareRan budget l o b r d v)
    (k : ℕ) (is : r.part ≡ Continue k) (x : Board)
    (is-tiled : x ≡ tiled_board r.bare d v) (h : HatchAnswer) (d' v' : List ℕ)
    (last : HatchRan (budget - k) l (machine x d v) h d' v') where
  abbrev from : Machine
  from = machine x d v

  more : goes_on r.part ≡ true
  more = ap goes_on is

  is-k : k ≡ steps_in (status_in r.part)
  is-k = sym (ap (λ part. steps_in (status_in part)) is)

  from-tiled : tiled r.bare d v ≡ from
  from-tiled = ap (λ b. machine b d v) (sym is-tiled)

  pub last-is : answered (status_in h.part) (machine h.board d' v') ≡ run_call (budget - k) l from
  last-is =
      last.cut (ap (λ (b : Board). hatches b.engine) is-tiled ∙ (ran.cut more).0)
      (subst (λ (m : Machine). Cuts (budget - k) m.board) from-tiled (subst (λ k. Cuts (budget - k) (tiled_board r.bare d v))
      (sym is-k) (ran.cut more).1))

  pub last-run : added k (run_call (budget - k) l from) ≡ o
  last-run =
      ap (λ n. added k (run_call (budget - k) l n)) (sym from-tiled) ∙ ap (λ k. added k (run_call (budget - k) l (tiled r.bare d v))) is-k
      ∙ ran.part.rest more

  pub last_done : (j : ℕ) → j ≡ steps_in (status_in h.part) → answered (Ok (k + j)) (machine h.board d' v') ≡ o
  last_done j is-j =
      let number = last.done (subst (Accepted l) from-tiled (ran.part.accepted more)) in
      let place = ap (λ (o : Outcome). o.report.place) last-is ∙ run-no-place (budget - k) l from in
      let steps : k + j ≡ steps_in (status_in h.part) + k = omega arith in
      (λ i. record { report = report (sym number i) (sym place i) (steps i); after = machine h.board d' v' }) ∙ ap (added k) last-is
      ∙ last-run
