-- Steps of a list one after the other: many pixels at once, and the loop over entries and commands.
-- Assumes nothing.
use mathlib.Core.Path.{◌≡◌, refl, ap, ap₂, sym, ◌∙◌}
use mathlib.Core.Bool.{Bool, true, false, not, ◌&&◌, false≢true}
use mathlib.Core.List.{List}
use Prim.Native.Nat.{ℕ, zero, suc, ◌+◌, ◌-◌, ◌≤◌, ◌<◌, min, max}
use native.Mathlib.Omega.{arith}
use borrow.Author.Tests.{lt-ltb, le-ltb, ltb-true, ltb-false}
use lib.Dec.{ltb}
use lib.ListN.{length}
use Rattle.lemmas.proofs.Booleans.{by_cases}
use Rattle.geometry.specs.declared.Extent.{Extent}
use Rattle.entries.specs.declared.decoding.Entry.{Entry}
use Rattle.lists.specs.Cursors.{next_of, fetched_of, ended_of}
use Rattle.lists.specs.declared.cursors.Cursor.{Cursor}
use Rattle.lists.specs.declared.cursors.Next.{Next}
use Rattle.lists.specs.declared.cursors.Next.TheVariants.{Ended, Visit, Take, Broken}
use Rattle.lists.proofs.Fetches.{next-visit, next-over, broken-going}
use Rattle.commands.specs.Visits.{shows, count_of}
use Rattle.commands.specs.Steps.{Scene, advanced_by, advanced_of, visit_by, visit_of, visits_by, visits_of, entered_of, taken_of}
use Rattle.commands.specs.declared.Engine.{Engine}
use Rattle.commands.proofs.Bounds.{count_same}
use Rattle.leaps.specs.declared.list_runs.Progress.{Progress}
use Rattle.leaps.specs.Leaps.{with_tile, VisitsDone}
use Rattle.leaps.specs.ListRuns.{Reached, Reaches, stopped, longer, by_step, run_from, Going, EntriesRun}

-- ---- sums of steps

longer-none : (r : Reached) → r ≡ longer 0 r
longer-none r i = record { steps = same i; cursor = r.cursor; after = r.after; broken = r.broken }
  where
    same : r.steps ≡ r.steps + 0
    same = omega arith

longer-longer : (j k : ℕ) (r : Reached) → longer j (longer k r) ≡ longer (k + j) r
longer-longer j k r i = record { steps = same i; cursor = r.cursor; after = r.after; broken = r.broken }
  where
    same : r.steps + k + j ≡ r.steps + (k + j)
    same = omega arith

-- ---- an engine that is k visits on in its command

pub record On (e f : Engine) (k : ℕ) : Type 0 where
  pub under : f.under_way ≡ true
  pub at : f.visited ≡ e.visited + k
  pub registers-same : f.registers ≡ e.registers
  pub last-same : f.last ≡ e.last

advance-on : (extent : Extent) (f : Engine) → f.visited + 1 < count_of extent f → On f (advanced_of extent f) 1
unfolding advanced_by
advance-on extent f h = rw (lt-ltb (f.visited + 1) (count_of extent f) h) (record { under = refl; at = refl; registers-same = refl; last-same = refl })

pub visits-on : (extent : Extent) (s : Scene) (k : ℕ) → s.engine.under_way ≡ true → s.engine.visited + k < count_of extent s.engine
    → On s.engine (visits_of k extent s).engine k
unfolding visits_by visit_by
visits-on extent s zero u h = record { under = u; at = omega arith; registers-same = refl; last-same = refl }
visits-on extent s (suc k) u h =
    let f = (visits_of k extent s).engine in
    let on = visits-on extent s k u (omega arith) in
    let same : count_of extent f ≡ count_of extent s.engine = count_same shows extent f s.engine on.registers-same on.last-same in
    let next = advance-on extent f (omega (arith, on.at, same)) in
    record {
      under = next.under;
      at = omega (arith, next.at, on.at);
      registers-same = next.registers-same ∙ on.registers-same;
      last-same = next.last-same ∙ on.last-same;
    }

-- visits within a command, or the first one
still-busy : (extent : Extent) (s : Scene) (j : ℕ) → s.engine.under_way ≡ true → j < max 1 (count_of extent s.engine - s.engine.visited)
    → (visits_of j extent s).engine.under_way ≡ true
unfolding visits_by
still-busy extent s zero u h = u
still-busy extent s (suc j) u h = (visits-on extent s (suc j) u (omega arith)).under

pub visits-done : (budget : ℕ) (extent : Extent) (s : Scene) (n k : ℕ) (t : Scene) → s.engine.under_way ≡ true → 0 < budget
    → n ≡ max 1 (count_of extent s.engine - s.engine.visited) → k ≡ min budget n → t ≡ visits_of k extent s → VisitsDone budget extent s k t
visits-done budget extent s n k t u h p q e =
    record {
      some = omega arith;
      few = omega arith;
      visits = e;
      busy = λ j below. still-busy extent s j u (omega arith);
    }

-- ---- how many steps

pub record Within (budget : ℕ) (c : Cursor) (s : Scene) (r : Reached) : Type 0 where
  pub few : r.steps ≤ budget
  pub early : r.broken ≡ true → r.steps < budget
  pub some : ended_of c s.engine.under_way ≡ false → 1 ≤ budget → r.broken ≡ false → 1 ≤ r.steps

-- after one step
within_more : (budget : ℕ) (c : Cursor) (s : Scene) (d : Cursor) (t : Scene) (r : Reached) → Within budget d t r → Within (suc budget) c s (longer 1 r)
within_more budget c s d t r w =
    record { few = omega (arith, w.few); early = λ f. omega (arith, w.early f); some = λ live asked f. omega arith }

-- whether an illegal entry ended them, asked afterwards
abbrev pub ends_broken : ℕ → Reached → Bool
ends_broken budget r = ltb r.steps budget && not (ended_of r.cursor r.after.engine.under_way)

broken-more : (budget : ℕ) (r : Reached) → ends_broken (suc budget) (longer 1 r) ≡ ends_broken budget r
broken-more budget r = ap (λ t. t && not (ended_of r.cursor r.after.engine.under_way)) (one_more r.steps budget)
  where
    one_more : (k n : ℕ) → ltb (k + 1) (suc n) ≡ ltb k n
    one_more k n =
        by_cases (ltb k n) (λ t. lt-ltb (k + 1) (suc n) (omega (arith, ltb-true k n t)) ∙ sym t)
        (λ t. le-ltb (k + 1) (suc n) (omega (arith, ltb-false k n t)) ∙ sym t)

-- steps that go to where a run does, with what ended it
pub reaches : (k : ℕ) (c : Cursor) (s : Scene) (broken : Bool) (o : Reached)
    → ◌≡◌ {A = Reached} (record { steps = k; cursor = c; after = s; broken = broken }) o → Reaches k c s o
reaches k c s broken o p i = record { steps = (p i).steps; cursor = (p i).cursor; after = (p i).after; broken = o.broken }

-- ---- runs of a list

module _ (l : List ℕ) (extent : Extent) where
  abbrev from : ℕ → Cursor → Scene → Reached
  from budget c s = run_from budget l extent c s

  pub by_next_lem : (budget : ℕ) (c : Cursor) (s : Scene) (x : Next) → next_of l c s.engine.under_way ≡ x
      → from (suc budget) c s ≡ by_step extent x c s (from budget c (visit_of extent s)) (from budget)
  unfolding run_from
  by_next_lem budget c s x e = ap (λ x. by_step extent x c s (from budget c (visit_of extent s)) (from budget)) e

  visit-one : (budget : ℕ) (c : Cursor) (s : Scene) → s.engine.under_way ≡ true
      → from (suc budget) c s ≡ longer 1 (from budget c (visit_of extent s))
  visit-one budget c s u = by_next_lem budget c s Visit (sym (next-visit l c s.engine.under_way u))

  -- k visits of the command under way
  visits-run : (k budget : ℕ) (c : Cursor) (s : Scene) → ((j : ℕ) → j < k → (visits_of j extent s).engine.under_way ≡ true)
      → from (budget + k) c s ≡ longer k (from budget c (visits_of k extent s))
  unfolding visits_by
  visits-run zero budget c s busy =
      let e : budget + 0 ≡ budget = omega arith in
      ap (λ k. from k c s) e ∙ longer-none (from budget c s)
  visits-run (suc k) budget c s busy =
      let e : budget + suc k ≡ suc budget + k = omega arith in
      let swap : 1 + k ≡ suc k = omega arith in
      let t = visits_of k extent s in
      let o = from budget c (visit_of extent t) in
      ap (λ k. from k c s) e ∙ visits-run k (suc budget) c s (λ j h. busy j (omega arith))
      ∙ ap (longer k) (visit-one budget c t (busy k (omega arith))) ∙ longer-longer k 1 o ∙ ap (λ j. longer j o) swap

  -- no more steps than the budget, fewer where an illegal entry ended them, and some where none did
  pub within : (budget : ℕ) (c : Cursor) (s : Scene) → Within budget c s (from budget c s)
  unfolding run_from
  within zero c s =
      record { few = omega arith; early = λ f. absurd (false≢true f); some = λ live asked f. absurd (omega arith) }
  within (suc budget) c s = go (within budget) (next_of l c s.engine.under_way) refl
    where
      go : ((c : Cursor) (s : Scene) → Within budget c s (from budget c s)) → (x : Next) → next_of l c s.engine.under_way ≡ x
          → Within (suc budget) c s (by_step extent x c s (from budget c (visit_of extent s)) (from budget))
      go rest Ended e =
          record {
            few = omega arith;
            early = λ f. absurd (false≢true f);
            some = λ live asked f. absurd (false≢true (sym live ∙ next-over l c s.engine.under_way e));
          }
      go rest Visit e = within_more budget c s c (visit_of extent s) (from budget c (visit_of extent s)) (rest c (visit_of extent s))
      go rest (Take x) e =
          within_more budget c s (fetched_of c) (taken_of extent s x) (from budget (fetched_of c) (taken_of extent s x)) (rest (fetched_of c) (taken_of extent s x))
      go rest Broken e = record { few = omega arith; early = λ _. omega arith; some = λ live asked f. absurd (false≢true (sym f)) }

  -- an illegal entry ended the steps where they are fewer than the budget and the list has not ended
  pub broken-is : (budget : ℕ) (c : Cursor) (s : Scene) → ends_broken budget (from budget c s) ≡ (from budget c s).broken
  unfolding run_from
  broken-is zero c s = refl
  broken-is (suc budget) c s = go (broken-is budget) (next_of l c s.engine.under_way) refl
    where
      go : ((c : Cursor) (s : Scene) → ends_broken budget (from budget c s) ≡ (from budget c s).broken) → (x : Next)
          → next_of l c s.engine.under_way ≡ x →
          let r = by_step extent x c s (from budget c (visit_of extent s)) (from budget) in
          ends_broken (suc budget) r ≡ r.broken
      go rest Ended e = ap₂ ◌&&◌ (lt-ltb 0 (suc budget) (omega arith)) (ap not (next-over l c s.engine.under_way e))
      go rest Visit e = broken-more budget (from budget c (visit_of extent s)) ∙ rest c (visit_of extent s)
      go rest (Take x) e = broken-more budget (from budget (fetched_of c) (taken_of extent s x)) ∙ rest (fetched_of c) (taken_of extent s x)
      go rest Broken e = ap₂ ◌&&◌ (lt-ltb 0 (suc budget) (omega arith)) (ap not (broken-going l c s.engine.under_way e))

  -- the loop: k steps are done, and the rest of the run is that from here
  pub going_start : (budget : ℕ) (c : Cursor) (s : Scene) → Going l extent budget c s 0 c s
  going_start budget c s =
      let e : budget - 0 ≡ budget = omega arith in
      record {
        under = omega arith;
        span_same = refl;
        display-long = refl;
        virt-long = refl;
        same = sym (longer-none (from (budget - 0) c s)) ∙ ap (λ k. from k c s) e;
      }

  module _ (budget : ℕ) (c₀ : Cursor) (s₀ : Scene) (k : ℕ) (c : Cursor) (s : Scene) (going : Going l extent budget c₀ s₀ k c s) where
    pub going-on : (j : ℕ) (t : Scene) → k + j ≤ budget → t ≡ visits_of j extent s
        → ((i : ℕ) → i < j → (visits_of i extent s).engine.under_way ≡ true) → length t.display ≡ length s.display
        → length t.virt ≡ length s.virt → Going l extent budget c₀ s₀ (k + j) c t
    going-on j t few visits busy ld lv =
        let rest = budget - (k + j) in
        let split : budget - k ≡ rest + j = omega (arith, few) in
        let swap : k + j ≡ j + k = omega arith in
        record {
          under = few;
          span_same = going.span_same;
          display-long = ld ∙ going.display-long;
          virt-long = lv ∙ going.virt-long;
          same =
              ap (λ i. longer i (from rest c t)) swap ∙ sym (longer-longer k j (from rest c t))
              ∙ ap (longer k) (ap (λ t. longer j (from rest c t)) visits ∙ sym (visits-run j rest c s busy))
              ∙ ap (λ i. longer k (from i c s)) (sym split) ∙ going.same;
        }

  module _ (budget : ℕ) (c₀ : Cursor) (s₀ : Scene) (k : ℕ) (c : Cursor) (s : Scene) (below : k < budget)
      (going : Going l extent budget c₀ s₀ k c s) where
    pub going-visits : (j : ℕ) (t : Scene) → VisitsDone (budget - k) extent s j t → length t.display ≡ length s.display
        → length t.virt ≡ length s.virt → Going l extent budget c₀ s₀ (k + j) c t
    going-visits j t done = going-on budget c₀ s₀ k c s going j t (omega (arith, below, done.few)) done.visits done.busy

    pub going-takes : (x : Entry) → next_of l c s.engine.under_way ≡ Take x → (f : Engine) → f ≡ entered_of extent s.engine x
        → Going l extent budget c₀ s₀ (k + 1) (fetched_of c) (with_tile extent f s.display s.virt)
    going-takes x e f p =
        let rest = budget - (k + 1) in
        let split : budget - k ≡ suc rest = omega arith in
        let swap : k + 1 ≡ 1 + k = omega arith in
        let t = taken_of extent s x in
        record {
          under = omega arith;
          span_same = going.span_same;
          display-long = going.display-long;
          virt-long = going.virt-long;
          same =
              ap (λ f. longer (k + 1) (from rest (fetched_of c) (with_tile extent f s.display s.virt))) p
              ∙ ap (λ i. longer i (from rest (fetched_of c) t)) swap ∙ sym (longer-longer k 1 (from rest (fetched_of c) t))
              ∙ ap (longer k) (sym (by_next_lem rest c s (Take x) e)) ∙ ap (λ i. longer k (from i c s)) (sym split) ∙ going.same;
        }

    -- no step is left, or the next entry is illegal
    pub going-stops : (x : Next) (broken : Bool) → next_of l c s.engine.under_way ≡ x
        → ((o : Reached) (f : Cursor → Scene → Reached) → by_step extent x c s o f ≡ stopped c s broken)
        → ◌≡◌ {A = Reached} (record { steps = k; cursor = c; after = s; broken = broken }) (from budget c₀ s₀)
    going-stops x broken e stops =
        let rest = budget - (k + 1) in
        let split : budget - k ≡ suc rest = omega arith in
        let none : k ≡ 0 + k = omega arith in
        (λ i. record { steps = none i; cursor = c; after = s; broken = broken })
        ∙ ap (longer k) (sym (by_next_lem rest c s x e ∙ stops (from rest c (visit_of extent s)) (from rest)))
        ∙ ap (λ i. longer k (from i c s)) (sym split) ∙ going.same

  -- the budget is spent
  pub going-spent : (budget : ℕ) (c₀ : Cursor) (s₀ : Scene) (k : ℕ) (c : Cursor) (s : Scene) → budget ≤ k → Going l extent budget c₀ s₀ k c s
      → ◌≡◌ {A = Reached} (record { steps = k; cursor = c; after = s; broken = false }) (from budget c₀ s₀)
  unfolding run_from
  going-spent budget c₀ s₀ k c s h going =
      let none : budget - k ≡ 0 = omega arith in
      let grown : k ≡ 0 + k = omega arith in
      (λ i. record { steps = grown i; cursor = c; after = s; broken = false }) ∙ ap (λ i. longer k (from i c s)) (sym none) ∙ going.same

  -- steps within the rest of a run
  module _ (budget : ℕ) (c₀ : Cursor) (s₀ : Scene) (k : ℕ) (c : Cursor) (s : Scene) (going : Going l extent budget c₀ s₀ k c s) where
    pub going-then : (j : ℕ) (d : Cursor) (t : Scene) → Going l extent (budget - k) c s j d t → Going l extent budget c₀ s₀ (k + j) d t
    going-then j d t more =
        let rest : budget - (k + j) ≡ budget - k - j = omega arith in
        let swap : k + j ≡ j + k = omega arith in
        let o = from (budget - k - j) d t in
        record {
          under = omega (arith, going.under, more.under);
          span_same = more.span_same ∙ going.span_same;
          display-long = more.display-long ∙ going.display-long;
          virt-long = more.virt-long ∙ going.virt-long;
          same =
              ap (λ i. longer (k + j) (from i d t)) rest ∙ ap (λ i. longer i o) swap ∙ sym (longer-longer k j o)
              ∙ ap (longer k) more.same ∙ going.same;
        }

    pub reaches_then : (j : ℕ) (d : Cursor) (t : Scene) → Reaches j d t (from (budget - k) c s) → Reaches (k + j) d t (from budget c₀ s₀)
    reaches_then j d t r =
        let swap : k + j ≡ j + k = omega arith in
        let broken = (from (budget - k) c s).broken in
        reaches (k + j) d t broken (from budget c₀ s₀)
        ((λ i. record { steps = swap i; cursor = d; after = t; broken = broken }) ∙ ap (longer k) r ∙ going.same)

  -- entries and commands, with none under way between them
  module _ (budget : ℕ) (c₀ : Cursor) (s₀ : Scene) where
    pub record Resting (k : ℕ) (c : Cursor) (e : Engine) (d v : List ℕ) : Type 0 where
      pub rests : e.under_way ≡ false
      pub going : Going l extent budget c₀ s₀ k c (with_tile extent e d v)

    abbrev progress : ℕ → Cursor → Engine → Progress
    progress k c e = record { engine = e; cursor = c; steps = k }

    -- the run ends with none under way
    rests-over : (k : ℕ) (c : Cursor) (e : Engine) (d v : List ℕ) → Resting k c e d v → Reaches k c (with_tile extent e d v) (from budget c₀ s₀)
        → EntriesRun l extent budget c₀ s₀ (progress k c e) d v
    rests-over k c e d v r over =
        record { going = r.going; begun = λ u. absurd (false≢true (sym r.rests ∙ u)); over = λ _. over }

    -- one is left under way
    pub entries-begun : (k : ℕ) (c : Cursor) (e : Engine) (d v : List ℕ) → 0 < k → Going l extent budget c₀ s₀ k c (with_tile extent e d v)
        → e.under_way ≡ true → EntriesRun l extent budget c₀ s₀ (progress k c e) d v
    entries-begun k c e d v some going u =
        record { going = going; begun = λ _. some; over = λ t. absurd (false≢true (sym t ∙ u)) }

    pub resting-spent : (k : ℕ) (c : Cursor) (e : Engine) (d v : List ℕ) → budget ≤ k → Resting k c e d v
        → EntriesRun l extent budget c₀ s₀ (progress k c e) d v
    resting-spent k c e d v h r =
        rests-over k c e d v r
        (reaches k c (with_tile extent e d v) false (from budget c₀ s₀) (going-spent budget c₀ s₀ k c (with_tile extent e d v) h r.going))

    module _ (k : ℕ) (c : Cursor) (e : Engine) (d v : List ℕ) (below : k < budget) (r : Resting k c e d v) where
      next-at : (x : Next) → next_of l c false ≡ x → next_of l c e.under_way ≡ x
      next-at x h = ap (next_of l c) r.rests ∙ h

      -- no entry is left, or the next one is illegal
      pub resting-stops : (x : Next) (broken : Bool) → next_of l c false ≡ x
          → ((s : Scene) (o : Reached) (f : Cursor → Scene → Reached) → by_step extent x c s o f ≡ stopped c s broken)
          → EntriesRun l extent budget c₀ s₀ (progress k c e) d v
      resting-stops x broken h stops =
          rests-over k c e d v r
          (reaches k c (with_tile extent e d v) broken (from budget c₀ s₀)
          (going-stops budget c₀ s₀ k c (with_tile extent e d v) below r.going x broken (next-at x h) (stops (with_tile extent e d v))))
