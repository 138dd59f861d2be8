-- Steps of one display list, one after the other (01, Steps).
use Rattle.std.specs.Prelude.{◌≡◌, Bool, true, false, Option, Some, None, List, ℕ, zero, suc, ◌+◌, ◌-◌, ◌≤◌, ◌<◌, length}
use Rattle.geometry.specs.declared.Extent.{Extent}
use Rattle.entries.specs.Layout.{entry_of}
use Rattle.entries.specs.Legality.{entry_legal}
use Rattle.entries.specs.declared.decoding.Entry.{Entry}
use Rattle.lists.specs.Spans.{end_of}
use Rattle.lists.specs.Cursors.{next_of, fetched_of}
use Rattle.lists.specs.declared.cursors.Cursor.{Cursor}
use Rattle.lists.specs.declared.cursors.Next.{Next}
use Rattle.lists.specs.declared.cursors.Next.TheVariants.{Ended, Visit, Take, Broken}
use Rattle.commands.specs.Hatching.{hatches, fill_after}
use Rattle.commands.specs.Steps.{Scene, scene, visit_of, visits_of, entered_of, taken_of}
use Rattle.commands.specs.declared.Engine.{Engine}
use Rattle.leaps.specs.declared.list_runs.Progress.{Progress}
use Rattle.leaps.specs.declared.hatched.Burst.{Burst}
use Rattle.leaps.specs.Leaps.{with_tile, left_in, buffers_fit, VisitsDone}
use Rattle.leaps.specs.declared.list_runs.ListRun.{ListRun}

-- Steps done, with the list and the scene after them, and whether an illegal entry ended them.
pub record Reached : Type 0 where
  pub steps : ℕ
  pub cursor : Cursor
  pub after : Scene
  pub broken : Bool

-- The same but for what ended them.
abbrev pub Reaches : ℕ → Cursor → Scene → Reached → Type 0
Reaches steps cursor after o =
    ◌≡◌ {A = Reached} (record { steps = steps; cursor = cursor; after = after; broken = o.broken }) o

abbrev pub stopped : Cursor → Scene → Bool → Reached
stopped c s broken = record { steps = 0; cursor = c; after = s; broken = broken }

-- The same with k steps more.
abbrev pub longer : ℕ → Reached → Reached
longer k r = record { steps = r.steps + k; cursor = r.cursor; after = r.after; broken = r.broken }

-- As many steps as the budget allows, up to the list's end or its first illegal entry.
abbrev pub by_step : Extent → Next → Cursor → Scene → Reached → (Cursor → Scene → Reached) → Reached
by_step extent Ended c s visited taken = stopped c s false
by_step extent Visit c s visited taken = longer 1 visited
by_step extent (Take e) c s visited taken = longer 1 (taken (fetched_of c) (taken_of extent s e))
by_step extent Broken c s visited taken = stopped c s true

unfoldable pub run_from : ℕ → List ℕ → Extent → Cursor → Scene → Reached
run_from zero l extent c s = stopped c s false
run_from (suc budget) l extent c s =
    by_step extent (next_of l c s.engine.under_way) c s (run_from budget l extent c (visit_of extent s)) (run_from budget l extent)

-- Entries are numbered in 32 bits: of a list that ends past them, or on buffers of another extent, nothing is run. No well formed
-- record with its own memories is such.
abbrev pub Runs : Extent → Cursor → List ℕ → List ℕ → Type 0
Runs extent c d v = (end_of c.span < 4294967296) × (buffers_fit extent (length d) (length v) ≡ true)

-- k steps of a run are done, and the rest of it is that from here on.
pub record Going (l : List ℕ) (extent : Extent) (budget : ℕ) (c₀ : Cursor) (s₀ : Scene) (k : ℕ) (c : Cursor) (s : Scene) : Type 0 where
  pub under : k ≤ budget
  pub span_same : c.span ≡ c₀.span
  pub display-long : length s.display ≡ length s₀.display
  pub virt-long : length s.virt ≡ length s₀.virt
  pub same : longer k (run_from (budget - k) l extent c s) ≡ run_from budget l extent c₀ s₀

-- The command under way visited, within the budget; or not at all, if it is a fill with a tile that the budget cuts.
pub record BurstDone (budget : ℕ) (extent : Extent) (e : Engine) (d v : List ℕ) (r : Burst) (d' v' : List ℕ) : Type 0 where
  pub some : 0 < r.steps → VisitsDone budget extent (with_tile extent e d v) r.steps (with_tile extent r.engine d' v')
  pub none : r.steps ≡ 0 → (hatches e ≡ true) × (budget < left_in extent e) × (with_tile extent r.engine d' v' ≡ with_tile extent e d v)

-- An entry taken, and k pixels at once of the command that it triggers.
pub record Taken (budget : ℕ) (extent : Extent) (e : Engine) (x : Entry) (d v : List ℕ) (k : ℕ) (e' : Engine) (d' v' : List ℕ) : Type 0 where
  pub within : k ≤ budget
  pub visits : with_tile extent e' d' v' ≡ visits_of k extent (with_tile extent (entered_of extent e x) d v)
  pub busy : (j : ℕ) → j < k → (visits_of j extent (with_tile extent (entered_of extent e x) d v)).engine.under_way ≡ true

-- The entry at a place, taken where it is legal.
abbrev pub EntryDone : List ℕ → Extent → ℕ → ℕ → Engine → List ℕ → List ℕ → Option ℕ → Engine → List ℕ → List ℕ → Type 0
EntryDone l extent budget place e d v None e' d' v' =
    (entry_legal (entry_of l place) ≡ false) × (e' ≡ e) × (d' ≡ d) × (v' ≡ v)
EntryDone l extent budget place e d v (Some k) e' d' v' =
    (entry_legal (entry_of l place) ≡ true) × Taken budget extent e (entry_of l place) d v k e' d' v'

-- Entries and commands within a run: with a command left under way some steps are done; with none, the run has ended.
pub record EntriesRun (l : List ℕ) (extent : Extent) (budget : ℕ) (c₀ : Cursor) (s₀ : Scene) (r : Progress) (d v : List ℕ) : Type 0 where
  pub going : Going l extent budget c₀ s₀ r.steps r.cursor (with_tile extent r.engine d v)
  pub begun : r.engine.under_way ≡ true → 0 < r.steps
  pub over : r.engine.under_way ≡ false
      → Reaches r.steps r.cursor (with_tile extent r.engine d v) (run_from budget l extent c₀ s₀)

-- Steps with no tile held: the run has ended, or has come to a fill with a tile that the budget cuts.
pub record Unheld (l : List ℕ) (extent : Extent) (budget : ℕ) (c₀ : Cursor) (s₀ : Scene) (r : Progress) (d v : List ℕ) : Type 0 where
  pub going : Going l extent budget c₀ s₀ r.steps r.cursor (with_tile extent r.engine d v)
  pub cut : hatches r.engine ≡ true → budget - r.steps < left_in extent r.engine
  pub over : hatches r.engine ≡ false
      → Reaches r.steps r.cursor (with_tile extent r.engine d v) (run_from budget l extent c₀ s₀)

-- The same with what ended it.
pub record ListRan (l : List ℕ) (extent : Extent) (budget : ℕ) (c₀ : Cursor) (s₀ : Scene) (r : ListRun) (d v : List ℕ) : Type 0 where
  pub going : Runs extent c₀ s₀.display s₀.virt
      → Going l extent budget c₀ s₀ r.steps r.cursor (with_tile extent r.engine d v)
  pub cut : Runs extent c₀ s₀.display s₀.virt → hatches r.engine ≡ true
      → (budget - r.steps < left_in extent r.engine) × (r.broken ≡ false)
  pub over : Runs extent c₀ s₀.display s₀.virt → hatches r.engine ≡ false
      → ◌≡◌ {A = Reached}
      (record { steps = r.steps; cursor = r.cursor; after = with_tile extent r.engine d v; broken = r.broken })
      (run_from budget l extent c₀ s₀)

-- k visits of a fill with a tile: all that the budget allows, up to its last pixel. Of another scene none.
pub record HatchDone (budget : ℕ) (extent : Extent) (s : Scene) (k : ℕ) (e : Engine) (d v : List ℕ) : Type 0 where
  pub idle : hatches s.engine ≡ false → (k ≡ 0) × (scene e s.fill d v ≡ s)
  pub going : hatches s.engine ≡ true → (l : List ℕ) (c : Cursor) → Going l extent budget c s k c (scene e (fill_after e s.fill) d v)
  pub spent : hatches s.engine ≡ true → budget ≤ left_in extent s.engine → budget ≤ k
  pub still : hatches e ≡ true → budget ≤ k
  pub few : k ≤ budget
  pub rests : hatches s.engine ≡ true → hatches e ≡ false → e.under_way ≡ false
