-- A board record without a tile, and runs in parts: how the code runs a board. What a run is stands in Runs; nothing here is needed
-- to read that.
use Rattle.std.specs.Prelude.{◌≡◌, ◌⊎◌, Bool, true, false, List, ℕ, ◌-◌, ◌≤◌, ◌<◌, length, Result, Ok, MatchResult}
use Rattle.std.specs.declared.ops.ControlFlow.{ControlFlow}
use Rattle.std.specs.declared.ops.ControlFlow.TheVariants.{Continue, Break}
use Rattle.answers.specs.Reports.{report_of, status_in, goes_on}
use Rattle.answers.specs.declared.Refusal.{Refusal}
use Rattle.answers.specs.declared.Refusal.TheVariants.{Malformed, WrongSize}
use Rattle.tiles.specs.Tiles.{no_fill}
use Rattle.lists.specs.declared.cursors.Next.TheVariants.{Broken}
use Rattle.commands.specs.Hatching.{hatches, fill_taken}
use Rattle.leaps.specs.Leaps.{left_in}
use Rattle.slots.specs.Slots.{lent_ok}
use Rattle.board.specs.Record.{well_formed}
use Rattle.board.specs.Steps.{Machine, machine, next_on}
use Rattle.board.specs.Runs.{Outcome, added, run_of, run_call}
use Rattle.board.specs.declared.bare.Bare.{Bare}
use Rattle.board.specs.declared.bare.BareAnswer.{BareAnswer}
use Rattle.board.specs.declared.bare.Leap.{Leap}
use Rattle.board.specs.declared.record.Board.{Board}
use Rattle.board.specs.declared.runs.HatchAnswer.{HatchAnswer}

-- Where a fill with a tile is under way, its tile is the one that stands in the buffers.
abbrev pub tiled_board : Bare → List ℕ → List ℕ → Board
tiled_board b d v =
    record {
      sizes = b.sizes;
      active = b.active;
      pending = b.pending;
      engine = b.engine;
      fill = fill_taken b.sizes.extent b.engine d v;
    }

abbrev pub tiled : Bare → List ℕ → List ℕ → Machine
tiled b d v = machine (tiled_board b d v) d v

abbrev pub bare_of : Board → Bare
bare_of b = record { sizes = b.sizes; active = b.active; pending = b.pending; engine = b.engine }

-- Of which a run is not refused: a well formed record, with memories of its sizes.
abbrev pub Accepted : List ℕ → Machine → Type 0
Accepted l m =
    (well_formed m.board ≡ true)
    × (lent_ok m.board.sizes (length l) (length m.display) (length m.virt) ≡ true)

-- Whether a run is not refused, with lent memories of these lengths; else the lowest number.
abbrev pub Accepts : ℕ → ℕ → ℕ → Board → Result (Unit {0}) Refusal → Type 0
Accepts list display virt b r =
    MatchResult r (λ _. (well_formed b ≡ true) × (lent_ok b.sizes list display virt ≡ true))
    (λ e.
    ((e ≡ Malformed) × (well_formed b ≡ false))
    ⊎ ((e ≡ WrongSize) × (well_formed b ≡ true) × (lent_ok b.sizes list display virt ≡ false)))

-- The visits left of a command are more than a budget.
abbrev pub Cuts : ℕ → Board → Type 0
Cuts budget b = budget < left_in b.sizes.extent b.engine

-- Several steps of the active list at once, up to its end or an illegal entry, or to a fill with a tile that the budget cuts; the rest
-- of the run is that from there.
pub record Leaps (l : List ℕ) (m : Machine) (budget : ℕ) (r : Leap) (n : Machine) : Type 0 where
  pub few : r.steps ≤ budget
  pub accepted : Accepted l n
  pub run : added r.steps (run_of (budget - r.steps) l n) ≡ run_of budget l m
  pub some : r.broken ≡ false → hatches n.board.engine ≡ false → 1 ≤ r.steps
  pub stops : r.broken ≡ true → (r.steps < budget) × (next_on l n.board ≡ Broken)
  pub cut : hatches n.board.engine ≡ true → Cuts (budget - r.steps) n.board

abbrev pub steps_in : Result ℕ Refusal → ℕ
steps_in s = (report_of s).steps

abbrev pub answered : Result ℕ Refusal → Machine → Outcome
answered s n = record { report = report_of s; after = n }

-- A part of a run that comes to o: all of it, or its steps up to n, with more to come.
pub record PartRan (budget : ℕ) (l : List ℕ) (o : Outcome) (s : Result ℕ Refusal) (more : Bool) (n : Machine) : Type 0 where
  pub few : steps_in s ≤ budget
  pub whole : more ≡ false → answered s n ≡ o
  pub rest : more ≡ true → added (steps_in s) (run_call (budget - steps_in s) l n) ≡ o
  pub accepted : more ≡ true → Accepted l n

-- Of the record b with no tile held: all, with no fill begun that is left, or up to a fill with a tile that the budget cuts.
pub record BareRan (budget : ℕ) (l : List ℕ) (o : Outcome) (b : Bare) (r : BareAnswer) (d v : List ℕ) : Type 0 where
  pub part : PartRan budget l o (status_in r.part) (goes_on r.part) (tiled r.bare d v)
  pub free : goes_on r.part ≡ false → hatches b.engine ≡ false → hatches r.bare.engine ≡ false
  pub cut : goes_on r.part ≡ true
      → (hatches r.bare.engine ≡ true) × Cuts (budget - steps_in (status_in r.part)) (tiled_board r.bare d v)

-- The run ends with the steps of a fill where it is under way still, for want of budget, and else goes on.
abbrev pub part_by : Bool → ℕ → ControlFlow (Result ℕ Refusal) ℕ
part_by true steps = Break (Ok steps)
part_by false steps = Continue steps

-- The steps of a held fill: with them the run has ended, or no tile is held any more.
pub record HatchRan (budget : ℕ) (l : List ℕ) (m : Machine) (r : HatchAnswer) (d v : List ℕ) : Type 0 where
  pub part : PartRan budget l (run_call budget l m) (status_in r.part) (goes_on r.part) (machine r.board d v)
  pub free : goes_on r.part ≡ true → (hatches r.board.engine ≡ false) × (r.board.fill ≡ no_fill)
  pub cut : hatches m.board.engine ≡ true → Cuts budget m.board
      → answered (status_in r.part) (machine r.board d v) ≡ run_call budget l m
  pub done : Accepted l m → (report_of (status_in r.part)).number ≡ 0
