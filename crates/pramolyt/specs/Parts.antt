-- A run of an image in parts: how the code runs it. What a run is stands in Exports; nothing here is needed to read that.
use Rattle.std.specs.Prelude.{◌≡◌, Bool, false, ◌||◌, List, ℕ, ◌-◌, ◌≤◌, eqb, get_or, Result}
use Rattle.std.specs.declared.ops.ControlFlow.{ControlFlow}
use Rattle.std.specs.declared.ops.ControlFlow.TheVariants.{Continue, Break}
use Rattle.answers.specs.Reports.{report_of}
use Rattle.answers.specs.declared.Refusal.{Refusal}
use Rattle.commands.specs.Hatching.{hatches}
use Rattle.board.specs.Steps.{machine}
use Rattle.board.specs.Runs.{added, run_call}
use Rattle.board.specs.Bare.{tiled, HatchRan}
use Rattle.board.specs.declared.runs.HatchAnswer.{HatchAnswer}
use Rattle.pramolyt.specs.FillImage.{fill_at}
use Rattle.pramolyt.specs.Image.{words_of, board_of, bare_in, engine_in}
use Rattle.pramolyt.specs.Exports.{ran, ran_by}

-- Whether an image holds a tile, or a fill with one is under way.
abbrev pub holds_in : List ℕ → Bool
holds_in w = eqb (get_or w fill_at 0) 1 || hatches (engine_in w)

-- The steps of a fill that an image holds: those of its record.
pub record HatchedImage (budget : ℕ) (l w d v : List ℕ) (part : ControlFlow (Result ℕ Refusal) ℕ) (w' d' v' : List ℕ) : Type 0 where
  pub answer : HatchAnswer
  pub ran : HatchRan budget l (machine (board_of w) d v) answer d' v'
  pub words : w' ≡ words_of answer.board
  pub says : part ≡ answer.part

-- A run of an image goes on after so many steps, with no tile held.
pub record Free (budget : ℕ) (l w d v : List ℕ) (done : ℕ) (w' d' v' : List ℕ) : Type 0 where
  pub few : done ≤ budget
  pub run : added done (run_call (budget - done) l (tiled (bare_in w') d' v')) ≡ run_call budget l (machine (board_of w) d v)
  pub none : hatches (engine_in w') ≡ false

-- The steps of a fill that it holds, none where it holds none: they are the run, or it goes on after them.
abbrev pub HeldDone : ℕ → List ℕ → List ℕ → List ℕ → List ℕ → ControlFlow (Result ℕ Refusal) ℕ → List ℕ → List ℕ → List ℕ → Type 0
HeldDone budget l w d v (Break status) w' d' v' =
    ran (report_of status).number w' (report_of status).steps d' v' ≡ ran_by (run_call budget l (machine (board_of w) d v))
HeldDone budget l w d v (Continue done) w' d' v' = Free budget l w d v done w' d' v'
