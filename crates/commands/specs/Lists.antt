-- Entries step by step (01, Steps): "One step is one entry fetched, or one pixel visited."
use Rattle.std.specs.Prelude.{◌≡◌, false, cond, List, [], ◌∷◌, ℕ, zero, suc}
use Rattle.geometry.specs.declared.Extent.{Extent}
use Rattle.entries.specs.declared.decoding.Entry.{Entry}
use Rattle.commands.specs.Visits.{Rule, shows, every}
use Rattle.commands.specs.Steps.{Scene, visit_by, taken_by}
use Rattle.commands.specs.Wholes.{done_by, steps_by}

-- A scene with the entries still to fetch.
pub record Listed : Type 0 where
  pub drawing : Scene
  pub rest : List Entry

abbrev pub listed : Scene → List Entry → Listed
listed s es = record { drawing = s; rest = es }

abbrev pub fetched_by : Rule → Extent → Scene → List Entry → Listed
fetched_by rule extent s [] = listed s []
fetched_by rule extent s (e ∷ es) = listed (taken_by rule extent s e) es

unfoldable pub step_by : Rule → Extent → Listed → Listed
step_by rule extent r =
    cond r.drawing.engine.under_way (listed (visit_by rule extent r.drawing) r.rest)
    (fetched_by rule extent r.drawing r.rest)

unfoldable pub gone_by : Rule → ℕ → Extent → Listed → Listed
gone_by rule zero extent r = r
gone_by rule (suc n) extent r = gone_by rule n extent (step_by rule extent r)

-- What holds of them; proved in proofs/Lists.antt. So many steps as `steps_by` says do all entries to their end: none is left to
-- fetch, and no pixel to visit.
pub record Ended (rule : Rule) (extent : Extent) (s : Scene) (es : List Entry) : Type 0 where
  pub done : gone_by rule (steps_by rule extent s es) extent (listed s es) ≡ listed (done_by rule extent s es) []
  pub idle : (done_by rule extent s es).engine.under_way ≡ false

abbrev pub ListsEnd : Type 0
ListsEnd =
    (rule : Rule) (extent : Extent) (s : Scene) (es : List Entry) → s.engine.under_way ≡ false → Ended rule extent s es

-- "The picture after each whole list is to be proved unchanged" (02, R-6): any entries, from any scene with no command under
-- way, step by step to their end, leave the same buffers, registers, pattern state and last point by the step of before and by
-- that of now.
abbrev pub ListsUnchanged : Type 0
ListsUnchanged =
    (extent : Extent) (s : Scene) (es : List Entry) → s.engine.under_way ≡ false
    → gone_by shows (steps_by shows extent s es) extent (listed s es)
    ≡ gone_by every (steps_by every extent s es) extent (listed s es)
