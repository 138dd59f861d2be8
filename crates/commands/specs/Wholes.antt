-- Entries one after the other, each with all the pixels that it triggers (01, Steps): "Each list's steps are its entries plus the
-- pixels its commands visit. Registers carry over from list to list."
use Rattle.std.specs.Prelude.{cond, List, [], ◌∷◌, ℕ, ◌+◌, ◌-◌}
use Rattle.geometry.specs.declared.Extent.{Extent}
use Rattle.entries.specs.declared.decoding.Entry.{Entry}
use Rattle.commands.specs.Visits.{Rule, shows, count_by}
use Rattle.commands.specs.Steps.{Scene, visits_by, taken_by}
use Rattle.commands.specs.declared.Engine.{Engine}

-- The pixels left of the command under way, and all of them visited.
abbrev pub pixels_left : Rule → Extent → Engine → ℕ
pixels_left rule extent e = cond e.under_way (count_by rule extent e - e.visited) 0

abbrev pub finished_by : Rule → Extent → Scene → Scene
finished_by rule extent s = visits_by rule (pixels_left rule extent s.engine) extent s

-- What is under way and entries after it, done to their end: what they leave, and their steps.
unfoldable pub done_by : Rule → Extent → Scene → List Entry → Scene
done_by rule extent s [] = finished_by rule extent s
done_by rule extent s (e ∷ es) = done_by rule extent (taken_by rule extent (finished_by rule extent s) e) es

abbrev pub done_of : Extent → Scene → List Entry → Scene
done_of extent s es = done_by shows extent s es

unfoldable pub steps_by : Rule → Extent → Scene → List Entry → ℕ
steps_by rule extent s [] = pixels_left rule extent s.engine
steps_by rule extent s (e ∷ es) =
    pixels_left rule extent s.engine + 1 + steps_by rule extent (taken_by rule extent (finished_by rule extent s) e) es

abbrev pub steps_of : Extent → Scene → List Entry → ℕ
steps_of extent s es = steps_by shows extent s es
