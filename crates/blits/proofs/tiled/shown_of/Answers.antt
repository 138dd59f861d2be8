-- The ranges of the window on each axis are what is visible (`shown_by`).
use mathlib.Core.Path.{◌∙◌}
use Rattle.blits.proofs.Planes.{shown_by}
use Rattle.blits.proofs.tiled.shown_of.Goals as goal

pub returns : goal.returns
returns c = let start = c.before in c.window_ranges.ensures ∙ shown_by start.args.t start.requires
