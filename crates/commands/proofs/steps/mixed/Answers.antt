-- Of value and mask only the low eight bits count (`new_byte-low`).
use Rattle.raster.proofs.Rule.{new_byte-low}
use mathlib.Core.Path.{◌∙◌}
use Rattle.commands.proofs.steps.mixed.Goals as goal

pub returns : goal.returns
returns c = c.new_byte.ensures ∙ new_byte-low _ _ _ _
