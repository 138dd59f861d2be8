-- The rows are those of the paint (`stippled-rows`).
use mathlib.Core.Path.{◌∙◌}
use Rattle.blits.proofs.BitRows.{stippled-rows}
use Rattle.blits.proofs.bit_loops.stipple_rows.Goals as goal

pub returns : goal.returns
returns c =
    λ back. c.expand_rows.ensures ∙ stippled-rows c.args.rows _ c.requires.0 c.requires.2 c.args.s back c.args.other.now c.args.buffer.now
