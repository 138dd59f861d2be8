-- A pattern state in machine words, and the pens that its bits choose.
use Rattle.std.specs.Prelude.{cond}
use Rattle.std.specs.Option.{unwrap_or}
use Rattle.raster.specs.declared.Pen.{Pen}
use Rattle.registers.specs.Patterns.{pattern_bit}
use Rattle.registers.specs.declared.dashes.Pattern.{Pattern}
use Rattle.strokes.specs.declared.Dashes.{Dashes}
use Rattle.strokes.specs.declared.phases.Phase.{Phase}

abbrev pub pattern_of : Phase → Pattern
pattern_of p = record { place = p.place; repeat = p.repeat }

-- A byte drawn with the clear pen is as it was.
abbrev pub clear_pen : Pen
clear_pen = record { keep = 255; flip = 0 }

abbrev pub back_pen : Dashes → Pen
back_pen d = unwrap_or d.back clear_pen

abbrev pub dash_pen : Dashes → Pattern → Pen
dash_pen d q = cond (pattern_bit d.lpat q) d.fore (back_pen d)
