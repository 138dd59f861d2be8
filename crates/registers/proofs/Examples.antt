-- P7 holds.
-- Assumes nothing.
use mathlib.Core.Path.{refl}
use Rattle.entries.specs.Fields.{length_of}
use Rattle.registers.specs.Patterns.{pattern_bit, next_of}
use Rattle.registers.specs.Examples.{P7}

pub p7 : P7
unfolding length_of pattern_bit next_of
p7 = refl
