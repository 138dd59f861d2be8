-- Each pair of a source bit and an old bit stands in two places of 0x0F and 0x33, in the order of the code's bits.
-- Assumes nothing.
use mathlib.Core.Path.{refl}
use Rattle.raster.specs.Raster.{new_bit, new_byte}
use Rattle.raster.specs.Codes.{CodesDoubled}

pub codes-doubled : CodesDoubled
unfolding new_byte new_bit
codes-doubled code = refl
