-- P1, P2 and P3 (01, Boards to check).
use Rattle.std.specs.Prelude.{◌≡◌}
use Rattle.raster.specs.Raster.{new_byte}

abbrev pub P1 : Type 0
P1 = new_byte 6 0x0F 0x33 0xFF ≡ 0x3C

abbrev pub P2 : Type 0
P2 = new_byte 2 0x0F 0x33 0xFF ≡ 0x0C

abbrev pub P3 : Type 0
P3 = new_byte 3 0x55 0xAA 0x0F ≡ 0xA5
