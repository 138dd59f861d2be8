-- Pixels from bits (02, R-2).
use Rattle.std.specs.Prelude.{Bool, cond, Option, None, Some, List, ℕ, ◌-◌, ◌/◌, ◌%◌, eqb, get_or}
use Rattle.raster.specs.Raster.{bit}
use Rattle.raster.specs.Selectors.{drawn}
use Rattle.raster.specs.declared.Pen.{Pen}
use Rattle.stipples.specs.declared.Stipple.{Stipple}

-- Bit k of a byte, from its most significant bit on, and bit b of a buffer's bytes, one byte after the other.
abbrev pub bit_in : ℕ → ℕ → Bool
bit_in k byte = eqb (bit (7 - k) byte) 1

abbrev pub bit_at : List ℕ → ℕ → Bool
bit_at l b = bit_in (b % 8) (get_or l (b / 8) 0)

-- The new byte of an old one, where nothing may be drawn.
abbrev pub drawn_if : Option Pen → ℕ → ℕ
drawn_if None old = old
drawn_if (Some pen) old = drawn pen old

-- "A 1 draws FORE; a 0 draws BACK, or nothing with TRNSP": the new byte from a bit and an old byte.
abbrev pub stippled : Stipple → Bool → ℕ → ℕ
stippled s one old = cond one (drawn s.fore old) (drawn_if s.back old)
