-- Coordinates (01, Entry layout, and Pixels: "Coordinates are plain whole numbers and never wrap at 16 bits").
-- The whole number z is held as the natural z + 98,304. A coordinate in a register is at least -32,768, and a visit
-- lies at most 65,535 from its command's corner or end, so no sum and no difference below leaves the naturals.
use Rattle.std.specs.Prelude.{◌≡◌, cond, ℕ, ◌+◌, ◌/◌, ◌%◌, ◌<◌, leb, ltb, ℤ, pos}
use Rattle.std.proofs.Math.IntN.{sub_ℕ}
use Rattle.std.specs.Int.Signed.{le_z}
use Rattle.geometry.specs.declared.Point.{Point}

-- The natural that stands for 0.
abbrev pub origin : ℕ
origin = 98304

-- The whole number that a natural stands for (sub_ℕ a b is the integer a - b).
abbrev pub whole_of : ℕ → ℤ
whole_of p = sub_ℕ p origin

-- The two's complement value of 16 bits.
abbrev pub signed16 : ℕ → ℤ
signed16 h = cond (ltb h 32768) (pos h) (sub_ℕ h 65536)

-- The coordinate in half a register.
abbrev pub coordinate_of : ℕ → ℕ
coordinate_of h = (h + 32768) % 65536 + 65536

-- "x in the high half, y in the low half .. each two's complement"
unfoldable pub point_of : ℕ → Point
point_of word = record { x = coordinate_of (word / 65536); y = coordinate_of (word % 65536) }

-- That these naturals mean those whole numbers, and are ordered as they are; proved in proofs/Whole.antt.
abbrev pub Signed : Type 0
Signed = (h : ℕ) → h < 65536 → whole_of (coordinate_of h) ≡ signed16 h

abbrev pub Ordered : Type 0
Ordered = (p q : ℕ) → le_z (whole_of p) (whole_of q) ≡ leb p q
