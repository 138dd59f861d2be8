-- The raster rule (01, Pixels): the new byte of a pixel, bit by bit.
use Rattle.std.specs.Prelude.{ℕ, zero, suc, ◌+◌, ◌-◌, ◌*◌, ◌/◌, ◌%◌, ◌^◌}

-- Bit k of x, bit 0 the least significant.
abbrev pub bit : ℕ → ℕ → ℕ
bit k x = x / 2 ^ k % 2

-- The byte whose bit k is f k.
abbrev pub byte_of : (ℕ → ℕ) → ℕ
byte_of f = f 0 + 2 * f 1 + 4 * f 2 + 8 * f 3 + 16 * f 4 + 32 * f 5 + 64 * f 6 + 128 * f 7

-- "The new bit is bit 3 - 2s - d of the code, s source bit, d old bit. Where the MASK bit is 0 the old bit stays."
-- The arguments are the code, s, d and the MASK bit.
unfoldable pub new_bit : ℕ → ℕ → ℕ → ℕ → ℕ
new_bit code s d zero = d
new_bit code s d (suc _) = bit (3 - 2 * s - d) code

-- The same for each bit of a byte. A code's bits above bit 3 are never read.
unfoldable pub new_byte : ℕ → ℕ → ℕ → ℕ → ℕ
new_byte code source old mask = byte_of (λ k. new_bit code (bit k source) (bit k old) (bit k mask))
