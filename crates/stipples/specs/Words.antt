-- Eight pixels in one word, the first in its lowest byte.
use Rattle.std.specs.Prelude.{◌≡◌, ℕ, ◌+◌, ◌*◌, ◌/◌, ◌%◌, ◌^◌, ◌<◌}
use Rattle.std.specs.Option.{unwrap_or}
use Rattle.std.specs.Int.Bits.{bit_and, bit_xor}
use Rattle.raster.specs.declared.Pen.{Pen}
use Rattle.stipples.specs.Stipples.{bit_in, stippled}
use Rattle.stipples.specs.declared.Stipple.{Stipple}
use Rattle.stipples.specs.declared.Inks.{Inks}

abbrev pub byte_in : ℕ → ℕ → ℕ
byte_in k word = word / 2 ^ (8 * k) % 256

-- A byte eight times.
abbrev pub eight_of : ℕ → ℕ
eight_of x = x * 0x0101_0101_0101_0101

-- The bits of a byte, its most significant first, as bytes 1 and 0, and as bytes 255 and 0.
unfoldable pub ones_of : ℕ → ℕ
ones_of bits = bit_and ((bit_and (eight_of bits) 0x0102_0408_1020_4080 + 0x7F7F_7F7F_7F7F_7F7F) / 2 ^ 7) 0x0101_0101_0101_0101

unfoldable pub spread_of : ℕ → ℕ
spread_of bits = ones_of bits * 255

-- The pen of a 0: one that keeps every byte where a 0 draws nothing.
abbrev pub zero_pen : Stipple → Pen
zero_pen s = unwrap_or s.back (record { keep = 255; flip = 0 })

-- The pen of a 0 for each of eight pixels, and where the pen of a 1 differs from it.
unfoldable pub inks_of : Stipple → Inks
inks_of s =
    record {
      keep = eight_of (zero_pen s).keep;
      flip = eight_of (zero_pen s).flip;
      keep_change = eight_of (bit_xor s.fore.keep (zero_pen s).keep);
      flip_change = eight_of (bit_xor s.fore.flip (zero_pen s).flip);
    }

unfoldable pub inked : Inks → ℕ → ℕ → ℕ
inked q bits old =
    bit_xor (bit_and old (bit_xor (bit_and (spread_of bits) q.keep_change) q.keep))
    (bit_xor (bit_and (spread_of bits) q.flip_change) q.flip)

-- That each byte is drawn by its bit; proved in proofs/Drawing.antt.
abbrev pub Bytes : Stipple → Type 0
Bytes s = (s.fore.keep < 256) × (s.fore.flip < 256) × ((zero_pen s).keep < 256) × ((zero_pen s).flip < 256)

abbrev pub InksDraw : Type 0
InksDraw =
    (s : Stipple) (bits old k : ℕ) → Bytes s → bits < 256 → k < 8
    → byte_in k (inked (inks_of s) bits old) ≡ stippled s (bit_in k bits) (byte_in k old)
