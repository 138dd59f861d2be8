-- The raster rule in the form that row loops use: its exclusive-or normal form, whose bytes are worked out once.
use Rattle.std.specs.Prelude.{◌≡◌, ℕ, ◌<◌}
use Rattle.std.specs.Int.Bits.{bit_and, bit_xor}
use Rattle.raster.specs.Raster.{new_byte}
use Rattle.raster.specs.declared.Pen.{Pen}
use Rattle.raster.specs.declared.Selectors.{Selectors}

-- With code, source and mask fixed: the new byte is (old & keep) ^ flip.
unfoldable pub pen_of : ℕ → ℕ → ℕ → Pen
pen_of code source mask =
    record {
      keep = bit_xor (new_byte code source 255 mask) (new_byte code source 0 mask);
      flip = new_byte code source 0 mask;
    }

abbrev pub drawn : Pen → ℕ → ℕ
drawn p old = bit_xor (bit_and old p.keep) p.flip

-- With code and mask fixed, for selectors q: the new byte is
-- (source & old & q.both) ^ (old & q.old) ^ (source & q.source) ^ q.none, which is what the pen below draws.
unfoldable pub selectors_of : ℕ → ℕ → Selectors
selectors_of code mask =
    record {
      both = bit_xor (pen_of code 255 mask).keep (pen_of code 0 mask).keep;
      old = (pen_of code 0 mask).keep;
      source = bit_xor (pen_of code 255 mask).flip (pen_of code 0 mask).flip;
      none = (pen_of code 0 mask).flip;
    }

abbrev pub selected : Selectors → ℕ → Pen
selected q source =
    record {
      keep = bit_xor (bit_and source q.both) q.old;
      flip = bit_xor (bit_and source q.source) q.none;
    }

-- Both draw what the rule says, for every code; proved in proofs/Normal.antt.
abbrev pub PenDraws : Type 0
PenDraws =
    (code source old mask : ℕ) → code < 256 → old < 256 → mask < 256
    → drawn (pen_of code source mask) old ≡ new_byte code source old mask

abbrev pub SelectorsDraw : Type 0
SelectorsDraw =
    (code source old mask : ℕ) → code < 256 → source < 256 → old < 256 → mask < 256
    → drawn (selected (selectors_of code mask) source) old ≡ new_byte code source old mask
