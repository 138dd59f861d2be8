-- A pattern as a mask, a byte a pixel, and rows mixed by it.
use Rattle.std.specs.Prelude.{◌≡◌, Bool, true, cond, ◌&&◌, List, ℕ, ◌+◌, ◌-◌, ◌*◌, ◌≤◌, ◌<◌, leb, get_or, set}
use Rattle.entries.specs.declared.fields.PatternControl.{PatternControl}
use Rattle.lemmas.specs.Turns.{in_turn}
use Rattle.raster.specs.Selectors.{drawn}
use Rattle.registers.specs.Patterns.{pattern_bit, moves_of, in_range}
use Rattle.registers.specs.declared.dashes.Pattern.{Pattern}
use Rattle.rows.specs.Rows.{mixed}
use Rattle.rows.specs.declared.Mix.{Mix}
use Rattle.strokes.specs.Bresenham.{course_at}
use Rattle.strokes.specs.Phases.{back_pen}
use Rattle.strokes.specs.declared.Dashes.{Dashes}
use Rattle.strokes.specs.declared.bresenham.Course.{Course}

abbrev pub goes_round : PatternControl → Pattern → ℕ → Bool
goes_round c p n = leb (64 * c.scale) n && leb n 65536 && leb c.length 32 && leb c.scale 8 && in_range c p

-- After m pixels the pattern is where it was.
pub record Round (c : PatternControl) (m : ℕ) : Type 0 where
  pub some : 0 < m
  pub most : m ≤ 320
  pub back : (p : Pattern) → in_range c p ≡ true → moves_of c m p ≡ p

-- The mask of pixel k: 255 for a 1 bit, 0 for a 0 bit.
abbrev pub mask_at : Dashes → Pattern → ℕ → ℕ
mask_at d p k = cond (pattern_bit d.lpat (moves_of d.control k p)) 255 0

-- The first n pixels lie in the mask from its middle on, to the right and to the left.
pub record Masks (pixel : ℕ → ℕ) (mask : List ℕ) (n : ℕ) : Type 0 where
  pub right : (k : ℕ) → k < n → get_or mask (320 + k) 0 ≡ pixel k
  pub left : (k : ℕ) → k < n → get_or mask (319 - k) 0 ≡ pixel k

pub record Rounds (pixel : ℕ → ℕ) (mask : List ℕ) (m : ℕ) : Type 0 where
  pub first : Masks pixel mask m
  pub again : (k : ℕ) → pixel (m + k) ≡ pixel k

-- With a pixel's mask the mix draws what the pen of its bit draws; no pen draws more than a byte.
pub record Mixes (d : Dashes) (mix : Mix) : Type 0 where
  pub draws : (t : Bool) (old : ℕ) → mixed mix (cond t 255 0) old ≡ drawn (cond t d.fore (back_pen d)) old
  pub bytes : (t : Bool) (old : ℕ) → old < 256 → drawn (cond t d.fore (back_pen d)) old < 256

-- Pixel k of a course, mixed with a source byte.
abbrev pub mix_at : Mix → Course → ℕ → ℕ → List ℕ → List ℕ
mix_at mix o k source l =
    set l (course_at o k).place (mixed mix source (get_or l (course_at o k).place 0))

-- Pixels j to j + n - 1 of a course, each mixed with its byte of the mask.
abbrev pub MixedFrom : Mix → Course → ℕ → ℕ → List ℕ → List ℕ → List ℕ → Type 0
MixedFrom mix o j n mask before after =
    (pixel : ℕ → ℕ) → Masks pixel mask n → after ≡ in_turn (λ k. mix_at mix o (j + k) (pixel k)) n before

-- n pixels of a course, by rounds of m.
abbrev pub MixedRound : Mix → Course → ℕ → ℕ → List ℕ → List ℕ → List ℕ → Type 0
MixedRound mix o m n mask before after =
    (pixel : ℕ → ℕ) → Rounds pixel mask m → after ≡ in_turn (λ k. mix_at mix o k (pixel k)) n before
