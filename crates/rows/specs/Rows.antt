-- Rows of pixels (01, Pixels): one visit after the other, each on the bytes as they stand at that visit.
use Rattle.std.specs.Prelude.{◌≡◌, ◌⊎◌, Bool, true, false, cond, ◌&&◌, Option, None, Some, List, ℕ, ◌+◌, ◌-◌, ◌*◌, ◌%◌, ◌<◌, ◌≤◌, eqb, leb, length, get_or}
use Rattle.std.specs.Int.Bits.{bit_and, bit_xor}
use Rattle.lemmas.specs.Sweeps.{sweep}
use Rattle.raster.specs.Selectors.{drawn, selected}
use Rattle.raster.specs.declared.Pen.{Pen}
use Rattle.raster.specs.declared.Selectors.{Selectors}
use Rattle.rows.specs.declared.Mix.{Mix}

-- Whether a source byte is equal to KEY, with KEY set.
abbrev pub is_key : Option ℕ → ℕ → Bool
is_key None s = false
is_key (Some key) s = eqb s key

-- The new byte from a source byte and an old one: a source byte equal to KEY, with KEY set, draws nothing.
unfoldable pub mixed : Mix → ℕ → ℕ → ℕ
mixed m s d = cond (is_key m.key s) d (drawn (selected m.selectors s) d)

-- Every new byte is the source byte.
abbrev pub Plain : (ℕ → ℕ → ℕ) → Type 0
Plain f = (s d : ℕ) → s < 256 → s ≡ f s d

-- n pixels from `at` on lie in the bytes l.
abbrev pub Fits : List ℕ → ℕ → ℕ → Type 0
Fits l at n = at + n ≤ length l

-- n pixels of l from `at` on, to the right.
abbrev pub filled : Pen → ℕ → List ℕ → ℕ → List ℕ
filled p n l at = sweep (λ k. at + k) (λ k m. drawn p (get_or m (at + k) 0)) n l

-- The source is another buffer.
abbrev pub copied : (ℕ → ℕ → ℕ) → ℕ → List ℕ → ℕ → List ℕ → ℕ → List ℕ
copied f n l at source from = sweep (λ k. at + k) (λ k m. f (get_or source (from + k) 0) (get_or m (at + k) 0)) n l

-- The source is the same buffer.
abbrev pub moved : (ℕ → ℕ → ℕ) → ℕ → List ℕ → ℕ → ℕ → List ℕ
moved f n l at from = sweep (λ k. at + k) (λ k m. f (get_or m (from + k) 0) (get_or m (at + k) 0)) n l

-- From right to left, from the pixel before `at` down.
abbrev pub filled_back : Pen → ℕ → List ℕ → ℕ → List ℕ
filled_back p n l at = sweep (λ k. at - (k + 1)) (λ k m. drawn p (get_or m (at - (k + 1)) 0)) n l

abbrev pub copied_back : (ℕ → ℕ → ℕ) → ℕ → List ℕ → ℕ → List ℕ → ℕ → List ℕ
copied_back f n l at source from =
    sweep (λ k. at - (k + 1)) (λ k m. f (get_or source (from - (k + 1)) 0) (get_or m (at - (k + 1)) 0)) n l

abbrev pub moved_back : (ℕ → ℕ → ℕ) → ℕ → List ℕ → ℕ → ℕ → List ℕ
moved_back f n l at from = sweep (λ k. at - (k + 1)) (λ k m. f (get_or m (from - (k + 1)) 0) (get_or m (at - (k + 1)) 0)) n l

-- Within one buffer in either direction; both places are left ends.
abbrev pub shifted : Bool → (ℕ → ℕ → ℕ) → ℕ → List ℕ → ℕ → ℕ → List ℕ
shifted back f n l at from = cond back (moved_back f n l (at + n) (from + n)) (moved f n l at from)

-- No visit of n reads what an earlier one wrote; both places are left ends.
abbrev pub Clear : Bool → ℕ → ℕ → ℕ → Type 0
Clear true at from n = (from ≤ at) ⊎ (at + n ≤ from)
Clear false at from n = (at ≤ from) ⊎ (from + n ≤ at)

-- Rows that do not fit their buffers are not drawn.
unfoldable pub filled_row : Pen → ℕ → List ℕ → ℕ → List ℕ
filled_row p n l at = cond (leb (at + n) (length l)) (filled p n l at) l

unfoldable pub copied_row : Mix → ℕ → List ℕ → ℕ → List ℕ → ℕ → List ℕ
copied_row m n l at source from =
    cond (leb (at + n) (length l) && leb (from + n) (length source)) (copied (mixed m) n l at source from) l

unfoldable pub moved_row : Mix → ℕ → List ℕ → ℕ → ℕ → List ℕ
moved_row m n l at from = cond (leb (at + n) (length l) && leb (from + n) (length l)) (moved (mixed m) n l at from) l

unfoldable pub moved_back_row : Mix → ℕ → List ℕ → ℕ → ℕ → List ℕ
moved_back_row m n l at from =
    cond (leb n at && leb n from && leb at (length l) && leb from (length l)) (moved_back (mixed m) n l at from) l

unfoldable pub shifted_row : Bool → Mix → ℕ → List ℕ → ℕ → ℕ → List ℕ
shifted_row back m n l at from =
    cond (leb (at + n) (length l) && leb (from + n) (length l)) (shifted back (mixed m) n l at from) l

-- The source is a row of a tile (02, R-7), whose pixels go round every sixteen; no KEY.
abbrev pub unkeyed : Selectors → Mix
unkeyed q = record { selectors = q; key = None }

abbrev pub tiled : (ℕ → ℕ → ℕ) → ℕ → List ℕ → ℕ → (ℕ → ℕ) → List ℕ
tiled f n l at pixel = sweep (λ k. at + k) (λ k m. f (pixel k) (get_or m (at + k) 0)) n l

unfoldable pub tiled_row : Selectors → ℕ → List ℕ → ℕ → (ℕ → ℕ) → List ℕ
tiled_row q n l at pixel = cond (leb (at + n) (length l)) (tiled (mixed (unkeyed q)) n l at pixel) l

-- A row of a tile is kept twice, in 32 bytes, so that its sixteen pixels from any column on lie side by side: row y mod 8 of
-- the eight in 256 bytes.
pub record Twice (pixel : ℕ → ℕ) (wide : List ℕ) (y : ℕ) : Type 0 where
  pub long : length wide ≡ 256
  pub again : (i : ℕ) → pixel (i + 16) ≡ pixel i
  pub there : (i : ℕ) → i < 32 → get_or wide (32 * (y % 8) + i) 0 ≡ pixel i

-- The new byte where the old one does not count.
abbrev pub covered : Selectors → ℕ → ℕ → ℕ
covered q s d = bit_xor (bit_and s q.source) q.none

-- A row of n pixels that go round every sixteen: the sixteen that begin with its first pixel are at `from`, and the sixteen that end
-- with its last one are at `last`.
pub record Periodic (pixel : ℕ → ℕ) (n : ℕ) (source : List ℕ) (from last : ℕ) : Type 0 where
  pub period : (i : ℕ) → pixel (i + 16) ≡ pixel i
  pub first : (i : ℕ) → i < 16 → get_or source (from + i) 0 ≡ pixel i
  pub final : (i : ℕ) → i < 16 → get_or source (last + i) 0 ≡ pixel (n + i)

-- The first eight pixels of a row and its last eight, side by side.
pub record Ends (l : List ℕ) (at n : ℕ) (ends : List ℕ) : Type 0 where
  pub first : (i : ℕ) → i < 8 → get_or ends i 0 ≡ get_or l (at + i) 0
  pub final : (i : ℕ) → i < 8 → get_or ends (8 + i) 0 ≡ get_or l (at + (n - 8) + i) 0
