-- Many pixels of a blit (01, Pixels), in the order of their visits.
use Rattle.std.specs.Prelude.{◌≡◌, Bool, true, false, not, cond, ◌&&◌, ◌||◌, List, ℕ, ◌+◌, ◌*◌, ◌≤◌, ◌<◌, eqb, leb, length, get_or, set}
use Rattle.lemmas.specs.Turns.{in_turn}
use Rattle.raster.specs.Selectors.{drawn}
use Rattle.geometry.specs.Coordinates.{origin, point_of}
use Rattle.geometry.specs.Clip.{place_in, in_buffer, in_window}
use Rattle.geometry.specs.Blit.{blit_count, blit_point}
use Rattle.geometry.specs.declared.Point.{Point}
use Rattle.geometry.specs.declared.Window.{Window}
use Rattle.rows.specs.Rows.{mixed}
use Rattle.stipples.specs.Stipples.{bit_at, stippled}
use Rattle.blits.specs.declared.Blit.{Blit}
use Rattle.blits.specs.declared.Paint.{Paint}
use Rattle.blits.specs.declared.Paint.TheVariants.{Solid, Copied, Moved, Stippled, StippledWithin}

-- The new byte of a pixel whose source pixel, a byte or a bit, is at `from` of the other buffer, or of the same as it stands.
abbrev pub painted : Paint → List ℕ → List ℕ → ℕ → ℕ → ℕ
painted (Solid pen) other own from old = drawn pen old
painted (Copied mix) other own from old = mixed mix (get_or other from 0) old
painted (Moved mix) other own from old = mixed mix (get_or own from 0) old
painted (Stippled s) other own from old = stippled s (bit_at other from) old
painted (StippledWithin s) other own from old = stippled s (bit_at own from) old

-- Whether pixels of a buffer are read.
abbrev pub reads : Paint → Bool
reads (Solid pen) = false
reads (Copied mix) = true
reads (Moved mix) = true
reads (Stippled s) = true
reads (StippledWithin s) = true

-- The source pixels in n bytes of a buffer: eight in each byte of bits.
abbrev pub source_pixels : Paint → ℕ → ℕ
source_pixels (Solid pen) n = n
source_pixels (Copied mix) n = n
source_pixels (Moved mix) n = n
source_pixels (Stippled s) n = 8 * n
source_pixels (StippledWithin s) n = 8 * n

abbrev pub source_width : Blit → ℕ
source_width b = source_pixels b.paint b.width

-- Where visit k lies, and its source.
abbrev pub target_at : Blit → ℕ → Point
target_at b k = blit_point (point_of b.to) b.size b.direction k

abbrev pub source_at : Blit → ℕ → Point
source_at b k = blit_point (point_of b.from) b.size b.direction k

-- Visit k is visible where it is in the window, and its source pixel, where one is read, in the buffer.
abbrev pub visible_at : Blit → ℕ → Bool
visible_at b k = in_window b.window (target_at b k) && (not (reads b.paint) || in_buffer (source_width b) b.height (source_at b k))

unfoldable pub visited : Blit → List ℕ → ℕ → List ℕ → List ℕ
visited b other k l =
    let at = place_in b.width (target_at b k) in
    let from = place_in (source_width b) (source_at b k) in
    cond (visible_at b k) (set l at (painted b.paint other l from (get_or l at 0))) l

-- Whether both buffers have the blit's size, with the window inside.
abbrev pub window_inside : ℕ → ℕ → Window → Bool
window_inside width height w =
    leb origin w.left && leb w.right (origin + width) && leb origin w.top && leb w.bottom (origin + height)

abbrev pub blit_fits : Blit → ℕ → ℕ → ℕ → ℕ → Bool
blit_fits b first n other own =
    eqb own (b.width * b.height)
    && eqb other (b.width * b.height)
    && window_inside b.width b.height b.window
    && leb (first + n) (blit_count b.size)

-- n visits from visit `first` on. Buffers of another size, a window that passes them and visits past the last draw nothing.
unfoldable pub blitted : Blit → ℕ → ℕ → List ℕ → List ℕ → List ℕ
blitted b first n other l =
    cond (blit_fits b first n (length other) (length l)) (in_turn (λ i. visited b other (first + i)) n l) l

-- What n visits from visit `first` on need.
pub record Fitting (b : Blit) (first n other own : ℕ) : Type 0 where
  pub own-area : own ≡ b.width * b.height
  pub other-area : other ≡ b.width * b.height
  pub inside : window_inside b.width b.height b.window ≡ true
  pub visits : first + n ≤ blit_count b.size

-- m visits from column c on in each of r rows of w visits, one after the other, of `left` visits: those up to the row's end or the
-- last, or whole rows.
pub record AtOnce (w c m left r : ℕ) : Type 0 where
  pub some : 0 < r
  pub fit : m * r ≤ left
  pub even : (k : ℕ) → k < r → w * k ≡ m * k
  pub ended : m * r < left → c + m * r ≡ w * r
