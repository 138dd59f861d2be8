-- Rows of pixels in the order of their visits, one after the other, and boxes of columns and rows.
use Rattle.std.specs.Prelude.{◌≡◌, Bool, true, false, List, ℕ, ◌+◌, ◌-◌, ◌*◌, ◌/◌, ◌≤◌, ◌<◌, get_or}
use Rattle.lemmas.specs.Turns.{in_turn}
use Rattle.lemmas.specs.Sweeps.{sweep}
use Rattle.geometry.specs.Coordinates.{origin, point_of}
use Rattle.geometry.specs.Blit.{bottom_to_top, right_to_left, away}
use Rattle.blits.specs.declared.Blit.{Blit}
use Rattle.blits.specs.declared.Paint.{Paint}
use Rattle.geometry.specs.declared.visible.Range.{Range}
use Rattle.blits.specs.declared.row_loops.Rows.{Rows}
use Rattle.blits.specs.Blits.{painted, reads, source_pixels, source_width}
use Rattle.blits.specs.Places.{left_edge, place_at}

-- n pixels of a row from `at` on, in the order of their visits.
unfoldable pub row_of : Paint → Bool → List ℕ → ℕ → ℕ → ℕ → List ℕ → List ℕ
row_of paint false other at from n l =
    sweep (λ k. at + k) (λ k m. painted paint other m (from + k) (get_or m (at + k) 0)) n l
row_of paint true other at from n l =
    sweep (λ k. at + n - (k + 1)) (λ k m. painted paint other m (from + n - (k + 1)) (get_or m (at + n - (k + 1)) 0)) n l

-- Row k of those that are `width` apart, down or up, and `stride` apart in the source.
abbrev pub row_at : Paint → Bool → Bool → ℕ → ℕ → List ℕ → ℕ → ℕ → ℕ → ℕ → List ℕ → List ℕ
row_at paint back up width stride other at from n k l = row_of paint back other (away up at (width * k)) (away up from (stride * k)) n l

-- What rows of n pixels that are `width` apart need of a buffer of `own` pixels: none goes past it or above it, and no
-- place is too far.
pub record RowsFit (up : Bool) (width at n rows own : ℕ) : Type 0 where
  pub within : (k : ℕ) → k < rows → away up at (width * k) + n ≤ own
  pub above : up ≡ true → (k : ℕ) → k < rows → width * k ≤ at
  pub far : at + width * rows < 18446744073709551616

-- Where row k of so many begins, and its source.
abbrev pub row_place : Rows → ℕ → ℕ
row_place r k = away r.up r.at (r.width * k)

abbrev pub source_place : Rows → ℕ → ℕ
source_place r k = away r.up r.from (r.stride * k)

-- n of them, each drawn by its place and that of its source.
abbrev pub rows_drawn : (ℕ → ℕ → List ℕ → List ℕ) → Rows → ℕ → List ℕ → List ℕ
rows_drawn draw r n l = in_turn (λ k. draw (row_place r k) (source_place r k)) n l

-- All of them, by a paint.
abbrev pub rows_of : Paint → Bool → List ℕ → Rows → List ℕ → List ℕ
rows_of paint back other r l = in_turn (row_at paint back r.up r.width r.stride other r.at r.from r.n) r.count l

-- The same rows, with bytes for sources.
abbrev pub byte_rows : Rows → Rows
byte_rows r = record { up = r.up; width = r.width; stride = r.width; at = r.at; from = r.from / 8; n = r.n; count = r.count }

-- What rows need of the buffer that is drawn on, and of that of their sources.
abbrev pub TargetFits : Rows → ℕ → Type 0
TargetFits r own = RowsFit r.up r.width r.at r.n r.count own

abbrev pub SourceFits : Rows → ℕ → Type 0
SourceFits r other = RowsFit r.up r.stride r.from r.n r.count other

-- What they need by what one row needs: no place is too far.
pub record EachFits (fits : ℕ → ℕ → Type 0) (r : Rows) : Type 0 where
  pub each : (k : ℕ) → k < r.count → fits (row_place r k) (source_place r k)
  pub far : r.at + r.width * r.count < 18446744073709551616
  pub source-far : r.from + r.stride * r.count < 18446744073709551616

-- What rows of a paint need of the buffer that is drawn on and of the other.
pub record PaintFits (paint : Paint) (r : Rows) (other own : ℕ) : Type 0 where
  pub same : other ≡ own
  pub apart : r.stride ≡ source_pixels paint r.width
  pub target : TargetFits r own
  pub source : reads paint ≡ true → SourceFits r (source_pixels paint own)

-- The columns `across` of the rows `down`, row after row.
unfoldable pub box_of : Paint → ℕ → ℕ → ℕ → ℕ → Range → Range → List ℕ → List ℕ → List ℕ
box_of paint width to from direction across down other l =
    let target = place_at to width direction across.from across.past down.from in
    let stride = source_pixels paint width in
    let source = place_at from stride direction across.from across.past down.from in
    in_turn (row_at paint (right_to_left direction) (bottom_to_top direction) width stride other target source (across.past - across.from)) (down.past - down.from) l

-- What a box needs of the buffer that is drawn on and of the other.
pub record BoxFits (paint : Paint) (width to from direction : ℕ) (across down : Range) (other own : ℕ) : Type 0 where
  pub across-small : across.past ≤ 65536
  pub down-small : down.past ≤ 65536
  pub same : other ≡ own
  pub target : across.from < across.past → down.from < down.past
      → RowsFit (bottom_to_top direction) width (place_at to width direction across.from across.past down.from) (across.past - across.from)
      (down.past - down.from) own
  pub source : reads paint ≡ true → across.from < across.past → down.from < down.past
      → RowsFit (bottom_to_top direction) (source_pixels paint width) (place_at from (source_pixels paint width) direction across.from across.past down.from)
      (across.past - across.from) (down.past - down.from) (source_pixels paint own)

-- The columns `across` of the rows `down`, from a corner on, are in a buffer.
pub record BoxInside (width height corner direction : ℕ) (across down : Range) : Type 0 where
  pub columns : across.from < across.past → down.from < down.past →
      let edge = left_edge (right_to_left direction) (point_of corner).x across.from across.past in
      (origin ≤ edge) × (edge + (across.past - across.from) ≤ origin + width)
  pub rows : (k : ℕ) → k < down.past - down.from →
      let y = away (bottom_to_top direction) (point_of corner).y (down.from + k) in (origin ≤ y) × (y < origin + height)

-- The same of a blit.
abbrev pub blit_box : Blit → Range → Range → List ℕ → List ℕ → List ℕ
blit_box b across down other l = box_of b.paint b.width b.to b.from b.direction across down other l

-- What it needs: what it reads is in the source.
pub record BoxShown (b : Blit) (across down : Range) (other own : ℕ) : Type 0 where
  pub fits : BoxFits b.paint b.width b.to b.from b.direction across down other own
  pub inside : reads b.paint ≡ true → BoxInside (source_width b) b.height b.from b.direction across down
