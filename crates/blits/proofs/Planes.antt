-- Blits from a tile: the buffer that it covers, its rows and boxes, and the tests before them.
-- Assumes nothing.
use mathlib.Core.Path.{◌≡◌, refl, ap, ap₂, sym, ◌∙◌}
use mathlib.Core.Bool.{Bool, true, false}
use mathlib.Core.List.{List}
use Prim.Native.Nat.{ℕ, ◌+◌, ◌-◌, ◌*◌, ◌/◌, ◌%◌, ◌≤◌, ◌<◌, min, max}
use native.Mathlib.Nat.{mul_comm, add_assoc}
use native.Mathlib.Omega.{arith}
use borrow.Author.Tests.{ltb-true, ltb-false, eq-eqb}
use lib.Dec.{eqb, ltb}
use lib.ListN.{length, get_or}
use Rattle.lemmas.proofs.Booleans.{by_cases}
use Rattle.lemmas.proofs.Numbers.{map-below-length, map-below-at}
use Rattle.lemmas.specs.Sweeps.{sweep}
use Rattle.lemmas.proofs.Sweeps.{sweep-agree}
use Rattle.lemmas.specs.Turns.{in_turn}
use Rattle.lemmas.proofs.Turns.{turn_agree}
use Rattle.raster.specs.declared.Selectors.{Selectors}
use Rattle.geometry.specs.Coordinates.{origin, point_of}
use Rattle.geometry.specs.Blit.{bottom_to_top, right_to_left, away}
use Rattle.geometry.proofs.Clips.{area}
use Rattle.rows.specs.Rows.{mixed, unkeyed, tiled, Twice}
use Rattle.tiles.specs.Tiles.{no_row, pixel_of, doubled_of}
use Rattle.tiles.specs.declared.Tile.{Tile}
use Rattle.tiles.proofs.Doubling.{rows-twice}
use Rattle.blits.specs.Blits.{window_inside, blit_fits}
use Rattle.blits.specs.Ranges.{range_of, window_ranges, visible_range, visible_columns, visible_rows, visible_of}
use Rattle.blits.specs.Places.{left_edge, place_at}
use Rattle.blits.specs.Rows.{row_of, row_at, box_of, blit_box, BoxShown}
use Rattle.blits.specs.Tiled.{plane_of, copy_of, wide_pixel, Doubled}
use Rattle.blits.specs.declared.Blit.{Blit}
use Rattle.blits.specs.declared.Paint.TheVariants.{Copied}
use Rattle.geometry.specs.declared.visible.Range.{Range}
use Rattle.blits.specs.declared.tiled.Tiling.{Tiling}
use Rattle.blits.proofs.Bounds.{y-below}
use Rattle.blits.proofs.Visits.{at-column, at_row}
use Rattle.blits.proofs.Painted.{copied-same}
use Rattle.blits.proofs.Rooms.{away-below, Inside, inside_of}
use Rattle.blits.proofs.Stepping.{on-from}
use Rattle.blits.proofs.Boxes.{row_on}

-- ---- the buffer that a tile covers
pub plane-long : (width height : ℕ) (tile : Tile) → length (plane_of width height tile) ≡ width * height
unfolding plane_of
plane-long width height tile = map-below-length (λ i. pixel_of tile (i % width) (i / width)) (width * height)

pixel-by : (tile : Tile) (x y x' y' : ℕ) → x % 16 ≡ x' % 16 → y % 8 ≡ y' % 8 → pixel_of tile x y ≡ pixel_of tile x' y'
pixel-by tile x y x' y' e f = ap₂ (λ i j. get_or (get_or tile.rows j no_row).pixels i 0) e f

pub plane-at : (width height : ℕ) (tile : Tile) (x y : ℕ) → x < width → y < height
    → get_or (plane_of width height tile) (y * width + x) 0 ≡ pixel_of tile x y
unfolding plane_of
plane-at width height tile x y h l =
    let i = y * width + x in
    let e : i ≡ width * y + x = omega (arith, mul_comm y width) in
    map-below-at (λ i. pixel_of tile (i % width) (i / width)) (width * height) 0 i (area width height x y h l)
    ∙ ap₂ (pixel_of tile) (ap (λ i. i % width) e ∙ at-column width y x h) (ap (λ i. i / width) e ∙ at_row width y x h)

-- 98,304 is so many times sixteen, and eight: a coordinate as it is held gives the same column and row of the tile
plane-pixel : (width height : ℕ) (tile : Tile) (x y i : ℕ) → origin ≤ x → x + i < origin + width → origin ≤ y → y < origin + height
    → get_or (plane_of width height tile) ((y - origin) * width + (x - origin) + i) 0 ≡ pixel_of tile (x + i) y
plane-pixel width height tile x y i left right top bottom =
    ap (λ j. get_or (plane_of width height tile) j 0) (add_assoc ((y - origin) * width) (x - origin) i)
    ∙ plane-at width height tile (x - origin + i) (y - origin) (omega arith) (omega arith)
    ∙ pixel-by tile (x - origin + i) (y - origin) (x + i) y (omega arith) (omega arith)

-- ---- rows
pub row-twice : (tile : Tile) (wide : List ℕ) (y : ℕ) → wide ≡ doubled_of tile → Twice (λ i. pixel_of tile i y) wide y
row-twice tile wide y e =
    record {
      long = ap length e ∙ map-below-length (λ i. pixel_of tile i (i / 32)) 256;
      again = λ i. pixel-by tile (i + 16) y i y (omega arith) refl;
      there = λ i h. ap (λ l. get_or l (32 * (y % 8) + i) 0) e ∙ there i h;
    }
  where
    there : (i : ℕ) → i < 32 → get_or (doubled_of tile) (32 * (y % 8) + i) 0 ≡ pixel_of tile i y
    there i h =
        by_cases (ltb i 16)
        (λ t.
        let low = ltb-true i 16 t in
        let p : 32 * (y % 8) + i ≡ 32 * (y % 8) + i % 16 = omega arith in
        ap (λ j. get_or (doubled_of tile) j 0) p ∙ (rows-twice tile i y).0)
        (λ t.
        let high = ltb-false i 16 t in
        let p : 32 * (y % 8) + i ≡ 32 * (y % 8) + 16 + i % 16 = omega arith in
        ap (λ j. get_or (doubled_of tile) j 0) p ∙ (rows-twice tile i y).1)

-- a row of a tile is a row of the buffer that it covers
pub tiled-from : (q : Selectors) (plane l : List ℕ) (at n : ℕ) (pixel : ℕ → ℕ)
    → ((i : ℕ) → i < n → get_or plane (at + i) 0 ≡ pixel i) → tiled (mixed (unkeyed q)) n l at pixel ≡ row_of (Copied (unkeyed q)) false plane at at n l
unfolding row_of
tiled-from q plane l at n pixel same =
    let value : (ℕ → ℕ) → ℕ → List ℕ → ℕ = λ source i m. mixed (unkeyed q) (source i) (get_or m (at + i) 0) in
    sweep-agree (λ i. at + i) (value pixel) l (λ i. at + i) (value (λ i. get_or plane (at + i) 0)) n (λ i p. refl)
    (λ i p. let m = sweep (λ i. at + i) (value pixel) i l in ap (λ s. mixed (unkeyed q) s (get_or m (at + i) 0)) (sym (same i p)))

-- its pixels are those of the rows that are there, each twice
pub wide-pixel : (tile : Tile) (wide : List ℕ) → wide ≡ doubled_of tile → (y i : ℕ) → wide_pixel wide y i ≡ pixel_of tile i y
wide-pixel tile wide e y i =
    (row-twice tile wide y e).there (i % 16) (omega arith) ∙ pixel-by tile (i % 16) y i y (omega arith) refl

-- as the row that is drawn takes them
pub wide-twice : (wide : List ℕ) (y : ℕ) → Doubled wide → Twice (wide_pixel wide y) wide y
wide-twice wide y d =
    let t = row-twice d.tile wide y d.twice in
    record {
      long = t.long;
      again = λ i. wide-pixel d.tile wide d.twice y (i + 16) ∙ t.again i ∙ sym (wide-pixel d.tile wide d.twice y i);
      there = λ i h. t.there i h ∙ sym (wide-pixel d.tile wide d.twice y i);
    }

-- ---- boxes
module _ (t : Tiling) (tile : Tile) (across down : Range) (own : ℕ)
    (p : BoxShown (copy_of t) across down (length (plane_of t.width t.height tile)) own) (some : across.from < across.past) (lines : down.from < down.past) where
  abbrev up : Bool
  up = bottom_to_top t.direction

  abbrev edge : ℕ
  edge = left_edge (right_to_left t.direction) (point_of t.to).x across.from across.past

  abbrev line : ℕ → ℕ
  line r = away up (point_of t.to).y r

  abbrev first : ℕ
  first = place_at t.to t.width t.direction across.from across.past down.from

  box-pixels : (k i : ℕ) → k < down.past - down.from → i < across.past - across.from
      → get_or (plane_of t.width t.height tile) (away up first (t.width * k) + i) 0 ≡ pixel_of tile (edge + i) (away up (line down.from) k)
  box-pixels k i h g =
      let inside = p.inside refl in
      let columns = inside.columns some lines in
      let row = inside.rows k h in
      ap (λ at. get_or (plane_of t.width t.height tile) (at + i) 0)
      (row_on t.to t.width t.direction across.from across.past down.from down.past (λ k h. omega (arith, p.fits.down-small))
      (λ k h. (inside.rows k h).0) k h)
      ∙ plane-pixel t.width t.height tile edge (line (down.from + k)) i columns.0 (omega (arith, columns.1)) row.0 row.1
      ∙ ap (pixel_of tile (edge + i)) (sym (on-from up (point_of t.to).y down.from (down.from + k) k refl))

  pub lines-far : line down.from + 1 * (down.past - down.from) < 18446744073709551616
  lines-far =
      omega (arith, away-below up (point_of t.to).y down.from (y-below t.to) (omega (arith, p.fits.down-small)), p.fits.down-small)

  -- its rows are those of the buffer that it covers
  pub tiled-rows : (wide l : List ℕ) → wide ≡ doubled_of tile
      → in_turn (λ k l. tiled (mixed (unkeyed t.selectors)) (across.past - across.from) l (away up first (t.width * k))
      (λ i. wide_pixel wide (away up (line down.from) (1 * k)) (edge + i))) (down.past - down.from) l
      ≡ blit_box (copy_of t) across down (plane_of t.width t.height tile) l
  unfolding box_of
  tiled-rows wide l e =
      let plane = plane_of t.width t.height tile in
      let n = across.past - across.from in
      turn_agree
      (λ k l. tiled (mixed (unkeyed t.selectors)) n l (away up first (t.width * k)) (λ i. wide_pixel wide (away up (line down.from) (1 * k)) (edge + i)))
      (row_at (Copied (unkeyed t.selectors)) (right_to_left t.direction) up t.width t.width plane first first n) (down.past - down.from) l
      (λ k h u.
      tiled-from t.selectors plane u (away up first (t.width * k)) n (λ i. wide_pixel wide (away up (line down.from) (1 * k)) (edge + i))
      (λ i g.
      let once : k ≡ 1 * k = omega arith in
      box-pixels k i h g ∙ ap (λ k. pixel_of tile (edge + i) (away up (line down.from) k)) once
      ∙ sym (wide-pixel tile wide e (away up (line down.from) (1 * k)) (edge + i)))
      ∙ copied-same (right_to_left t.direction) (unkeyed t.selectors) plane (away up first (t.width * k)) (away up first (t.width * k)) n u)

-- ---- what is visible, and the tests
shown-range : (back : Bool) (c lo hi size : ℕ) → origin ≤ lo → hi ≤ origin + size
    → range_of back c lo hi ≡ visible_range true back c lo hi c size
unfolding range_of visible_range
shown-range true c lo hi size h l =
    let p : c + 1 - hi ≡ max (c + 1 - hi) (c + 1 - (origin + size)) = omega arith in
    let q : c + 1 - lo ≡ min (c + 1 - lo) (c + 1 - origin) = omega arith in
    λ i. record { from = p i; past = q i }
shown-range false c lo hi size h l =
    let p : lo - c ≡ max (lo - c) (origin - c) = omega arith in
    let q : hi - c ≡ min (hi - c) (origin + size - c) = omega arith in
    λ i. record { from = p i; past = q i }

module _ (t : Tiling) (h : window_inside t.width t.height t.window ≡ true) where
  inside : Inside t.width t.height t.window
  inside = inside_of t.width t.height t.window h

  shown-columns : range_of (right_to_left t.direction) (point_of t.to).x t.window.left t.window.right ≡ visible_columns (copy_of t)
  unfolding visible_columns
  shown-columns =
      shown-range (right_to_left t.direction) (point_of t.to).x t.window.left t.window.right t.width inside.left_in
      inside.right-in

  shown-rows : range_of (bottom_to_top t.direction) (point_of t.to).y t.window.top t.window.bottom ≡ visible_rows (copy_of t)
  unfolding visible_rows
  shown-rows =
      shown-range (bottom_to_top t.direction) (point_of t.to).y t.window.top t.window.bottom t.height inside.top_in
      inside.bottom-in

  pub shown_by : window_ranges t.window t.to t.direction ≡ visible_of (copy_of t)
  shown_by = λ i. record { columns = shown-columns i; rows = shown-rows i }

module _ (t : Tiling) (tile : Tile) (first n own : ℕ) where
  -- the buffer that the tile covers has the size that it needs
  pub plane-tests : blit_fits (copy_of t) first n own own ≡ blit_fits (copy_of t) first n (length (plane_of t.width t.height tile)) own
  plane-tests =
      let a = t.width * t.height in
      let plane = plane_of t.width t.height tile in
      let long : eqb (length plane) a ≡ true = eq-eqb (length plane) a (plane-long t.width t.height tile) in
      by_cases (eqb own a) (λ u. rw (u, long)) (λ u. rw u)

  pub tested : (b : Blit) → b ≡ copy_of t → (r : Bool) → r ≡ blit_fits b first n own own
      → r ≡ blit_fits (copy_of t) first n (length (plane_of t.width t.height tile)) own
  tested b e r h = h ∙ ap (λ b. blit_fits b first n own own) e ∙ plane-tests

  pub tile-fits : (b : Blit) → b ≡ copy_of t → (r : Bool) → r ≡ blit_fits b first n own own → r ≡ true
      → blit_fits (copy_of t) first n (length (plane_of t.width t.height tile)) own ≡ true
  tile-fits b e r h p = sym (tested b e r h) ∙ p
