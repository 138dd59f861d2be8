-- The pixels of a tile, and of none.
-- Assumes nothing.
use mathlib.Core.Path.{◌≡◌, refl, ap, sym, ◌∙◌}
use mathlib.Core.Bool.{Bool, true, not}
use mathlib.Core.List.{List, ◌++◌}
use Prim.Native.Nat.{min, ℕ, zero, suc, ◌+◌, ◌-◌, ◌*◌, ◌%◌, ◌≤◌, ◌<◌}
use native.Mathlib.Nat.{add-mul}
use native.Mathlib.Omega.{arith}
use Rattle.std.proofs.lemmas.List.{places, get_or-drop, get_or-append_right, get_or_past}
use borrow.Author.Tests.{eqb-true, ltb-true, ltb-false, not-true}
use Rattle.std.proofs.lemmas.Bool.Decides.{same_from_decides}
use lib.Dec.{eqb, ltb}
use lib.Pointwise.{pointwise, bytes_decides}
use lib.ListN.{length, get_or, replicate, take, drop, get_or-replicate}
use lib.Seq.{ext_get_or}
use Rattle.lemmas.specs.Turns.{in_turn}
use Rattle.lemmas.proofs.Booleans.{by_cases, and_left, and_right}
use Rattle.lemmas.proofs.Filling.{fill_end}
use Rattle.lemmas.proofs.Numbers.{map-below-length, map-below-at}
use Rattle.geometry.specs.Coordinates.{origin, point_of}
use Rattle.geometry.specs.Clip.{place_in}
use Rattle.geometry.specs.declared.Point.{Point}
use Rattle.tiles.specs.Tiles.{bytes_of, row_of, tile_of, no_row, pixel_of, blank_row, fill_of, all_below, row_blank, tile_blank, PixelsOfWhole, Sized, NoneIsNoFill}
use Rattle.tiles.specs.declared.Row.{Row}
use Rattle.tiles.specs.declared.Tile.{Tile}
use Rattle.tiles.proofs.Corners.{whole-fits}

pub zeros : (n j : ℕ) → ◌≡◌ {A = ℕ} (get_or (replicate n 0) j 0) 0
zeros zero j = refl
zeros (suc n) zero = refl
zeros (suc n) (suc j) = zeros n j

-- ---- a row out of a buffer
row-by : (buffer l : List ℕ) (at : ℕ) → length l ≡ 16 → ((k : ℕ) → k < 16 → get_or l k 0 ≡ get_or buffer (at + k) 0)
    → ◌≡◌ {A = Row} (record { pixels = l }) (row_of buffer at)
row-by buffer l at long each =
    ap (λ (l : List ℕ). record { pixels = l })
    (ext_get_or 0 l (bytes_of buffer at) (long ∙ sym (map-below-length (λ k. get_or buffer (at + k) 0) 16))
    (λ k h. let low : k < 16 = omega arith in each k low ∙ sym (map-below-at (λ k. get_or buffer (at + k) 0) 16 0 k low)))

-- which has all sixteen bytes
pub row-had : (buffer l : List ℕ) (at : ℕ) → at + 16 ≤ length buffer → l ≡ take (at + 16 - at) (drop at buffer)
    → ◌≡◌ {A = Row} (record { pixels = l }) (row_of buffer at)
row-had buffer l at long e = rw e (row-by buffer _ at (grind (arith, places)) (λ k h. grind (arith, places)))

-- which has the first n of them; zeros follow
pub row-short : (buffer l z : List ℕ) (at m n : ℕ) → m ≡ min at (length buffer) → n ≡ min (length buffer - m) 16 → l ≡ take n (drop m buffer)
    → length z ≡ 16 → ((k : ℕ) → get_or z k 0 ≡ 0) → ◌≡◌ {A = Row} (record { pixels = l ++ drop n z }) (row_of buffer at)
row-short buffer l z at m n cut few e long none =
    rw e
    (row-by buffer (take n (drop m buffer) ++ drop n z) at (grind (arith, places))
    (λ k h.
    by_cases (ltb k n)
    (λ t. let low = ltb-true k n t in let same : m ≡ at = omega arith in rw (← same) (grind (arith, places)))
    (λ t.
    let high = ltb-false k n t in
    get_or-append_right (take n (drop m buffer)) (drop n z) n k 0 (grind (arith, places)) high
    ∙ get_or-drop n z (k - n) 0 ∙ none (n + (k - n)) ∙ sym (get_or_past buffer (at + k) 0 (omega arith)))))

-- ---- a tile, row by row
pub tile-by : (buffer : List ℕ) (width at : ℕ) (t : Tile) → length t.rows ≡ 8
    → ((j : ℕ) → j < 8 → get_or t.rows j no_row ≡ row_of buffer (at + j * width)) → t ≡ tile_of buffer width at
tile-by buffer width at t long each =
    ap (λ (rows : List Row). record { rows = rows })
    (fill_end no_row (λ j. row_of buffer (at + j * width)) 8 t.rows 8 (record { few = omega arith; long = long; done = each }) (omega arith))

-- ---- a tile, pixel by pixel
pixel-at : (buffer : List ℕ) (width at x y : ℕ) → pixel_of (tile_of buffer width at) x y ≡ get_or buffer (at + y % 8 * width + x % 16) 0
pixel-at buffer width at x y =
    ap (λ (r : Row). get_or r.pixels (x % 16) 0) (map-below-at (λ j. row_of buffer (at + j * width)) 8 no_row (y % 8) (omega arith))
    ∙ map-below-at (λ i. get_or buffer (at + y % 8 * width + i) 0) 16 0 (x % 16) (omega arith)

-- the place of a pixel i columns right of p and j rows below
place-from : (width : ℕ) (p : Point) (i j : ℕ) → origin ≤ p.x → origin ≤ p.y
    → place_in width p + j * width + i ≡ place_in width (record { x = p.x + i; y = p.y + j })
place-from width p i j left top =
    let down : p.y + j - origin ≡ p.y - origin + j = omega arith in
    rw (down, add-mul (p.y - origin) j width) (omega arith)

pub pixels-of-whole : PixelsOfWhole
unfolding fill_of
pixels-of-whole extent corner buffer x y h =
    let p = point_of corner in
    let width = extent.width in
    let f = whole-fits p corner refl extent h in
    rw h
    (refl, pixel-at buffer width (place_in width p) x y ∙ ap (λ i. get_or buffer i 0) (place-from width p (x % 16) (y % 8) f.left f.top))

-- ---- zeros
all_pass : (n : ℕ) (test : ℕ → Bool) → all_below n test ≡ true → (k : ℕ) → k < n → test k ≡ true
unfolding in_turn
all_pass zero test h k p = absurd (omega arith)
all_pass (suc n) test h k p =
    by_cases (ltb k n)
    (λ t. all_pass n test (and_left (all_below n test) (test n) h) k (ltb-true k n t))
    (λ t.
    let e : n ≡ k = omega (arith, ltb-false k n t) in
    rw e at (and_right (all_below n test) (test n) h))

blank-row : (r : Row) → length r.pixels ≡ 16 → row_blank r ≡ true → r ≡ blank_row
blank-row r long h =
    row_by r (replicate 16 0)
    (ext_get_or 0 r.pixels (replicate 16 0) long
    (λ i p. eqb-true (get_or r.pixels i 0) 0 (all_pass 16 (λ i. eqb (get_or r.pixels i 0) 0) h i (omega arith)) ∙ sym (zeros 16 i)))
  where
    row_by : (r : Row) (l : List ℕ) → r.pixels ≡ l → ◌≡◌ {A = Row} r (record { pixels = l })
    row_by r l e = rw (← e)

-- so it is the test of the whole row against zeros
pub blank-is : (r : Row) → length r.pixels ≡ 16 → pointwise eqb r.pixels (replicate 16 0) ≡ row_blank r
unfolding in_turn
blank-is r long =
    same_from_decides (pointwise eqb r.pixels (replicate 16 0)) (row_blank r) (bytes_decides r.pixels (replicate 16 0))
    (λ h. ap (λ (r : Row). r.pixels) (blank-row r long h), λ e. rw e)

blank-tile : (t : Tile) → Sized t → tile_blank t ≡ true → t.rows ≡ replicate 8 blank_row
blank-tile t sized h =
    ext_get_or no_row t.rows (replicate 8 blank_row) sized.rows
    (λ j p.
    let low : j < 8 = omega (arith, sized.rows) in
    blank-row (get_or t.rows j no_row) (sized.pixels j low) (all_pass 8 (λ j. row_blank (get_or t.rows j no_row)) h j low)
    ∙ sym (get_or-replicate 8 j blank_row no_row low))

pub none-is-no-fill : NoneIsNoFill
unfolding in_turn
none-is-no-fill = (
  refl,
  λ f sized h i.
      record {
        whole = not-true f.whole (and_left (not f.whole) (tile_blank f.tile) h) i;
        tile = record { rows = blank-tile f.tile sized (and_right (not f.whole) (tile_blank f.tile) h) i };
      },
)
