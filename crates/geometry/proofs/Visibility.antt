-- The visible part of a blit has the blit's cells less the hidden ones, in order, and fits the buffer.
-- Assumes nothing.
use mathlib.Core.Path.{◌≡◌, refl, ap, ap₂, sym, ◌∙◌}
use mathlib.Core.Bool.{Bool, true, false, ◌&&◌}
use mathlib.Core.List.{List, [], ◌++◌, map, map-map, append-nil}
use Prim.Native.Nat.{ℕ, zero, suc, ◌+◌, ◌-◌, ◌*◌, ◌/◌, ◌%◌, ◌≤◌, ◌<◌, min}
use native.Mathlib.Nat.{mul-suc, mul-zero, mul_comm, mul-le-mul, mul-le-mul_left, mul-add-div, mul-add-mod_self_left, mod-eq_of_lt, div-eq_of_lt}
use native.Mathlib.Omega.{arith}
use borrow.Author.Tests.{eqb-true, eqb-false, eq-eqb, ne_eqb, leb-true, leb-false, lt-ltb, le-ltb}
use lib.Dec.{eqb, leb}
use Rattle.lemmas.specs.Numbers.{numbers, below, filtered}
use Rattle.lemmas.proofs.Booleans.{by_cases, and_left, and_right}
use Rattle.lemmas.proofs.Numbers.{map-agree, map-numbers, map-append, numbers-join, filtered-append, filtered-map, filtered-agree, filtered-none, filtered-span}
use Rattle.geometry.specs.Coordinates.{point_of}
use Rattle.geometry.specs.Clip.{window_of, in_window}
use Rattle.geometry.specs.Blit.{width_of, height_of, blit_count, bottom_to_top, right_to_left, away, blit_cell, blit_point}
use Rattle.geometry.specs.Visible.{cell_shows, visible_range, length_of, visible_part, cell_count, shows_whole, index_in, visible_index, visible_cell, IndexFits, Positive, VisibleInOrder, VisibleFits, HugeClear, UpAndLeft, NothingVisible}
use Rattle.geometry.specs.declared.Extent.{Extent}
use Rattle.geometry.specs.declared.Point.{Point}
use Rattle.geometry.specs.declared.Window.{Window}
use Rattle.geometry.specs.declared.visible.Range.{Range}
use Rattle.geometry.specs.declared.visible.Part.{Part}
use Rattle.geometry.proofs.Blits.{factor-pos, column-lt, row_lt, cell_at}
use Rattle.geometry.proofs.Windows.{shown_of, shown_by}

-- visit j of row r
pub column-of : (w r j : ℕ) → j < w → (w * r + j) % w ≡ j
column-of w r j h = mul-add-mod_self_left w r j ∙ mod-eq_of_lt h

pub row-of : (w r j : ℕ) → j < w → (w * r + j) / w ≡ r
row-of w r j h =
    let none : j / w ≡ 0 = div-eq_of_lt h in
    mul-add-div {m = w} (omega arith) r j ∙ ap (λ x. r + x) none ∙ (let e : r + 0 ≡ r = omega arith in e)

-- Number k of those that lie in some columns of some rows of w.
abbrev number_in : ℕ → Range → Range → ℕ → ℕ
number_in w columns rows k = w * (rows.from + k / length_of columns) + (columns.from + k % length_of columns)

-- A test of w x h visits that some columns pass in some rows, and no others.
module _ (p : ℕ → Bool) (w h : ℕ) (columns rows : Range) (cut : columns.past ≤ w)
    (passes : (r j : ℕ) → rows.from ≤ r → r < rows.past → columns.from ≤ j → j < columns.past → p (w * r + j) ≡ true)
    (fails : (r j : ℕ) → r < h → j < w → (r < rows.from → p (w * r + j) ≡ false) × (rows.past ≤ r → p (w * r + j) ≡ false)
    × (j < columns.from → p (w * r + j) ≡ false) × (columns.past ≤ j → p (w * r + j) ≡ false)) where
  row-passes : (r : ℕ) → r < h → rows.from ≤ r → r < rows.past
      → filtered p (numbers (w * r) w) ≡ numbers (w * r + columns.from) (length_of columns)
  row-passes r l f q =
      filtered-span p (w * r) w columns.from columns.past cut (λ j a b. passes r j f q a b) (λ j a b. (fails r j l b).2 a) (λ j a b. (fails r j l b).3 a)

  row-above : (r : ℕ) → r < h → r < rows.from → filtered p (numbers (w * r) w) ≡ []
  row-above r l f = filtered-none p (w * r) w (λ j a. (fails r j l a).0 f)

  row_below : (r : ℕ) → r < h → rows.past ≤ r → filtered p (numbers (w * r) w) ≡ []
  row_below r l f = filtered-none p (w * r) w (λ j a. (fails r j l a).1 f)

  -- the numbers of the q-th row that passes
  row-numbers : (q : ℕ) → map (number_in w columns rows) (numbers (length_of columns * q) (length_of columns))
      ≡ numbers (w * (rows.from + q) + columns.from) (length_of columns)
  row-numbers q =
      let n = length_of columns in
      map-numbers (number_in w columns rows) (n * q) (w * (rows.from + q) + columns.from) n
      (λ i a.
      let g : w * (rows.from + q) + (columns.from + i) ≡ w * (rows.from + q) + columns.from + i = omega arith in
      ap₂ (λ r j. w * (rows.from + r) + (columns.from + j)) (row-of n q i a) (column-of n q i a) ∙ g)

  -- what the first m rows leave, and with one row more
  abbrev Passing : ℕ → List ℕ
  Passing m = map (number_in w columns rows) (below (length_of columns * (min m rows.past - rows.from)))

  more-row : (m : ℕ) → rows.from ≤ m → m < rows.past
      → Passing m ++ numbers (w * m + columns.from) (length_of columns) ≡ Passing (suc m)
  more-row m f q =
      let n = length_of columns in
      let number = number_in w columns rows in
      let count = min m rows.past - rows.from in
      let e : min (suc m) rows.past - rows.from ≡ suc count = omega arith in
      let g : m ≡ rows.from + count = omega arith in
      let z : n * count ≡ 0 + n * count = omega arith in
      ap (λ l. Passing m ++ l) (ap (λ r. numbers (w * r + columns.from) n) g ∙ sym (row-numbers count))
      ∙ sym (map-append number (below (n * count)) (numbers (n * count) n))
      ∙ ap (map number) (ap (λ a. below (n * count) ++ numbers a n) z ∙ sym (numbers-join 0 (n * count) n))
      ∙ ap (λ k. map number (below k)) (sym (mul-suc n count) ∙ ap (λ c. n * c) (sym e))

  no_row : (m : ℕ) → min m rows.past - rows.from ≡ min (suc m) rows.past - rows.from → Passing m ++ [] ≡ Passing (suc m)
  no_row m e = append-nil (Passing m) ∙ ap (λ c. map (number_in w columns rows) (below (length_of columns * c))) e

  next_row : (m : ℕ) → m < h → Passing m ++ filtered p (numbers (w * m) w) ≡ Passing (suc m)
  next_row m l =
      by_cases (leb rows.from m)
      (λ t.
      let f : rows.from ≤ m = leb-true rows.from m t in
      by_cases (leb rows.past m)
      (λ s.
      let q : rows.past ≤ m = leb-true rows.past m s in
      ap (λ r. Passing m ++ r) (row_below m l q) ∙ no_row m (omega arith))
      (λ s.
      let q : m < rows.past = leb-false rows.past m s in
      ap (λ r. Passing m ++ r) (row-passes m l f q) ∙ more-row m f q))
      (λ t.
      let f : m < rows.from = leb-false rows.from m t in
      ap (λ r. Passing m ++ r) (row-above m l f) ∙ no_row m (omega arith))

  first_rows : (m : ℕ) → m ≤ h → filtered p (below (w * m)) ≡ Passing m
  unfolding numbers filtered
  first_rows zero l =
      let e : min 0 rows.past - rows.from ≡ 0 = omega arith in
      rw (mul-zero w, e, mul-zero (length_of columns))
  first_rows (suc m) l =
      let z : 0 + w * m ≡ w * m = omega arith in
      ap (λ k. filtered p (below k)) (mul-suc w m)
      ∙ ap (filtered p) (numbers-join 0 (w * m) w ∙ ap (λ a. below (w * m) ++ numbers a w) z)
      ∙ filtered-append p (below (w * m)) (numbers (w * m) w)
      ∙ ap (λ r. r ++ filtered p (numbers (w * m) w)) (first_rows m (omega arith))
      ∙ next_row m (omega arith)

  passing-rows : rows.past ≤ h → map (number_in w columns rows) (below (length_of columns * length_of rows)) ≡ filtered p (below (w * h))
  passing-rows l =
      let e : min h rows.past ≡ rows.past = omega arith in
      sym (first_rows h (omega arith) ∙ ap (λ c. map (number_in w columns rows) (below (length_of columns * (c - rows.from)))) e)

-- what a window lets through, of pixels that go on or back
range-passes : (back : Bool) (c low high n j : ℕ) → 0 < low → (visible_range back c low high n).from ≤ j → j < (visible_range back c low high n).past
    → (low ≤ away back c j) × (away back c j < high)
unfolding visible_range
range-passes true c low high n j some f q = (omega arith, omega arith)
range-passes false c low high n j some f q = (omega arith, omega arith)

range-before : (back : Bool) (c low high n j : ℕ) → j < (visible_range back c low high n).from → (low ≤ away back c j → away back c j < high → ⊥)
unfolding visible_range
range-before true c low high n j f a b = omega arith
range-before false c low high n j f a b = omega arith

range-after : (back : Bool) (c low high n j : ℕ) → 0 < low → j < n → (visible_range back c low high n).past ≤ j
    → (low ≤ away back c j → away back c j < high → ⊥)
unfolding visible_range
range-after true c low high n j some l f a b = omega arith
range-after false c low high n j some l f a b = omega arith

range-cut : (back : Bool) (c low high n : ℕ) → (visible_range back c low high n).past ≤ n
unfolding visible_range
range-cut true c low high n = omega arith
range-cut false c low high n = omega arith

-- a range is no longer than what it lies in
range-fits : (back : Bool) (c low high n : ℕ) → length_of (visible_range back c low high n) ≤ high - low
unfolding visible_range
range-fits true c low high n = omega arith
range-fits false c low high n = omega arith

not-then : (t : Bool) → (t ≡ true → ⊥) → t ≡ false
not-then true h = absurd (h refl)
not-then false h = refl

hidden-across : (w : Window) (p : Point) → (w.left ≤ p.x → p.x < w.right → ⊥) → in_window w p ≡ false
hidden-across w p h = not-then (in_window w p) (λ t. h (shown_of w p t).from-left (shown_of w p t).to-right)

hidden-down : (w : Window) (p : Point) → (w.top ≤ p.y → p.y < w.bottom → ⊥) → in_window w p ≡ false
hidden-down w p h = not-then (in_window w p) (λ t. h (shown_of w p t).from-top (shown_of w p t).to-bottom)

-- the pixel at column j of row r
point-in : (corner : Point) (size direction r j : ℕ) → j < width_of size
    → blit_point corner size direction (width_of size * r + j)
    ≡ record { x = away (right_to_left direction) corner.x j; y = away (bottom_to_top direction) corner.y r }
point-in corner size direction r j h =
    let w = width_of size in
    λ i. record {
      x = away (right_to_left direction) corner.x (column-of w r j h i);
      y = away (bottom_to_top direction) corner.y (row-of w r j h i);
    }

module _ (corner : Point) (size direction : ℕ) (w : Window) where
  abbrev columns : Range
  columns = (visible_part corner size direction w).columns

  abbrev rows : Range
  rows = (visible_part corner size direction w).rows

  pub columns-cut : columns.past ≤ width_of size
  columns-cut = range-cut (right_to_left direction) corner.x w.left w.right (width_of size)

  pub rows_cut : rows.past ≤ height_of size
  rows_cut = range-cut (bottom_to_top direction) corner.y w.top w.bottom (height_of size)

  -- visible cell k is one of the blit's
  pub index-lt : (k : ℕ) → k < length_of columns * length_of rows → index_in size (visible_part corner size direction w) k < blit_count size
  index-lt k l =
      let n = length_of columns in
      let few : k % n < n = column-lt n (length_of rows) k l in
      let low : k / n < length_of rows = row_lt n (length_of rows) k l in
      let r = rows.from + k / n in
      let most : width_of size * suc r ≤ width_of size * height_of size = mul-le-mul_left (width_of size) (omega (arith, rows_cut, low)) in
      omega (arith, most, few, columns-cut, mul-suc (width_of size) r)

  module _ (positive : Positive w) where
    visible-shows : (r j : ℕ) → rows.from ≤ r → r < rows.past → columns.from ≤ j → j < columns.past
        → in_window w (blit_point corner size direction (width_of size * r + j)) ≡ true
    visible-shows r j a b c d =
        let across = range-passes (right_to_left direction) corner.x w.left w.right (width_of size) j positive.left-some c d in
        let down = range-passes (bottom_to_top direction) corner.y w.top w.bottom (height_of size) r positive.top-some a b in
        ap (in_window w) (point-in corner size direction r j (omega (arith, columns-cut)))
        ∙ shown_by w _ (record { from-left = across.0; to-right = across.1; from-top = down.0; to-bottom = down.1 })

    pub others-hide : (r j : ℕ) → r < height_of size → j < width_of size →
        let k = width_of size * r + j in
        (r < rows.from → in_window w (blit_point corner size direction k) ≡ false)
        × (rows.past ≤ r → in_window w (blit_point corner size direction k) ≡ false)
        × (j < columns.from → in_window w (blit_point corner size direction k) ≡ false)
        × (columns.past ≤ j → in_window w (blit_point corner size direction k) ≡ false)
    others-hide r j tall wide =
        let at = point-in corner size direction r j wide in
        let q : Point = record { x = away (right_to_left direction) corner.x j; y = away (bottom_to_top direction) corner.y r } in (
          λ a. ap (in_window w) at ∙ hidden-down w q (range-before (bottom_to_top direction) corner.y w.top w.bottom (height_of size) r a),
          λ a. ap (in_window w) at ∙ hidden-down w q (range-after (bottom_to_top direction) corner.y w.top w.bottom (height_of size) r positive.top-some tall a),
          λ a. ap (in_window w) at ∙ hidden-across w q (range-before (right_to_left direction) corner.x w.left w.right (width_of size) j a),
          λ a. ap (in_window w) at ∙ hidden-across w q (range-after (right_to_left direction) corner.x w.left w.right (width_of size) j positive.left-some wide a),
        )

    -- the visible cells by their numbers
    pub numbers-in-order : map (index_in size (visible_part corner size direction w)) (below (cell_count (visible_part corner size direction w)))
        ≡ filtered (λ k. in_window w (blit_point corner size direction k)) (below (blit_count size))
    numbers-in-order =
        passing-rows (λ k. in_window w (blit_point corner size direction k)) (width_of size) (height_of size) columns rows columns-cut visible-shows others-hide
        rows_cut

-- what the code finds is the index
module _ (corner : Point) (size direction : ℕ) (w : Window) (k : ℕ) (p : Part) (found : p ≡ visible_part corner size direction w) where
  pub index_at : k < cell_count p → index_in size p k ≡ visible_index corner size direction w k
  unfolding visible_index
  index_at l =
      let l : k < cell_count (visible_part corner size direction w) = rw found at l in
      rw (found, lt-ltb k (cell_count (visible_part corner size direction w)) l)

  pub index-past : cell_count p ≤ k → blit_count size ≡ visible_index corner size direction w k
  unfolding visible_index
  index-past l =
      let l : cell_count (visible_part corner size direction w) ≤ k = rw found at l in
      rw (le-ltb k (cell_count (visible_part corner size direction w)) l)

-- a cell of the blit shows where its pixel does
cell-shows : (corner : Point) (size direction : ℕ) (w : Window) (k : ℕ) → k < blit_count size
    → cell_shows w corner direction (blit_cell size k) ≡ in_window w (blit_point corner size direction k)
cell-shows corner size direction w k l = ap (cell_shows w corner direction) (sym (cell_at size k l))

pub visible-in-order : VisibleInOrder
visible-in-order corner size direction w positive =
    let p = visible_part corner size direction w in
    let shows : ℕ → Bool = λ k. in_window w (blit_point corner size direction k) in
    map-agree (visible_cell corner size direction w) (λ k. blit_cell size (index_in size p k)) 0 0 (cell_count p)
    (λ i l. let e : 0 + i ≡ i = omega arith in rw e (ap (blit_cell size) (sym (index_at corner size direction w i p refl l))))
    ∙ sym (map-map (blit_cell size) (index_in size p) (below (cell_count p)))
    ∙ ap (map (blit_cell size)) (numbers-in-order corner size direction w positive
    ∙ filtered-agree shows (λ k. cell_shows w corner direction (blit_cell size k)) (blit_count size) (λ k l. sym (cell-shows corner size direction w k l)))
    ∙ sym (filtered-map (cell_shows w corner direction) (blit_cell size) (below (blit_count size)))

-- a window that clip and buffer make
pub window-positive : (extent : Extent) (clip : Bool) (top_left bottom_right : ℕ) → Positive (window_of extent clip top_left bottom_right)
unfolding window_of
window-positive extent true a b = record { left-some = omega arith; top-some = omega arith }
window-positive extent false a b = record { left-some = omega arith; top-some = omega arith }

window-size : (extent : Extent) (clip : Bool) (top_left bottom_right : ℕ) →
    let w = window_of extent clip top_left bottom_right in
    (w.right - w.left ≤ extent.width) × (w.bottom - w.top ≤ extent.height)
unfolding window_of
window-size extent true a b = (omega arith, omega arith)
window-size extent false a b = (omega arith, omega arith)

pub visible-fits : VisibleFits
visible-fits extent clip a b corner size direction =
    let w = window_of extent clip a b in
    let most = window-size extent clip a b in
    let across = range-fits (right_to_left direction) corner.x w.left w.right (width_of size) in
    let down = range-fits (bottom_to_top direction) corner.y w.top w.bottom (height_of size) in
    mul-le-mul (omega (arith, across, most.0)) (omega (arith, down, most.1))

-- a blit that shows whole
module _ (corner : Point) (size direction : ℕ) (w : Window) where
  whole-range : (c low high n : ℕ) → low ≤ c → c + n ≤ high → length_of (visible_range false c low high n) ≡ n
  unfolding visible_range
  whole-range c low high n a b = omega arith

  pub whole-count : shows_whole corner size direction w ≡ true → blit_count size ≡ cell_count (visible_part corner size direction w)
  whole-count h =
      let t0 = eqb direction 0 in
      let t1 = leb w.left corner.x in
      let t2 = leb (corner.x + width_of size) w.right in
      let t3 = leb w.top corner.y in
      let t4 = leb (corner.y + height_of size) w.bottom in
      let h3 = and_left (t0 && t1 && t2 && t3) t4 h in
      let h2 = and_left (t0 && t1 && t2) t3 h3 in
      let h1 = and_left (t0 && t1) t2 h2 in
      let across =
      whole-range corner.x w.left w.right (width_of size) (leb-true w.left corner.x (and_right t0 t1 h1))
      (leb-true (corner.x + width_of size) w.right (and_right (t0 && t1) t2 h2)) in
      let down =
      whole-range corner.y w.top w.bottom (height_of size) (leb-true w.top corner.y (and_right (t0 && t1 && t2) t3 h3))
      (leb-true (corner.y + height_of size) w.bottom (and_right (t0 && t1 && t2 && t3) t4 h)) in
      sym (ap₂ ◌*◌ across down)
      ∙ ap (λ d. cell_count (visible_part corner size d w)) (sym (eqb-true direction 0 (and_left t0 t1 h1)))

-- a blit whose corner shows
corner-range : (back : Bool) (c low high n : ℕ) → low ≤ c → c < high → 0 < n → 0 < length_of (visible_range back c low high n)
unfolding visible_range
corner-range true c low high n a b s = omega arith
corner-range false c low high n a b s = omega arith

range-most : (back : Bool) (c low high n : ℕ) → length_of (visible_range back c low high n) ≤ n
unfolding visible_range
range-most true c low high n = omega arith
range-most false c low high n = omega arith

pub corner-shows : (corner : Point) (size direction : ℕ) (w : Window) → in_window w corner ≡ true
    → eqb (blit_count size) 0 ≡ eqb (cell_count (visible_part corner size direction w)) 0
corner-shows corner size direction w h =
    let s = shown_of w corner h in
    let width = width_of size in
    let height = height_of size in
    let back = right_to_left direction in
    let up = bottom_to_top direction in
    let n = cell_count (visible_part corner size direction w) in
    by_cases (eqb (width * height) 0)
    (λ t.
    let most : n ≤ width * height =
    mul-le-mul (range-most back corner.x w.left w.right width) (range-most up corner.y w.top w.bottom height) in
    t ∙ sym (eq-eqb n 0 (omega (arith, most, eqb-true (width * height) 0 t))))
    (λ t.
    let some : 0 < width * height = omega (arith, eqb-false (width * height) 0 t) in
    let wide = factor-pos width height 0 some in
    let tall = factor-pos height width 0 (omega (arith, some, mul_comm width height)) in
    let least : 1 * 1 ≤ n =
    mul-le-mul (corner-range back corner.x w.left w.right width s.from-left s.to-right wide)
    (corner-range up corner.y w.top w.bottom height s.from-top s.to-bottom tall) in
    t ∙ sym (ne_eqb n 0 (λ z. omega (arith, least, z))))

-- Sums and products of the code fit.
module _ (corner : Point) (size direction : ℕ) (w : Window) (p : Part) (small : size < 4294967296) (found : p ≡ visible_part corner size direction w) where
  part_small : (p.columns.past < 65536) × (p.rows.past < 65536)
  part_small = rw found (omega (arith, columns-cut corner size direction w), omega (arith, rows_cut corner size direction w))

  pub count_fits : cell_count p < 4294967296
  count_fits =
      let most : cell_count p ≤ 65535 * 65535 =
      mul-le-mul {n₁ = length_of p.columns} {m₁ = length_of p.rows} {n₂ = 65535} {m₂ = 65535} (omega (arith, part_small.0)) (omega (arith, part_small.1)) in
      omega arith

  pub index-fits : (k : ℕ) → k < cell_count p → IndexFits (width_of size) p.rows.from p.columns.from (length_of p.columns) k
  index-fits k l =
      let n = length_of p.columns in
      let few : k % n < n = column-lt n (length_of p.rows) k l in
      let low : k / n < length_of p.rows = row_lt n (length_of p.rows) k l in
      let r = p.rows.from + k / n in
      let s = part_small in
      let most : width_of size * r ≤ 65535 * 65535 =
      mul-le-mul {n₁ = width_of size} {m₁ = r} {n₂ = 65535} {m₂ = 65535} (omega arith) (omega (arith, low, s.1)) in
      record {
        some-columns = omega arith;
        row_small = omega (arith, low, s.1);
        column-small = omega (arith, few, s.0);
        product_small = omega arith;
      }

pub huge-clear : HugeClear
unfolding point_of window_of visible_range
huge-clear = refl

pub up-and-left : UpAndLeft
unfolding point_of window_of visible_range visible_index blit_cell numbers
up-and-left = refl

pub nothing-visible : NothingVisible
unfolding point_of window_of visible_range
nothing-visible = refl
