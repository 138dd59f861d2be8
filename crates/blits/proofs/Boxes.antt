-- The visits of a blit's rows are a box of columns and rows, painted row after row.
-- Assumes nothing.
use mathlib.Core.Path.{◌≡◌, refl, ap, ap₂, sym, subst, ◌∙◌}
use mathlib.Core.Bool.{Bool, true, false, false≢true, ◌||◌}
use mathlib.Core.List.{List}
use mathlib.Core.Logic.{◌⊎◌, ⊎_elim}
use Prim.Native.Nat.{ℕ, ◌+◌, ◌-◌, ◌*◌, ◌≤◌, ◌<◌, min, max}
use native.Mathlib.Nat.{add-mul, mul_comm, mul-le-mul_left}
use native.Mathlib.Omega.{arith}
use borrow.Author.Tests.{leb-true, leb-false}
use lib.Dec.{leb}
use lib.ListN.{length}
use Rattle.lemmas.proofs.Booleans.{by_cases, or-first, or-none-left, or-none-right}
use Rattle.lemmas.specs.Turns.{in_turn}
use Rattle.lemmas.proofs.Turns.{turn-none, turn_agree, turn-idle, turn-part}
use Rattle.geometry.specs.Coordinates.{origin, point_of}
use Rattle.geometry.specs.Blit.{width_of, bottom_to_top, right_to_left, away}
use Rattle.lemmas.specs.Sweeps.{sweep}
use Rattle.blits.specs.Blits.{reads, source_pixels, source_width, visited}
use Rattle.blits.specs.Ranges.{visible_columns, visible_rows, part_of}
use Rattle.blits.specs.Places.{target_row, source_row, left_edge, place_at}
use Rattle.blits.specs.Rows.{row_of, row_at, box_of, RowsFit, BoxFits, BoxInside}
use Rattle.blits.specs.declared.Blit.{Blit}
use Rattle.blits.specs.declared.Paint.{Paint}
use Rattle.geometry.specs.declared.visible.Range.{Range}
use Rattle.blits.proofs.Bounds.{source-small, rows-far, x_below, y-below}
use Rattle.blits.proofs.Visits.{y-from}
use Rattle.blits.proofs.Axes.{RowIn, row-of, row_by}
use Rattle.blits.proofs.Drawn.{from-least, past-most, before-from, after-past}
use Rattle.blits.proofs.Rooms.{RowFits, edge-below, away-below, Inside, inside_of, none-in-row, none-in-columns, target_room, source-columns, source-room, whole_row}

-- a row of no pixels
no-pixels : (paint : Paint) (back : Bool) (other : List ℕ) (at from : ℕ) (l : List ℕ) → row_of paint back other at from 0 l ≡ l
unfolding row_of sweep
no-pixels paint false other at from l = refl
no-pixels paint true other at from l = refl

row-none : (paint : Paint) (back : Bool) (other : List ℕ) (at from n : ℕ) (l : List ℕ) → n ≡ 0 → row_of paint back other at from n l ≡ l
row-none paint back other at from n l e = ap (λ n. row_of paint back other at from n l) e ∙ no-pixels paint back other at from l

-- columns and rows of which there are some
pub some-shown : (across down : Range) → (leb across.past across.from || leb down.past down.from) ≡ false
    → (across.from < across.past) × (down.from < down.past)
some-shown across down h =
    let p = leb across.past across.from in
    let q = leb down.past down.from in
    (leb-false across.past across.from (or-none-left p q h), leb-false down.past down.from (or-none-right p q h))

module _ (paint : Paint) (width to from direction : ℕ) (across down : Range) (other l : List ℕ) where
  abbrev target : ℕ
  target = place_at to width direction across.from across.past down.from

  abbrev stride : ℕ
  stride = source_pixels paint width

  abbrev source : ℕ
  source = place_at from stride direction across.from across.past down.from

  abbrev rows : ℕ → ℕ → ℕ → ℕ → ℕ → List ℕ
  rows apart at from n k = in_turn (row_at paint (right_to_left direction) (bottom_to_top direction) width apart other at from n) k l

  pub no-columns : across.past ≤ across.from → l ≡ box_of paint width to from direction across down other l
  unfolding box_of
  no-columns h =
      sym
      (turn-idle (row_at paint (right_to_left direction) (bottom_to_top direction) width stride other target source (across.past - across.from))
      (down.past - down.from) l
      (λ k p t.
      row-none paint (right_to_left direction) other (away (bottom_to_top direction) target (width * k)) (away (bottom_to_top direction) source (stride * k))
      (across.past - across.from) t (omega arith)))

  pub no_rows : down.past ≤ down.from → l ≡ box_of paint width to from direction across down other l
  unfolding box_of
  no_rows h =
      let none : 0 ≡ down.past - down.from = omega arith in
      turn-none (row_at paint (right_to_left direction) (bottom_to_top direction) width stride other target source (across.past - across.from)) l
      ∙ ap (rows stride target source (across.past - across.from)) none

  pub none-shown : (leb across.past across.from || leb down.past down.from) ≡ true → l ≡ box_of paint width to from direction across down other l
  none-shown h =
      by_cases (leb across.past across.from) (λ t. no-columns (leb-true across.past across.from t))
      (λ t. no_rows (leb-true down.past down.from (or-first (leb across.past across.from) (leb down.past down.from) h t)))

  pub box-painted : (apart at start n count : ℕ) (k : List ℕ) → apart ≡ stride → at ≡ target
      → start ≡ place_at from apart direction across.from across.past down.from
      → n ≡ across.past - across.from → count ≡ down.past - down.from
      → k ≡ rows apart at start n count → k ≡ box_of paint width to from direction across down other l
  unfolding box_of
  box-painted apart at start n count k s p q long many e =
      let columns = across.past - across.from in
      let lines = down.past - down.from in
      e ∙ ap₂ (rows apart at start) long many
      ∙ ap₂ (λ at start. rows apart at start columns lines) p q
      ∙ ap (λ apart. rows apart target (place_at from apart direction across.from across.past down.from) columns lines) s

-- rows k apart are width * k apart in a buffer
moved_down : (width y e t k o : ℕ) → o ≤ y + t → (y + t - o) * width + e + width * k ≡ (y + (t + k) - o) * width + e
moved_down width y e t k o h =
    let u = y + t - o in
    let far : y + (t + k) - o ≡ u + k = omega arith in
    rw far (apart (u * width) (k * width) ((u + k) * width) (width * k) e (add-mul u k width) (mul_comm width k))
  where
    apart : (a b s p e : ℕ) → s ≡ a + b → p ≡ b → a + e + p ≡ s + e
    apart a b s p e h q = omega arith

moved_up : (width y e t k o : ℕ) → o ≤ y - (t + k) → o + k ≤ y - t → (y - t - o) * width + e - width * k ≡ (y - (t + k) - o) * width + e
moved_up width y e t k o h n =
    let u = y - (t + k) - o in
    let near : y - t - o ≡ u + k = omega arith in
    rw near (apart (u * width) (k * width) ((u + k) * width) (width * k) e (add-mul u k width) (mul_comm width k))
  where
    apart : (a b s p e : ℕ) → s ≡ a + b → p ≡ b → s + e - p ≡ a + e
    apart a b s p e h q = omega arith

moved_on : (up : Bool) (width y e t k : ℕ) → 65536 ≤ y → t + k < 65536 → origin ≤ away up y t → origin ≤ away up y (t + k)
    → away up ((away up y t - origin) * width + e) (width * k) ≡ (away up y (t + k) - origin) * width + e
moved_on true width y e t k high small p q = moved_up width y e t k origin q (omega arith)
moved_on false width y e t k high small p q = moved_down width y e t k origin p

-- rows at or below the origin are no further up than a place
climbed : (up : Bool) (width y e t k : ℕ) → origin ≤ away up y (t + k) → up ≡ true → width * k ≤ (away up y t - origin) * width + e
climbed true width y e t k h u =
    omega (arith, mul-le-mul_left {m = k} {n = y - t - origin} width (omega arith), mul_comm width (y - t - origin))
climbed false width y e t k h u = absurd (false≢true u)

-- the rows from `top` to before `bottom` of a blit that starts at a corner, where none is above the origin
module _ (corner width direction a z top bottom : ℕ) (small : (k : ℕ) → k < bottom - top → top + k < 65536)
    (visible : (k : ℕ) → k < bottom - top → origin ≤ away (bottom_to_top direction) (point_of corner).y (top + k)) where
  abbrev edge : ℕ
  edge = left_edge (right_to_left direction) (point_of corner).x a z

  pub row_on : (k : ℕ) → k < bottom - top
      → away (bottom_to_top direction) (place_at corner width direction a z top) (width * k) ≡ place_at corner width direction a z (top + k)
  row_on k h =
      let same : top + 0 ≡ top = omega arith in
      let first = subst (λ r. origin ≤ away (bottom_to_top direction) (point_of corner).y r) same (visible 0 (omega arith)) in
      moved_on (bottom_to_top direction) width (point_of corner).y (edge - origin) top k (y-from corner) (small k h) first (visible k h)

  rows_fit : (size : ℕ) → width < 34359738368 → a < 65536 → top < bottom → bottom ≤ 65536
      → ((k : ℕ) → k < bottom - top → place_at corner width direction a z (top + k) + (z - a) ≤ size)
      → RowsFit (bottom_to_top direction) width (place_at corner width direction a z top) (z - a) (bottom - top) size
  rows_fit size wide narrow some low room =
      let y = away (bottom_to_top direction) (point_of corner).y top in
      let y-small : y < 262144 = away-below (bottom_to_top direction) (point_of corner).y top (y-below corner) (omega arith) in
      let x-small : edge < 262144 = edge-below (right_to_left direction) (point_of corner).x a z (x_below corner) narrow in
      record {
        within = λ k h. rw (row_on k h) (room k h);
        above = λ u k h. climbed (bottom_to_top direction) width (point_of corner).y (edge - origin) top k (visible k h) u;
        far = rows-far width (y - origin) (edge - origin) (bottom - top) wide (omega (arith, y-small)) (omega (arith, x-small)) (omega arith);
      }

-- how many of the rows from `row` on are from p to before q
counted : (row rows p q : ℕ) → row ≤ p → q ≤ row + rows → min rows (q - row) - (p - row) ≡ q - p
counted row rows p q low high = omega arith

-- m visits of each of so many rows from `row` on, from column c on
module _ (b : Blit) (other : List ℕ) (row rows c m own : ℕ) (fits : (r : ℕ) → row ≤ r → r < row + rows → RowFits b r c m (length other) own)
    (across down : Range) (columns : across ≡ part_of (visible_columns b) c m) (lines : down ≡ part_of (visible_rows b) row rows) where
  abbrev row_visits : ℕ → List ℕ → List ℕ
  row_visits r = in_turn (λ i. visited b other (width_of b.size * r + c + i)) m

  abbrev a : ℕ
  a = across.from

  abbrev z : ℕ
  z = across.past

  abbrev top : ℕ
  top = down.from

  abbrev bottom : ℕ
  bottom = down.past

  begins : a ≡ max c (visible_columns b).from
  begins = ap (λ s. s.from) columns

  stops : z ≡ min (c + m) (visible_columns b).past
  stops = ap (λ s. s.past) columns

  starts : top ≡ max row (visible_rows b).from
  starts = ap (λ s. s.from) lines

  ends : bottom ≡ min (row + rows) (visible_rows b).past
  ends = ap (λ s. s.past) lines

  -- row top + k is one of the rows, and is visible
  module _ (k : ℕ) (h : k < bottom - top) where
    row_fits : RowFits b (top + k) c m (length other) own
    row_fits = fits (top + k) (omega (arith, starts)) (omega (arith, ends, h))

    row-in : RowIn b (top + k)
    row-in = row-of b (top + k) row_fits.row_small (omega (arith, starts)) (omega (arith, ends, h))

  inside : top < bottom → Inside b.width b.height b.window
  inside h = inside_of b.width b.height b.window (row_fits 0 (omega arith)).inside

  abbrev up : Bool
  up = bottom_to_top b.direction

  abbrev place : ℕ → ℕ → ℕ → ℕ
  place corner width r = place_at corner width b.direction a z r

  small : (k : ℕ) → k < bottom - top → top + k < 65536
  small k h = (row_fits k h).row_small

  target-visible : (k : ℕ) → k < bottom - top → origin ≤ target_row b (top + k)
  target-visible k h = omega (arith, (inside (omega arith)).top_in, (row-in k h).low)

  source-visible : reads b.paint ≡ true → (k : ℕ) → k < bottom - top → origin ≤ source_row b (top + k)
  source-visible t k h = ((row-in k h).source t).0

  target-on : (k : ℕ) → k < bottom - top → away up (place b.to b.width top) (b.width * k) ≡ place b.to b.width (top + k)
  target-on = row_on b.to b.width b.direction a z top bottom small target-visible

  source-on : reads b.paint ≡ true → (k : ℕ) → k < bottom - top
      → away up (place b.from (source_width b) top) (source_width b * k) ≡ place b.from (source_width b) (top + k)
  source-on t = row_on b.from (source_width b) b.direction a z top bottom small (source-visible t)

  pub box-fits : b.width < 4294967296 → bottom ≤ 65536 → z ≤ 65536 → length other ≡ own
      → BoxFits b.paint b.width b.to b.from b.direction across down (length other) own
  box-fits wide rows-small columns-small same =
      record {
        across-small = columns-small;
        down-small = rows-small;
        same = same;
        target =
            λ some lines.
            rows_fit b.to b.width b.direction a z top bottom small target-visible own (omega (arith, wide)) (omega (arith, some, columns-small)) lines
            rows-small (λ k h. target_room b other (top + k) c m own (row_fits k h) a z begins stops some (row-in k h));
        source =
            λ t some lines.
            rows_fit b.from (source_width b) b.direction a z top bottom small (source-visible t) (source_pixels b.paint own)
            (source-small b.paint b.width wide) (omega (arith, some, columns-small)) lines rows-small
            (λ k h. source-room b other (top + k) c m own (row_fits k h) a z begins stops some (row-in k h) t);
      }

  -- what is read is in the source
  pub box-inside : reads b.paint ≡ true → BoxInside (source_width b) b.height b.from b.direction across down
  box-inside t =
      record {
        columns =
            λ some lines.
            let first : 0 < bottom - top = omega arith in
            source-columns b other (top + 0) c m own (row_fits 0 first) a z begins stops some (row-in 0 first) t;
        rows = λ k h. (row-in k h).source t;
      }

  abbrev box_row : ℕ → List ℕ → List ℕ
  box_row =
      row_at b.paint (right_to_left b.direction) up b.width (source_width b) other (place b.to b.width top)
      (place b.from (source_width b) top) (z - a)

  one-row : (k : ℕ) → k < bottom - top → (t : List ℕ) → row_visits (top + k) t ≡ box_row k t
  one-row k h t =
      let at = away up (place b.to b.width top) (b.width * k) in
      let from = away up (place b.from (source_width b) top) (source_width b * k) in
      by_cases (leb z a)
      (λ u.
      let e = leb-true z a u in
      sym (none-in-columns b other (top + k) c m own (row_fits k h) a z begins stops t e)
      ∙ sym (row-none b.paint (right_to_left b.direction) other at from (z - a) t (omega arith)))
      (λ u.
      let e = leb-false z a u in
      sym (whole_row b other (top + k) c m own (row_fits k h) a z begins stops e (row-in k h) at from (target-on k h) (λ s. source-on s k h) t))

  row-idle : (k : ℕ) → k < rows → (t : List ℕ) → (k < top - row) ⊎ (bottom - row ≤ k) → row_visits (row + k) t ≡ t
  row-idle k q t out =
      let f = fits (row + k) (omega arith) (omega (arith, q)) in
      sym
      (none-in-row b other (row + k) c m own f a z begins stops t
      (λ s.
      let in_rows = row_by b (row + k) f.row_small s in
      ⊎_elim (λ h. before-from row (visible_rows b).from top k starts h in_rows.0)
      (λ h. after-past row rows (visible_rows b).past bottom k ends h q in_rows.1) out))

  pub box-visits : (l : List ℕ) → box_of b.paint b.width b.to b.from b.direction across down other l
      ≡ in_turn (λ k. row_visits (row + k)) rows l
  unfolding box_of
  box-visits l =
      let count : min rows (bottom - row) - (top - row) ≡ bottom - top = counted row rows top bottom (from-least row (visible_rows b).from top starts).0 (past-most (row + rows) (visible_rows b).past bottom ends).0 in
      sym
      (turn-part (λ k. row_visits (row + k)) (top - row) (bottom - row) rows l row-idle
      ∙ ap (λ n. in_turn (λ k. row_visits (row + (top - row + k))) n l) count
      ∙ turn_agree (λ k. row_visits (row + (top - row + k))) box_row (bottom - top) l
      (λ k h t. let e : row + (top - row + k) ≡ top + k = omega (arith, starts) in ap (λ r. row_visits r t) e ∙ one-row k h t))
