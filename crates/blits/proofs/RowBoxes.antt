-- Visits that are drawn at once, as boxes.
-- Assumes nothing.
use mathlib.Core.Path.{◌≡◌, ap, sym, ◌∙◌}
use mathlib.Core.Bool.{true, false}
use mathlib.Core.List.{List}
use Prim.Native.Nat.{ℕ, ◌+◌, ◌-◌, ◌*◌, ◌/◌, ◌%◌, ◌<◌}
use native.Mathlib.Nat.{mul-add}
use native.Mathlib.Omega.{arith}
use lib.ListN.{length}
use Rattle.lemmas.specs.Turns.{in_turn}
use Rattle.lemmas.proofs.Turns.{turn_agree, turn-rows}
use Rattle.geometry.specs.Coordinates.{point_of}
use Rattle.geometry.specs.Blit.{width_of, height_of, blit_count, bottom_to_top, right_to_left}
use Rattle.blits.specs.Blits.{reads, source_width, visited, Fitting}
use Rattle.blits.specs.Ranges.{window_ranges, visible_range, visible_columns, visible_rows, visible_of, part_of, Shown}
use Rattle.blits.specs.Rows.{box_of, blit_box, BoxFits, BoxInside, BoxShown}
use Rattle.blits.specs.declared.Blit.{Blit}
use Rattle.geometry.specs.declared.visible.Range.{Range}
use Rattle.geometry.specs.declared.visible.Part.{Part}
use Rattle.blits.proofs.Loops.{PartFits, whole_part}
use Rattle.blits.proofs.Drawn.{past-most}
use Rattle.blits.proofs.Rooms.{RowFits, z-small}
use Rattle.blits.proofs.Boxes.{box-fits, box-inside, box-visits}

module _ (b : Blit) (other : List ℕ) {row rows c m own : ℕ} (f : PartFits b row rows c m (length other) own) {visible : Part}
    (same : visible ≡ visible_of b) {across down : Range} (of-columns : across ≡ part_of visible.columns c m)
    (of-rows : down ≡ part_of visible.rows row rows) where
  part-columns : across ≡ part_of (visible_columns b) c m
  part-columns = of-columns ∙ ap (λ v. part_of v.columns c m) same

  part-lines : down ≡ part_of (visible_rows b) row rows
  part-lines = of-rows ∙ ap (λ v. part_of v.rows row rows) same

  first-row : RowFits b row c m (length other) own
  first-row = f.each row (omega arith) (omega (arith, f.some))

  last_row : RowFits b (row + rows - 1) c m (length other) own
  last_row = f.each (row + rows - 1) (omega (arith, f.some)) (omega (arith, f.some))

  pub part-fits : b.width < 4294967296
      → BoxFits b.paint b.width b.to b.from b.direction across down (length other) own
  part-fits wide =
      box-fits b other row rows c m own f.each across down part-columns part-lines wide
      (omega (arith, (past-most (row + rows) (visible_rows b).past down.past (ap (λ s. s.past) part-lines)).0, last_row.row_small))
      (z-small b other row c m own first-row across.from across.past (ap (λ s. s.from) part-columns)
      (ap (λ s. s.past) part-columns))
      (first-row.other-area ∙ sym first-row.own-area)

  pub part-inside : reads b.paint ≡ true → BoxInside (source_width b) b.height b.from b.direction across down
  part-inside = box-inside b other row rows c m own f.each across down part-columns part-lines

  pub part-shown : b.width < 4294967296 → BoxShown b across down (length other) own
  part-shown wide = record { fits = part-fits wide; inside = part-inside }

  pub part-visits : (l k : List ℕ) → k ≡ box_of b.paint b.width b.to b.from b.direction across down other l
      → k ≡ in_turn (λ i. visited b other (width_of b.size * row + c + i)) (m * rows) l
  part-visits l k e =
      let w = width_of b.size in
      e ∙ box-visits b other row rows c m own f.each across down part-columns part-lines l
      ∙ turn_agree (λ r. in_turn (λ i. visited b other (w * (row + r) + c + i)) m)
      (λ r. in_turn (λ i. visited b other (w * row + c + (m * r + i))) m) rows l
      (λ r h t.
      turn_agree (λ i. visited b other (w * (row + r) + c + i)) (λ i. visited b other (w * row + c + (m * r + i))) m t
      (λ i p u.
      let here : w * (row + r) + c + i ≡ w * row + c + (m * r + i) = omega (arith, mul-add w row r, f.even r h) in
      ap (λ j. visited b other j u) here))
      ∙ turn-rows (λ j. visited b other (w * row + c + j)) m rows l

-- all visits, counted from the first
pub whole-visits : (b : Blit) (other l k : List ℕ) → k ≡ in_turn (λ i. visited b other (width_of b.size * 0 + 0 + i))
    (blit_count b.size) l
    → k ≡ in_turn (visited b other) (blit_count b.size) l
whole-visits b other l k e =
    e
    ∙ turn_agree (λ i. visited b other (width_of b.size * 0 + 0 + i)) (visited b other) (blit_count b.size) l
    (λ i p t. let same : width_of b.size * 0 + 0 + i ≡ i = omega arith in ap (λ j. visited b other j t) same)

-- the window alone, where no pixels are read
pub window-alone : (b : Blit) → reads b.paint ≡ false → window_ranges b.window b.to b.direction ≡ visible_of b
unfolding visible_columns visible_rows visible_range
window-alone b e =
    let to = point_of b.to in
    let from = point_of b.from in
    let columns =
    ap (λ r. visible_range r (right_to_left b.direction) to.x b.window.left b.window.right from.x (source_width b)) (sym e) in
    let rows =
    ap (λ r. visible_range r (bottom_to_top b.direction) to.y b.window.top b.window.bottom from.y b.height) (sym e) in
    λ i. record { columns = columns i; rows = rows i }

-- a whole blit, as one part
module _ (b : Blit) (other l : List ℕ) {shown : Part} {size : ℕ} (s : Shown b shown size) (small : size < 4294967296) (some : 0 < blit_count size)
    (f : Fitting b 0 (blit_count size) (length other) (length l)) {across down : Range} (of-columns : across ≡ part_of shown.columns 0 (size / 65536))
    (of-rows : down ≡ part_of shown.rows 0 (size % 65536)) where
  all-part : PartFits b 0 (height_of b.size) 0 (width_of b.size) (length other) (length l)
  all-part =
      whole_part b 0 (blit_count b.size) (length other) (length l) (rw s.sized at some) (rw s.sized at small) (rw s.sized at f)

  pub whole-shown : BoxShown b across down (length other) (length l)
  whole-shown = part-shown b other all-part s.visible (rw s.sized at of-columns) (rw s.sized at of-rows) s.narrow

  pub whole-drawn : (k : List ℕ) → k ≡ blit_box b across down other l → k ≡ in_turn (visited b other) (blit_count size) l
  whole-drawn k e =
      rw s.sized
      (whole-visits b other l k (part-visits b other all-part s.visible (rw s.sized at of-columns) (rw s.sized at of-rows) l k e))
