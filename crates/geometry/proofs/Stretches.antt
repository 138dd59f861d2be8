-- Visible visits one after the other: the visits of the blit between them are hidden, so a stretch of the blit's visits does
-- what the visible ones in it do.
-- Assumes nothing.
use mathlib.Core.Path.{◌≡◌, refl, ap, ap₂, sym, subst, ◌∙◌}
use mathlib.Core.Bool.{false}
use Prim.Native.Nat.{ℕ, suc, ◌+◌, ◌-◌, ◌*◌, ◌/◌, ◌%◌, ◌≤◌, ◌<◌}
use native.Mathlib.Nat.{mul-suc, div-add-mod}
use native.Mathlib.Omega.{arith}
use borrow.Author.Tests.{ltb-true, ltb-false}
use lib.Dec.{ltb}
use Rattle.lemmas.specs.Turns.{in_turn}
use Rattle.lemmas.proofs.Booleans.{by_cases}
use Rattle.lemmas.proofs.Turns.{turn_agree}
use Rattle.lemmas.proofs.Numbers.{same-turns, stretch}
use Rattle.geometry.specs.Clip.{in_window}
use Rattle.geometry.specs.Blit.{width_of, height_of, blit_count, blit_point}
use Rattle.geometry.specs.Visible.{length_of, visible_part, cell_count, index_in, visible_index, Positive}
use Rattle.geometry.specs.declared.Point.{Point}
use Rattle.geometry.specs.declared.Window.{Window}
use Rattle.geometry.specs.declared.visible.Part.{Part}
use Rattle.geometry.proofs.Blits.{column-lt, row_lt}
use Rattle.geometry.proofs.Visibility.{column-of, row-of, columns-cut, rows_cut, others-hide, index-lt, index_at, numbers-in-order}

-- the number after k, in the same row and in the next
module _ (size : ℕ) (p : Part) (k : ℕ) (some : 0 < length_of p.columns) where
  abbrev columns : ℕ
  columns = length_of p.columns

  next-column : suc (k % columns) < columns → index_in size p (suc k) ≡ suc (index_in size p k)
  next-column h =
      let e : suc k ≡ columns * (k / columns) + suc (k % columns) = omega (arith, div-add-mod k columns) in
      let row : suc k / columns ≡ k / columns = ap (λ k. k / columns) e ∙ row-of columns (k / columns) (suc (k % columns)) h in
      let column : suc k % columns ≡ suc (k % columns) = ap (λ k. k % columns) e ∙ column-of columns (k / columns) (suc (k % columns)) h in
      ap₂ (λ r j. width_of size * (p.rows.from + r) + (p.columns.from + j)) row column
      ∙ (let g : width_of size * (p.rows.from + k / columns) + (p.columns.from + suc (k % columns)) ≡ suc (index_in size p k) = omega arith in g)

  next_row : suc (k % columns) ≡ columns → index_in size p (suc k) ≡ width_of size * suc (p.rows.from + k / columns) + p.columns.from
  next_row h =
      let e : suc k ≡ columns * suc (k / columns) + 0 = omega (arith, div-add-mod k columns, mul-suc columns (k / columns)) in
      let row : suc k / columns ≡ suc (k / columns) = ap (λ k. k / columns) e ∙ row-of columns (suc (k / columns)) 0 some in
      let column : suc k % columns ≡ 0 = ap (λ k. k % columns) e ∙ column-of columns (suc (k / columns)) 0 some in
      let g : p.rows.from + suc (k / columns) ≡ suc (p.rows.from + k / columns) = omega arith in
      let z : p.columns.from + 0 ≡ p.columns.from = omega arith in
      ap₂ (λ r j. width_of size * (p.rows.from + r) + (p.columns.from + j)) row column
      ∙ ap₂ (λ r j. width_of size * r + j) g z

  row-after : suc (k % columns) ≡ columns → suc k < cell_count p → suc (k / columns) < length_of p.rows
  row-after h l =
      let e : suc k ≡ columns * suc (k / columns) + 0 = omega (arith, div-add-mod k columns, mul-suc columns (k / columns)) in
      let row : suc k / columns ≡ suc (k / columns) = ap (λ k. k / columns) e ∙ row-of columns (suc (k / columns)) 0 some in
      omega (arith, row, row_lt columns (length_of p.rows) (suc k) l)

module _ (corner : Point) (size direction : ℕ) (w : Window) where
  abbrev part : Part
  part = visible_part corner size direction w

  abbrev number : ℕ → ℕ
  number k = index_in size part k

  some-columns : (k : ℕ) → k < cell_count part → 0 < length_of part.columns
  some-columns k l = let few = column-lt (length_of part.columns) (length_of part.rows) k l in omega (arith, few)

  -- the next number is a row's next, or lies in the next row
  either-next : (k : ℕ) → suc k < cell_count part → {A : Type 0}
      → (number (suc k) ≡ suc (number k) → A)
      → (suc (k % length_of part.columns) ≡ length_of part.columns
      → number (suc k) ≡ width_of size * suc (part.rows.from + k / length_of part.columns) + part.columns.from → A)
      → A
  either-next k l beside under =
      let n = length_of part.columns in
      let some = some-columns (suc k) l in
      let few : k % n < n = column-lt n (length_of part.rows) k (omega arith) in
      by_cases (ltb (suc (k % n)) n)
      (λ t. beside (next-column size part k some (ltb-true (suc (k % n)) n t)))
      (λ t.
      let e : suc (k % n) ≡ n = omega (arith, ltb-false (suc (k % n)) n t) in
      under e (next_row size part k some e))

  number-less : (k : ℕ) → suc k < cell_count part → number k < number (suc k)
  number-less k l =
      let n = length_of part.columns in
      let r = part.rows.from + k / n in
      let cut = columns-cut corner size direction w in
      either-next k l (λ e. omega (arith, e)) (λ h e. omega (arith, e, h, cut, some-columns (suc k) l, mul-suc (width_of size) r))

  index_of : (k : ℕ) → k < cell_count part → visible_index corner size direction w k ≡ number k
  index_of k l = sym (index_at corner size direction w k part refl l)

  pub visible-lt : (k : ℕ) → k < cell_count part → visible_index corner size direction w k < blit_count size
  visible-lt k l = rw (index_of k l) (index-lt corner size direction w k l)

  module _ (positive : Positive w) where
    hides : (r j : ℕ) → r < height_of size → j < width_of size → (j < part.columns.from → in_window w (blit_point corner size direction (width_of size * r + j)) ≡ false)
        × (part.columns.past ≤ j → in_window w (blit_point corner size direction (width_of size * r + j)) ≡ false)
    hides r j a b = let h = others-hide corner size direction w positive r j a b in (h.2, h.3)

    -- what lies between two visible visits is hidden
    between-hides : (k j : ℕ) → suc k < cell_count part → number k < j → j < number (suc k)
        → in_window w (blit_point corner size direction j) ≡ false
    between-hides k j l a b =
        let n = length_of part.columns in
        let q = part.rows.from + k / n in
        let cut = columns-cut corner size direction w in
        let tall = rows_cut corner size direction w in
        either-next k l (λ e. absurd (omega (arith, e, a, b)))
        (λ h e.
        let low : suc (k / n) < length_of part.rows = row-after size part k (some-columns (suc k) l) h l in
        let wide = mul-suc (width_of size) q in
        by_cases (ltb j (width_of size * suc q))
        (λ t.
        let c = j - width_of size * q in
        let before : j < width_of size * suc q = ltb-true j (width_of size * suc q) t in
        let g : width_of size * q + c ≡ j = omega (arith, a, wide) in
        subst (λ (j : ℕ). in_window w (blit_point corner size direction j) ≡ false) g
        ((hides q c (omega (arith, low, tall)) (omega (arith, before, wide))).1 (omega (arith, a, h, cut, some-columns (suc k) l))))
        (λ t.
        let c = j - width_of size * suc q in
        let after : width_of size * suc q ≤ j = ltb-false j (width_of size * suc q) t in
        let g : width_of size * suc q + c ≡ j = omega (arith, after) in
        let few : c < part.columns.from = omega (arith, after, b, e) in
        subst (λ (j : ℕ). in_window w (blit_point corner size direction j) ≡ false) g
        ((hides (suc q) c (omega (arith, low, tall)) (omega (arith, few, cut, some-columns (suc k) l))).0 few)))

    -- steps of which a hidden one does nothing
    module _ {S : Type 0} (act : ℕ → S → S)
        (idle : (k : ℕ) → k < blit_count size → in_window w (blit_point corner size direction k) ≡ false → (t : S) → act k t ≡ t) where
      by_number : (a n : ℕ) → a + n ≤ cell_count part → (t : S)
          → in_turn (λ i. act (visible_index corner size direction w (a + i))) n t ≡ in_turn (λ i. act (number (a + i))) n t
      by_number a n l t =
          turn_agree (λ i. act (visible_index corner size direction w (a + i))) (λ i. act (number (a + i))) n t
          (λ k h s. ap (λ k. act k s) (index_of (a + k) (omega arith)))

      -- all visible visits in turn do what all visits do
      pub same_whole : (t : S) → in_turn (λ k. act (visible_index corner size direction w k)) (cell_count part) t ≡ in_turn act (blit_count size) t
      same_whole t =
          turn_agree (λ k. act (visible_index corner size direction w k)) (λ k. act (number k)) (cell_count part) t
          (λ k h s. ap (λ k. act k s) (index_of k h))
          ∙ same-turns act t (λ k. in_window w (blit_point corner size direction k)) number (cell_count part) (blit_count size)
          (numbers-in-order corner size direction w positive) idle

      -- visible visits a to a + n do what all visits from the first to the last of them do
      pub same-stretch : (a n : ℕ) → a + n < cell_count part → (t : S) →
          let first = visible_index corner size direction w a in
          let last = visible_index corner size direction w (a + n) in
          in_turn (λ i. act (first + i)) (last + 1 - first) t ≡ in_turn (λ i. act (visible_index corner size direction w (a + i))) (n + 1) t
      same-stretch a n l t =
          ap₂ (λ x y. in_turn (λ i. act (x + i)) (y + 1 - x) t) (index_of a (omega arith)) (index_of (a + n) l)
          ∙ stretch act number (cell_count part) number-less
          (λ k j m after before. idle j (omega (arith, before, index-lt corner size direction w (suc k) m)) (between-hides k j m after before)) a n l t
          ∙ sym (by_number a (n + 1) (omega arith) t)
