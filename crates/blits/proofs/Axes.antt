-- A visit is visible where it is on both axes: its row and its column.
-- Assumes nothing.
use mathlib.Core.Path.{◌≡◌, ap, sym, subst, ◌∙◌}
use mathlib.Core.Bool.{Bool, true, false, cond, false≢true}
use Prim.Native.Nat.{ℕ, ◌+◌, ◌-◌, ◌*◌, ◌≤◌, ◌<◌}
use native.Mathlib.Omega.{arith}
use Rattle.lemmas.proofs.Booleans.{by_cases}
use Rattle.geometry.specs.Coordinates.{origin, point_of}
use Rattle.geometry.specs.Clip.{in_buffer}
use Rattle.geometry.specs.Blit.{width_of, bottom_to_top, right_to_left, away}
use Rattle.geometry.specs.declared.Point.{Point}
use Rattle.geometry.proofs.Windows.{Shown, buffer-of, buffer-by}
use Rattle.blits.specs.Blits.{reads, source_width, target_at, source_at, visible_at}
use Rattle.blits.specs.Ranges.{range_of, in_both, visible_range, visible_columns, visible_rows}
use Rattle.blits.specs.Places.{target_row, source_row}
use Rattle.blits.specs.declared.Blit.{Blit}
use Rattle.geometry.specs.declared.visible.Range.{Range}
use Rattle.blits.proofs.Visits.{range-in, range-by, x-from, y-from, point_at_lem, visible-of, visible-by}

-- j on one axis: in the window, and its source in the buffer
pub record Within (reads back : Bool) (t lo hi s size j : ℕ) : Type 0 where
  pub low : lo ≤ away back t j
  pub high : away back t j < hi
  pub source : reads ≡ true → (origin ≤ away back s j) × (away back s j < origin + size)

module _ (reads back : Bool) (t lo hi s size j : ℕ) (t_from : 65536 ≤ t) (s-from : 65536 ≤ s) (small : j < 65536) where
  abbrev visible : Range
  visible = visible_range reads back t lo hi s size

  abbrev both-ranges : Range
  both-ranges = in_both (range_of back t lo hi) (range_of back s origin (origin + size))

  visible-read : reads ≡ true → visible ≡ both-ranges
  unfolding visible_range
  visible-read e = ap (λ r. cond r both-ranges (range_of back t lo hi)) e

  visible-solid : reads ≡ false → visible ≡ range_of back t lo hi
  unfolding visible_range
  visible-solid e = ap (λ r. cond r both-ranges (range_of back t lo hi)) e

  within_of : visible.from ≤ j → j < visible.past → Within reads back t lo hi s size j
  within_of f p =
      by_cases reads
      (λ r.
      let e = visible-read r in
      let f' : both-ranges.from ≤ j = subst (λ c. c.from ≤ j) e f in
      let p' : j < both-ranges.past = subst (λ c. j < c.past) e p in
      let q = range-in back t lo hi j t_from small (omega (arith, f')) (omega (arith, p')) in
      record { low = q.0; high = q.1; source = λ _. range-in back s origin (origin + size) j s-from small (omega (arith, f')) (omega (arith, p')) })
      (λ r.
      let e = visible-solid r in
      let q = range-in back t lo hi j t_from small (subst (λ c. c.from ≤ j) e f) (subst (λ c. j < c.past) e p) in
      record { low = q.0; high = q.1; source = λ u. absurd (false≢true (sym r ∙ u)) })

  within_by : Within reads back t lo hi s size j → (visible.from ≤ j) × (j < visible.past)
  within_by w =
      let q = range-by back t lo hi j t_from small w.low w.high in
      by_cases reads
      (λ r.
      let e = sym (visible-read r) in
      let p = w.source r in
      let u = range-by back s origin (origin + size) j s-from small p.0 p.1 in
      (subst (λ c. c.from ≤ j) e (omega (arith, q.0, u.0)), subst (λ c. j < c.past) e (omega (arith, q.1, u.1))))
      (λ r. let e = sym (visible-solid r) in (subst (λ c. c.from ≤ j) e q.0, subst (λ c. j < c.past) e q.1))

-- the columns and the rows of a blit
abbrev pub ColumnIn : Blit → ℕ → Type 0
ColumnIn b j =
    Within (reads b.paint) (right_to_left b.direction) (point_of b.to).x b.window.left b.window.right (point_of b.from).x (source_width b) j

abbrev pub RowIn : Blit → ℕ → Type 0
RowIn b r =
    Within (reads b.paint) (bottom_to_top b.direction) (point_of b.to).y b.window.top b.window.bottom (point_of b.from).y b.height r

module _ (b : Blit) (j : ℕ) (small : j < 65536) where
  pub column-of : (visible_columns b).from ≤ j → j < (visible_columns b).past → ColumnIn b j
  unfolding visible_columns
  column-of = within_of (reads b.paint) _ (point_of b.to).x _ _ (point_of b.from).x _ j (x-from b.to) (x-from b.from) small

  pub column-by : ColumnIn b j → ((visible_columns b).from ≤ j) × (j < (visible_columns b).past)
  unfolding visible_columns
  column-by = within_by (reads b.paint) _ (point_of b.to).x _ _ (point_of b.from).x _ j (x-from b.to) (x-from b.from) small

  pub row-of : (visible_rows b).from ≤ j → j < (visible_rows b).past → RowIn b j
  unfolding visible_rows
  row-of = within_of (reads b.paint) _ (point_of b.to).y _ _ (point_of b.from).y _ j (y-from b.to) (y-from b.from) small

  pub row_by : RowIn b j → ((visible_rows b).from ≤ j) × (j < (visible_rows b).past)
  unfolding visible_rows
  row_by = within_by (reads b.paint) _ (point_of b.to).y _ _ (point_of b.from).y _ j (y-from b.to) (y-from b.from) small

-- visit j of row r
module _ (b : Blit) (r j : ℕ) (fits : j < width_of b.size) (size_small : b.size < 4294967296) where
  abbrev k : ℕ
  k = width_of b.size * r + j

  small : j < 65536
  small = omega (arith, fits, size_small)

  pub target_is : target_at b k ≡ record { x = away (right_to_left b.direction) (point_of b.to).x j; y = target_row b r }
  target_is = point_at_lem (point_of b.to) b.size b.direction r j fits

  pub source_is : source_at b k ≡ record { x = away (right_to_left b.direction) (point_of b.from).x j; y = source_row b r }
  source_is = point_at_lem (point_of b.from) b.size b.direction r j fits

  pub in-visible : RowIn b r → ColumnIn b j → visible_at b k ≡ true
  in-visible s w =
      visible-by b k
      (subst (Shown b.window) (sym target_is)
      (record { from-left = w.low; to-right = w.high; from-top = s.low; to-bottom = s.high }))
      (λ t.
      subst (λ p. in_buffer (source_width b) b.height p ≡ true) (sym source_is)
      (let x = w.source t in
      let y = s.source t in
      buffer-by (source_width b) b.height (record { x = away (right_to_left b.direction) (point_of b.from).x j; y = source_row b r }) x.0 y.0
      (omega (arith, x.0, x.1)) (omega (arith, y.0, y.1))))

  pub visible-in : visible_at b k ≡ true → RowIn b r × ColumnIn b j
  visible-in h =
      let d = visible-of b k h in
      let s = subst (Shown b.window) target_is d.0 in
      let q : Point = record { x = away (right_to_left b.direction) (point_of b.from).x j; y = source_row b r } in
      let src : reads b.paint ≡ true → (origin ≤ q.x) × (origin ≤ q.y) × (q.x - origin < source_width b) × (q.y - origin < b.height) =
      λ t. buffer-of (source_width b) b.height q (subst (λ p. in_buffer (source_width b) b.height p ≡ true) source_is (d.1 t)) in (
        record {
          low = s.from-top;
          high = s.to-bottom;
          source = λ t. ((src t).1, omega (arith, (src t).1, (src t).3));
        },
        record {
          low = s.from-left;
          high = s.to-right;
          source = λ t. ((src t).0, omega (arith, (src t).0, (src t).2));
        },
      )
