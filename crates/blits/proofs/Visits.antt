-- A visit of a blit: where it lies by its row and column, when it is visible, and what it draws.
-- Assumes nothing.
use mathlib.Core.Path.{◌≡◌, refl, ap, ◌∙◌}
use mathlib.Core.Bool.{Bool, true, false, not, cond, ◌||◌}
use mathlib.Core.List.{List}
use Prim.Native.Nat.{ℕ, ◌+◌, ◌*◌, ◌/◌, ◌%◌, ◌≤◌, ◌<◌}
use native.Mathlib.Nat.{mul-add-div, mul-add-mod_self_left, mod-eq_of_lt, div-eq_of_lt}
use native.Mathlib.Omega.{arith}
use lib.ListN.{get_or, set}
use Rattle.lemmas.proofs.Booleans.{and_left, and_right, both, or-not, not-or}
use Rattle.geometry.specs.Coordinates.{point_of}
use Rattle.geometry.specs.Clip.{in_buffer, in_window, place_in}
use Rattle.geometry.specs.Blit.{width_of, bottom_to_top, right_to_left, away, blit_point}
use Rattle.geometry.specs.declared.Point.{Point}
use Rattle.geometry.proofs.Windows.{Shown, shown_of, shown_by}
use Rattle.blits.specs.Blits.{painted, reads, source_width, target_at, source_at, visible_at, visited}
use Rattle.blits.specs.Ranges.{range_of}
use Rattle.blits.specs.declared.Blit.{Blit}

-- the j of a range, by where their pixels lie
pub range-in : (back : Bool) (c lo hi j : ℕ) → 65536 ≤ c → j < 65536 → (range_of back c lo hi).from ≤ j → j < (range_of back c lo hi).past
    → (lo ≤ away back c j) × (away back c j < hi)
unfolding range_of
range-in true c lo hi j high small f p = (omega arith, omega arith)
range-in false c lo hi j high small f p = (omega arith, omega arith)

pub range-by : (back : Bool) (c lo hi j : ℕ) → 65536 ≤ c → j < 65536 → lo ≤ away back c j → away back c j < hi
    → ((range_of back c lo hi).from ≤ j) × (j < (range_of back c lo hi).past)
unfolding range_of
range-by true c lo hi j high small f p = (omega arith, omega arith)
range-by false c lo hi j high small f p = (omega arith, omega arith)

-- a corner's coordinates
pub x-from : (word : ℕ) → 65536 ≤ (point_of word).x
unfolding point_of
x-from word = omega arith

pub y-from : (word : ℕ) → 65536 ≤ (point_of word).y
unfolding point_of
y-from word = omega arith

not-then : (t : Bool) → (t ≡ true → ⊥) → t ≡ false
not-then true h = absurd (h refl)
not-then false h = refl

-- visit j of row r, both counted from the corner
pub at-column : (w r j : ℕ) → j < w → (w * r + j) % w ≡ j
at-column w r j h = mul-add-mod_self_left w r j ∙ mod-eq_of_lt h

pub at_row : (w r j : ℕ) → j < w → (w * r + j) / w ≡ r
at_row w r j h =
    let none : j / w ≡ 0 = div-eq_of_lt h in
    mul-add-div {m = w} (omega arith) r j ∙ ap (λ x. r + x) none ∙ (let e : r + 0 ≡ r = omega arith in e)

pub point_at_lem : (corner : Point) (size direction r j : ℕ) → j < width_of size
    → blit_point corner size direction (width_of size * r + j)
    ≡ record { x = away (right_to_left direction) corner.x j; y = away (bottom_to_top direction) corner.y r }
point_at_lem corner size direction r j h =
    let w = width_of size in
    λ i. record {
      x = away (right_to_left direction) corner.x (at-column w r j h i);
      y = away (bottom_to_top direction) corner.y (at_row w r j h i);
    }

-- what a visible visit has, and what makes it visible
pub visible-of : (b : Blit) (k : ℕ) → visible_at b k ≡ true
    → Shown b.window (target_at b k) × (reads b.paint ≡ true → in_buffer (source_width b) b.height (source_at b k) ≡ true)
visible-of b k h =
    let visible = in_window b.window (target_at b k) in
    let read = not (reads b.paint) || in_buffer (source_width b) b.height (source_at b k) in (
      shown_of b.window (target_at b k) (and_left visible read h),
      λ t. or-not (reads b.paint) (in_buffer (source_width b) b.height (source_at b k)) (and_right visible read h) t,
    )

pub visible-by : (b : Blit) (k : ℕ) → Shown b.window (target_at b k)
    → (reads b.paint ≡ true → in_buffer (source_width b) b.height (source_at b k) ≡ true) → visible_at b k ≡ true
visible-by b k s r =
    both (shown_by b.window (target_at b k) s) (not-or (reads b.paint) (in_buffer (source_width b) b.height (source_at b k)) r)

pub visit-drawn : (b : Blit) (other : List ℕ) (k : ℕ) (l : List ℕ) → visible_at b k ≡ true →
    let at = place_in b.width (target_at b k) in
    visited b other k l ≡ set l at (painted b.paint other l (place_in (source_width b) (source_at b k)) (get_or l at 0))
unfolding visited
visit-drawn b other k l h =
    let at = place_in b.width (target_at b k) in
    ap (λ t. cond t (set l at (painted b.paint other l (place_in (source_width b) (source_at b k)) (get_or l at 0))) l) h

pub visit-hidden : (b : Blit) (other : List ℕ) (k : ℕ) (l : List ℕ) → (visible_at b k ≡ true → ⊥) → visited b other k l ≡ l
unfolding visited
visit-hidden b other k l h =
    let at = place_in b.width (target_at b k) in
    ap (λ t. cond t (set l at (painted b.paint other l (place_in (source_width b) (source_at b k)) (get_or l at 0))) l) (not-then (visible_at b k) h)
