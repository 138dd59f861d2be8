-- The loops over a course: what holds after j of its pixels, at the start, after a turn, and once the last pixel is drawn.
-- Assumes nothing.
use mathlib.Core.Path.{◌≡◌, refl, ap, ◌∙◌}
use mathlib.Core.List.{List, [], ◌∷◌}
use Prim.Native.Nat.{ℕ, ◌+◌, ◌%◌, ◌<◌}
use native.Mathlib.Omega.{arith}
use lib.ListN.{length, get_or, set, length-set}
use Rattle.lemmas.specs.Turns.{in_turn}
use Rattle.lemmas.proofs.Turns.{turn-none, turn_more, turn_end}
use Rattle.raster.specs.Selectors.{drawn}
use Rattle.raster.specs.declared.Pen.{Pen}
use Rattle.registers.specs.Patterns.{next_of}
use Rattle.registers.specs.declared.dashes.Pattern.{Pattern}
use Rattle.strokes.specs.Strokes.{plot, dashed}
use Rattle.strokes.specs.Bresenham.{moved, Moves, course_at, Places, Draws, plot_at, plot_dash, plot_dash_at}
use Rattle.strokes.specs.Phases.{pattern_of, back_pen}
use Rattle.strokes.specs.declared.Dashes.{Dashes}
use Rattle.strokes.specs.declared.phases.Phase.{Phase}
use Rattle.strokes.specs.declared.bresenham.Bresenham.{Bresenham}
use Rattle.strokes.specs.declared.bresenham.Course.{Course}
use Rattle.strokes.proofs.Dashing.{plot-dash-by}

-- after j pixels: the state is the course's, and the buffer is as long as it was
pub record Reached (course : Course) (long j : ℕ) (l : List ℕ) (c : Bresenham) : Type 0 where
  pub as_long : length l ≡ long
  pub state-is : c ≡ course_at course j

module _ {course : Course} {long j : ℕ} {l : List ℕ} {c : Bresenham} (r : Reached course long j l c) where
  pub place_inside : {n : ℕ} → Places course n long → j < n → c.place < length l
  place_inside p h = rw (r.as_long, r.state-is) (p.inside j h)

  pub can-move : {n : ℕ} → Places course n long → j + 1 < n → Moves course.strides c
  can-move p h = rw r.state-is (p.moves j h)

  reached-next : (new : ℕ) (u : Bresenham) → u ≡ moved course.strides c → Reached course long (j + 1) (set l c.place new) u
  reached-next new u e =
      record {
        as_long = simp length-set r.as_long;
        state-is = turn_more (λ _. moved course.strides) course.start j c u r.state-is e;
      }

  here : c.place ≡ (course_at course j).place
  here = ap (λ (q : Bresenham). q.place) r.state-is

reached-start : (course : Course) (l : List ℕ) → Reached course (length l) 0 l course.start
reached-start course l = record { as_long = refl; state-is = turn-none (λ _. moved course.strides) course.start }

-- a solid line: as any pen that draws so, the buffer l₀ has the course's first j pixels drawn
pub record Drawing (makes : ℕ → ℕ → Type 0) (course : Course) (l₀ l : List ℕ) (c : Bresenham) (j : ℕ) : Type 0 where
  pub reached : Reached course (length l₀) j l c
  pub bytes : (pen : Pen) → Draws pen makes → l ≡ in_turn (plot_at pen course) j l₀

pub drawing-start : (makes : ℕ → ℕ → Type 0) (course : Course) (l : List ℕ) → Drawing makes course l l course.start 0
drawing-start makes course l = record { reached = reached-start course l; bytes = λ pen _. turn-none (plot_at pen course) l }

module _ {makes : ℕ → ℕ → Type 0} {course : Course} {l₀ l : List ℕ} {c : Bresenham} {j new : ℕ}
    (o : Drawing makes course l₀ l c j) (small : get_or l c.place 0 < 256) (made : makes (get_or l c.place 0) new) where
  draw-more : (pen : Pen) → Draws pen makes → set l c.place new ≡ in_turn (plot_at pen course) (j + 1) l₀
  draw-more pen draws =
      turn_more (plot_at pen course) l₀ j l (set l c.place new) (o.bytes pen draws)
      (ap (λ (b : ℕ). set l c.place b) (draws (get_or l c.place 0) new small made)
      ∙ ap (λ (i : ℕ). plot pen i l) (here o.reached))

  pub drawing-turn : {u : Bresenham} → u ≡ moved course.strides c → Drawing makes course l₀ (set l c.place new) u (j + 1)
  drawing-turn {u} e = record { reached = reached-next o.reached new u e; bytes = draw-more }

  pub drawing-end : {n : ℕ} → n ≡ j + 1 → (pen : Pen) → Draws pen makes → set l c.place new ≡ in_turn (plot_at pen course) n l₀
  drawing-end {n} e pen draws =
      turn_end (plot_at pen course) l₀ (j + 1) n (set l c.place new) (omega arith) (omega arith) (draw-more pen draws)

-- a line in dashes: buffer l₀ and pattern state q₀ are j pixels on
pub record Dashing (d : Dashes) (course : Course) (l₀ : List ℕ) (q₀ : Pattern) (l : List ℕ) (p : Phase) (c : Bresenham) (j : ℕ) : Type 0 where
  pub reached : Reached course (length l₀) j l c
  pub bytes : dashed l (pattern_of p) ≡ in_turn (plot_dash_at d course) j (dashed l₀ q₀)
  pub lpat_is : p.lpat ≡ d.lpat

pub dashing-start : (d : Dashes) (course : Course) (l : List ℕ) (q : Pattern) (p : Phase) → (pattern_of p ≡ q) × (p.lpat ≡ d.lpat)
    → Dashing d course l q l p course.start 0
dashing-start d course l q p h =
    record {
      reached = reached-start course l;
      bytes = ap (dashed l) h.0 ∙ turn-none (plot_dash_at d course) (dashed l q);
      lpat_is = h.1;
    }

module _ {d : Dashes} {course : Course} {l₀ l : List ℕ} {q₀ : Pattern} {p : Phase} {c : Bresenham} {j new bit : ℕ} {back : Pen}
    (other : Pen) (o : Dashing d course l₀ q₀ l p c j) (small : (k : ℕ) → get_or l k 0 < 256) (back_is : back ≡ back_pen d) (bit_is : bit ≡ p.bits % 2)
    (drew : new ≡ drawn (get_or (back ∷ d.fore ∷ []) bit other) (get_or l c.place 0)) where
  dash-more : (r : Pattern) → r ≡ next_of d.control (pattern_of p)
      → dashed (set l c.place new) r ≡ in_turn (plot_dash_at d course) (j + 1) (dashed l₀ q₀)
  dash-more r e =
      turn_more (plot_dash_at d course) (dashed l₀ q₀) j (dashed l (pattern_of p)) (dashed (set l c.place new) r) o.bytes
      (plot-dash-by d c.place l p r back other bit new small o.lpat_is back_is bit_is drew e
      ∙ ap (λ (i : ℕ). plot_dash d i (dashed l (pattern_of p))) (here o.reached))

  pub dashing-turn : {r : Phase} {u : Bresenham} → (pattern_of r ≡ next_of d.control (pattern_of p)) × (r.lpat ≡ p.lpat)
      → u ≡ moved course.strides c → Dashing d course l₀ q₀ (set l c.place new) r u (j + 1)
  dashing-turn {r} {u} next e =
      record { reached = reached-next o.reached new u e; bytes = dash-more (pattern_of r) next.0; lpat_is = next.1 ∙ o.lpat_is }

  pub dashing-end : {r : Pattern} {n : ℕ} → n ≡ j + 1 → r ≡ next_of d.control (pattern_of p)
      → dashed (set l c.place new) r ≡ in_turn (plot_dash_at d course) n (dashed l₀ q₀)
  dashing-end {r} {n} e next =
      turn_end (plot_dash_at d course) (dashed l₀ q₀) (j + 1) n (dashed (set l c.place new) r) (omega arith) (omega arith) (dash-more r next)
