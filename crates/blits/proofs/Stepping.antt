-- The loop over rows: what it keeps, with its laws for the start, a turn and the end.
-- Assumes nothing.
use mathlib.Core.Path.{◌≡◌, refl, ap, ap₂, ◌∙◌}
use mathlib.Core.Bool.{Bool, true, false}
use mathlib.Core.List.{List, []}
use Prim.Native.Nat.{ℕ, suc, ◌+◌, ◌*◌, ◌≤◌, ◌<◌}
use native.Mathlib.Nat.{mul-add, mul-one, mul-suc, mul-le-mul_left}
use native.Mathlib.Omega.{arith}
use lib.ListN.{length}
use Rattle.lemmas.proofs.Turns.{turn-none, turn_more, turn_agree}
use Rattle.geometry.specs.Blit.{away}
use Rattle.raster.specs.declared.Pen.{Pen}
use Rattle.rows.specs.declared.Mix.{Mix}
use Rattle.blits.specs.Rows.{row_of, row_at, row_place, source_place, rows_drawn, rows_of}
use Rattle.blits.specs.declared.row_loops.Rows.{Rows}
use Rattle.blits.specs.declared.Paint.TheVariants.{Solid, Copied, Moved}
use Rattle.blits.proofs.Painted.{solid-same, copied-same, moved-same}

-- ---- places that are so far apart

first-place : (up : Bool) (width at : ℕ) → at ≡ away up at (width * 0)
first-place true width at = omega arith
first-place false width at = omega arith

pub on-from : (up : Bool) (at p q width : ℕ) → q ≡ p + width → away up (away up at p) width ≡ away up at q
on-from true at p q width h = omega arith
on-from false at p q width h = omega arith

next_place : (up : Bool) (width at k : ℕ) → away up (away up at (width * k)) width ≡ away up at (width * (k + 1))
next_place up width at k = on-from up at (width * k) (width * (k + 1)) width (omega (arith, mul-add width k 1, mul-one width))

-- the next place is no further than the rows reach
up_to : (up : Bool) (width at p q : ℕ) → p + width ≤ q → away up at p + width ≤ at + q
up_to true width at p q h = omega arith
up_to false width at p q h = omega arith

next-most : (up : Bool) (width at k rows : ℕ) → k < rows → away up at (width * k) + width ≤ at + width * rows
next-most up width at k rows h =
    up_to up width at (width * k) (width * rows) (omega (arith, mul-suc width k, mul-le-mul_left {m = suc k} {n = rows} width (omega (arith, h))))

pub step-far : (up : Bool) (width at k rows to : ℕ) → to ≡ away up at (width * k) → k < rows → at + width * rows < 18446744073709551616
    → to + width < 18446744073709551616
step-far up width at k rows to e h f = rw e (omega (arith, next-most up width at k rows h, f))

-- ---- the loop

-- k rows of l are drawn, which left t; the next begins at `at`, and its source at `from`
pub record Stepped (draw : ℕ → ℕ → List ℕ → List ℕ) (r : Rows) (l t : List ℕ) (at from k : ℕ) : Type 0 where
  pub long : length t ≡ length l
  pub here : at ≡ row_place r k
  pub there : from ≡ source_place r k
  pub drawn : t ≡ rows_drawn draw r k l

pub stepped-start : (draw : ℕ → ℕ → List ℕ → List ℕ) (r : Rows) (l : List ℕ) → Stepped draw r l l r.at r.from 0
stepped-start draw r l =
    record {
      long = refl;
      here = first-place r.up r.width r.at;
      there = first-place r.up r.stride r.from;
      drawn = turn-none (λ k. draw (row_place r k) (source_place r k)) l;
    }

pub stepped-turn : {draw : ℕ → ℕ → List ℕ → List ℕ} {r : Rows} {l t : List ℕ} {at from k : ℕ} → Stepped draw r l t at from k
    → (u : List ℕ) (at' from' : ℕ) → length u ≡ length t → u ≡ draw at from t → at' ≡ away r.up at r.width → from' ≡ away r.up from r.stride
    → Stepped draw r l u at' from' (k + 1)
stepped-turn {draw} {r} {l} {t} {at} {from} {k} s u at' from' e g p q =
    record {
      long = e ∙ s.long;
      here = p ∙ ap (λ at. away r.up at r.width) s.here ∙ next_place r.up r.width r.at k;
      there = q ∙ ap (λ from. away r.up from r.stride) s.there ∙ next_place r.up r.stride r.from k;
      drawn =
          turn_more (λ k. draw (row_place r k) (source_place r k)) l k t u s.drawn
          (g ∙ ap₂ (λ at from. draw at from t) s.here s.there);
    }

-- ---- rows of a kind are rows of a paint
pub solid-rows : (back : Bool) (pen : Pen) (other : List ℕ) (stride from : ℕ) (r : Rows) (l : List ℕ)
    → rows_drawn (λ at from. row_of (Solid pen) false [] at 0 r.n) r r.count l ≡ rows_of (Solid pen) back other (record r { stride = stride; from = from }) l
solid-rows back pen other stride from r l =
    turn_agree (λ k. row_of (Solid pen) false [] (row_place r k) 0 r.n) (row_at (Solid pen) back r.up r.width stride other r.at from r.n) r.count l
    (λ k h. solid-same back pen other (row_place r k) (away r.up from (stride * k)) r.n)

pub copied-rows : (back : Bool) (mix : Mix) (other : List ℕ) (r : Rows) (l : List ℕ)
    → rows_of (Copied mix) false other r l ≡ rows_of (Copied mix) back other r l
copied-rows back mix other r l =
    turn_agree (row_at (Copied mix) false r.up r.width r.stride other r.at r.from r.n) (row_at (Copied mix) back r.up r.width r.stride other r.at r.from r.n)
    r.count l (λ k h. copied-same back mix other (row_place r k) (source_place r k) r.n)

pub moved-rows : (back : Bool) (mix : Mix) (other : List ℕ) (r : Rows) (l : List ℕ)
    → rows_of (Moved mix) back [] r l ≡ rows_of (Moved mix) back other r l
moved-rows back mix other r l =
    turn_agree (row_at (Moved mix) back r.up r.width r.stride [] r.at r.from r.n) (row_at (Moved mix) back r.up r.width r.stride other r.at r.from r.n)
    r.count l (λ k h. moved-same back mix other (row_place r k) (source_place r k) r.n)
