-- One pixel, by whether it is visible.
-- Assumes nothing.
use mathlib.Core.Path.{◌≡◌, refl, ap, ◌∙◌}
use mathlib.Core.Bool.{Bool, true, false, cond}
use mathlib.Core.List.{List}
use Prim.Native.Nat.{ℕ, zero, suc, ◌<◌}
use native.Mathlib.Nat.{mod-eq_of_lt}
use lib.Bits.{bit_and, xor_zero_r, xor_zero_l, and_zero_r, and_mask}
use lib.ListN.{get_or, set}
use lib.Seq.{set-get_or}
use Rattle.std.specs.Prelude.{Option, None, Some}
use Rattle.std.specs.Option.{unwrap_or}
use Rattle.lemmas.specs.Turns.{in_turn}
use Rattle.raster.specs.Selectors.{drawn}
use Rattle.raster.specs.declared.Pen.{Pen}
use Rattle.geometry.specs.Clip.{in_window, place_in}
use Rattle.geometry.specs.declared.Point.{Point}
use Rattle.geometry.specs.declared.Window.{Window}
use Rattle.registers.specs.Patterns.{next_of, moves_of}
use Rattle.strokes.specs.Strokes.{plot, plotted, Dashed, dashed, bit_pen, drawn_by, dash}
use Rattle.strokes.specs.Phases.{clear_pen}
use Rattle.strokes.specs.Bresenham.{plot_dash}
use Rattle.strokes.specs.declared.Dashes.{Dashes}

pub not-visible : (t : Bool) → (t ≡ true → ⊥) → t ≡ false
not-visible true h = absurd (h refl)
not-visible false h = refl

clear-drawn : (x : ℕ) → x < 256 → drawn clear_pen x ≡ x
clear-drawn x h = xor_zero_r (bit_and x 255) ∙ and_mask x 8 ∙ mod-eq_of_lt h

-- a pen that keeps nothing
pub flat-drawn : (pen : Pen) (x : ℕ) → pen.keep ≡ 0 → pen.flip ≡ drawn pen x
flat-drawn pen x e = simp (e, and_zero_r, xor_zero_l)

pub clear-plot : (place : ℕ) (l : List ℕ) → get_or l place 0 < 256 → plot clear_pen place l ≡ l
clear-plot place l h = ap (set l place) (clear-drawn (get_or l place 0) h) ∙ set-get_or l place 0

-- what the chosen pen draws, where the clear pen draws nothing
pub chosen-draws : (t : Bool) (fore : Pen) (back : Option Pen) (f : Pen → List ℕ) (l : List ℕ) → f clear_pen ≡ l
    → f (cond t fore (unwrap_or back clear_pen)) ≡ drawn_by (cond t (Some fore) back) f l
chosen-draws true fore back f l e = refl
chosen-draws false fore None f l e = e
chosen-draws false fore (Some pen) f l e = refl

module _ (width : ℕ) (w : Window) (p : Point) (l : List ℕ) where
  pub plot-hidden : (pen : Pen) → in_window w p ≡ false → l ≡ plotted width w pen p l
  unfolding plotted
  plot-hidden pen h = rw h

  pub plot-visible : (pen : Pen) (new : ℕ) → in_window w p ≡ true → new ≡ drawn pen (get_or l (place_in width p) 0)
      → set l (place_in width p) new ≡ plotted width w pen p l
  unfolding plotted
  plot-visible pen new h e = rw (h, e)

-- the pattern moves where nothing is drawn
abbrev pub hidden_dash : Dashes → Dashed → Dashed
hidden_dash d s = dashed s.buffer (next_of d.control s.pattern)

pub dash-hidden : (width : ℕ) (w : Window) (p : Point) (d : Dashes) (s : Dashed) → in_window w p ≡ false → dash width w d p s ≡ hidden_dash d s
unfolding dash plotted
dash-hidden width w p d s h =
    rw h (λ i. dashed (same (bit_pen d s.pattern) s.buffer i) (next_of d.control s.pattern))
  where
    same : (o : Option Pen) (l : List ℕ) → drawn_by o (λ pen. l) l ≡ l
    same None l = refl
    same (Some pen) l = refl

pub hidden-all : (d : Dashes) (n : ℕ) (s : Dashed) → in_turn (λ _. hidden_dash d) n s ≡ dashed s.buffer (moves_of d.control n s.pattern)
unfolding in_turn
hidden-all d zero s = refl
hidden-all d (suc n) s = ap (hidden_dash d) (hidden-all d n s)

pub plot-dash-visible : (width : ℕ) (w : Window) (p : Point) (d : Dashes) (s : Dashed) → in_window w p ≡ true
    → plot_dash d (place_in width p) s ≡ dash width w d p s
unfolding dash plot_dash plotted
plot-dash-visible width w p d s h = rw h
