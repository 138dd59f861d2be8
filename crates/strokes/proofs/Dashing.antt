-- The pattern in machine words goes as the pattern state does, and its lowest bit chooses the pen.
-- Assumes nothing.
use mathlib.Core.Path.{◌≡◌, refl, ap, sym, ◌∙◌}
use mathlib.Core.Bool.{Bool, cond}
use mathlib.Core.List.{List, [], ◌∷◌}
use Prim.Native.Nat.{ℕ, zero, suc, ◌+◌, ◌/◌, ◌%◌, ◌^◌, ◌≤◌, ◌<◌}
use native.Mathlib.Nat.{pow-suc, div-eq_of_lt, div-div-eq-div-mul, lt_of_lt_of_le, mod-lt}
use native.Mathlib.Numerals.{add-one}
use native.Mathlib.Omega.{arith}
use borrow.Author.Tests.{lt-ltb, le-ltb}
use lib.Dec.{eqb}
use lib.ListN.{get_or, set}
use lib.Pow.{pow_mono}
use Rattle.raster.specs.Selectors.{drawn}
use Rattle.raster.specs.declared.Pen.{Pen}
use Rattle.entries.specs.declared.fields.PatternControl.{PatternControl}
use Rattle.registers.specs.Patterns.{pattern_bit, next_of}
use Rattle.registers.specs.declared.dashes.Pattern.{Pattern}
use Rattle.strokes.specs.Strokes.{plot, dashed}
use Rattle.strokes.specs.Bresenham.{plot_dash}
use Rattle.strokes.specs.Phases.{pattern_of, back_pen, dash_pen}
use Rattle.strokes.specs.declared.Dashes.{Dashes}
use Rattle.strokes.specs.declared.phases.Phase.{Phase}
use Rattle.strokes.proofs.Plots.{clear-plot, chosen-draws}

-- the bits at the next place, and past the last bit
pub bits-next : (lpat bits place : ℕ) → bits ≡ lpat / 2 ^ place → bits / 2 ≡ lpat / 2 ^ (place + 1)
bits-next lpat bits place e =
    ap (λ (k : ℕ). k / 2) e ∙ div-div-eq-div-mul lpat (2 ^ place) 2 ∙ ap (λ (k : ℕ). lpat / k) (sym (pow-suc 2 place) ∙ ap (λ (k : ℕ). 2 ^ k) (sym (add-one place)))

pub bits-past : (lpat place : ℕ) → lpat < 2 ^ 32 → 32 ≤ place → 0 ≡ lpat / 2 ^ place
bits-past lpat place h l = sym (div-eq_of_lt (lt_of_lt_of_le h (pow_mono {i = 32} {j = place} l)))

-- the next state
module _ (c : PatternControl) (q : Pattern) where
  pub next-repeat : q.repeat + 1 < c.scale → record { place = q.place; repeat = q.repeat + 1 } ≡ next_of c q
  unfolding next_of
  next-repeat h = rw (lt-ltb (q.repeat + 1) c.scale h)

  pub next_place : c.scale ≤ q.repeat + 1 → q.place + 1 < c.length → record { place = q.place + 1; repeat = 0 } ≡ next_of c q
  unfolding next_of
  next_place h l = rw (le-ltb (q.repeat + 1) c.scale h, lt-ltb (q.place + 1) c.length l)

  pub next-first : c.scale ≤ q.repeat + 1 → c.length ≤ q.place + 1 → record { place = 0; repeat = 0 } ≡ next_of c q
  unfolding next_of
  next-first h l = rw (le-ltb (q.repeat + 1) c.scale h, le-ltb (q.place + 1) c.length l)

pub plot-dash-of : (d : Dashes) (place : ℕ) (l : List ℕ) (q r : Pattern) (pen : Pen) (new : ℕ)
    → ((k : ℕ) → get_or l k 0 < 256) → pen ≡ dash_pen d q → new ≡ drawn pen (get_or l place 0) → r ≡ next_of d.control q
    → dashed (set l place new) r ≡ plot_dash d place (dashed l q)
unfolding plot_dash
plot-dash-of d place l q r pen new h e f g =
    let draw : Pen → List ℕ = λ k. plot k place l in
    let drew = ap (set l place) f ∙ ap draw e ∙ chosen-draws (pattern_bit d.lpat q) d.fore d.back draw l (clear-plot place l (h place)) in
    λ i. dashed (drew i) (g i)

-- a bit of the phase is LPAT's at the state's place, and picks the pen
pub bit-of : (lpat bit : ℕ) (p : Phase) → p.lpat ≡ lpat → bit ≡ p.bits % 2 → eqb bit 1 ≡ pattern_bit lpat (pattern_of p)
unfolding pattern_bit
bit-of lpat bit p e f = ap (λ (k : ℕ). eqb k 1) (f ∙ ap (λ (k : ℕ). k % 2) (p.bits_are ∙ ap (λ (k : ℕ). k / 2 ^ p.place) e))

picked : (bit : ℕ) (fore back other : Pen) → bit < 2 → get_or (back ∷ fore ∷ []) bit other ≡ cond (eqb bit 1) fore back
picked zero fore back other h = refl
picked (suc zero) fore back other h = refl
picked (suc (suc k)) fore back other h = absurd (omega arith)

pub plot-dash-by : (d : Dashes) (place : ℕ) (l : List ℕ) (p : Phase) (r : Pattern) (back other : Pen) (bit new : ℕ)
    → ((k : ℕ) → get_or l k 0 < 256) → p.lpat ≡ d.lpat → back ≡ back_pen d → bit ≡ p.bits % 2
    → new ≡ drawn (get_or (back ∷ d.fore ∷ []) bit other) (get_or l place 0)
    → r ≡ next_of d.control (pattern_of p) → dashed (set l place new) r ≡ plot_dash d place (dashed l (pattern_of p))
plot-dash-by d place l p r back other bit new small lpat_is back_is bit_is drew next =
    let pen : Pen = get_or (back ∷ d.fore ∷ []) bit other in
    let below : bit < 2 = omega (arith, bit_is, mod-lt p.bits {m = 2} (omega arith)) in
    plot-dash-of d place l (pattern_of p) r pen new small
    (picked bit d.fore back other below ∙ ap (λ (t : Bool). cond t d.fore back) (bit-of d.lpat bit p lpat_is bit_is)
    ∙ ap (λ (b : Pen). cond (pattern_bit d.lpat (pattern_of p)) d.fore b) back_is)
    drew next
