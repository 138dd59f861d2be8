-- The two functions' cases: what does not fit, a stretch of which nothing is visible, and one of which some is.
-- Assumes nothing.
use mathlib.Core.Path.{◌≡◌, refl, ap, sym, ◌∙◌}
use mathlib.Core.Bool.{true, false, ◌&&◌, and-false}
use mathlib.Core.List.{List}
use mathlib.Core.Logic.{◌⊎◌, inl, inr}
use Prim.Native.Nat.{ℕ, ◌+◌, ◌-◌, ◌≤◌, ◌<◌}
use native.Mathlib.Omega.{arith}
use borrow.Author.Tests.{leb-true, leb-false, ltb-true}
use lib.Dec.{leb, ltb}
use lib.ListN.{length}
use Rattle.lemmas.proofs.Booleans.{by_cases, and_left, and_right}
use Rattle.raster.specs.declared.Pen.{Pen}
use Rattle.geometry.specs.Clip.{in_window}
use Rattle.geometry.specs.Line.{distance, steps_of, line_point, x_major}
use Rattle.geometry.specs.declared.Point.{Point}
use Rattle.geometry.specs.declared.Window.{Window}
use Rattle.registers.specs.Patterns.{moves_of}
use Rattle.registers.specs.declared.dashes.Pattern.{Pattern}
use Rattle.strokes.specs.Strokes.{window_fits, stroke_fits, plotted, pixels_of, stroke_of, Dashed, dashed, dash, dash_pixels, dashes_of}
use Rattle.lemmas.specs.Turns.{in_turn}
use Rattle.strokes.specs.Tracers.{Axis, point_on, Traces, tracer_after}
use Rattle.strokes.specs.Bresenham.{plot_on, plot_dash_on, Stretch}
use Rattle.strokes.specs.Ranges.{Visible, Hidden}
use Rattle.strokes.specs.declared.Dashes.{Dashes}
use Rattle.geometry.specs.declared.visible.Range.{Range}
use Rattle.strokes.specs.declared.tracers.Tracer.{Tracer}
use Rattle.lemmas.proofs.Turns.{turn_agree, turn-join, turn-idle}
use Rattle.strokes.proofs.Traced.{traces-run, pixel, pixels-in-turn, dashes-in-turn}
use Rattle.strokes.proofs.Fitting.{placed}
use Rattle.strokes.proofs.Plots.{not-visible, plot-hidden, plot-visible, hidden_dash, dash-hidden, hidden-all, plot-dash-visible}

pub record Fit (width : ℕ) (w : Window) (a b : Point) (first n long : ℕ) : Type 0 where
  pub whole : stroke_fits width w a b first n long ≡ true
  pub window-in : window_fits width w long ≡ true
  pub steps-in : 0 < steps_of a b
  pub pixels-in : first + n ≤ steps_of a b + 1

pub fit_of : (width : ℕ) (w : Window) (a b : Point) (first n long : ℕ) → stroke_fits width w a b first n long ≡ true
    → Fit width w a b first n long
fit_of width w a b first n long h =
    let held = window_fits width w long in
    let more = ltb 0 (steps_of a b) in
    let on = leb (first + n) (steps_of a b + 1) in
    let both = and_left (held && more) on h in
    record {
      whole = h;
      window-in = and_left held more both;
      steps-in = ltb-true 0 (steps_of a b) (and_right held more both);
      pixels-in = leb-true (first + n) (steps_of a b + 1) (and_right (held && more) on h);
    }

-- steps that change nothing
still : {S : Type 0} (n : ℕ) (s : S) → in_turn (λ _ t. t) n s ≡ s
still n s = turn-idle (λ _ t. t) n s (λ k h t. refl)

-- n steps, of which all but m from the p-th on do the same
turn-parts : {S : Type 0} (f : ℕ → S → S) (same : S → S) (s : S) (n p m q : ℕ) → p + m + q ≡ n
    → ((k : ℕ) → k < n → (p ≤ k → p + m ≤ k) → (t : S) → same t ≡ f k t)
    → in_turn (λ _. same) q (in_turn (λ k. f (p + k)) m (in_turn (λ _. same) p s)) ≡ in_turn f n s
turn-parts f same s n p m q all idle =
    turn_agree (λ _. same) (λ k. f (p + (m + k))) q (in_turn (λ k. f (p + k)) m (in_turn (λ _. same) p s))
    (λ k h t. idle (p + (m + k)) (omega arith) (λ g. omega arith) t)
    ∙ turn-join (λ k. f (p + k)) (in_turn (λ _. same) p s) m q
    ∙ ap (in_turn (λ k. f (p + k)) (m + q)) (turn_agree (λ _. same) f p s (λ k h t. idle k (omega arith) (λ g. omega arith) t))
    ∙ turn-join f s p (m + q)
    ∙ ap (λ (k : ℕ). in_turn f k s) (omega (arith, all))

-- a hidden pixel does the same wherever it lies
all-hidden : {S : Type 0} (w : Window) (a b : Point) (first n : ℕ) (f : Point → S → S) (same : S → S)
    → ((p : Point) (t : S) → in_window w p ≡ false → same t ≡ f p t) → Hidden w a b first n → (t : S)
    → in_turn (λ _. same) n t ≡ in_turn (λ k. f (line_point a b (first + k))) n t
all-hidden w a b first n f same hides hidden t =
    turn_agree (λ _. same) (λ k. f (line_point a b (first + k))) n t
    (λ k h u. hides (line_point a b (first + k)) u (hidden (first + k) (omega arith) (omega arith)))

module _ (width : ℕ) (w : Window) (a b : Point) (first n : ℕ) (hidden : Hidden w a b first n) where
  pub hidden-pixels : (pen : Pen) (u : List ℕ) → u ≡ pixels_of width w pen a b first n u
  hidden-pixels pen u =
      sym (still n u) ∙ all-hidden w a b first n (plotted width w pen) (λ v. v) (λ p v h. plot-hidden width w p v pen h) hidden u
      ∙ pixels-in-turn width w pen a b first n u

  pub hidden-dashes : (d : Dashes) (u : Dashed) (leaving : Pattern) → leaving ≡ moves_of d.control n u.pattern
      → dashed u.buffer leaving ≡ dash_pixels width w d a b first n u
  hidden-dashes d u leaving after =
      ap (dashed u.buffer) after ∙ sym (hidden-all d n u)
      ∙ all-hidden w a b first n (dash width w d) (hidden_dash d) (λ p v h. sym (dash-hidden width w p d v h)) hidden u
      ∙ dashes-in-turn width w d a b first n u

-- what is visible of n pixels
module _ (w : Window) (a b : Point) (first n : ℕ) (s : Range) (visible : Visible w a b first n s) where
  hidden : (k : ℕ) → k < n → (s.from ≤ first + k → s.past ≤ first + k) → in_window w (line_point a b (first + k)) ≡ false
  hidden k h out =
      not-visible (in_window w (line_point a b (first + k)))
      (λ e. let o = visible.only (first + k) (omega arith) (omega arith) e in omega (arith, o, out o.0))

  module _ {S : Type 0} (f : Point → S → S) (same : S → S) (hides : (p : Point) (t : S) → in_window w p ≡ false → same t ≡ f p t) where
    visible-some : (t : S) → s.from < s.past
        → in_turn (λ _. same) (first + n - s.past)
        (in_turn (λ k. f (line_point a b (s.from + k))) (s.past - s.from) (in_turn (λ _. same) (s.from - first) t))
        ≡ in_turn (λ k. f (line_point a b (first + k))) n t
    visible-some t l =
        let p : ℕ = s.from - first in
        let m : ℕ = s.past - s.from in
        let q : ℕ = first + n - s.past in
        let low = visible.from_first in
        let high = visible.to_last in
        ap (in_turn (λ _. same) q)
        (turn_agree (λ k. f (line_point a b (s.from + k))) (λ k. f (line_point a b (first + (p + k)))) m (in_turn (λ _. same) p t)
        (λ k h u. ap (λ (i : ℕ). f (line_point a b i) u) (omega arith)))
        ∙ turn-parts (λ k. f (line_point a b (first + k))) same t n p m q (omega arith)
        (λ k h out u. hides (line_point a b (first + k)) u (hidden k h (λ g. let o = out (omega arith) in omega arith)))

  module _ (t : Tracer) (some : 0 < steps_of a b) (l : first + n ≤ steps_of a b + 1) (more : s.from < s.past) (o : Traces a b s.from t) where
    on_line : s.from + (s.past - s.from) ≤ steps_of a b + 1
    on_line = let high = visible.to_last in omega arith

    at : (k : ℕ) → k < s.past - s.from → point_on (tracer_after t k) ≡ line_point a b (s.from + k)
    at k h = pixel a b s.from (s.past - s.from) t some on_line o k h

    all-visible : (k : ℕ) → k < s.past - s.from → in_window w (point_on (tracer_after t k)) ≡ true
    all-visible k h = ap (in_window w) (at k h) ∙ visible.inside (s.from + k) (omega arith) (omega arith)

    pub visible-pixels : (width : ℕ) (pen : Pen) (u m : List ℕ) → m ≡ in_turn (plot_on width pen t) (s.past - s.from) u
        → m ≡ pixels_of width w pen a b first n u
    visible-pixels width pen u m e =
        let draw : ℕ → List ℕ → List ℕ = λ k. plotted width w pen (line_point a b (s.from + k)) in
        e ∙ turn_agree (plot_on width pen t) draw (s.past - s.from) u
        (λ k h v. plot-visible width w (point_on (tracer_after t k)) v pen _ (all-visible k h) refl ∙ ap (λ (p : Point). plotted width w pen p v) (at k h))
        ∙ ap (in_turn draw (s.past - s.from)) (sym (still (s.from - first) u))
        ∙ sym (still (first + n - s.past) _)
        ∙ visible-some (plotted width w pen) (λ v. v) (λ p v h. plot-hidden width w p v pen h) u more
        ∙ pixels-in-turn width w pen a b first n u

    pub visible-dashes : (width : ℕ) (d : Dashes) (u r : Dashed) (entering leaving : Pattern)
        → entering ≡ moves_of d.control (s.from - first) u.pattern
        → r ≡ in_turn (plot_dash_on width d t) (s.past - s.from) (dashed u.buffer entering)
        → leaving ≡ moves_of d.control (first + n - s.past) r.pattern
        → dashed r.buffer leaving ≡ dash_pixels width w d a b first n u
    visible-dashes width d u r entering leaving before e after =
        let draw : ℕ → Dashed → Dashed = λ k. dash width w d (line_point a b (s.from + k)) in
        ap (dashed r.buffer) after
        ∙ sym (hidden-all d (first + n - s.past) r)
        ∙ ap (in_turn (λ _. hidden_dash d) (first + n - s.past))
        (e
        ∙ turn_agree (plot_dash_on width d t) draw (s.past - s.from) _
        (λ k h v. plot-dash-visible width w (point_on (tracer_after t k)) d v (all-visible k h) ∙ ap (λ (p : Point). dash width w d p v) (at k h))
        ∙ ap (in_turn draw (s.past - s.from)) (ap (dashed u.buffer) before ∙ sym (hidden-all d (s.from - first) u)))
        ∙ visible-some (dash width w d) (hidden_dash d) (λ p v h. sym (dash-hidden width w p d v h)) u more
        ∙ dashes-in-turn width w d a b first n u

major-of : (a b : Point) (i : ℕ) (t : Tracer) → Traces a b i t → (t.x.growth ≡ t.full) ⊎ (t.y.growth ≡ t.full)
major-of a b i t o =
    by_cases (x_major a b)
    (λ e. inl (omega (arith, o.full_is, o.along-x.grows, leb-true (distance a.y b.y) (distance a.x b.x) e)))
    (λ e. inr (omega (arith, o.full_is, o.along-y.grows, leb-false (distance a.y b.y) (distance a.x b.x) e)))

pub stretch-of : (width long : ℕ) (w : Window) (a b : Point) (first n steps : ℕ) (s : Range) (t : Tracer) → steps ≡ steps_of a b → Axis steps a.x b.x → Axis steps a.y b.y
    → Fit width w a b first n long → Visible w a b first n s → s.from < s.past → Traces a b s.from t → Stretch width t (s.past - s.from) long
stretch-of width long w a b first n steps s t are x y fit visible more o =
    record {
      some = omega arith;
      runs = traces-run a b (rw are at x) (rw are at y) s.from (s.past - s.from) t (on_line w a b first n s visible t fit.steps-in fit.pixels-in more o) o;
      major = major-of a b s.from t o;
      inside =
          λ k g. placed width w long (point_on (tracer_after t k)) fit.window-in (all-visible w a b first n s visible t fit.steps-in fit.pixels-in more o k g);
    }

-- a line of one pixel fits nowhere
pub one-pixel : (width : ℕ) (w : Window) (a b : Point) (first n long : ℕ) → steps_of a b ≡ 0 → stroke_fits width w a b first n long ≡ false
one-pixel width w a b first n long e = rw e (simp and-false)

module _ (width : ℕ) (w : Window) (pen : Pen) (a b : Point) (first n : ℕ) (l : List ℕ) where
  pub stroke-fit : (m : List ℕ) → stroke_fits width w a b first n (length l) ≡ true → m ≡ pixels_of width w pen a b first n l
      → m ≡ stroke_of width w pen a b first n l
  unfolding stroke_of
  stroke-fit m h e = rw h e

  pub stroke-unfit : stroke_fits width w a b first n (length l) ≡ false → l ≡ stroke_of width w pen a b first n l
  unfolding stroke_of
  stroke-unfit h = rw h

module _ (width : ℕ) (w : Window) (d : Dashes) (a b : Point) (first n : ℕ) (s : Dashed) where
  pub dashes-fit : (r : Dashed) → stroke_fits width w a b first n (length s.buffer) ≡ true → r ≡ dash_pixels width w d a b first n s
      → r ≡ dashes_of width w d a b first n s
  unfolding dashes_of
  dashes-fit r h e = rw h e

  pub dashes-unfit : stroke_fits width w a b first n (length s.buffer) ≡ false → s ≡ dashes_of width w d a b first n s
  unfolding dashes_of
  dashes-unfit h = rw h
