-- A course whose places are next to each other is a row, whichever way it goes.
-- Assumes nothing.
use mathlib.Core.Path.{◌≡◌, refl, ap, sym, ◌∙◌}
use mathlib.Core.Bool.{true, ◌&&◌}
use mathlib.Core.List.{List}
use Prim.Native.Nat.{ℕ, zero, suc, ◌+◌, ◌-◌, ◌≤◌, ◌<◌}
use native.Mathlib.Omega.{arith}
use borrow.Author.Tests.{eqb-true, lt-ltb}
use lib.Dec.{eqb}
use lib.ListN.{length, get_or, set}
use Rattle.lemmas.specs.Turns.{in_turn}
use Rattle.lemmas.proofs.Booleans.{and_left, and_right}
use Rattle.lemmas.proofs.Turns.{turn_agree}
use Rattle.raster.specs.Selectors.{drawn}
use Rattle.raster.specs.declared.Pen.{Pen}
use Rattle.lemmas.specs.Sweeps.{sweep}
use Rattle.rows.specs.Rows.{mixed, filled, copied, filled_row, copied_row}
use Rattle.rows.specs.declared.Mix.{Mix}
use Rattle.rows.proofs.Fitting.{filled_row_lem, copied-row}
use Rattle.rows.proofs.Orders.{fill-turned-at, copy-turned-at}
use Rattle.strokes.specs.Bresenham.{moved, course_at, Places, InRow, plot_at}
use Rattle.strokes.specs.Strokes.{plot}
use Rattle.strokes.specs.Masks.{Masks, mix_at}
use Rattle.strokes.specs.declared.bresenham.Bresenham.{Bresenham}
use Rattle.strokes.specs.declared.bresenham.Course.{Course}
use Rattle.strokes.specs.declared.bresenham.Strides.{Strides}

pub in_row : (s : Strides) → (eqb s.growth 0 && eqb (s.ahead + s.back) 1) ≡ true → InRow s
in_row s h =
    let level = eqb s.growth 0 in
    let next = eqb (s.ahead + s.back) 1 in
    record {
      level = eqb-true s.growth 0 (and_left level next h);
      next = eqb-true (s.ahead + s.back) 1 (and_right level next h);
    }

-- one byte after the other is a sweep
turns-sweep : (place : ℕ → ℕ) (value : ℕ → List ℕ → ℕ) (n : ℕ) (l : List ℕ)
    → in_turn (λ k m. set m (place k) (value k m)) n l ≡ sweep place value n l
unfolding in_turn sweep
turns-sweep place value zero l = refl
turns-sweep place value (suc n) l = ap (λ m. set m (place n) (value n m)) (turns-sweep place value n l)

on-level : (s : Strides) (c : Bresenham) → s.growth ≡ 0 → 0 < c.slack
    → record { place = c.place + s.ahead - s.back; slack = c.slack } ≡ moved s c
unfolding moved
on-level s c level h =
    let same : c.slack ≡ c.slack - s.growth = omega arith in
    let less : s.growth < c.slack = omega arith in
    rw (lt-ltb s.growth c.slack less) (λ i. record { place = c.place + s.ahead - s.back; slack = same i })

module _ (course : Course) (n long : ℕ) (p : Places course n long) (level : course.strides.growth ≡ 0) where
  -- k pixels on
  right_by : course.strides.ahead ≡ 1 → course.strides.back ≡ 0 → (k : ℕ) → course_at course k ≡ record { place = course.start.place + k; slack = course.start.slack }
  unfolding in_turn
  right_by e f zero = let none : course.start.place ≡ course.start.place + 0 = omega arith in λ i. record { place = none i; slack = course.start.slack }
  right_by e f (suc k) =
      let one : course.start.place + k + course.strides.ahead - course.strides.back ≡ course.start.place + suc k = omega arith in
      ap (moved course.strides) (right_by e f k) ∙ sym (on-level course.strides (record { place = course.start.place + k; slack = course.start.slack }) level p.slack-some)
      ∙ (λ i. record { place = one i; slack = course.start.slack })

  left_by : course.strides.ahead ≡ 0 → course.strides.back ≡ 1 → (k : ℕ) → course_at course k ≡ record { place = course.start.place - k; slack = course.start.slack }
  unfolding in_turn
  left_by e f zero = let none : course.start.place ≡ course.start.place - 0 = omega arith in λ i. record { place = none i; slack = course.start.slack }
  left_by e f (suc k) =
      let one : course.start.place - k + course.strides.ahead - course.strides.back ≡ course.start.place - suc k = omega arith in
      ap (moved course.strides) (left_by e f k) ∙ sym (on-level course.strides (record { place = course.start.place - k; slack = course.start.slack }) level p.slack-some)
      ∙ (λ i. record { place = one i; slack = course.start.slack })

  module _ (next : course.strides.ahead + course.strides.back ≡ 1) where
    place-right : course.strides.back ≡ 0 → (k : ℕ) → (course_at course k).place ≡ course.start.place + k
    place-right f k = ap (λ (c : Bresenham). c.place) (right_by (omega arith) f k)

    place-left : (course.strides.back ≡ 0 → ⊥) → (k : ℕ) → (course_at course k).place ≡ course.start.place - k
    place-left f k = ap (λ (c : Bresenham). c.place) (left_by (back_one f).0 (back_one f).1 k)
      where
        back_one : (course.strides.back ≡ 0 → ⊥) → (course.strides.ahead ≡ 0) × (course.strides.back ≡ 1)
        back_one g = (omega (arith, g), omega (arith, g))

    pub left-room : (course.strides.back ≡ 0 → ⊥) → n - 1 ≤ course.start.place
    left-room f = at_last n p
      where
        at_last : (n : ℕ) → Places course n long → n - 1 ≤ course.start.place
        at_last zero q = omega arith
        at_last (suc zero) q = omega arith
        at_last (suc (suc m)) q = omega (arith, (q.moves m (omega arith)).back-enough, place-left f m, next, f)

    pub right-room : course.strides.back ≡ 0 → course.start.place + n ≤ long
    right-room f =
        let some = p.some in
        let last : course.start.place + (n - 1) < long = rw (place-right f (n - 1)) at (p.inside (n - 1) (omega arith)) in
        omega arith

    pub fill-right : course.strides.back ≡ 0 → (pen : Pen) (l m : List ℕ) → length l ≡ long → m ≡ filled_row pen n l course.start.place
        → m ≡ in_turn (plot_at pen course) n l
    fill-right f pen l m e g =
        g ∙ sym (filled_row_lem pen n l course.start.place (omega (arith, right-room f)))
        ∙ sym
        (turn_agree (plot_at pen course) (λ k. plot pen (course.start.place + k)) n l (λ k h t. ap (λ (i : ℕ). plot pen i t) (place-right f k))
        ∙ turns-sweep (λ k. course.start.place + k) (λ k m. drawn pen (get_or m (course.start.place + k) 0)) n l)

    pub fill-left : (course.strides.back ≡ 0 → ⊥) → (pen : Pen) (l m : List ℕ) → length l ≡ long → m ≡ filled_row pen n l (course.start.place - (n - 1))
        → m ≡ in_turn (plot_at pen course) n l
    fill-left f pen l m e g =
        let room = left-room f in
        let first : course.start.place - 0 < long = rw (place-left f 0) at (p.inside 0 p.some) in
        let at : course.start.place - (n - 1) ≡ course.start.place + 1 - n = omega arith in
        g ∙ sym (filled_row_lem pen n l (course.start.place - (n - 1)) (omega arith))
        ∙ ap (filled pen n l) at ∙ fill-turned-at pen n l (course.start.place + 1) (omega arith)
        ∙ sym
        (turn_agree (plot_at pen course) (λ k. plot pen (course.start.place + 1 - (k + 1))) n l
        (λ k h t. let same : course.start.place - k ≡ course.start.place + 1 - (k + 1) = omega arith in ap (λ (i : ℕ). plot pen i t) (place-left f k ∙ same))
        ∙ turns-sweep (λ k. course.start.place + 1 - (k + 1)) (λ k m. drawn pen (get_or m (course.start.place + 1 - (k + 1)) 0)) n l)

-- where pixels j to j + n - 1 of a row to the left begin and end
to-left : (p j n : ℕ) → 0 < n → j + n - 1 ≤ p → (p - j - (n - 1) ≡ p + 1 - j - n) × (p - j - (n - 1) + n ≤ p + 1) × (n ≤ p + 1 - j)
to-left p j n some h = (omega arith, omega arith, omega arith)

left_at : (p j k : ℕ) → p - (j + k) ≡ p + 1 - j - (k + 1)
left_at p j k = omega arith

mask-left-at : (k : ℕ) → 319 - k ≡ 320 - (k + 1)
mask-left-at k = omega arith

mask-inside : (n long : ℕ) → n ≤ 320 → long ≡ 640 → 320 - n + n ≤ long
mask-inside n long h e = omega arith

-- pixels j to j + n - 1 of a row, by a mask
module _ (course : Course) (j n long : ℕ) (p : Places course (j + n) long)
    (level : course.strides.growth ≡ 0) (next : course.strides.ahead + course.strides.back ≡ 1) (some : 0 < n) (fits : n ≤ 320) (mask : List ℕ) (wide : length mask ≡ 640)
    (mix : Mix) (l m : List ℕ) (e : length l ≡ long) (pixel : ℕ → ℕ) (o : Masks pixel mask n) where
  -- the byte of pixel k, by where the pixel and its mask are found
  mixed-at : (k at from : ℕ) (t : List ℕ) → (course_at course (j + k)).place ≡ at → get_or mask from 0 ≡ pixel k
      → mix_at mix course (j + k) (pixel k) t ≡ set t at (mixed mix (get_or mask from 0) (get_or t at 0))
  mixed-at k at from t f g = rw (f, g)

  pub mix-right : course.strides.back ≡ 0 → m ≡ copied_row mix n l (course.start.place + j) mask 320
      → m ≡ in_turn (λ k. mix_at mix course (j + k) (pixel k)) n l
  mix-right f g =
      g ∙ sym (copied-row mix n l (course.start.place + j) mask 320 (omega (arith, right-room course (j + n) long p level next f)) (omega arith))
      ∙ sym
      (turn_agree (λ k. mix_at mix course (j + k) (pixel k))
      (λ k t. set t (course.start.place + j + k) (mixed mix (get_or mask (320 + k) 0) (get_or t (course.start.place + j + k) 0))) n l
      (λ k h t.
      let at : course.start.place + (j + k) ≡ course.start.place + j + k = omega arith in
      mixed-at k (course.start.place + j + k) (320 + k) t (place-right course (j + n) long p level next f (j + k) ∙ at) (o.right k h))
      ∙ turns-sweep (λ k. course.start.place + j + k) (λ k t. mixed mix (get_or mask (320 + k) 0) (get_or t (course.start.place + j + k) 0)) n l)

  pub mix-left : (course.strides.back ≡ 0 → ⊥) → m ≡ copied_row mix n l (course.start.place - j - (n - 1)) mask (320 - n)
      → m ≡ in_turn (λ k. mix_at mix course (j + k) (pixel k)) n l
  mix-left f g =
      let first : course.start.place - 0 < long = rw (place-left course (j + n) long p level next f 0) at (p.inside 0 p.some) in
      let past : ℕ = course.start.place + 1 - j in
      let way = to-left course.start.place j n some (left-room course (j + n) long p level next f) in
      g ∙ sym (copied-row mix n l (course.start.place - j - (n - 1)) mask (320 - n) (omega (arith, way.1))
      (mask-inside n (length mask) fits wide))
      ∙ ap (λ (i : ℕ). copied (mixed mix) n l i mask (320 - n)) way.0 ∙ copy-turned-at (mixed mix) n l past mask 320 way.2 fits
      ∙ sym
      (turn_agree (λ k. mix_at mix course (j + k) (pixel k))
      (λ k t. set t (past - (k + 1)) (mixed mix (get_or mask (320 - (k + 1)) 0) (get_or t (past - (k + 1)) 0))) n l
      (λ k h t.
      mixed-at k (past - (k + 1)) (320 - (k + 1)) t (place-left course (j + n) long p level next f (j + k) ∙ left_at course.start.place j k)
      (ap (λ (i : ℕ). get_or mask i 0) (sym (mask-left-at k)) ∙ o.left k h))
      ∙ turns-sweep (λ k. past - (k + 1)) (λ k t. mixed mix (get_or mask (320 - (k + 1)) 0) (get_or t (past - (k + 1)) 0)) n l)
