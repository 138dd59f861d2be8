-- A course follows its tracer: at each pixel its place is the pixel's.
-- Assumes nothing.
use mathlib.Core.Path.{◌≡◌, refl, ap, sym, ◌∙◌}
use mathlib.Core.Bool.{Bool, true, false, false≢true}
use mathlib.Core.List.{List}
use mathlib.Core.Logic.{◌⊎◌, ⊎_elim, inl, inr}
use Prim.Native.Nat.{ℕ, zero, suc, ◌+◌, ◌-◌, ◌*◌, ◌≤◌, ◌<◌}
use native.Mathlib.Nat.{add-mul, one-mul, mul-one, mul-le-mul, mul-le-mul_right}
use native.Mathlib.Omega.{arith}
use borrow.Author.Tests.{eqb-true, eq-eqb, lt-ltb, le-ltb, ltb-true, ltb-false}
use lib.Dec.{eqb, ltb}
use Rattle.lemmas.proofs.Booleans.{by_cases}
use Rattle.raster.specs.declared.Pen.{Pen}
use Rattle.geometry.specs.Coordinates.{origin}
use Rattle.geometry.specs.Clip.{place_in}
use Rattle.strokes.specs.Strokes.{plot, Dashed}
use Rattle.lemmas.specs.Turns.{in_turn}
use Rattle.strokes.specs.Tracers.{Room, stepped, point_on, RoomBoth, traced, tracer_after, Runs}
use Rattle.strokes.specs.Bresenham.{moved, Moves, bresenham_after, course_by, course_of, Places, FromOrigin, plot_dash, plot_at, plot_dash_at, plot_on, plot_dash_on, Stretch}
use Rattle.strokes.specs.declared.Dashes.{Dashes}
use Rattle.strokes.specs.declared.tracers.Stepper.{Stepper}
use Rattle.strokes.specs.declared.tracers.Tracer.{Tracer}
use Rattle.strokes.specs.declared.bresenham.Bresenham.{Bresenham}
use Rattle.strokes.specs.declared.bresenham.Course.{Course}
use Rattle.lemmas.proofs.Turns.{turn-none, turn_agree}

-- a coordinate's step, in places
module _ (c up down m r : ℕ) (here : origin ≤ c) (there : origin ≤ c + up - down) where
  shift : (c - origin) * m + r + up * m - down * m ≡ (c + up - down - origin) * m + r
  shift =
      let d : ℕ = c - origin in
      let same : (c + up - down - origin + down) * m ≡ (d + up) * m = ap (λ (k : ℕ). k * m) (omega arith) in
      omega (arith, same, add-mul (c + up - down - origin) down m, add-mul d up m)

  enough : down * m ≤ (c - origin) * m + r + up * m
  enough =
      let d : ℕ = c - origin in
      let le : down ≤ d + up = omega arith in
      omega (arith, mul-le-mul_right {m = down} {n = d + up} m le, add-mul d up m)

-- an axis' part of a place, and of its strides
pub record Reach (g : Stepper) (stride : ℕ) : Type 0 where
  pub place-part : (g.coordinate - origin) * stride ≤ 562949953421312
  pub up-part : g.up * stride ≤ stride
  pub down-part : g.down * stride ≤ stride

pub reach : (full : ℕ) (g : Stepper) (stride : ℕ) → Room full g → stride ≤ 4294967296 → Reach g stride
reach full g stride r l =
    record {
      place-part = mul-le-mul {n₁ = g.coordinate - origin} {m₁ = stride} {n₂ = 131072} {m₂ = 4294967296} (omega (arith, r.coordinate-most)) l;
      up-part = once g.up r.up-most;
      down-part = once g.down r.down-most;
    }
  where
    once : (k : ℕ) → k ≤ 1 → k * stride ≤ stride
    once k h = omega (arith, mul-le-mul_right {m = k} {n = 1} stride h, one-mul stride)

-- stepping keeps what a stepper steps by
keeps : (full : ℕ) (g : Stepper) → ((stepped full g).growth ≡ g.growth) × ((stepped full g).up ≡ g.up) × ((stepped full g).down ≡ g.down)
unfolding stepped
keeps full g = by_cases (ltb (g.error + g.growth) full) (λ t. rw t (refl, refl, refl)) (λ t. rw t (refl, refl, refl))

-- along the major axis each pixel is a step
major-steps : (full : ℕ) (g : Stepper) → g.growth ≡ full → (stepped full g).coordinate ≡ g.coordinate + g.up - g.down
unfolding stepped
major-steps full g e = rw (le-ltb (g.error + g.growth) full (omega arith))

stays_by : (full : ℕ) (g : Stepper) → ltb (g.error + g.growth) full ≡ true
    → ((stepped full g).coordinate ≡ g.coordinate) × ((stepped full g).error ≡ g.error + g.growth)
unfolding stepped
stays_by full g t = rw t (refl, refl)

steps-by : (full : ℕ) (g : Stepper) → ltb (g.error + g.growth) full ≡ false
    → ((stepped full g).coordinate ≡ g.coordinate + g.up - g.down) × ((stepped full g).error ≡ g.error + g.growth - full)
unfolding stepped
steps-by full g t = rw t (refl, refl)

module _ (u v : Stepper) (along across full : ℕ) where
  keeps-strides : (course_by (stepped full u) (stepped full v) along across full).strides ≡ (course_by u v along across full).strides
  unfolding course_by
  keeps-strides =
      let p = keeps full u in
      let q = keeps full v in
      rw (p.1, p.2, q.0, q.1, q.2)

-- two pixels of a course, one after the other
module _ (u v : Stepper) (along across full : ℕ) (e : u.growth ≡ full) (room : Room full v)
    (u-here : origin ≤ u.coordinate) (u-there : origin ≤ (stepped full u).coordinate)
    (v-here : origin ≤ v.coordinate) (v-there : origin ≤ (stepped full v).coordinate) where
  u-next : origin ≤ u.coordinate + u.up - u.down
  u-next = rw (major-steps full u e) at u-there

  major-step : (u.coordinate - origin) * along + (v.coordinate - origin) * across + u.up * along - u.down * along
      ≡ (u.coordinate + u.up - u.down - origin) * along + (v.coordinate - origin) * across
  major-step = shift u.coordinate u.up u.down along ((v.coordinate - origin) * across) u-here u-next

  follows : (course_by (stepped full u) (stepped full v) along across full).start
      ≡ moved (course_by u v along across full).strides (course_by u v along across full).start
  unfolding course_by moved
  follows =
      let major = major-step in
      by_cases (ltb (v.error + v.growth) full)
      (λ t.
      let k = stays_by full v t in
      let less : v.error + v.growth < full = ltb-true (v.error + v.growth) full t in
      let slack : full - (v.error + v.growth) ≡ full - v.error - v.growth = omega arith in
      rw (lt-ltb v.growth (full - v.error) (omega arith), major-steps full u e, k.0, k.1)
      (λ i. record { place = sym major i; slack = slack i }))
      (λ t.
      let k = steps-by full v t in
      let more : full ≤ v.error + v.growth = ltb-false (v.error + v.growth) full t in
      let next : origin ≤ v.coordinate + v.up - v.down = rw k.0 at v-there in
      let minor = shift v.coordinate v.up v.down across ((u.coordinate + u.up - u.down - origin) * along) v-here next in
      let place : (u.coordinate + u.up - u.down - origin) * along + (v.coordinate + v.up - v.down - origin) * across
      ≡ (u.coordinate - origin) * along + (v.coordinate - origin) * across + u.up * along - u.down * along + v.up * across - v.down * across =
      omega (arith, major, minor) in
      let slack : full - (v.error + v.growth - full) ≡ full - v.error + (full - v.growth) = omega (arith, room.error-less, room.growth-most) in
      rw (le-ltb v.growth (full - v.error) (omega arith), major-steps full u e, k.0, k.1)
      (λ i. record { place = place i; slack = slack i }))

  moves : Room full u → along ≤ 4294967296 → across ≤ 4294967296
      → Moves (course_by u v along across full).strides (course_by u v along across full).start
  unfolding course_by
  moves p l h =
      let major = major-step in
      let far = reach full u along p l in
      let wide = reach full v across room h in
      record {
        slack-some = omega (arith, room.error-less);
        slack-most = omega (arith, room.full-most);
        wrap-most = omega (arith, room.full-most);
        place-most = omega (arith, far, wide);
        ahead-most = omega (arith, far);
        up-most = omega (arith, wide);
        back-enough = enough u.coordinate u.up u.down along ((v.coordinate - origin) * across) u-here u-next;
        down-enough =
            λ t.
            let more : full ≤ v.error + v.growth = omega (arith, t, room.error-less) in
            let k = steps-by full v (le-ltb (v.error + v.growth) full more) in
            let next : origin ≤ v.coordinate + v.up - v.down = rw k.0 at v-there in
            omega (arith, major, enough v.coordinate v.up v.down across ((u.coordinate + u.up - u.down - origin) * along) v-here next);
      }

abbrev Major : Tracer → Type 0
Major t = (t.x.growth ≡ t.full) ⊎ (t.y.growth ≡ t.full)

-- where x is not the major axis y is
y-major : (t : Tracer) → Major t → eqb t.x.growth t.full ≡ false → t.y.growth ≡ t.full
y-major t m h = ⊎_elim (λ e. absurd (false≢true (sym h ∙ eq-eqb t.x.growth t.full e))) (λ e. e) m

module _ (width : ℕ) (t : Tracer) where
  place_is : (course_of width t).start.place ≡ place_in width (point_on t)
  unfolding course_of course_by
  place_is =
      by_cases (eqb t.x.growth t.full) (λ h. rw h (omega (arith, mul-one (t.x.coordinate - origin))))
      (λ h. rw h (omega (arith, mul-one (t.x.coordinate - origin))))

  slack-is : RoomBoth t → 0 < (course_of width t).start.slack
  unfolding course_of course_by
  slack-is r =
      by_cases (eqb t.x.growth t.full) (λ h. rw h (omega (arith, r.y-room.error-less))) (λ h. rw h (omega (arith, r.x-room.error-less)))

  pub stride-sum : (r : Course) → r ≡ course_of width t → RoomBoth t → width ≤ 4294967296 → r.strides.ahead + r.strides.back ≤ 8589934592
  unfolding course_of course_by
  stride-sum r e b l =
      rw e
      (by_cases (eqb t.x.growth t.full) (λ h. rw h (omega (arith, reach t.full t.x 1 b.x-room (omega arith))))
      (λ h. rw h (omega (arith, reach t.full t.y width b.y-room l))))

  still : {b : Bool} → eqb t.x.growth t.full ≡ b → eqb (stepped t.full t.x).growth t.full ≡ b
  still h = ap (λ (k : ℕ). eqb k t.full) (keeps t.full t.x).0 ∙ h

  strides-kept : (course_of width (traced t)).strides ≡ (course_of width t).strides
  unfolding course_of traced
  strides-kept =
      by_cases (eqb t.x.growth t.full) (λ h. rw (still h, h) (keeps-strides t.x t.y 1 width t.full))
      (λ h. rw (still h, h) (keeps-strides t.y t.x width 1 t.full))

  start-moves : Major t → RoomBoth t → FromOrigin t → FromOrigin (traced t)
      → (course_of width (traced t)).start ≡ moved (course_of width t).strides (course_of width t).start
  unfolding course_of traced
  start-moves m r a b =
      by_cases (eqb t.x.growth t.full)
      (λ h. rw (still h, h) (follows t.x t.y 1 width t.full (eqb-true t.x.growth t.full h) r.y-room a.0 b.0 a.1 b.1))
      (λ h. rw (still h, h) (follows t.y t.x width 1 t.full (y-major t m h) r.x-room a.1 b.1 a.0 b.0))

  has_room : width ≤ 4294967296 → Major t → RoomBoth t → FromOrigin t → FromOrigin (traced t)
      → Moves (course_of width t).strides (course_of width t).start
  unfolding course_of traced
  has_room l m r a b =
      by_cases (eqb t.x.growth t.full)
      (λ h. rw h (moves t.x t.y 1 width t.full (eqb-true t.x.growth t.full h) r.y-room a.0 b.0 a.1 b.1 r.x-room (omega arith) l))
      (λ h. rw h (moves t.y t.x width 1 t.full (y-major t m h) r.x-room a.1 b.1 a.0 b.0 r.y-room l (omega arith)))

  major-kept : Major t → Major (traced t)
  unfolding traced
  major-kept m = ⊎_elim (λ e. inl ((keeps t.full t.x).0 ∙ e)) (λ e. inr ((keeps t.full t.y).0 ∙ e)) m

-- k pixels on the course is the one of the tracer there
record At (width : ℕ) (t : Tracer) (k : ℕ) : Type 0 where
  start_is : bresenham_after (course_of width t).strides (course_of width t).start k ≡ (course_of width (tracer_after t k)).start
  strides-are : (course_of width t).strides ≡ (course_of width (tracer_after t k)).strides
  major-is : Major (tracer_after t k)

after : (width : ℕ) (t : Tracer) (k : ℕ) → Runs t k → Major t → ((j : ℕ) → j ≤ k → FromOrigin (tracer_after t j)) → At width t k
unfolding in_turn
after width t zero r m a = record { start_is = refl; strides-are = refl; major-is = m }
after width t (suc k) r m a =
    let u = tracer_after t k in
    let o = after width t k (λ j l. r j (omega arith)) m (λ j l. a j (omega arith)) in
    record {
      start_is =
          (λ i. moved (o.strides-are i) (o.start_is i))
          ∙ sym (start-moves width u o.major-is (r k (omega arith)) (a k (omega arith)) (a (suc k) (omega arith)));
      strides-are = o.strides-are ∙ sym (strides-kept width u);
      major-is = major-kept width u o.major-is;
    }

module _ (width : ℕ) (t : Tracer) (n long : ℕ) (s : Stretch width t n long) where
  from-origin : (k : ℕ) → k < n → FromOrigin (tracer_after t k)
  from-origin k l = ((s.inside k l).x-in, (s.inside k l).y-in)

  at : (k : ℕ) → k < n → At width t k
  at k l = after width t k (λ j h. s.runs j (omega arith)) s.major (λ j h. from-origin j (omega arith))

  place-on : (k : ℕ) → k < n
      → (bresenham_after (course_of width t).strides (course_of width t).start k).place ≡ place_in width (point_on (tracer_after t k))
  place-on k l = ap (λ (c : Bresenham). c.place) (at k l).start_is ∙ place_is width (tracer_after t k)

  pub first-room : RoomBoth t
  first-room = rw (turn-none (λ _. traced) t) (s.runs 0 s.some)

  pub first-from-origin : FromOrigin t
  unfolding in_turn
  first-from-origin = from-origin 0 s.some

  next-from-origin : (k : ℕ) → k + 1 < n → FromOrigin (traced (tracer_after t k))
  unfolding in_turn
  next-from-origin k l = from-origin (suc k) (omega arith)

  places : width ≤ 4294967296 → Places (course_of width t) n long
  places narrow =
      record {
        some = s.some;
        slack-some = slack-is width t first-room;
        inside = λ k l. rw (place-on k l) (s.inside k l).place-in;
        moves =
            λ k l.
            let o = at k (omega arith) in
            rw (o.start_is, o.strides-are)
            (has_room width (tracer_after t k) narrow o.major-is (s.runs k (omega arith)) (from-origin k (omega arith)) (next-from-origin k l));
      }

  pub course-places : (r : Course) → r ≡ course_of width t → width ≤ 4294967296 → Places r n long
  course-places r e narrow = rw e (places narrow)

  pub plots-on : (pen : Pen) (l m : List ℕ)
      → m ≡ in_turn (plot_at pen (course_of width t)) n l → m ≡ in_turn (plot_on width pen t) n l
  plots-on pen l m e =
      e ∙ turn_agree (plot_at pen (course_of width t)) (plot_on width pen t) n l
      (λ k h b. ap (λ (i : ℕ). plot pen i b) (place-on k h))

  pub plot-dashes-on : (d : Dashes) (o r : Dashed)
      → r ≡ in_turn (plot_dash_at d (course_of width t)) n o → r ≡ in_turn (plot_dash_on width d t) n o
  plot-dashes-on d o r e =
      e ∙ turn_agree (plot_dash_at d (course_of width t)) (plot_dash_on width d t) n o
      (λ k h b. ap (λ (i : ℕ). plot_dash d i b) (place-on k h))
